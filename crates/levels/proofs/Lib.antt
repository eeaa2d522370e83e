pub mod Offers
pub mod Starts
