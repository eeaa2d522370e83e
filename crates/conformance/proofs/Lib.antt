pub mod Sheets
pub mod Offers
