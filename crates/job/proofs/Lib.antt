pub mod Balance
pub mod Bases
pub mod Splits
pub mod Steps
