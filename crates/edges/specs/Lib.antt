pub mod Pairs
pub mod Listed
