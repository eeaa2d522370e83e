pub mod Fields
pub mod Opened
pub mod Exact
pub mod Joins
pub mod Rows
pub mod Written
pub mod Back
pub mod Within
