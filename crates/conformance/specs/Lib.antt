pub mod Answers
pub mod Differences
pub mod Verdicts
pub mod Totals
pub mod Offers
