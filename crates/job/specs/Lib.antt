pub mod Telling
pub mod Answers
pub mod Balance
pub mod Levels
