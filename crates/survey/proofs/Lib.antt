pub mod Fitting
pub mod Rounds
pub mod Laps
pub mod Noting
pub mod Walked
pub mod Exact
pub mod Spots
pub mod Index
