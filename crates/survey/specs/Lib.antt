pub mod Checks
pub mod Ringwalk
pub mod Survey
pub mod Tables
pub mod Theorems
pub mod Cases
