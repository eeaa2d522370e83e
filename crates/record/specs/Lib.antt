pub mod Limits
pub mod Packing
pub mod Parts
pub mod Checks
pub mod Stretches
pub mod Written
pub mod Refusals
pub mod Theorems
