pub mod Layout
pub mod Content
pub mod Bounds
pub mod Opening
pub mod Surveying
pub mod Writing
pub mod ReadBack
pub mod Worked
