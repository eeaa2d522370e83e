pub mod Parts
pub mod Figures
pub mod Splits
pub mod RightStore
pub mod Whole
pub mod Going
pub mod Never
