pub mod Items
pub mod Selections
pub mod Models
pub mod Sides
pub mod Floats
pub mod FloatsLemmas
pub mod Statements
