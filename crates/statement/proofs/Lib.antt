mod Items
mod Selecting
mod Bases
mod Comparing
mod AsFloats
