mod Whole
mod Once
mod Unique
mod Sorted
pub mod Parameters
