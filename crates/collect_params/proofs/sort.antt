pub mod Tables
mod Merging
pub mod Sorting
