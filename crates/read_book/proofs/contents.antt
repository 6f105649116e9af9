pub mod Rows
mod Whole
pub mod Only
