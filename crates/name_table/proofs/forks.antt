mod Steps
mod Ways
pub mod Rows
