pub mod Bind
pub mod Rows
