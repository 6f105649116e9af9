pub mod Good
pub mod Steps
