mod Steps
pub mod Found
