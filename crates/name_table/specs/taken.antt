pub mod Taken
pub mod Fact
