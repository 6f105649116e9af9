pub mod Instance
pub mod Paired
