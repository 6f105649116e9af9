pub mod Delivers
pub mod Only
