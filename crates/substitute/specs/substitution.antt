pub mod Substituted
pub mod Turned
