pub mod Once
pub mod Params
