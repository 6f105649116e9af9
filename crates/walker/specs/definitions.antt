pub mod Listed
pub mod Params
