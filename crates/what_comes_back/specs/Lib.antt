pub mod Codes
pub mod Elaborates
pub mod Tells
