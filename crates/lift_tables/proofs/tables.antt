pub mod Last
pub mod Params
pub mod Pairs
pub mod Parts
