mod Format
mod Leftover
pub mod Plain
mod Passing
pub mod Fitting
