mod Level
mod Past
mod Telling
pub mod Still
