pub mod Model
pub mod Adds
pub mod Held
