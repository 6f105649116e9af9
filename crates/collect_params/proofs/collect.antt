pub mod Level
pub mod Room
pub mod Gathered
pub mod Link
pub mod Free
