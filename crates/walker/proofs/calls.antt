mod Level
mod Steps
mod Over
pub mod Link
