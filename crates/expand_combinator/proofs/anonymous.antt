pub mod Level
pub mod Anonymous
