pub mod called
pub mod holds
