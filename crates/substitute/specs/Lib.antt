pub mod substitution
pub mod instance
