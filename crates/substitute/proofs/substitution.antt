pub mod Copied
pub mod Stands
mod Subst
pub mod Turns
