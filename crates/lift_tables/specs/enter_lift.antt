pub mod Bound
pub mod Sheet
pub mod Enters
