pub mod Alike
pub mod Sizes
pub mod Bounds
pub mod Agree
