pub mod Depth
pub mod Next
mod Expanding
