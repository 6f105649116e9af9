pub mod Deep
pub mod Expand
