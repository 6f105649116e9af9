pub mod Left
pub mod Pass
