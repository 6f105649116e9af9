pub mod segment
pub mod child_name
pub mod fresh_name
