pub mod FreeNames
pub mod Chosen
