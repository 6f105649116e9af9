pub mod Item
pub mod Ends
