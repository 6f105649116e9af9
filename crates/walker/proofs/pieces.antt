pub mod Written
pub mod Expanded
pub mod Marked
pub mod Deeper
pub mod Room
