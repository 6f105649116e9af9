pub mod Entry
pub mod Written
