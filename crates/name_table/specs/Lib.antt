pub mod forks
pub mod taken
pub mod find
pub mod kinds
