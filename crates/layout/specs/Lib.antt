pub mod items
pub mod lookup
pub mod hash
