pub mod anonymous
pub mod open_child
pub mod waiters
pub mod body
