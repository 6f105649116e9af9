pub mod unknown
pub mod settled
pub mod passes
