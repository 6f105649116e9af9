pub mod next_lift
pub mod invocation
pub mod splice
pub mod tables
pub mod lifted
pub mod result
