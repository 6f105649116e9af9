pub mod tables
pub mod binders
pub mod enter_lift
