pub mod Binders
pub mod Params
pub mod Rows
pub mod Entered
