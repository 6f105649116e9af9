pub mod Named
pub mod Started
pub mod Children
