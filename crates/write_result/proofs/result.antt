pub mod Adds
pub mod Held
pub mod Bodies
pub mod Result
pub mod Numbered
