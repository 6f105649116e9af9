pub mod Delivers
pub mod Numbers
pub mod Only
