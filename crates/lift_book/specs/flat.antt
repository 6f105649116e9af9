pub mod Flat
pub mod Past
pub mod Told
