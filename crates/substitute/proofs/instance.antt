pub mod Making
pub mod Pairing
