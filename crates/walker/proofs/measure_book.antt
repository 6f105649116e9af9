mod Stands
pub mod Measured
