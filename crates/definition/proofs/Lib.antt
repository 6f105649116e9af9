pub mod Worked
pub mod Pinned
pub mod Limits
pub mod Faults
pub mod Places
