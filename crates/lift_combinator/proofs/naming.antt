pub mod Machine
pub mod Begins
pub mod Bound
pub mod Back
pub mod Opened
pub mod Lifting
