pub mod Records
pub mod After
pub mod Trace
pub mod Calls
pub mod Laws
