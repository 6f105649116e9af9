pub mod Nested
pub mod Worked
pub mod Reach
pub mod Laws
