pub mod Laws
pub mod Here
pub mod Stands
