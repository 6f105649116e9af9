pub mod Book
pub mod Lists
pub mod Collected
pub mod Laws
