pub mod Table
mod Laws
