pub mod uses
pub mod labels
pub mod scope
pub mod roots
pub mod collect
pub mod sort
pub mod params
