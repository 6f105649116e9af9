pub mod At
pub mod Here
