pub mod numbers
