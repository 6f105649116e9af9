pub mod Anonymous
