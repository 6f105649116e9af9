pub mod Some
pub mod Zero
