pub mod writes
pub mod zeroing
pub mod areas
pub mod writer
