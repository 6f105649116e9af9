pub mod Pieces
pub mod Marked
