pub mod shown
pub mod refusal
pub mod printed
pub mod answers
pub mod lines
