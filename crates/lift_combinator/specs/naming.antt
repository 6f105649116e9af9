pub mod Walk
pub mod Nodes
pub mod Frames
pub mod Lifts
