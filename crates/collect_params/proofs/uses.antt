mod Uses
pub mod Without
