pub mod begin
pub mod opened
