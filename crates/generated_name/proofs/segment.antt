mod Table
mod Segment
pub mod Decimal
