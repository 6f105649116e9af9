pub mod flat
pub mod unlifted
pub mod lift_with
