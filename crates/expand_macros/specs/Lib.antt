pub mod kept
pub mod known_macros
pub mod replace_call
pub mod in_combinator
pub mod pass
