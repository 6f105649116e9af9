pub mod characters
pub mod utf8
pub mod cursor
pub mod name_list
pub mod combinator
pub mod body
pub mod entry
pub mod contents
