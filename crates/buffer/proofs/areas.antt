pub mod First
mod Within
