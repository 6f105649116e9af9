pub mod Listed
mod Params
