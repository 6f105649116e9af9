pub mod Invocation
