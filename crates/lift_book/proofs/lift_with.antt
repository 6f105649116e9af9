pub mod Lifting
