pub mod Dash
