pub mod frames
pub mod children
pub mod done
pub mod naming
