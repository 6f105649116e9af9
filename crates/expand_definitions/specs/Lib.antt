pub mod walked
pub mod own_params
pub mod format
pub mod in_order
pub mod naming_pass
