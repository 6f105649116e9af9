pub mod InNumbers
pub mod Reporting
