pub mod Forks
pub mod Leads
