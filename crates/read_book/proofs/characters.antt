mod Leads
pub mod Characters
