pub mod Hex
pub mod Jobs
