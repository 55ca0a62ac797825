pub mod Format
pub mod Order
pub mod Jobs
pub mod Stages
pub mod Readers
pub mod Faults
