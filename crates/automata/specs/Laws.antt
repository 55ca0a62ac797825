pub mod Truths
pub mod Machined
