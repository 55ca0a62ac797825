pub mod Rivals
pub mod Trees
pub mod Steps
