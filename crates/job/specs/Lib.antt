pub mod Appending
pub mod Describing
pub mod Held
pub mod Reports
pub mod Outcomes
pub mod Loading
pub mod Ways
pub mod Answers
