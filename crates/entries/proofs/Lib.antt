pub mod Listing
pub mod Judging
pub mod Fronts
