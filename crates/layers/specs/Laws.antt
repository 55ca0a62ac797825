pub mod Kept
pub mod Numbers
pub mod Crossed
pub mod Renamed
pub mod Wide
