pub mod Cells
pub mod Gathers
pub mod Sums
pub mod Columns
pub mod Stands
pub mod Reads
