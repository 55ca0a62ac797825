pub mod Among
pub mod Matched
pub mod Banned
pub mod Mirrored
pub mod Crossings
pub mod Renamings
pub mod Stacked
pub mod Totals
