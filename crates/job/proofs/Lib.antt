pub mod Drawing
pub mod Recognising
pub mod Turns
pub mod Sizes
pub mod Fitting
pub mod Matching
pub mod Arrivals
pub mod Agreeing
