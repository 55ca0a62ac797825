pub mod Lists
pub mod Spans
pub mod Model
