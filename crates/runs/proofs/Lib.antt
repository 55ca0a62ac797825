pub mod Marks
pub mod Lists
pub mod Treeing
