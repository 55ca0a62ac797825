pub mod Puts
pub mod Choosing
pub mod Growing
pub mod Cheap
pub mod Converse
pub mod Answering
pub mod Finding
