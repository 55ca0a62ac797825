pub mod Tables
pub mod Drafts
pub mod Laws
