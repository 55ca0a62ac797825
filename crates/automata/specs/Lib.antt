pub mod Machines
pub mod Making
pub mod Held
pub mod Laws
