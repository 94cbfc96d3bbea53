pub mod Firing
pub mod Once
pub mod Order
pub mod Several
pub mod Since
pub mod Stopping
