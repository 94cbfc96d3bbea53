pub mod Pumps
pub mod Writes
