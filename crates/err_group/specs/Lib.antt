pub mod GroupState
pub mod Group
pub mod Fates
