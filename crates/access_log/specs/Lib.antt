pub mod Branch
pub mod Broken
pub mod Closed
pub mod Leaves
pub mod Line
pub mod Members
pub mod Standing
pub mod Start
