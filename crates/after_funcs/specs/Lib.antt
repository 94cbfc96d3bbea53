pub mod Hooks
pub mod Stands
pub mod Whole
