pub mod Whole
pub mod Telling
