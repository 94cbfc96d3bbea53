pub mod Names
pub mod Written
pub mod Reading
pub mod Texts
