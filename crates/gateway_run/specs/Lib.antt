pub mod Running
pub mod Log
pub mod Stepping
pub mod RunText
pub mod Script
