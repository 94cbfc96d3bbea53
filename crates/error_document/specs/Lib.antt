pub mod Codes
pub mod Details
pub mod Documents
