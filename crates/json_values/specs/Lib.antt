pub mod Json
pub mod Rest
