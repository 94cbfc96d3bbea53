pub mod Standing
pub mod Sound
pub mod Index
