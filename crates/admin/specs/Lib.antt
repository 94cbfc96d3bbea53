pub mod Answer
pub mod Asked
pub mod Door
pub mod Drain
pub mod Labels
pub mod Names
