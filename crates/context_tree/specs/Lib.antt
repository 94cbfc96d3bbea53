pub mod Context
pub mod Frames
pub mod Links
pub mod Queue
pub mod Timed
pub mod Tree
pub mod Walks
