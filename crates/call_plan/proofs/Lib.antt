pub mod Repeats
pub mod Lawful
pub mod PassLemmas
pub mod Inserting
pub mod Joining
pub mod Shapes
