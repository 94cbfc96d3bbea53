pub mod Wires
pub mod Turns
pub mod Telling
pub mod lemmas
