pub mod Addresses
pub mod Asking
pub mod Errands
pub mod Rests
pub mod Streams
