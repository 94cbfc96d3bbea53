pub mod Heap
pub mod Timers
