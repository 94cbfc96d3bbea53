mod Changes
mod Counting
pub mod FirstDue
mod Heaps
mod Places
mod Ranks
mod Sifts
mod Sound
mod Standing
