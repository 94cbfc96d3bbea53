pub mod Exchange
pub mod Outcomes
