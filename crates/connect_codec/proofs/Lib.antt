pub mod PathLemmas
pub mod TextLemmas
pub mod VerdictLemmas
pub mod MessageLemmas
pub mod FieldLineLemmas
pub mod ReadBackLemmas
pub mod TimeoutLemmas
mod Rows
