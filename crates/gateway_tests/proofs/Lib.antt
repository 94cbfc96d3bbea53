pub mod OnLiterals
pub mod RowLemmas
pub mod RunLemmas
pub mod StreamLemmas
