pub mod GroupLemmas
pub mod LawLemmas
