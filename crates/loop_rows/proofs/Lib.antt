pub mod RowLemmas
pub mod ExchangeLemmas
pub mod LostLemmas
pub mod ConnectionLemmas
pub mod NameRows
pub mod ShareRows
pub mod QuietLemmas
