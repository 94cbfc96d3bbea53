pub mod Names
pub mod ClauseLemmas
mod MapLemmas
mod FitLemmas
mod BroadcastLemmas
mod StepLemmas
mod OpenLemmas
mod TellLemmas
mod DueLemmas
mod TakenLemmas
mod PieceParts
