pub mod Names
pub mod ListLemmas
pub mod PeerLemmas
pub mod ContextLemmas
pub mod HookLemmas
pub mod PlaceLemmas
mod LeastLemmas
pub mod ToldLemmas
pub mod BranchLemmas
