pub mod Names
pub mod OwnContexts
pub mod OwnTies
pub mod OwnOver
pub mod OwnTold
