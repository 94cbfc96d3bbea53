pub mod Contexts
pub mod Hooks
pub mod Least
pub mod Ties
pub mod lemmas
