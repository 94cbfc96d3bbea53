pub mod Work
pub mod Book
