pub mod Words
pub mod StreamLemmas
pub mod AddressLemmas
pub mod BegunLemmas
pub mod Walks
