mod AskedLemmas
mod Naming
