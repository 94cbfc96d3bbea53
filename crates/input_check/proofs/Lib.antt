mod Hosts
mod WarnedLemmas
