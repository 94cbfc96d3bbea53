mod LeafLemmas
mod MembersLemmas
mod StatusLemmas
