use Rattle.gateway_connection.specs.lemmas.Names.{◌∙◌, ap, sym, slice_set, KeptValue, back_kept, has_out, kept_value, false, arith}
use Rattle.gateway_theory.specs.lemmas.Knowing.{index_in}
use Rattle.gateway_connection.proofs.KeptLemmas.{late_now, no_live, none_back}
use Rattle.gateway_connection.proofs.kept.Kept.give_back.Goals as goal

pub invariant_of-self : goal.invariant_of-self
invariant_of-self c =
    let none = no_live c.self.inside.group.queue c.self.inside.live (ap (λ (k : KeptValue). k.call.live) c.self.view_is ∙ c.requires) in
    late_now c.self.inside.id c.self.inside.out.items c.args.branch c.self.inside.group c.done.new.self c.self.inside.live c.self.inside.live c.self.invariant
    (ap (λ (k : KeptValue). has_out k.call c.args.branch) c.self.view_is ∙ sym c.is_out.ensures ∙ c.if-not-is_out.false) c.done.ensures.finishes none none

pub returns : goal.returns
returns c =
    let none = no_live c.self.inside.group.queue c.self.inside.live (ap (λ (k : KeptValue). k.call.live) c.self.view_is ∙ c.requires) in
    ap (λ l. kept_value c.self.inside.id (slice_set c.self.inside.out.items c.args.branch false) c.done.new.self.queue l) none ∙ ap (back_kept c.args.branch) c.self.view_is

pub index_mut-requires : goal.index_mut-requires
index_mut-requires c =
    let lt = index_in c.self.inside.out.items c.args.branch (ap (λ (k : KeptValue). has_out k.call c.args.branch) c.self.view_is ∙ sym c.is_out.ensures ∙ c.if-not-is_out.false) in
    omega (arith, lt)

pub returns-then-not-is_out : goal.returns-then-not-is_out
returns-then-not-is_out c = none_back c.args.self.now c.args.branch (sym c.is_out.ensures ∙ c.if-not-is_out.true) c.requires
