use Rattle.gateway_connection.specs.lemmas.Names.{◌∙◌, ap, arith, length, HeldConnection, back_kept, kept_at}
use Rattle.gateway_connection.proofs.HoldsLemmas.{set_size}
use Rattle.gateway_connection.proofs.LentLemmas.{broken_dead, broken_size}
use Rattle.gateway_connection.proofs.TakenLemmas.{loses, loses_rest, loses_tied}
use Rattle.gateway_connection.proofs.connection.Connection.lose.Goals as goal

pub give_back-requires-clause-there : goal.give_back-requires-clause-there
give_back-requires-clause-there g c = omega (arith, c.requires.there, ap (λ (k : HeldConnection). length k.calls) c.break_now.ensures.broken, broken_size c.args.self.now)

pub give_back-requires-clause-over : goal.give_back-requires-clause-over
give_back-requires-clause-over g c = ap (λ (k : HeldConnection). (kept_at c.args.index k.calls).call.live) c.break_now.ensures.broken ∙ broken_dead c.args.self.now c.args.index c.requires.there

pub forget-requires : goal.forget-requires
forget-requires g c = omega (
  arith,
  c.requires.there,
  ap (λ (k : HeldConnection). length k.calls) c.break_now.ensures.broken,
  broken_size c.args.self.now,
  ap (λ (k : HeldConnection). length k.calls) c.give_back.ensures,
  set_size c.break_now.new.self.calls c.args.index (back_kept c.args.branch (kept_at c.args.index c.break_now.new.self.calls)),
)

pub returns-clause-lost : goal.returns-clause-lost
returns-clause-lost g c = loses c.args.index c.args.branch c.args.self.now c.break_now.new.self c.give_back.new.self c.forget.new.self c.args.shared.now c.break_now.new.shared c.requires.there c.break_now.ensures.broken c.give_back.ensures c.held_law.ensures.apart c.forget.ensures

pub returns-clause-tied : goal.returns-clause-tied
returns-clause-tied g c = loses_tied c.args.index c.args.branch c.args.self.now c.break_now.new.self c.give_back.new.self c.forget.new.self c.args.shared.now c.break_now.new.shared c.requires.there c.break_now.ensures.broken c.give_back.ensures c.held_law.ensures.apart c.forget.ensures
    c.break_now.ensures.tied

pub returns-clause-rest : goal.returns-clause-rest
returns-clause-rest g c = loses_rest c.args.index c.args.branch c.args.self.now c.break_now.new.self c.give_back.new.self c.forget.new.self c.args.shared.now c.break_now.new.shared c.requires.there c.break_now.ensures.broken c.give_back.ensures c.held_law.ensures.apart c.forget.ensures
    c.break_now.ensures.rest
