use Rattle.branch_asking.proofs.Words.{inr, refl, sym, ◌∙◌}
use Rattle.branch_asking.proofs.StreamLemmas.{follows_another, follows_none, over_another, over_first}
use Rattle.branch_asking.proofs.BegunLemmas.{asks_again, asks_first, begun_connects}
use Rattle.branch_asking.proofs.asking.Asking.connect.Goals as goal

pub invariant_of-self-in-Some-connect : goal.invariant_of-self-in-Some-connect
invariant_of-self-in-Some-connect g c =
    let i = c.self.inside in
    begun_connects i.manner i.job i.addresses c.next.new.self i.attempt c.connect.new.self c.in-Some.address i.tried.items c.and-self-inside.result.items i.end c.connect-stream.result (sym c.is_some.ensures ∙ c.if-is_some.false)
    c.in-Some.ensures.next c.in-Some.ensures.found c.in-Some.ensures.known
    (follows_another i.tried.items c.and-self-inside.result.items c.in-Some-connect.before i.attempt.stream c.and-self-inside.ensures c.in-Some-connect.ensures.before) (c.is_connected.ensures.untouched c.if-is_connected.false)
    c.connect-stream.ensures.fresh c.connect.ensures.fresh c.self.invariant

pub invariant_of-self-in_default-connect : goal.invariant_of-self-in_default-connect
invariant_of-self-in_default-connect g c =
    let i = c.self.inside in
    begun_connects i.manner i.job i.addresses c.next.new.self i.attempt c.connect.new.self c.in-Some.address i.tried.items i.tried.items i.end c.connect-stream.result (sym c.is_some.ensures ∙ c.if-is_some.false)
    c.in-Some.ensures.next c.in-Some.ensures.found c.in-Some.ensures.known
    (follows_none i.tried.items i.attempt.stream c.in_default-connect.ensures.before) (c.is_connected.ensures.untouched c.if-is_connected.false)
    c.connect-stream.ensures.fresh c.connect.ensures.fresh c.self.invariant

pub returns-in-Some-connect-clause-on : goal.returns-in-Some-connect-clause-on
returns-in-Some-connect-clause-on g c =
    let i = c.self.inside in
    rw (← c.self.view_is)
    (asks_again i.manner i.job i.addresses c.next.new.self i.attempt c.connect.new.self i.end i.tried.items c.and-self-inside.result.items c.in-Some-connect.before c.in-Some.ensures.found c.and-self-inside.ensures c.in-Some-connect.ensures.before)

pub returns-in_default-connect-clause-on : goal.returns-in_default-connect-clause-on
returns-in_default-connect-clause-on g c =
    let i = c.self.inside in
    rw (← c.self.view_is)
    (asks_first i.manner i.job i.addresses c.next.new.self i.attempt c.connect.new.self i.end i.tried.items c.in-Some.ensures.found c.in_default-connect.ensures.before)

pub returns-in-Some-connect-clause-streams : goal.returns-in-Some-connect-clause-streams
returns-in-Some-connect-clause-streams g c =
    let i = c.self.inside in
    rw (← c.self.view_is)
    (inr (
      c.in-Some.address,
      over_another i.manner i.job i.addresses c.next.new.self i.attempt c.connect.new.self i.end i.tried.items c.and-self-inside.result.items c.connect-stream.result c.in-Some.address
          (g.N.Network.value c.args.net.now) (g.N.Network.value c.connect-stream.new.net) (g.N.Network.value c.close.new.self) c.connect-stream.ensures.fresh c.connect.ensures.fresh
          c.connect-stream.ensures.made
          (follows_another i.tried.items c.and-self-inside.result.items c.in-Some-connect.before i.attempt.stream c.and-self-inside.ensures c.in-Some-connect.ensures.before)
          (c.is_connected.ensures.untouched c.if-is_connected.false) c.in-Some-connect.before.stream _ c.in-Some-connect.ensures.before c.into_wire.ensures c.close.ensures.closed,
    ))

pub returns-in_default-connect-clause-streams : goal.returns-in_default-connect-clause-streams
returns-in_default-connect-clause-streams g c =
    let i = c.self.inside in
    rw (← c.self.view_is)
    (inr (
      c.in-Some.address,
      over_first i.manner i.job i.addresses c.next.new.self i.attempt c.connect.new.self i.end i.tried.items i.tried.items c.connect-stream.result c.in-Some.address
          (g.N.Network.value c.args.net.now) (g.N.Network.value c.connect-stream.new.net) (g.N.Network.value c.connect-stream.new.net) c.connect-stream.ensures.fresh c.connect.ensures.fresh
          c.connect-stream.ensures.made (follows_none i.tried.items i.attempt.stream c.in_default-connect.ensures.before)
          (c.is_connected.ensures.untouched c.if-is_connected.false) c.in_default-connect.ensures.before refl,
    ))
