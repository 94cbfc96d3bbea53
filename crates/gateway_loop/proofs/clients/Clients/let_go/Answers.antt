use Rattle.gateway_loop.proofs.Words.{◌∙◌, ◌∷◌, ◌++◌, [], ap, inr, refl, sym, ClosedValue}
use Rattle.gateway_loop.proofs.CountLemmas.{there_goes}
use Rattle.gateway_loop.proofs.GrowLemmas.{continues_go, noted, onward}
use Rattle.gateway_loop.proofs.HistoryLemmas.{goes_gone, serves_on}
use Rattle.gateway_loop.proofs.Places.{put_one}
use Rattle.gateway_loop.proofs.clients.Clients.let_go.Goals as goal

pub invariant_of-self-2 : goal.invariant_of-self-2
invariant_of-self-2 g c =
    let i = c.self.inside in
    serves_on i.moment i.moment _ _ (goes_gone c.loop_laws.ensures _ _ c.close.ensures.keeps.plans_are c.args.place c.in-Some.client (sym c.in-Some.ensures.value)
    (λ h s. rw (← c.conn.ensures) (c.close.ensures.stands h s))
    (λ h. rw (← c.conn.ensures) (c.close.ensures.adds h))
    (put_one i.clients c.try_remove.new.self c.args.place _ c.try_remove.ensures.updates) (noted i.gone.items c.and-self-inside.result.items _ _ c.and-self-inside.ensures) record { told = refl; results = refl; handed = refl; drained = refl; unserved = refl }) c.self.invariant.moment_is c.self.invariant

pub returns-clause-goes : goal.returns-clause-goes
returns-clause-goes g c =
    let i = c.self.inside in
    rw (← c.self.view_is)
    (onward _ _ refl (continues_go _ _ (goes_gone c.loop_laws.ensures _ _ c.close.ensures.keeps.plans_are c.args.place c.in-Some.client (sym c.in-Some.ensures.value)
    (λ h s. rw (← c.conn.ensures) (c.close.ensures.stands h s))
    (λ h. rw (← c.conn.ensures) (c.close.ensures.adds h))
    (put_one i.clients c.try_remove.new.self c.args.place _ c.try_remove.ensures.updates) (noted i.gone.items c.and-self-inside.result.items _ _ c.and-self-inside.ensures) record { told = refl; results = refl; handed = refl; drained = refl; unserved = refl }) c.close.ensures.keeps.plans_are record { told = refl; results = refl; handed = refl; drained = refl; unserved = refl } c.args.place c.in-Some.client (sym c.in-Some.ensures.value)
    (put_one i.clients c.try_remove.new.self c.args.place _ c.try_remove.ensures.updates) (noted i.gone.items c.and-self-inside.result.items _ _ c.and-self-inside.ensures)))

pub returns-clause-leaves : goal.returns-clause-leaves
returns-clause-leaves g c =
    let i = c.self.inside in
    let net = c.args.net.now in
    rw (← c.self.view_is) record {
      told = refl;
      unserved = refl;
      one = inr (
        c.in-Some.client,
        c.close-2.ensures.closed ∙ ap (λ (s : ClosedValue). record (g.N.Network.value net) { closed = (g.N.Network.value net).closed ++ s ∷ [] }) c.into_wire.ensures,
        (noted i.gone.items c.and-self-inside.result.items _ _ c.and-self-inside.ensures),
        there_goes i.clients.slots c.try_remove.new.self.slots c.args.place c.in-Some.client (sym c.in-Some.ensures.value) (put_one i.clients c.try_remove.new.self c.args.place _ c.try_remove.ensures.updates),
      );
    }
