use Rattle.gateway_loop.proofs.Words.{◌<◌, ◌∙◌, ap, inl, inr, length, rules, subst, true, false, Bool}
use Rattle.gateway_loop.specs.Kept.{Hears}
use Rattle.gateway_loop.proofs.KeptLemmas.{looks_out, one_is_quiet, set_same}
use Rattle.gateway_loop.proofs.kept.KeptStreams.look.Goals as goal
use Rattle.gateway_loop.proofs.kept.KeptStreams.look.Goals.{then-not-is_watched_by-via-then-not-is_watched_by, then-not-is_watched_by-via-else-not-is_watched_by+then-hear}

pub returns-then-not-is_watched_by : goal.returns-then-not-is_watched_by
returns-then-not-is_watched_by g c =
    let items = c.self.inside.streams.items in
    let x = c.in_ok-kept.kept.now in
    let lt : c.args.index < length items = search rules in
    rw (← c.self.view_is) (elim c.then-not-is_watched_by.branch [
      | then-not-is_watched_by-via-then-not-is_watched_by w ↦ rw w.self-inside-is (inl (set_same items c.args.index x x lt c.in_ok-kept.ensures.value))
      | then-not-is_watched_by-via-else-not-is_watched_by+then-hear w ↦ rw w.self-inside-is
          (inr (one_is_quiet items c.args.index x w.hear.new.self lt c.in_ok-kept.ensures.value (subst (λ (b : Bool). Hears b x w.hear.new.self) w.if-hear.true w.hear.ensures)))
    ])

pub returns : goal.returns
returns g c =
    let items = c.self.inside.streams.items in
    let x = c.in_ok-kept.kept.now in
    let lt : c.args.index < length items = search rules in
    rw (← c.self.view_is)
    (looks_out items c.args.index x c.hear.new.self lt c.in_ok-kept.ensures.value c.take_spoilt.result c.take_spoilt.new.self (subst (λ (b : Bool). Hears b x c.hear.new.self) c.if-hear.false c.hear.ensures) c.take_spoilt.ensures)
