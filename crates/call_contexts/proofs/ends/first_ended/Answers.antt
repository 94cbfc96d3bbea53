use Rattle.call_contexts.proofs.Names.{◌≡◌, ◌∙◌, ◌∷◌, None, Some, ap, refl, subst, sym, List, IfSome, list_any, HandsOut, TreeOp, StandsFor, Standing, has_ended, is_over, owner_in}
use Rattle.call_contexts.proofs.Ended.{found_over, handed_out, none_waits, seen_passed, sound_passed}
use Rattle.call_contexts.proofs.ends.first_ended.Goals as goal

pub loop-ctx-init : goal.loop-ctx-init
loop-ctx-init g c = λ base conns s. (s, refl)

pub loop-ctx-preserved : goal.loop-ctx-preserved
loop-ctx-preserved g c = λ base conns was.
    let before = c.loop-ctx.invariant base conns was in
    let s = before.0 in
    let x = c.in-Some.ctx in
    let none : owner_in s.past x c.args.calls.now ≡ None = sym (c.owner.ensures s.past s.tree_is) ∙ c.in_default-owner.is in
    let out : c.next_done.result ≡ Some x = handed_out c.loop-ctx.tree x c.next_done.result c.next_done.new.self.done c.in-Some.ensures.next c.next_done.ensures.next c.next_done.ensures.empty in
    let st = subst (λ o. IfSome o (λ id. (past : List (TreeOp _ _)) → StandsFor c.loop-ctx.tree past → StandsFor c.next_done.new.self (HandsOut id ∷ past))) out c.next_done.ensures.handed s.past s.tree_is in (
      sound_passed base conns c.args.calls.now s x none c.next_done.new.self st,
      seen_passed base conns c.args.calls.now s x none c.next_done.new.self st ∙ before.1,
    )

pub returns-in-Some-owner : goal.returns-in-Some-owner
returns-in-Some-owner g c = λ base conns was.
    let before = c.loop-ctx.invariant base conns was in
    let s = before.0 in
    let id = c.in-Some-owner.call in
    record {
      sound = s;
      seen_is = before.1;
      its = ap (λ (v : Standing _ _). list_any (has_ended id) v.calls) (sym before.1)
          ∙ found_over base conns c.args.calls.now s c.in-Some.ctx id (c.in-Some.ensures.first s.past s.tree_is).waits (sym (c.owner.ensures s.past s.tree_is) ∙ c.in-Some-owner.is);
      none = tt;
    }

pub returns : goal.returns
returns g c = λ base conns was.
    let before = c.loop-ctx.invariant base conns was in
    let s = before.0 in
    record {
      sound = s;
      seen_is = before.1;
      its = tt;
      none = ap (λ (v : Standing _ _). list_any is_over v.calls) (sym before.1) ∙ none_waits base conns c.args.calls.now s (λ x. c.in_default.ensures.none s.past s.tree_is x);
    }
