use Rattle.call_contexts.proofs.Names.{◌≡◌, ◌∙◌, ◌<◌, ap, refl, sym, subst, Some, filter, length, map, not, same, IsBare, IsPlaced, Standing, life_at, seen, seen_call, without}
use Rattle.call_contexts.proofs.Branches.{bare_twigs, turned_bare, without_bare}
use Rattle.call_contexts.proofs.Distinct.{calls_apart}
use Rattle.call_contexts.proofs.Going.{placed_named}
use Rattle.call_contexts.proofs.Indexing.{indexed_left, indexed_named}
use Rattle.call_contexts.proofs.Leaving.{call_let_go, seen_left, sound_left}
use Rattle.call_contexts.proofs.Order.{life_placed, others_left, rising_left, rising_named}
use Rattle.call_contexts.proofs.calls.take.Goals as goal

pub free_branches-requires : goal.free_branches-requires
free_branches-requires g c = subst (λ ks. c.in_ok-place.place < length ks) c.deref.ensures.value c.in_ok-place.ensures.some

pub returns-in_err-place : goal.returns-in_err-place
returns-in_err-place g c = rw c.from_residual.ensures (record { left = tt; none = ap (life_at c.args.ctx) (sym c.deref.ensures.value) ∙ c.in_err-place.ensures.none; same_tree = refl; same_calls = refl; same_index = refl })

pub returns : goal.returns
returns g c = record {
  left = λ base conns s.
      let ls = c.args.calls.now.items in
      let bare = c.free_branches.new.calls.items in
      let i = c.in_ok-place.place in
      let x = c.args.ctx in
      let l = c.remove-life.result in
      let low : i < length ls = subst (λ ks. i < length ks) c.deref.ensures.value c.in_ok-place.ensures.some in
      let placed : IsPlaced x i ls = subst (IsPlaced x i) c.deref.ensures.value c.in_ok-place.ensures.its in
      let go = c.free_branches.ensures.gone base conns x s placed in
      let still : i < length bare = subst (λ n. i < n) (sym c.free_branches.ensures.length) low in
      let own = placed_named x i ls bare go.names_are low placed l in
      let rising = rising_named ls bare go.names_are c.requires in
      let one : life_at x bare ≡ Some l = life_placed x bare rising i l still own ∙ ap (λ k. Some k) (sym c.remove-life.ensures.value) in
      let left : c.remove-life.new.self.items ≡ filter (λ k. not (same k.ctx x)) bare = c.remove-life.ensures.items ∙ others_left x bare rising i l still own in
      let none = bare_twigs c.free_branches.new.tree.slots x bare (subst (λ (v : Standing _ _). IsBare x v.calls) (sym go.seen_is) (turned_bare x (map (seen_call c.args.tree.now.slots) ls))) in
      let goes = call_let_go s.laws go.sound x l one none c.release.new.tree (c.release.ensures go.sound.past go.sound.tree_is) in
      let apart = calls_apart go.sound.root base conns bare go.sound.distinct in
      rw left (record {
        between = c.free_branches.new.tree;
        bare = bare;
        gone = go;
        life = l;
        its = one;
        hook_is = refl;
        left_is = refl;
        sound = λ f hooks hs waits due. sound_left s.laws go.sound x l one none c.release.new.tree goes f hooks hs waits due;
        seen_is = seen_left s.laws go.sound x l one none c.release.new.tree goes ∙ ap (without x) go.seen_is ∙ without_bare x (seen c.args.tree.now.slots base conns ls);
        rising = rising_left (λ k. not (same k.ctx x)) bare rising;
        indexed = λ indexed. indexed_left x l bare apart one (indexed_named ls bare go.names_are indexed) c.forget.ensures;
      });
  none = tt;
  same_tree = tt;
  same_calls = tt;
  same_index = tt;
}
