-- What reports change.
use Rattle.gateway_loop.proofs.Words.{◌≡◌, ℕ, zero, suc, Bool, true, false, List, [], ◌∷◌, ◌++◌, map, Option, None, Some, refl, sym, ap, ◌∙◌, option_map, slice_index_or, AskingState, AskingValue, HasTicked, WholeLoop, Ready, asked_for, asked_at, changed_at, tell, tell_all, tell_in, ContinuesLoop, ClosedValue, HasEndedSince, AsksOn, ◌⊎◌, ⊎_elim, inl, inr, subst, append-nil, IsPrefixOf, KeptValue, StreamValue, prefix-refl, prefix-trans}
use Rattle.std.specs.Prelude.{◌%◌, ◌==◌, slice_set}
use Rattle.gateway_loop.specs.Loop.{HasLeftMore, IsToldBeside}
use Rattle.gateway_loop.proofs.AskLemmas.{shown_at}
use Rattle.gateway_loop.proofs.Places.{changed_none}

told_in : (b : Bool) (r : Ready) (w : WholeLoop) → (tell_in b r w).side.told ≡ w.side.told
told_in true r w = refl
told_in false r w = refl

-- no moment was told
pub tells_no_moment : (rs : List Ready) (w : WholeLoop) → (tell_all rs w).side.told ≡ w.side.told
tells_no_moment [] w = refl
tells_no_moment (r ∷ rs) w = tells_no_moment rs (tell r w) ∙ told_in (r.token % 2 == 0) r w

-- a moment was told since then
pub ticked_since : (u v w : WholeLoop) → v.side.told ≡ u.side.told → HasTicked v.side w.side → HasTicked u.side w.side
ticked_since u v w same t = (t.0, t.1, t.2 ∙ ap (λ (l : List ℕ). l ++ t.0 ∷ t.1) same)

-- ---- beside streams that are kept, were left, or wait to be closed

pub told_self : (v : WholeLoop) → IsToldBeside v v
told_self v = record { rest = refl; left = prefix-refl v.left }

abbrev with_streams : List KeptValue → List StreamValue → List ClosedValue → WholeLoop → WholeLoop
with_streams kept left closing w = record w { kept = kept; left = left; closing = closing }

pub told_then : (u v w : WholeLoop) → IsToldBeside u v → IsToldBeside v w → IsToldBeside u w
told_then u v w a b = record { rest = b.rest ∙ ap (with_streams w.kept w.left w.closing) a.rest; left = prefix-trans u.left v.left w.left a.left b.left }

pub told_closing : (u v : WholeLoop) → v ≡ record u { closing = v.closing } → IsToldBeside u v
told_closing u v is =
    let kept = ap (λ (w : WholeLoop). w.kept) is in
    let left = ap (λ (w : WholeLoop). w.left) is in record {
      rest = is ∙ ap (λ (k : List KeptValue). with_streams k u.left v.closing u) (sym kept) ∙ ap (λ (l : List StreamValue). with_streams v.kept l v.closing u) (sym left);
      left = ([], left ∙ sym (append-nil u.left));
    }

pub told_left : (u v : WholeLoop) → HasLeftMore u v → IsToldBeside u v
told_left u v more = record {
  rest = more.rest ∙ ap (λ (c : List ClosedValue). with_streams v.kept v.left c u) (sym (ap (λ (w : WholeLoop). w.closing) more.rest));
  left = more.left;
}

pub left_then : (u v w : WholeLoop) → HasLeftMore u v → HasLeftMore v w → HasLeftMore u w
left_then u v w a b = record { rest = b.rest ∙ ap (λ (t : WholeLoop). record t { kept = w.kept; left = w.left }) a.rest; left = prefix-trans u.left v.left w.left a.left b.left }

tell_with_in : (b : Bool) (r : Ready) (w : WholeLoop) (kept : List KeptValue) (left : List StreamValue) (closing : List ClosedValue)
    → tell_in b r (with_streams kept left closing w) ≡ with_streams kept left closing (tell_in b r w)
tell_with_in true r w kept left closing = refl
tell_with_in false r w kept left closing = refl

tell_left_in : (b : Bool) (r : Ready) (w : WholeLoop) → (tell_in b r w).left ≡ w.left
tell_left_in true r w = refl
tell_left_in false r w = refl

-- the same report was told of both
pub tell_on : (r : Ready) (u v : WholeLoop) → IsToldBeside u v → IsToldBeside (tell r u) (tell r v)
tell_on r u v told =
    let b = r.token % 2 == 0 in
    let is : tell r v ≡ with_streams v.kept v.left v.closing (tell r u) = ap (tell r) told.rest ∙ tell_with_in b r u v.kept v.left v.closing in record {
      rest = is ∙ ap (λ (k : List KeptValue). with_streams k v.left v.closing (tell r u)) (sym (ap (λ (w : WholeLoop). w.kept) is))
          ∙ ap (λ (l : List StreamValue). with_streams (tell r v).kept l v.closing (tell r u)) (sym (ap (λ (w : WholeLoop). w.left) is))
          ∙ ap (λ (c : List ClosedValue). with_streams (tell r v).kept (tell r v).left c (tell r u)) (sym (ap (λ (w : WholeLoop). w.closing) is));
      left = subst (λ (l : List StreamValue). IsPrefixOf l (tell r v).left) (sym (tell_left_in b r u)) (subst (λ (l : List StreamValue). IsPrefixOf u.left l) (sym (tell_left_in b r v)) told.left);
    }

-- what continues the one continues the other
continues_with : (v w : WholeLoop) (kept : List KeptValue) (left : List StreamValue) (closing : List ClosedValue) → IsPrefixOf v.left left → ContinuesLoop (with_streams kept left closing v) w → ContinuesLoop v w
continues_with v w kept left closing more c =
    record { manner = c.manner; side = c.side; asking = λ i x is. since i x (c.asking i x is); ended = c.ended; left = prefix-trans v.left left w.left more c.left; looked_up = c.looked_up }
  where
    since : (i : ℕ) (x : AskingValue) → (y : AskingValue) × ((asked_at i w.asking ≡ Some y) ⊎ HasEndedSince (with_streams kept left closing v) w y) × AsksOn x y
        → (y : AskingValue) × ((asked_at i w.asking ≡ Some y) ⊎ HasEndedSince v w y) × AsksOn x y
    since i x (y, there, on) = (
      y,
      ⊎_elim (λ (here : asked_at i w.asking ≡ Some y). inl here)
          (λ (e : HasEndedSince (with_streams kept left closing v) w y). inr record { before = e.before; outcome = e.outcome; after = e.after; ended_are = e.ended_are }) there,
      on,
    )

pub continues_told : (u v w : WholeLoop) → IsToldBeside u v → ContinuesLoop v w → ContinuesLoop u w
continues_told u v w told c = continues_with u w v.kept v.left v.closing told.left (subst (λ (t : WholeLoop). ContinuesLoop t w) told.rest c)

-- one more was told
pub tell_more : (rs : List Ready) (r : Ready) (w : WholeLoop) → tell_all (rs ++ r ∷ []) w ≡ tell r (tell_all rs w)
tell_more [] r w = refl
tell_more (q ∷ rs) r w = tell_more rs r (tell q w)

abbrev shown_slots : List (Option AskingState) → List (Option AskingValue)
shown_slots slots = map (λ (o : Option AskingState). option_map asked_for o) slots

-- what is seen of the jobs changes as they do
pub asking_changed : (f : AskingValue → AskingValue) (slots : List (Option AskingState)) (i : ℕ) (x y : AskingState) → slice_index_or slots i None ≡ Some x → asked_for y ≡ f (asked_for x)
    → shown_slots (slice_set slots i (Some y)) ≡ changed_at f i (shown_slots slots)
asking_changed f [] i x y is same = absurd (nobody is)
  where
    nobody : None ≡ Some x → ⊥
    nobody e = cc
asking_changed f (o ∷ rest) zero x y is same =
    ap (λ (p : Option AskingValue). p ∷ shown_slots rest)
    (ap (λ (v : AskingValue). Some v) same ∙ ap (λ (q : Option AskingState). option_map f (option_map asked_for q)) (sym is))
asking_changed f (o ∷ rest) (suc i) x y is same = ap (λ (l : List (Option AskingValue)). option_map asked_for o ∷ l) (asking_changed f rest i x y is same)

pub asking_same : (f : AskingValue → AskingValue) (slots : List (Option AskingState)) (i : ℕ) → slice_index_or slots i None ≡ None → shown_slots slots ≡ changed_at f i (shown_slots slots)
asking_same f slots i is =
    sym (changed_none f (shown_slots slots) i (shown_at slots i ∙ ap (λ (o : Option AskingState). option_map asked_for o) is))
