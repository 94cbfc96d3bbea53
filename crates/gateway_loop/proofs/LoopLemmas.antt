-- What steps of one client, and other events, make of what the core's history explains.
use Rattle.gateway_loop.proofs.Words.{◌≡◌, ℕ, suc, ◌+◌, ◌<◌, Bool, false, cond, List, [], ◌∷◌, ◌++◌, All, Option, None, Some, refl, sym, ap, ◌∙◌, subst, arith, ◌==◌, All-push, All-weaker, PlanRecord, Outcome, connections, History, ClientValue, LoopValue, at, one_below, Fits, HasStood, HoldsRest, IsHeld, IsQuiet, Leads, OpensNone, LoopLaws}
use Rattle.std.proofs.lemmas.Bool.Decides.{nat_tests}
use Rattle.gateway_loop.proofs.StepLemmas.{fits_on, stood_on}
use Rattle.gateway_loop.proofs.Places.{Put}
use Rattle.gateway_loop.proofs.CountLemmas.{count_comes, count_goes, count_steps, one_more}

-- ---- places

data In (old : List (Option ClientValue)) (i : ℕ) (o : Option ClientValue) (j : ℕ) (x : ClientValue) : Type 0 where
  Here : j ≡ i → o ≡ Some x → In old i o j x
  There : (j ≡ i → ⊥) → at j old ≡ Some x → In old i o j x

among : (old new : List (Option ClientValue)) (i : ℕ) (o : Option ClientValue) → Put old new i o → (j : ℕ) (x : ClientValue) → at j new ≡ Some x → In old i o j x
among old new i o p j x is = search arith

some_is : (a b : ClientValue) → Some a ≡ Some b → a ≡ b
some_is a b it = cc

no_some : (b : ClientValue) → None ≡ Some b → ⊥
no_some b it = cc

differ : (a b : ClientValue) (i j : ℕ) → (a.conn ≡ b.conn → i ≡ j) → (i ≡ j → ⊥) → (a.conn == b.conn) ≡ false
differ a b i j one other = search arith

abbrev pub nobodys : ℕ → Bool
nobodys c = false

pub all_stood : (laws : LoopLaws) (plans : List PlanRecord) (own : ℕ → Bool) (h k : History) (gone : List ClientValue) → Leads plans own h k
    → All (λ (x : ClientValue). HasStood plans h x) gone → All (λ (x : ClientValue). HasStood plans k x) gone
all_stood laws plans own h k gone l = grind (arith, nat_tests, All-weaker, stood_on)

-- all but the clients are the same
pub record SameRest (l m : LoopValue) : Type 0 where
  pub told : m.told ≡ l.told
  pub results : m.results ≡ l.results
  pub handed : m.handed ≡ l.handed
  pub drained : m.drained ≡ l.drained
  pub unserved : m.unserved ≡ l.unserved

module _ (unknown : Outcome) (laws : LoopLaws) (plans : List PlanRecord) (l m : LoopValue) where
  rest_kept : (h k : History) → IsQuiet h k → SameRest l m → HoldsRest unknown h l → HoldsRest unknown k m
  rest_kept h k quiet rest held = record {
    told = rw (rest.told, quiet.moments_are) held.told;
    results = rw (rest.results, quiet.results_are) held.results;
    handed = quiet.handed_are ∙ held.handed ∙ sym rest.handed;
    drained = quiet.drains_are ∙ held.drained ∙ sym rest.drained;
    unserved = rw rest.unserved held.unserved;
  }

  -- the client in a place made steps
  pub held_steps : (h k : History) (i : ℕ) (x y : ClientValue) → at i l.clients ≡ Some x → y.conn ≡ x.conn → Fits plans k y
      → Leads plans (λ c. c == x.conn) h k → IsQuiet h k → OpensNone h k → Put l.clients m.clients i (Some y) → m.gone ≡ l.gone → SameRest l m
      → IsHeld unknown plans h l → IsHeld unknown plans k m
  held_steps h k i x y its same fits leads quiet opens puts gone rest held = record {
    fits = λ j z is. elim (among l.clients m.clients i (Some y) puts j z is) [
      | Here at_it it ↦ subst (λ (w : ClientValue). Fits plans k w) (some_is y z it) fits
      | There other there ↦
          fits_on laws plans (λ c. c == x.conn) h k z leads (differ z x j i (λ one. held.apart j i z x there its one) other) (held.fits j z there)
    ];
    apart = λ j n a b is also one. elim (among l.clients m.clients i (Some y) puts j a is) [
      | Here ja ita ↦ elim (among l.clients m.clients i (Some y) puts n b also) [
        | Here nb itb ↦ ja ∙ sym nb
        | There not_n there ↦ ja ∙ held.apart i n x b its there (sym same ∙ ap (λ (w : ClientValue). w.conn) (some_is y a ita) ∙ one)
      ]
      | There not_j there_a ↦ elim (among l.clients m.clients i (Some y) puts n b also) [
        | Here nb itb ↦ held.apart j i a x there_a its (one ∙ ap (λ (w : ClientValue). w.conn) (sym (some_is y b itb)) ∙ same) ∙ sym nb
        | There not_n there_b ↦ held.apart j n a b there_a there_b one
      ]
    ];
    each = λ c. count_steps l m i puts.there c x y its puts.here same gone ∙ held.each c ∙ ap (one_below c) (sym opens);
    gone = subst (λ (g : List ClientValue). All (λ (z : ClientValue). HasStood plans k z) g) (sym gone)
        (all_stood laws plans (λ c. c == x.conn) h k l.gone leads held.gone);
    rest = rest_kept h k quiet rest held.rest;
  }

  -- it goes
  pub held_goes : (h k : History) (i : ℕ) (x : ClientValue) → at i l.clients ≡ Some x → HasStood plans k x
      → Leads plans (λ c. c == x.conn) h k → IsQuiet h k → OpensNone h k → Put l.clients m.clients i None → m.gone ≡ l.gone ++ x ∷ [] → SameRest l m
      → IsHeld unknown plans h l → IsHeld unknown plans k m
  held_goes h k i x its stood leads quiet opens puts gone rest held = record {
    fits = λ j z is. elim (among l.clients m.clients i None puts j z is) [
      | Here at_it it ↦ absurd (no_some z it)
      | There other there ↦
          fits_on laws plans (λ c. c == x.conn) h k z leads (differ z x j i (λ one. held.apart j i z x there its one) other) (held.fits j z there)
    ];
    apart = λ j n a b is also one. elim (among l.clients m.clients i None puts j a is) [
      | Here ja ita ↦ absurd (no_some a ita)
      | There not_j there_a ↦ elim (among l.clients m.clients i None puts n b also) [
        | Here nb itb ↦ absurd (no_some b itb)
        | There not_n there_b ↦ held.apart j n a b there_a there_b one
      ]
    ];
    each = λ c. count_goes l m i puts.there c x its puts.here gone ∙ held.each c ∙ ap (one_below c) (sym opens);
    gone = subst (λ (g : List ClientValue). All (λ (z : ClientValue). HasStood plans k z) g) (sym gone)
        (All-push (λ (z : ClientValue). HasStood plans k z) l.gone x (all_stood laws plans (λ c. c == x.conn) h k l.gone leads held.gone) stood);
    rest = rest_kept h k quiet rest held.rest;
  }

  -- one comes, of a connection that no other has
  pub held_comes : (h k : History) (i : ℕ) (y : ClientValue) → Fits plans k y → y.conn ≡ connections h.opened h.events
      → ((x : ClientValue) → Fits plans h x → x.conn < connections h.opened h.events)
      → Leads plans nobodys h k → IsQuiet h k → connections k.opened k.events ≡ suc (connections h.opened h.events) → at i l.clients ≡ None
      → Put l.clients m.clients i (Some y) → m.gone ≡ l.gone → SameRest l m
      → IsHeld unknown plans h l → IsHeld unknown plans k m
  held_comes h k i y fits new older leads quiet opens vacant puts gone rest held = record {
    fits = λ j z is. elim (among l.clients m.clients i (Some y) puts j z is) [
      | Here at_it it ↦ subst (λ (w : ClientValue). Fits plans k w) (some_is y z it) fits
      | There other there ↦ fits_on laws plans nobodys h k z leads refl (held.fits j z there)
    ];
    apart = λ j n a b is also one. elim (among l.clients m.clients i (Some y) puts j a is) [
      | Here ja ita ↦ elim (among l.clients m.clients i (Some y) puts n b also) [
        | Here nb itb ↦ ja ∙ sym nb
        | There not_n there ↦ absurd (clash b (held.fits n b there) (sym (ap (λ (w : ClientValue). w.conn) (some_is y a ita)) ∙ new) one)
      ]
      | There not_j there_a ↦ elim (among l.clients m.clients i (Some y) puts n b also) [
        | Here nb itb ↦ absurd (clash a (held.fits j a there_a) (sym (ap (λ (w : ClientValue). w.conn) (some_is y b itb)) ∙ new) (sym one))
        | There not_n there_b ↦ held.apart j n a b there_a there_b one
      ]
    ];
    each = λ c.
        let n = connections h.opened h.events in
        count_comes l m i puts.there c y vacant puts.here gone ∙ ap (λ (t : ℕ). t + cond (y.conn == c) 1 0) (held.each c)
        ∙ ap (λ (t : ℕ). one_below c n + cond (t == c) 1 0) new ∙ one_more c n ∙ ap (one_below c) (sym opens);
    gone = subst (λ (g : List ClientValue). All (λ (z : ClientValue). HasStood plans k z) g) (sym gone)
        (all_stood laws plans nobodys h k l.gone leads held.gone);
    rest = rest_kept h k quiet rest held.rest;
  }
    where
      clash : (z : ClientValue) → Fits plans h z → {c : ℕ} → c ≡ connections h.opened h.events → c ≡ z.conn → ⊥
      clash z f is same = let lt = older z f in omega (arith, lt, is, same)
