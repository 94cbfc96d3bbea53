-- What a moment and the drain make of the gateway.
use Rattle.gateway_core.proofs.Names.{◌≡◌, ℕ, ◌≤◌, refl, sym, ap, ◌∙◌, Option, Some, None, Bool, true, false, subst, arith, list_any, ◌^◌, same_Some, HeldConnection, ended, IsServing, Broadcast, Drains, MayEnd, Reaches, drains_serving, open_same, reaches_serving, Tally, ContextsValue, LifeValue, has_due, none_over, Shared, own_none, due_ends, held_same, AllEnd, AreFit, Conns, IsToldOnly, IsWhole, OneBreaks, gateway_of, held_at}
use Rattle.gateway_theory.specs.Values.{moment_after}
use Rattle.gateway_theory.specs.declared.trigger.Trigger.{Trigger}
use Rattle.gateway_theory.specs.declared.trigger.Trigger.TheVariants.{Reached, Drained}
use Rattle.gateway_core.proofs.FitLemmas.{tied_at}

-- ---- whether one breaks

-- none breaks where none changes
pub none_breaks : (es : Conns) → OneBreaks false es es
none_breaks es = λ c k l k_is l_is broken. ap (λ (x : HeldConnection). x.broken) (same_Some k l (sym k_is ∙ l_is)) ∙ broken

module _ {H : Type 0} where
  module _ {s : Shared H} (t : Shared H) {es : Conns} (fs : Conns) {opened open_now : ℕ} {tally : Tally} (w : IsWhole s es opened open_now tally) (one : Bool) where
    told_whole : AreFit none_over t fs → (g : Trigger) → Broadcast g (gateway_of s es opened tally) (gateway_of t fs opened tally) one → IsServing (gateway_of t fs opened tally) → IsWhole t fs opened open_now tally
    told_whole fit g b serving = record {
      serving = serving;
      fit = fit;
      open_is = w.open_is ∙ sym (open_same g (gateway_of s es opened tally) (gateway_of t fs opened tally) one b refl w.serving);
    }

    pub reaches_step : (moment now : ℕ) → now ≡ moment_after s.moment moment → AllEnd (Reached now) es fs → OneBreaks one es fs → t.contexts.standing.drained ≡ s.contexts.standing.drained
        → IsToldOnly (record s { moment = now }) t → Reaches moment (gateway_of s es opened tally) (gateway_of t fs opened tally) one
    reaches_step moment now now_is all breaks drained rest = grind arith

    pub reaches_whole : (moment : ℕ) → AreFit none_over t fs → Reaches moment (gateway_of s es opened tally) (gateway_of t fs opened tally) one → IsWhole t fs opened open_now tally
    reaches_whole moment fit r = told_whole fit (Reached (moment_after s.moment moment)) r.ends (reaches_serving moment (gateway_of s es opened tally) (gateway_of t fs opened tally) one r w.serving)

    pub drains_step : AllEnd Drained es fs → OneBreaks one es fs → t.contexts.standing.drained ≡ true → IsToldOnly s t → Drains (gateway_of s es opened tally) (gateway_of t fs opened tally) one
    drains_step all breaks drained rest = grind arith

    pub drains_whole : AreFit none_over t fs → Drains (gateway_of s es opened tally) (gateway_of t fs opened tally) one → IsWhole t fs opened open_now tally
    drains_whole fit r = told_whole fit Drained r.ends (drains_serving (gateway_of s es opened tally) (gateway_of t fs opened tally) one r w.serving)

  -- ---- a moment before the least deadline

  pub none_due : (s : Shared H) (es : Conns) (now : ℕ) → AreFit none_over s es → list_any (has_due now) s.contexts.standing.calls ≡ false → AllEnd (Reached now) es es
  none_due s es now fit none = record { each = λ c. by c (held_at c es) refl; keys_are = refl }
    where
      by : (c : ℕ) (o : Option HeldConnection) → held_at c es ≡ o → MayEnd (Reached now) (held_at c es) (held_at c es)
      by c None is = subst (λ o. MayEnd (Reached now) o o) (sym is) refl
      by c (Some k) is = subst (λ o. MayEnd (Reached now) o o) (sym is) (
        k,
        refl,
        ended (held_same (Reached now) k (
            sym (due_ends now k.calls) ∙ ap (λ (x : ContextsValue). list_any (has_due now) x.calls) (sym (tied_at none_over c k (held_at c es) s.contexts is (fit.tied c)).are)
            ∙ own_none (λ (l : LifeValue). l.id.conn) k.number (has_due now) s.contexts.standing.calls none)),
      )

  pub later_fit : (s : Shared H) (es : Conns) (now : ℕ) → now ≤ 2 ^ 62 → AreFit none_over s es → AreFit none_over (record s { moment = now }) es
  later_fit s es now early fit = record { tied = fit.tied; waits = fit.waits; early = early }

-- a moment that counts is not too late
pub moment_early : (before moment now : ℕ) → now ≡ moment_after before moment → before ≤ 2 ^ 62 → now ≤ 2 ^ 62
moment_early before moment now is early = subst (λ m. m ≤ 2 ^ 62) (sym is) (grind (arith, early))
