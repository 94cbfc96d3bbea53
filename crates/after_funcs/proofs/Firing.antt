-- A fire, hook by hook.
use Rattle.std.proofs.Common.{◌≡◌, ℕ, ◌+◌, ◌<◌, not, List, [], ◌∷◌, ◌++◌, length, filter, sym, ◌∙◌, append_assoc, refl, arith}
use Rattle.std.proofs.lemmas.Grind.{common_steps}
use Rattle.std.proofs.lemmas.List.Elements.{filter-append}
use Rattle.context_tree.specs.declared.id.CtxId.{CtxId}
use Rattle.after_funcs.specs.declared.callbacks.AfterFuncs.{AfterFuncs}
use Rattle.after_funcs.specs.declared.registration.Registration.{Registration}
use Rattle.after_funcs.specs.Hooks.{is_on}

-- The first `count` of the hooks that waited were looked at: those of the context are due behind the others, and the rest wait behind
-- those that were not looked at.
pub record HasMoved {H : Type 0} (ctx : CtxId) (old new : AfterFuncs H) (count : ℕ) : Type 0 where
  pub seen : List (Registration H)
  pub left : List (Registration H)
  pub all : old.waiting.items ≡ seen ++ left
  pub many : length seen ≡ count
  pub waiting_is : new.waiting.items ≡ left ++ filter (λ r. not (is_on ctx r)) seen
  pub due_is : new.due.items ≡ old.due.items ++ filter (is_on ctx) seen

-- one hook more was looked at
looked : {H : Type 0} (ctx : CtxId) (old mid new : AfterFuncs H) (count : ℕ) (x : Registration H) (rest : List (Registration H))
    → (seen left : List (Registration H)) → old.waiting.items ≡ seen ++ left → length seen ≡ count
    → mid.waiting.items ≡ left ++ filter (λ r. not (is_on ctx r)) seen → mid.due.items ≡ old.due.items ++ filter (is_on ctx) seen
    → count < length old.waiting.items → mid.waiting.items ≡ x ∷ rest
    → new.waiting.items ≡ rest ++ filter (λ r. not (is_on ctx r)) (x ∷ [])
    → new.due.items ≡ mid.due.items ++ filter (is_on ctx) (x ∷ [])
    → HasMoved ctx old new (count + 1)
looked ctx old mid new count x rest seen [] all many ws ds more popped w d = absurd (grind (arith, common_steps, all, many, more))
looked ctx old mid new count x rest seen (y ∷ ys) all many ws ds more popped w d =
    let first : y ∷ (ys ++ filter (λ r. not (is_on ctx r)) seen) ≡ x ∷ rest = sym ws ∙ popped in
    let same : y ≡ x = cc in
    let tail : rest ≡ ys ++ filter (λ r. not (is_on ctx r)) seen = cc in
    record {
      seen = seen ++ x ∷ [];
      left = ys;
      all = rw (all, same, append_assoc) refl;
      many = grind (arith, common_steps, many);
      waiting_is = rw (w, tail, filter-append, append_assoc) refl;
      due_is = rw (d, ds, filter-append, append_assoc) refl;
    }

pub looked_at : {H : Type 0} (ctx : CtxId) (old mid new : AfterFuncs H) (count : ℕ) (x : Registration H) (rest : List (Registration H))
    → HasMoved ctx old mid count → count < length old.waiting.items → mid.waiting.items ≡ x ∷ rest
    → new.waiting.items ≡ rest ++ filter (λ r. not (is_on ctx r)) (x ∷ [])
    → new.due.items ≡ mid.due.items ++ filter (is_on ctx) (x ∷ [])
    → HasMoved ctx old new (count + 1)
looked_at ctx old mid new count x rest moved more popped w d =
    looked ctx old mid new count x rest moved.seen moved.left moved.all moved.many moved.waiting_is moved.due_is more popped w d
