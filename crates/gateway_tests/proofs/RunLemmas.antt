-- An opening beside 64 open connections does not succeed.
use Rattle.std.proofs.Common.{◌≡◌, ℕ, suc, ◌<◌, [], ◌∷◌, ◌++◌, length, replicate, sym, ap, subst, ◌∙◌, arith, length-append}
use Rattle.std.specs.List.{range_with_len}
use Rattle.std.proofs.lemmas.List.{length-replicate}
use Rattle.gateway_model.specs.Events.{Before, OpensAt, open_connections, most_open}
use Rattle.gateway_model.specs.declared.event.Event.TheVariants.{Opening}

-- what stands behind the last of some events that are one more than those before it
all_but_last : (n : ℕ) (later before : Before) → replicate (suc n) Opening ≡ later ++ Opening ∷ before → length before ≡ n → before ≡ replicate n Opening
all_but_last n [] before event_is place_is = cc
all_but_last n (e ∷ later) before event_is place_is =
    let size : suc n ≡ length (e ∷ later ++ Opening ∷ before) = sym (length-replicate (suc n) Opening) ∙ ap length event_is in
    absurd (omega (arith, size, length-append later (Opening ∷ before), place_is))

pub none_beside_64 : OpensAt (range_with_len 0 65) (replicate 65 Opening) 64 → ⊥
none_beside_64 at =
    let few : open_connections (range_with_len 0 65) (replicate 64 Opening) < most_open =
    subst (λ b. open_connections (range_with_len 0 65) b < most_open) (all_but_last 64 at.later at.before at.event_is at.place_is) at.few in
    omega (arith, few)
