-- A push looks at each byte twice at most.
use Rattle.std.proofs.Common.{◌≡◌, ℕ, ◌+◌, ◌*◌, ◌≤◌, List, ◌++◌, length, take, refl, sym, ap, subst, arith, length-append, length-take, Option, Some, None}
use Rattle.http_pieces.specs.declared.phase.Phase.{Phase}
use Rattle.http_pieces.specs.declared.phase.Phase.TheVariants as phase
use Rattle.http_pieces.specs.Cut.{HasNoBlock}
use Rattle.http_pieces.specs.Form.{Form, IsPhaseSound, Pushes, unread}
use Rattle.http_pieces.specs.Looked.{HasLooked}
use Rattle.http_pieces.proofs.ScanLemmas.{head_none}

-- the bytes of a message that is not whole
abbrev pub left_in : {R H : Type 0} → List ℕ → Phase H R → Option (List ℕ)
left_in bytes (phase.Head matched) = Some bytes
left_in bytes (phase.Body head body missing) = Some bytes
left_in bytes (phase.Complete head body) = None
left_in bytes (phase.Refused r) = None
left_in bytes phase.Ended = None

module _ {R H V : Type 0} (form : Form R H V) (before piece after : List ℕ) where
  pub pushes_sound : (was new : Phase H R) (n : ℕ) → IsPhaseSound form before was → Pushes form before was piece after new n → IsPhaseSound form after new
  pushes_sound (phase.Head matched) new n sound p = p.grows.sound
  pushes_sound (phase.Body head body missing) new n sound p = p.grows.sound
  pushes_sound (phase.Complete head body) new n sound p =
      subst (λ b. IsPhaseSound form b new) (sym p.1) (subst (IsPhaseSound form before) (sym p.2) sound)
  pushes_sound (phase.Refused r) new n sound p = subst (IsPhaseSound form after) (sym p.2) tt
  pushes_sound phase.Ended new n sound p = subst (IsPhaseSound form after) (sym p.2) tt

  pushes_within : (was new : Phase H R) (n : ℕ) → Pushes form before was piece after new n → n ≤ length piece
  pushes_within (phase.Head matched) new n p = p.grows.within
  pushes_within (phase.Body head body missing) new n p = p.grows.within
  pushes_within (phase.Complete head body) new n p = omega (arith, p.0)
  pushes_within (phase.Refused r) new n p = omega (arith, p.0)
  pushes_within phase.Ended new n p = omega (arith, p.0)

  pub looked_push : (was new : Phase H R) (n looked more : ℕ) (bytes : List ℕ) → IsPhaseSound form before was → Pushes form before was piece after new n
      → more + unread after new ≤ looked + unread before was + 2 * n → HasLooked looked (left_in before was) bytes
      → HasLooked more (left_in after new) (bytes ++ take n piece)
  looked_push was new n looked more bytes sound p le h = record { twice = omega (arith, total); once = by_new new (pushes_sound was new n sound p) total }
    where
      had : (w : Phase H R) → IsPhaseSound form before w → HasLooked looked (left_in before w) bytes → looked + unread before w ≤ 2 * length bytes
      had (phase.Head matched) s l = l.once before refl (head_none before matched s.text_is s.goes_on)
      had (phase.Body head body missing) s l = omega (arith, l.twice)
      had (phase.Complete head body) s l = omega (arith, l.twice)
      had (phase.Refused r) s l = omega (arith, l.twice)
      had phase.Ended s l = omega (arith, l.twice)

      total : more + unread after new ≤ 2 * length (bytes ++ take n piece)
      total = omega (arith, le, had was sound h, pushes_within was new n p, length-append bytes (take n piece), length-take n piece)

      by_new : (x : Phase H R) → IsPhaseSound form after x → more + unread after x ≤ 2 * length (bytes ++ take n piece)
          → (text : List ℕ) → left_in after x ≡ Some text → HasNoBlock text → more + length text ≤ 2 * length (bytes ++ take n piece)
      by_new (phase.Head matched) s fits text is none = let same : after ≡ text = cc in omega (arith, fits, ap length same)
      by_new (phase.Body head body missing) s fits text is none =
          let same : text ≡ after = cc in
          absurd (subst HasNoBlock same none body s.0.block.limit s.0.block.ends)
      by_new (phase.Complete head body) s fits text is none = absurd (cc)
      by_new (phase.Refused r) s fits text is none = absurd (cc)
      by_new phase.Ended s fits text is none = absurd (cc)
