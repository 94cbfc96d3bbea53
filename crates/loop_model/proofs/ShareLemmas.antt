-- The k-th reply of a stream is that of its k-th share.
use Rattle.std.proofs.Common.{◌≡◌, ℕ, zero, suc, ◌<◌, Bool, List, [], ◌∷◌, ◌++◌, map, length, refl, sym, ap, subst, ◌∙◌, arith, append_assoc, Option, Some}
use Rattle.std.specs.Prelude.{All, flat_map}
use Rattle.std.proofs.lemmas.Grind.{flat_map-append}
use Rattle.std.proofs.lemmas.List.{length-map}
use Rattle.std.proofs.lemmas.List.Elements.{All-head, All-tail}
use Rattle.connect_codec.specs.Outcome.{outcome_of}
use Rattle.connect_codec.specs.declared.answer.Outcome.{Outcome}
use Rattle.http_pieces.specs.Cut.{Cut, Complete, IsCut}
use Rattle.http_pieces.specs.ReplyHead.{reply_kind}
use Rattle.http_pieces.specs.declared.framing.Framing.{Framing}
use Rattle.http_pieces.specs.declared.reply.HttpReply.{HttpReply}
use Rattle.http_pieces.specs.declared.reply_fault.ReplyFault.{ReplyFault}
use Rattle.loop_model.specs.Requests.{request_of}
use Rattle.loop_model.specs.Shares.{IsShareAnswered, IsWhole, Replies}
use Rattle.loop_model.specs.Streams.{ShareValue, turns_of}
use Rattle.loop_model.specs.declared.manner.Manner.{Manner}
use Rattle.wires.specs.Turns.{came, given_of, got_of, went}

-- a text is cut in one way, and bytes behind a reply change none; what `reply_cut_law` says
abbrev IsUnique : Framing → Type 0
IsUnique framing = (text : List ℕ) (c d : Cut ReplyFault HttpReply) → IsCut (reply_kind framing) text c → IsCut (reply_kind framing) text d → c ≡ d

abbrev ReplyStays : Framing → Type 0
ReplyStays framing = (text more : List ℕ) (q : HttpReply) (rest : List ℕ) → IsCut (reply_kind framing) text (Complete q rest)
    → IsCut (reply_kind framing) (text ++ more) (Complete q (rest ++ more))

complete_parts : (c d : Cut ReplyFault HttpReply) (p q : HttpReply) (r t : List ℕ) → c ≡ Complete p r → d ≡ Complete q t → c ≡ d → (p ≡ q) × (r ≡ t)
complete_parts c d p q r t a b e = (cc, cc)

-- what is told of a reply
abbrev told_of : HttpReply → Option Outcome
told_of q = Some (outcome_of (Some q))

module _ (framing : Framing) (unique : IsUnique framing) (stays : ReplyStays framing) where
  -- a text has one k-th reply
  replies_agree : (text : List ℕ) (ps qs : List HttpReply) (r t : List ℕ)
      → length ps ≡ length qs → Replies framing text ps r → Replies framing text qs t → (ps ≡ qs) × (r ≡ t)
  replies_agree text [] [] r t same a b = (refl, sym a ∙ b)
  replies_agree text [] (q ∷ qs) r t same a b = absurd (omega (arith, same))
  replies_agree text (p ∷ ps) [] r t same a b = absurd (omega (arith, same))
  replies_agree text (p ∷ ps) (q ∷ qs) r t same a b =
      let one = complete_parts _ _ p q a.0 b.0 refl refl (unique text _ _ a.1 b.1) in
      let others = replies_agree a.0 ps qs r t (omega (arith, same)) a.2 (subst (λ x. Replies framing x qs t) (sym one.1) b.2) in
      (λ i. one.0 i ∷ others.0 i, others.1)

module _ (manner : Manner) (unique : IsUnique manner.framing) (stays : ReplyStays manner.framing) where
  -- the replies of whole shares, in order
  replies_are : (shares : List ShareValue) → All (IsWhole manner) shares → (more : List ℕ)
      → (replies : List HttpReply) × Replies manner.framing (given_of (turns_of shares) ++ more) replies more
      × (map (λ (x : ShareValue). x.outcome) shares ≡ map told_of replies)
  replies_are [] all more = ([], refl, refl)
  replies_are (x ∷ shares) all more =
      let first = All-head (IsWhole manner) x shares all in
      let others = replies_are shares (All-tail (IsWhole manner) x shares all) more in
      let behind = given_of (turns_of shares) ++ more in
      let text : given_of (turns_of (x ∷ shares)) ++ more ≡ given_of x.turns ++ behind =
      ap (λ t. t ++ more) (flat_map-append came x.turns (turns_of shares)) ∙ append_assoc (given_of x.turns) (given_of (turns_of shares)) more in (
        first.reply ∷ others.0,
        (behind, subst (λ t. IsCut (reply_kind manner.framing) t (Complete first.reply behind)) (sym text) (stays (given_of x.turns) behind first.reply [] first.is), others.1),
        (λ i. first.outcome_is i ∷ others.2 i),
      )

  -- however many bytes follow: as many replies as there are shares are those of the shares, one by one
  pub told : (shares : List ShareValue) → All (IsWhole manner) shares
      → (more : List ℕ) (replies : List HttpReply) (rest : List ℕ) → length replies ≡ length shares
      → Replies manner.framing (given_of (turns_of shares) ++ more) replies rest
      → (map (λ (x : ShareValue). x.outcome) shares ≡ map told_of replies) × (rest ≡ more)
  told shares all more replies rest count cut =
      let own = replies_are shares all more in
      let as_many : length own.0 ≡ length shares =
      sym (length-map own.0 told_of) ∙ ap length (sym own.2) ∙ length-map shares (λ (x : ShareValue). x.outcome) in
      let same = replies_agree manner.framing unique stays _ replies own.0 rest more (count ∙ sym as_many) cut own.1 in
      (own.2 ∙ ap (map told_of) (sym same.0), same.1)

  -- the reply of one more share that was answered, behind which anything may follow, is the next reply of the text
  pub told_last : (shares : List ShareValue) → All (IsWhole manner) shares → (x : ShareValue) → IsShareAnswered manner x
      → (more : List ℕ) (replies : List HttpReply) (reply : HttpReply) (mid rest : List ℕ) → length replies ≡ length shares
      → Replies manner.framing (given_of (turns_of shares) ++ (given_of x.turns ++ more)) replies mid
      → IsCut (reply_kind manner.framing) mid (Complete reply rest) → x.outcome ≡ told_of reply
  told_last shares all x answered more replies reply mid rest count cut next =
      let here = told shares all (given_of x.turns ++ more) replies mid count cut in
      let own = stays (given_of x.turns) more answered.reply answered.rest answered.begins in
      let one = complete_parts _ _ reply answered.reply rest (answered.rest ++ more) refl refl
      (unique mid _ _ next (subst (λ t. IsCut (reply_kind manner.framing) t (Complete answered.reply (answered.rest ++ more))) (sym here.1) own)) in
      answered.outcome_is ∙ ap told_of (sym one.0)

-- what was written are their jobs' requests, in order
pub requests_are : (manner : Manner) (shares : List ShareValue) → All (IsWhole manner) shares
    → got_of (turns_of shares) ≡ flat_map (request_of manner) (map (λ (x : ShareValue). x.job) shares)
requests_are manner [] all = refl
requests_are manner (x ∷ shares) all =
    flat_map-append went x.turns (turns_of shares) ∙ ap (λ t. t ++ got_of (turns_of shares)) (All-head (IsWhole manner) x shares all).sent
    ∙ ap (λ t. request_of manner x.job ++ t) (requests_are manner shares (All-tail (IsWhole manner) x shares all))
