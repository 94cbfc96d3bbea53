use Rattle.std.proofs.Common.{◌≡◌, ℕ, List, [], ◌∷◌, ◌++◌, ◌∙◌, All, Some, None, ap, arith, false, length, refl, subst, sym, true}
use Rattle.std.proofs.lemmas.List.Elements.{All-head}
use Rattle.loop_model.specs.declared.manner.Manner.{Manner}
use Rattle.std.specs.declared.net.socket_addr.SocketAddr.{SocketAddr}
use Rattle.loop_model.specs.Shares.{IsKept, IsLeft, IsWhole}
use Rattle.loop_model.specs.Streams.{ShareValue, kept_value, share_value, stream_value}
use Rattle.wires.specs.Turns.{Came, Went}
use Rattle.loop_rows.specs.LoopRows.{kept_for}
use Rattle.loop_rows.proofs.ExchangeLemmas.{first_of_all, no_some}
use Rattle.loop_rows.proofs.QuietLemmas.{IsQuiet, came_quiet}
use Rattle.loop_rows.proofs.RowLemmas.{off_on, on_off}
use Rattle.loop_rows.proofs.rows_of_shares.other_kept_streams.Goals as goal

pub returns-clause-forgets : goal.returns-clause-forgets
returns-clause-forgets c m a i j first last o p s = let count : 1 ≡ 2 = s.shares (λ (b : SocketAddr) (x : ShareValue). true) in omega (arith, count)

pub returns-clause-twice : goal.returns-clause-twice
returns-clause-twice c m a j turns o s = let count : 2 ≡ 1 = s.shares (λ (b : SocketAddr) (x : ShareValue). true) in omega (arith, count)

pub returns-clause-unkept : goal.returns-clause-unkept
returns-clause-unkept c m a j turns o off s =
    on_off (sym (first_of_all (IsKept m) (kept_for j.address a (share_value j turns o ∷ []) []) s.kept_are).keeps ∙ off)

pub returns-clause-unasked_bytes : goal.returns-clause-unasked_bytes
returns-clause-unasked_bytes c m a j turns o b bytes s =
    let kept = first_of_all (IsKept m) (kept_for j.address a (share_value j turns o ∷ []) (Came (b ∷ bytes) ∷ [])) s.kept_are in
    came_quiet (b ∷ bytes) (first_of_all IsQuiet (Came (b ∷ bytes)) kept.still)

pub returns-clause-another_address : goal.returns-clause-another_address
returns-clause-another_address c m a j turns o other apart s =
    let x = share_value j turns o in
    let kept = first_of_all (IsKept m) (kept_for other a (x ∷ []) []) s.kept_are in
    apart (sym (first_of_all (λ (y : ShareValue). y.job.address ≡ other) x kept.same))

pub returns-clause-without_share : goal.returns-clause-without_share
returns-clause-without_share c m a address s = (first_of_all (IsKept m) (kept_for address a [] []) s.kept_are).used refl

pub returns-clause-half : goal.returns-clause-half
returns-clause-half c m a j turns s =
    let x = share_value j turns None in
    let kept = first_of_all (IsKept m) (kept_for j.address a (x ∷ []) []) s.kept_are in
    no_some _ (first_of_all (IsWhole m) x kept.shares.whole).outcome_is

pub returns-clause-unwatched : goal.returns-clause-unwatched
returns-clause-unwatched c m a j turns o s =
    off_on (first_of_all (IsKept m) (kept_value (stream_value a (share_value j turns o ∷ []) []) j.address false None 5) s.kept_are).watched

same_first : (x y : ShareValue) (xs ys : List ShareValue) → x ∷ xs ≡ y ∷ ys → x ≡ y
same_first x y xs ys e = cc

-- where two shares are left, the first is whole
first_is_whole : (m : Manner) (x y : ShareValue) (others : List ShareValue) (last : ShareValue) → x ∷ y ∷ [] ≡ others ++ last ∷ [] → All (IsWhole m) others → IsWhole m x
first_is_whole m x y [] last are whole = absurd (omega (arith, ap (λ (l : List ShareValue). length l) are))
first_is_whole m x y (z ∷ others) last are whole = subst (IsWhole m) (sym (same_first x z (y ∷ []) (others ++ last ∷ []) are)) (All-head (IsWhole m) z others whole)

pub returns-clause-behind_none : goal.returns-clause-behind_none
returns-clause-behind_none c m a i j first last p s =
    let x = share_value i first None in
    let y = share_value j last p in
    let left = first_of_all (IsLeft m) (stream_value a (x ∷ y ∷ []) []) s.left_are in
    no_some _ (first_is_whole m x y left.others left.last left.before_are left.shares.whole).outcome_is

pub returns-clause-written : goal.returns-clause-written
returns-clause-written c m a j turns o b bytes s =
    let left = first_of_all (IsLeft m) (stream_value a (share_value j turns o ∷ []) (Went (b ∷ bytes) ∷ [])) s.left_are in
    omega (arith, ap (λ (l : List ℕ). length l) left.unwritten)

pub returns-clause-unread : goal.returns-clause-unread
returns-clause-unread c m a j turns o s =
    on_off (first_of_all (IsKept m) (kept_value (stream_value a (share_value j turns o ∷ []) []) j.address true (Some (3, true)) 5) s.kept_are).unread
