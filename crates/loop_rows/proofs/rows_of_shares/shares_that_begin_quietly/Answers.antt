use Rattle.std.proofs.Common.{◌≡◌, ℕ, List, [], ◌∷◌, ◌++◌, refl}
use Rattle.std.proofs.lemmas.List.Elements.{All-cons, All-nil}
use Rattle.std.specs.Prelude.{All}
use Rattle.wires.specs.Turns.{Came, Quiet, Turn, Went}
use Rattle.loop_rows.proofs.QuietLemmas.{IsQuiet, came_quiet, first_quiet, parts, second_quiet, went_first}
use Rattle.loop_rows.proofs.rows_of_shares.shares_that_begin_quietly.Goals as goal

came_went : (bytes more : List ℕ) → Came bytes ≡ Went more → ⊥
came_went bytes more e = cc

no_turns : (turn : Turn) (turns : List Turn) → [] ≡ turn ∷ turns → ⊥
no_turns turn turns e = cc

pub returns-clause-quiet : goal.returns-clause-quiet
returns-clause-quiet c bytes after = record { idle = []; first = bytes; after = after; quiet = All-nil IsQuiet; are = refl }

pub returns-clause-twice : goal.returns-clause-twice
returns-clause-twice c bytes after = record { idle = Quiet ∷ []; first = bytes; after = after; quiet = All-cons IsQuiet Quiet [] refl (All-nil IsQuiet); are = refl }

pub returns-clause-unread : goal.returns-clause-unread
returns-clause-unread c bytes after b = went_first bytes after b

pub returns-clause-spoilt : goal.returns-clause-spoilt
returns-clause-spoilt c bytes more after b =
    let went = second_quiet Quiet (Came bytes) (Went more ∷ after) b.idle b.first b.after b.quiet b.are (came_quiet bytes) in came_went bytes went.0 went.1

pub returns-clause-unasked : goal.returns-clause-unasked
returns-clause-unasked c bytes more after b = came_quiet bytes (first_quiet (Came bytes) (Quiet ∷ Went more ∷ after) b.idle b.first b.after b.quiet b.are)

pub returns-clause-untouched : goal.returns-clause-untouched
returns-clause-untouched c b = by_idle b.idle b.quiet b.are
  where
    by_idle : (idle : List Turn) → All IsQuiet idle → Quiet ∷ [] ≡ idle ++ Quiet ∷ Went b.first ∷ b.after → ⊥
    by_idle [] quiet are = no_turns (Went b.first) b.after (parts Quiet Quiet [] (Went b.first ∷ b.after) are).1
    by_idle (t ∷ idle) quiet are = nothing_left idle (parts Quiet t [] (idle ++ Quiet ∷ Went b.first ∷ b.after) are).1
      where
        nothing_left : (xs : List Turn) → [] ≡ xs ++ Quiet ∷ Went b.first ∷ b.after → ⊥
        nothing_left [] e = no_turns Quiet (Went b.first ∷ b.after) e
        nothing_left (x ∷ xs) e = no_turns x (xs ++ Quiet ∷ Went b.first ∷ b.after) e
