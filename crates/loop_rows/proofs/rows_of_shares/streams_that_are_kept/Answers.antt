use Rattle.std.proofs.Common.{◌≡◌, ℕ, List, [], ◌∷◌, Some, arith, refl, sym, ◌∙◌}
use Rattle.std.proofs.lemmas.List.Elements.{All-cons, All-nil}
use Rattle.loop_model.specs.Shares.{IsKept, IsLeft}
use Rattle.loop_model.specs.Streams.{ShareValue, share_value, stream_value}
use Rattle.wires.specs.Turns.{Came, Quiet}
use Rattle.loop_rows.specs.LoopRows.{kept_for}
use Rattle.loop_rows.proofs.ExchangeLemmas.{all_one, no_shares}
use Rattle.loop_rows.proofs.QuietLemmas.{IsQuiet}
use Rattle.loop_rows.proofs.RowLemmas.{on_off}
use Rattle.loop_rows.proofs.ShareRows.{one_whole, some_share, two_whole}
use Rattle.loop_rows.proofs.rows_of_shares.streams_that_are_kept.Goals as goal

abbrev IsOf : List ℕ → ShareValue → Type 0
IsOf address x = x.job.address ≡ address

pub returns-clause-kept : goal.returns-clause-kept
returns-clause-kept c m a j turns o keeps whole =
    let x = share_value j turns (Some o) in record {
      shares = λ p. omega arith;
      kept_are = all_one (IsKept m) (kept_for j.address a (x ∷ []) []) record {
        keeps = keeps;
        used = some_share x [];
        shares = one_whole m x whole;
        same = all_one (IsOf j.address) x refl;
        still = All-nil IsQuiet;
        watched = refl;
        unread = refl;
      };
      left_are = All-nil (IsLeft m);
    }

pub returns-clause-quiet : goal.returns-clause-quiet
returns-clause-quiet c m a j turns o keeps whole =
    let x = share_value j turns (Some o) in record {
      shares = λ p. omega arith;
      kept_are = all_one (IsKept m) (kept_for j.address a (x ∷ []) (Quiet ∷ [])) record {
        keeps = keeps;
        used = some_share x [];
        shares = one_whole m x whole;
        same = all_one (IsOf j.address) x refl;
        still = all_one IsQuiet Quiet refl;
        watched = refl;
        unread = refl;
      };
      left_are = All-nil (IsLeft m);
    }

pub returns-clause-again : goal.returns-clause-again
returns-clause-again c m a i j first last o p keeps same one two quiet =
    let x = share_value i first (Some o) in
    let y = share_value j last (Some p) in record {
      shares = λ q. omega arith;
      kept_are = all_one (IsKept m) (kept_for j.address a (x ∷ y ∷ []) []) record {
        keeps = keeps;
        used = some_share x (y ∷ []);
        shares = two_whole m x y one two quiet;
        same = All-cons (IsOf j.address) x (y ∷ []) same (all_one (IsOf j.address) y refl);
        still = All-nil IsQuiet;
        watched = refl;
        unread = refl;
      };
      left_are = All-nil (IsLeft m);
    }

pub returns-clause-left : goal.returns-clause-left
returns-clause-left c m a i j first last o p keeps one quiet =
    let x = share_value i first (Some o) in
    let y = share_value j last p in record {
      shares = λ q. omega arith;
      kept_are = All-nil (IsKept m);
      left_are = all_one (IsLeft m) (stream_value a (x ∷ y ∷ []) []) record {
        others = x ∷ [];
        last = y;
        before_are = refl;
        shares = one_whole m x one;
        quiet = λ used. quiet;
        unwritten = refl;
        once = λ off. absurd (on_off (sym keeps ∙ off));
      };
    }

pub returns-clause-closed : goal.returns-clause-closed
returns-clause-closed c m a j turns o bytes keeps =
    let x = share_value j turns (Some o) in record {
      shares = λ p. omega arith;
      kept_are = All-nil (IsKept m);
      left_are = all_one (IsLeft m) (stream_value a (x ∷ []) (Quiet ∷ Came bytes ∷ [])) record {
        others = [];
        last = x;
        before_are = refl;
        shares = no_shares m;
        quiet = λ used. absurd (used refl);
        unwritten = refl;
        once = λ off. absurd (on_off (sym keeps ∙ off));
      };
    }

pub returns-clause-under_way : goal.returns-clause-under_way
returns-clause-under_way c m a i j first turns o = record { shares = λ p. omega arith; kept_are = All-nil (IsKept m); left_are = All-nil (IsLeft m) }
