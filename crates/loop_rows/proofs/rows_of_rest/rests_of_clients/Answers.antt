use Rattle.std.proofs.Common.{◌≡◌, [], ◌∷◌, List, inl, inr, refl, sym, ◌∙◌, ⊎_elim}
use Rattle.std.specs.Prelude.{false, true}
use Rattle.loop_model.specs.Rest.{IsWritten}
use Rattle.loop_rows.specs.LoopRows.{standing_client}
use Rattle.loop_rows.proofs.RowLemmas.{off_on, on_off}
use Rattle.loop_rows.proofs.rows_of_rest.rests_of_clients.Goals as goal

some_not_none : {A : Type 0} (x : A) (xs : List A) → x ∷ xs ≡ [] → ⊥
some_not_none x xs e = cc

pub returns-clause-idle : goal.returns-clause-idle
returns-clause-idle c s until q = record {
  watched = refl;
  written = λ off. inl record { nothing_waits = refl; nothing_untaken = q.nothing_untaken };
  goes_on = λ off w. q.goes_on;
  unread = λ off w goes. refl;
  dropped = λ on. absurd (off_on on);
  limited = λ on. absurd (off_on on);
}

pub returns-clause-full : goal.returns-clause-full
returns-clause-full c s until b rest = record {
  watched = refl;
  written = λ off. inr refl;
  goes_on = λ off w. absurd (some_not_none b rest w.nothing_waits);
  unread = λ off w goes. absurd (some_not_none b rest w.nothing_waits);
  dropped = λ on. absurd (off_on on);
  limited = λ on. absurd (off_on on);
}

pub returns-clause-unwritten : goal.returns-clause-unwritten
returns-clause-unwritten c s until b rest r =
    ⊎_elim (λ (w : IsWritten s (standing_client (b ∷ rest) false true)). some_not_none b rest w.nothing_waits) (λ (full : true ≡ false). on_off full) (r.written refl)

pub returns-clause-untaken : goal.returns-clause-untaken
returns-clause-untaken c s until e rest some r =
    ⊎_elim (λ (w : IsWritten s (standing_client [] false true)). some_not_none e rest (sym some ∙ w.nothing_untaken)) (λ (full : true ≡ false). on_off full) (r.written refl)

pub returns-clause-unread : goal.returns-clause-unread
returns-clause-unread c s until q r = on_off (r.unread refl record { nothing_waits = refl; nothing_untaken = q.nothing_untaken } refl)

pub returns-clause-over : goal.returns-clause-over
returns-clause-over c s until none over r = on_off (sym over ∙ r.goes_on refl record { nothing_waits = refl; nothing_untaken = none })
