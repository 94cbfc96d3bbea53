use Rattle.branch_asking.proofs.Words.{refl, sym, ◌∙◌}
use Rattle.branch_asking.proofs.BegunLemmas.{no_stream, reuses}
use Rattle.branch_asking.proofs.attempt.Attempt.reuse.Goals as goal

pub returns-in-Bytes-clause-kept : goal.returns-in-Bytes-clause-kept
returns-in-Bytes-clause-kept g c =
    rw (← c.self.view_is)
    (λ none. reuses _ _ c.args.stream.stream c.is_quiet.new.self.stream c.write.new.self.stream c.in-Bytes.first c.request.result.now c.requires.still
    (c.is_quiet.ensures.quiet c.if-not-is_quiet.false) c.in-Bytes.ensures.turns (no_stream c.self.inside.stream (sym c.is_some.ensures ∙ c.if-is_some.false)) refl refl c.request.ensures c.sent.ensures)
