use Rattle.backend_pool.proofs.Lemmas.{Consumes, IsReading, ℕ, List}
use Rattle.http_pieces.specs.declared.framing.Framing.TheVariants as framing
use Rattle.backend_pool.proofs.remote.receive.Given as goal

-- all bytes that were read were taken: they are no whole reply
abbrev pub invariant-loop-read : goal.invariant-loop-read
invariant-loop-read g l =
    (bytes : List ℕ) × Consumes (g.R.Read.remaining l.fn.reader) (g.R.Read.remaining l.reader) bytes × IsReading framing.Fixed l.exchange.replies bytes
