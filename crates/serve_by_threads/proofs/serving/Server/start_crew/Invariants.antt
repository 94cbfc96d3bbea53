use Rattle.std.proofs.Common.{◌<◌, ◌+◌, ◌≡◌}
use Rattle.serve_by_threads.proofs.serving.Server.start_crew.Given as goal

-- a part of each ledger is left for each worker that is still to start, and one more
abbrev pub invariant-loop-worker : goal.invariant-loop-worker
invariant-loop-worker g l = (l.workers < l.shares.jobs.parts + l._worker) × (l.workers < l.shares.results.parts + l._worker) × (l.shares.bytes ≡ l.initial.shares.bytes)
