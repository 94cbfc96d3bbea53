-- What an occurrence makes of the machine, where connections can break at it.
use Rattle.std.specs.Prelude.{◌≡◌, ℕ, ◌&&◌, not, if◌then◌else◌, [], None, is_some}
use Rattle.gateway_model.specs.declared.id.CallId.{CallId}
use Rattle.gateway_model.specs.Occurrence.{Occurrence, Comes, Result}
use Rattle.gateway_model.specs.Past.{is_result_of}
use Rattle.gateway_theory.specs.Step.{Step, has_out}
use Rattle.gateway_theory.specs.Values.{CallState}
use Rattle.gateway_model.specs.declared.seen.Seen.{Seen}
use Rattle.gateway_model.specs.declared.seen.Seen.TheVariants.{Counted, Late, Unknown}

-- the connection of whose calls branches can start at the occurrence
abbrev pub starting_conn : Occurrence → ℕ
starting_conn (Comes c x) = c
starting_conn (Result id i outcome) = id.conn
starting_conn o = 0

-- a call that stays, but for the branch that a result is of
pub record CallStays (id : CallId) (o : Occurrence) (old new : CallState) : Type 0 where
  pub outs_are : (i : ℕ) → has_out new i ≡ (has_out old i && not (is_result_of id i o))

-- a call at an occurrence that nothing follows from: it stays, and neither a reply nor a job comes of it
pub record NothingOf (id : CallId) (o : Occurrence) (c : CallState) (s : Step) : Type 0 where
  pub stays : CallStays id o c s.call
  pub live_is : s.call.live ≡ c.live
  pub no_reply : s.reply ≡ None
  pub no_jobs : s.jobs ≡ []

-- how it is seen by what is kept
abbrev pub seen_by : CallState → ℕ → Seen
seen_by c i = if has_out c i then (if is_some c.live then Counted else Late) else Unknown
