-- A loop: its clients, and the jobs that are asked for.
use Rattle.std.specs.Prelude.{◌≡◌, ◌&&◌, not, if◌then◌else◌, ℕ, true, false, List, [], map, slice_index_or, Option, None, Some, option_map}
use Rattle.std.specs.Str.{bytes_eq}
use Rattle.std.specs.declared.net.socket_addr.SocketAddr.{SocketAddr}
use Rattle.connect_codec.specs.declared.answer.Outcome.{Outcome}
use Rattle.loop_model.specs.Accounts.{AccountsOn, NetworkValue}
use Rattle.gateway_model.specs.Queue.{IsPrefixOf}
use Rattle.loop_model.specs.Asking.{AskingValue, ended_value}
use Rattle.loop_model.specs.Streams.{ClosedValue, KeptValue, StreamValue}
use Rattle.loop_model.specs.declared.manner.Manner.{Manner}
use Rattle.loop_model.specs.Explained.{LoopValue}
use Rattle.loop_model.specs.Found.{FoundValue}
use Rattle.loop_model.specs.Whole.{ContinuesLoop, WholeLoop}
use Rattle.branch_asking.specs.Asking.{AskingState, asked_for, got_by}
use Rattle.gateway_loop.specs.Clients.{Starts}

-- the streams that are kept, those that jobs have left, those that wait for their backends' ends, what was found for names, and the names that
-- are waited for
pub record Beside : Type 0 where
  pub kept : List KeptValue
  pub left : List StreamValue
  pub closing : List ClosedValue
  pub looked_up : List FoundValue
  pub waits : List (List ℕ)

abbrev pub beside : List KeptValue → List StreamValue → List ClosedValue → List FoundValue → List (List ℕ) → Beside
beside kept left closing looked_up waits = record { kept = kept; left = left; closing = closing; looked_up = looked_up; waits = waits }

abbrev pub whole_loop : Manner → LoopValue → List (Option AskingState) → List (AskingState × Option Outcome) → Beside → WholeLoop
whole_loop manner side asking ended beside = record {
  manner = manner;
  side = side;
  asking = map (λ (o : Option AskingState). option_map asked_for o) asking;
  ended = map (λ (e : AskingState × Option Outcome). ended_value (asked_for e.0) e.1) ended;
  kept = beside.kept;
  left = beside.left;
  closing = beside.closing;
  looked_up = beside.looked_up;
  waits = beside.waits;
}

-- it is asked so, and nothing was written to a stream that has not taken a byte
abbrev pub IsMannered : Manner → AskingState → Type 0
IsMannered manner x = (x.manner ≡ manner) × (x.attempt.connected ≡ false → got_by x.attempt.stream ≡ [])

-- .. of all that are asked for
abbrev pub AreMannered : Manner → List (Option AskingState) → Type 0
AreMannered manner asking = (i : ℕ) (x : AskingState) → slice_index_or asking i None ≡ Some x → IsMannered manner x

-- a new loop
pub record StartsLoop (w : WholeLoop) : Type 0 where
  pub side : Starts w.side
  pub none_asked : w.asking ≡ []
  pub none_ended : w.ended ≡ []
  pub none_kept : w.kept ≡ []
  pub none_left : w.left ≡ []
  pub none_closing : w.closing ≡ []
  pub none_found : w.looked_up ≡ []
  pub none_waits : w.waits ≡ []

-- these addresses were found for the name, and are its own if that is the address of its job, and none were known
abbrev pub found_asking : List ℕ → List SocketAddr → AskingValue → AskingValue
found_asking name more x =
    if bytes_eq name x.job.address && not x.known then record x { known = true; found = more } else x

-- What the one continues the other does too; what the network did between is accounted for; and it is told to drain if it was.
pub record Goes (a b : NetworkValue) (v w : WholeLoop) : Type 0 where
  pub on : (u : WholeLoop) → ContinuesLoop u v → ContinuesLoop u w
  pub accounts : AccountsOn 0 [] a b v w
  pub drained : w.side.drained ≡ v.side.drained

-- .. where the network did nothing
abbrev pub GoesAlone : WholeLoop → WholeLoop → Type 0
GoesAlone v w = (a : NetworkValue) → Goes a a v w

-- .. where so many streams were dealt, and this was found and handed in
pub record Admits (dealt : ℕ) (found : List FoundValue) (a b : NetworkValue) (v w : WholeLoop) : Type 0 where
  pub on : (u : WholeLoop) → ContinuesLoop u v → ContinuesLoop u w
  pub accounts : AccountsOn dealt found a b v w
  pub drained : w.side.drained ≡ v.side.drained

-- the same, but for the streams that are kept, and those that were left, of which there may be more
pub record HasLeftMore (v w : WholeLoop) : Type 0 where
  pub rest : w ≡ record v { kept = w.kept; left = w.left }
  pub left : IsPrefixOf v.left w.left

-- .. and for those that wait to be closed
pub record IsToldBeside (v w : WholeLoop) : Type 0 where
  pub rest : w ≡ record v { kept = w.kept; left = w.left; closing = w.closing }
  pub left : IsPrefixOf v.left w.left
