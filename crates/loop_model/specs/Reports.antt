-- What a loop is told of its streams.
use Rattle.std.specs.Prelude.{ℕ, Bool, true, false, ◌==◌, ◌/◌, ◌%◌, ◌||◌, ◌&&◌, if◌then◌else◌, List, [], ◌∷◌, ◌++◌, slice_index_or, slice_set, is_some, Option, None, option_map}
use Rattle.loop_model.specs.Asking.{AskingValue}
use Rattle.loop_model.specs.Clients.{ClientValue}
use Rattle.loop_model.specs.Whole.{WholeLoop}
use Rattle.wires.specs.Wires.{is_to_read}
use Rattle.wires.specs.declared.ready.Ready.{Ready}

-- the report became known of its stream
abbrev pub told_client : Ready → ClientValue → ClientValue
told_client r x = record x { reported = x.reported ++ r ∷ []; reads = x.reads || is_to_read r; writes = x.writes || r.writable }

-- .. if it has one
abbrev pub told_asking : Ready → AskingValue → AskingValue
told_asking r x = record x {
  reported = if is_some x.stream then x.reported ++ r ∷ [] else x.reported;
  reads = is_some x.stream && (x.reads || is_to_read r);
  writes = is_some x.stream && (x.writes || r.writable);
}

-- whoever is in that place became so
abbrev pub changed_at : {A : Type 0} → (A → A) → ℕ → List (Option A) → List (Option A)
changed_at f i slots = slice_set slots i (option_map f (slice_index_or slots i None))

-- the report was told to that client, or to that job
abbrev pub tell_in : Bool → Ready → WholeLoop → WholeLoop
tell_in true r w = record w { side = record w.side { clients = changed_at (told_client r) (r.token / 2) w.side.clients } }
tell_in false r w = record w { asking = changed_at (told_asking r) (r.token / 2) w.asking }

-- the report was told to the stream of its token: that of a client has twice its place, and that of a job twice its place and one
abbrev pub tell : Ready → WholeLoop → WholeLoop
tell r w = tell_in (r.token % 2 == 0) r w

-- so were these, in order
abbrev pub tell_all : List Ready → WholeLoop → WholeLoop
tell_all [] w = w
tell_all (r ∷ rs) w = tell_all rs (tell r w)
