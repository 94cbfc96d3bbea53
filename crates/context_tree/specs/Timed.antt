-- Which contexts have a timer.
use Rattle.std.specs.Prelude.{◌≡◌, ℕ, ◌≤◌, Bool, true, ◌&&◌, ◌==◌, nat_lt, if◌then◌else◌, is_none, List, [], ◌∷◌, ◌++◌, ◌+◌, Option, Some, None}
use Rattle.std.specs.List.{list_any}
use Rattle.std.specs.Option.{option_map_or}
use Rattle.timer_heap.specs.Timers.{Timer, Timing}
use Rattle.context_tree.specs.declared.node.Kind.{Kind}
use Rattle.context_tree.specs.Context.{Id, TreeOp, makes, held, chain, follows, least, own_deadline, ending}

-- a timer at that time and under that id waits
abbrev pub has_entry : ℕ → ℕ → List Timer → Bool
has_entry at id entries = list_any (λ e. e.at == at && e.id == id) entries

-- the timers with one more under that id, if a time is given
abbrev pub with_timer : Option ℕ → ℕ → Timing → Timing
with_timer None id t = t
with_timer (Some at) id t = record { entries = t.entries ++ record { at = at; id = id } ∷ []; sets = t.sets + 1 }

-- the first time, if it comes before the second or there is no second
abbrev pub if_sooner : Option ℕ → Option ℕ → Option ℕ
if_sooner None above = None
if_sooner (Some at) None = Some at
if_sooner (Some at) (Some above) = if nat_lt at above then Some at else None

module _ {C V : Type 0} where
  -- the deadline of the context that one made in this way follows
  abbrev pub deadline_above : Kind C V → List (TreeOp C V) → Option ℕ
  deadline_above kind past = least (option_map_or (λ p. chain p past) (follows kind) [])

  -- the time at which a context made in this way ends by itself, before the one that it follows does
  abbrev pub time_of : Kind C V → List (TreeOp C V) → Option ℕ
  time_of kind past = if_sooner (own_deadline kind) (deadline_above kind past)

  -- a context in that slot is held, not ended, and ends by itself at that time
  pub record IsTimed (is_live : Id → Bool) (at slot : ℕ) (past : List (TreeOp C V)) : Type 0 where
    pub context : Id
    pub kind : Kind C V
    pub slot_is : context.1 ≡ slot
    pub is_held : held context past ≡ Some kind
    pub live : is_live context ≡ true
    pub ends_at : time_of kind past ≡ Some at

  -- The timers are those of the contexts that are held, live by this test, and end by themselves at some time before
  -- what they follow does, under their slots.
  pub record TimedBy (is_live : Id → Bool) (timers : Timing) (past : List (TreeOp C V)) : Type 0 where
    pub set_are : (x : Id) (kind : Kind C V) (at : ℕ) → held x past ≡ Some kind → is_live x ≡ true → time_of kind past ≡ Some at
        → has_entry at x.1 timers.entries ≡ true
    pub are_set : (at slot : ℕ) → has_entry at slot timers.entries ≡ true → IsTimed is_live at slot past
    pub sets_low : timers.sets ≤ makes past

  -- those of the contexts that are not ended
  abbrev pub Timed : Timing → List (TreeOp C V) → Type 0
  Timed timers past = TimedBy (λ x. is_none (ending x past)) timers past
