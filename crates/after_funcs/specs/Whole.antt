-- What becomes of hooks over a whole list of operations, newest first.
use Rattle.std.specs.Prelude.{◌≡◌, Bool, false, if◌then◌else◌, List, [], ◌∷◌, ◌++◌, filter, take}
use Rattle.std.specs.List.{list_any}
use Rattle.after_funcs.specs.declared.registration.Registration.{Registration}
use Rattle.after_funcs.specs.Hooks.{Operation, AfterFunc, Fire, RunNext, Stop, registered, next, is_on, is_named, waiting, due}

-- the hooks that were called, in that order
abbrev pub called : {H : Type 0} → List (Operation H) → List (Registration H)
called [] = []
called (AfterFunc ctx done hook ∷ past) = called past
called (Fire ctx ∷ past) = called past
called (RunNext ∷ past) = called past ++ take 1 (due past)
called (Stop id ∷ past) = called past

-- the hooks that were stopped, and so dropped uncalled
abbrev pub stopped : {H : Type 0} → List (Operation H) → List (Registration H)
stopped [] = []
stopped (AfterFunc ctx done hook ∷ past) = stopped past
stopped (Fire ctx ∷ past) = stopped past
stopped (RunNext ∷ past) = stopped past
stopped (Stop id ∷ past) = stopped past ++ filter (is_named id) (waiting past)

-- the hooks that became due by each operation, one operation after the other
abbrev pub became_due : {H : Type 0} → List (Operation H) → List (Registration H)
became_due [] = []
became_due (AfterFunc ctx done hook ∷ past) = became_due past ++ (if done then next ctx hook past else [])
became_due (Fire ctx ∷ past) = became_due past ++ filter (is_on ctx) (waiting past)
became_due (RunNext ∷ past) = became_due past
became_due (Stop id ∷ past) = became_due past

-- the operation ends the waiting of that hook: a fire of its context, or its stop
abbrev pub ends_waiting : {H : Type 0} → Registration H → Operation H → Bool
ends_waiting r (AfterFunc ctx done hook) = false
ends_waiting r (Fire ctx) = is_on ctx r
ends_waiting r RunNext = false
ends_waiting r (Stop id) = is_named id r

-- The hook was registered without `done`, and nothing since then ended its waiting.
pub record HasWaitedSince {H : Type 0} (r : Registration H) (past : List (Operation H)) : Type 0 where
  pub later : List (Operation H)
  pub earlier : List (Operation H)
  pub splits : past ≡ later ++ AfterFunc r.ctx false r.hook ∷ earlier
  pub number_is : r.id ≡ registered earlier
  pub still : list_any (ends_waiting r) later ≡ false
