-- What the hooks kept are, in the words of Hooks.
use Rattle.std.specs.Prelude.{◌≡◌, ◌+◌, ◌<◌, ◌≤◌, List, length}
use Rattle.std.specs.VecDeque.{deque_len, deque_capacity}
use Rattle.after_funcs.specs.declared.callbacks.AfterFuncs.{AfterFuncs}
use Rattle.after_funcs.specs.Hooks.{Operation, registered, waiting, due}

-- these hooks are what those operations leave, and nothing else is kept
pub record StandsFor {H : Type 0} (funcs : AfterFuncs H) (past : List (Operation H)) : Type 0 where
  pub waiting_is : funcs.waiting.items ≡ waiting past
  pub due_is : funcs.due.items ≡ due past
  pub registered_is : funcs.registered ≡ registered past

-- a hook is due
abbrev pub HasDue : {H : Type 0} → AfterFuncs H → Type 0
HasDue funcs = 0 < length funcs.due.items

-- the same hooks, in the same places
pub record IsUnchanged {H : Type 0} (old new : AfterFuncs H) : Type 0 where
  pub waiting_stay : new.waiting.items ≡ old.waiting.items
  pub due_stay : new.due.items ≡ old.due.items
  pub registered_stay : new.registered ≡ old.registered

-- There is room for one hook more, to wait and to become due behind all others, so that nothing has to grow.
pub record HasRoom {H : Type 0} (funcs : AfterFuncs H) : Type 0 where
  pub to_wait : deque_len funcs.waiting < deque_capacity funcs.waiting
  pub to_be_due : deque_len funcs.due + (deque_len funcs.waiting + 1) ≤ deque_capacity funcs.due
