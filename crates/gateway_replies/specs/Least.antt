-- The least deadline of the contexts of calls and of their branches that have not ended.
use Rattle.std.specs.Prelude.{ℕ, is_none, if◌then◌else◌, List, map, Option, None, Some}
use Rattle.gateway_model.specs.Past.{least_of, smaller}
use Rattle.gateway_replies.specs.Contexts.{LifeValue, TimedBranch}

abbrev pub branch_deadline : TimedBranch → Option ℕ
branch_deadline b = if is_none b.ended then Some b.deadline else None

abbrev pub life_deadline : LifeValue → Option ℕ
life_deadline l = smaller (if is_none l.ended then l.deadline else None) (least_of (map branch_deadline l.branches))

-- that of all calls; none where none has one
abbrev pub first_deadline : List LifeValue → Option ℕ
first_deadline calls = least_of (map life_deadline calls)
