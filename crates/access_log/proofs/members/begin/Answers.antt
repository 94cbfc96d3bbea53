use Rattle.std.proofs.Common.{◌∙◌, ◌∷◌, ◌++◌, [], ap}
use Rattle.json.specs.Token as token
use Rattle.access_log.proofs.members.begin.Goals as goal

pub returns : goal.returns
returns c = record {
  before = c.in_ok-begin_object.ensures.room.0 ∙ c.new-out.ensures.before ∙ c.in_ok-with_capacity.ensures.items;
  tokens = c.in_ok-begin_object.ensures.ok ∙ ap (λ ts. ts ++ token.begin_object ∷ []) c.new-out.ensures.tokens;
  leaves = tt;
}
