use Rattle.gateway_connection.specs.lemmas.Names.{◌≡◌, length, All, ReplyValue, filled_by}
use Rattle.gateway_connection.proofs.connection.Connection.fill_all.Given as goal

-- those that are left fill the slots as all did
pub record FillsLeft (l : goal.Live-loop-reply) : Type 0 where
  pub filled_are : filled_by l.made.items l.self ≡ filled_by l.fn.made.items l.fn.self
  pub own : All (λ (r : ReplyValue). r.id.conn ≡ l.self.number) l.made.items

abbrev pub invariant-loop-reply : goal.invariant-loop-reply
invariant-loop-reply l = FillsLeft l

abbrev pub decreases-loop-reply : goal.decreases-loop-reply
decreases-loop-reply l = length l.made.items
