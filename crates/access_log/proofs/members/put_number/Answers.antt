use Rattle.std.proofs.Common.{decimal, refl}
use Rattle.std.proofs.lemmas.Result.{on_ok_weaker}
use Rattle.json.specs.Token as token
use Rattle.serde_json.specs.Data.{number, unsigned}
use Rattle.access_log.proofs.MembersLemmas.{has_more, leaf_number}
use Rattle.access_log.proofs.members.put_number.Goals as goal

pub returns : goal.returns
returns c =
    on_ok_weaker c.u64.result
    (λ e. has_more (number (unsigned c.args.n)) (token.number
    (decimal c.args.n)) c.args.key.now c.args.out.now c.key.new.self c.u64.new.self
    (leaf_number _ c.ranges.n.fits) refl
    (c.in_ok-key.ensures.room.0, c.in_ok-key.ensures.ok) (c.u64.ensures.room.0, e))
    c.u64.ensures.ok
