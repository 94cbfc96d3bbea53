use Rattle.std.proofs.Common.{refl, true}
use Rattle.std.proofs.lemmas.Result.{on_ok_weaker}
use Rattle.json.specs.Token as token
use Rattle.serde_json.specs.Data.{boolean}
use Rattle.access_log.proofs.MembersLemmas.{has_more, leaf_true}
use Rattle.access_log.proofs.members.put_true.Goals as goal

pub returns : goal.returns
returns c =
    on_ok_weaker c.boolean.result
    (λ e. has_more (boolean true) (token.boolean true) c.args.key.now c.args.out.now c.key.new.self c.boolean.new.self leaf_true refl
    (c.in_ok-key.ensures.room.0, c.in_ok-key.ensures.ok) (c.boolean.ensures.room.0, e))
    c.boolean.ensures.ok
