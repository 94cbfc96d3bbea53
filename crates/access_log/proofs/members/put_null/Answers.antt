use Rattle.std.proofs.Common.{refl}
use Rattle.std.proofs.lemmas.Result.{on_ok_weaker}
use Rattle.json.specs.Token as token
use Rattle.serde_json.specs.Data.{null}
use Rattle.access_log.proofs.MembersLemmas.{has_more, leaf_null}
use Rattle.access_log.proofs.members.put_null.Goals as goal

pub returns : goal.returns
returns c =
    on_ok_weaker c.null.result
    (λ e. has_more null token.null c.args.key.now c.args.out.now c.key.new.self c.null.new.self leaf_null refl
    (c.in_ok-key.ensures.room.0, c.in_ok-key.ensures.ok) (c.null.ensures.room.0, e))
    c.null.ensures.ok
