use Rattle.std.proofs.Common.{◌++◌, ◌∙◌, ap}
use Rattle.std.proofs.lemmas.Result.{IfOk-weaker}
use Rattle.json.specs.Lex.{tokens}
use Rattle.json.specs.Print.{print}
use Rattle.access_log.proofs.MembersLemmas.{text_is, reads_back}
use Rattle.access_log.proofs.members.finish.Goals as goal

pub returns-in-Ok-clause-text : goal.returns-in-Ok-clause-text
returns-in-Ok-clause-text c =
    IfOk-weaker c.from_str.result _ _
    (λ line same ms h. same ∙ c.in-Ok.ensures.0 ∙ c.as_slice.ensures.value ∙ c.into_inner-bytes.ensures.items
    ∙ text_is ms c.args.out c.end_object.new.self h c.in_ok-end_object.ensures.room.0 c.in_ok-end_object.ensures.ok)
    c.from_str.ensures.ok

pub returns-in-Ok-clause-reads_back : goal.returns-in-Ok-clause-reads_back
returns-in-Ok-clause-reads_back c =
    IfOk-weaker c.from_str.result _ _
    (λ line same ms h sorted. reads_back ms c.args.out c.end_object.new.self h c.in_ok-end_object.ensures.ok sorted _
    (ap tokens (same ∙ c.in-Ok.ensures.0 ∙ c.as_slice.ensures.value ∙ c.into_inner-bytes.ensures.items
    ∙ ap (λ b. b ++ print c.end_object.new.self.tokens) (c.in_ok-end_object.ensures.room.0 ∙ h.before))
    ∙ c.into_inner-bytes.ensures.reads_back))
    c.from_str.ensures.ok
