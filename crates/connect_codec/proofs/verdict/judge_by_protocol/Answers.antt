use Rattle.std.proofs.Common.{sym, ap, ◌∙◌}
use Rattle.connect_codec.specs.declared.verdict.Verdict.TheVariants.{Ask}
use Rattle.connect_codec.proofs.VerdictLemmas.{not_plain, other_version, bad_timeout, bad_body, call}
use Rattle.connect_codec.proofs.verdict.judge_by_protocol.Goals as goal

pub returns-then-not-is_plain : goal.returns-then-not-is_plain
returns-then-not-is_plain c =
    rw (not_plain c.args.request.now (sym (c.is_plain.ensures _ c.field.ensures) ∙ c.if-not-is_plain.true)) c.failure.ensures

pub returns-then-not-is_known_version : goal.returns-then-not-is_known_version
returns-then-not-is_known_version c =
    rw (other_version c.args.request.now (sym (c.is_plain.ensures _ c.field.ensures) ∙ c.if-not-is_plain.false)
    (sym (c.is_known_version.ensures _ c.field-2.ensures) ∙ c.if-not-is_known_version.true)) c.failure-then-not-is_known_version.ensures

pub returns-in_default : goal.returns-in_default
returns-in_default c =
    rw (bad_timeout c.args.request.now _ (sym (c.is_plain.ensures _ c.field.ensures) ∙ c.if-not-is_plain.false)
    (sym (c.is_known_version.ensures _ c.field-2.ensures) ∙ c.if-not-is_known_version.false) (sym (c.read.ensures _ c.field-3.ensures) ∙ c.in_default.is))
    c.failure-in_default.ensures

pub returns-then-not-branch : goal.returns-then-not-branch
returns-then-not-branch c =
    rw (bad_body c.args.request.now _ (sym (c.is_plain.ensures _ c.field.ensures) ∙ c.if-not-is_plain.false)
    (sym (c.is_known_version.ensures _ c.field-2.ensures) ∙ c.if-not-is_known_version.false) (sym (c.read.ensures _ c.field-3.ensures) ∙ c.in-Ok.is)
    (rw (← c.body.ensures) (sym c.in_ok-is_json.ensures ∙ c.if-not-branch.true))) c.failure-then-not-branch.ensures

pub returns : goal.returns
returns c =
    rw (call c.args.request.now _ (sym (c.is_plain.ensures _ c.field.ensures) ∙ c.if-not-is_plain.false)
    (sym (c.is_known_version.ensures _ c.field-2.ensures) ∙ c.if-not-is_known_version.false) (sym (c.read.ensures _ c.field-3.ensures) ∙ c.in-Ok.is)
    (rw (← c.body.ensures) (sym c.in_ok-is_json.ensures ∙ c.if-not-branch.false)))
    (ap (Ask c.in-Ok.timeout) (c.in_ok-request_id.ensures _ c.field-4.ensures))
