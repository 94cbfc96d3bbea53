use Rattle.std.proofs.Common.{◌≡◌, ◌++◌, ◌∙◌, sym, subst, take}
use Rattle.admin.specs.Asked.{IsAskedBy, ByRequest, ByRefusal}
use Rattle.admin.proofs.AskedLemmas.{asked_by, refused_by}
use Rattle.admin.proofs.asked.take_in.Goals as goal

pub returns-in-Refused : goal.returns-in-Refused
returns-in-Refused c bytes has =
    ByRefusal c.in_ok-push.field-0 c.in-Refused.refusal
    (refused_by c.push.new.self (bytes ++ take c.in_ok-push.field-0 c.args.piece.now) c.in-Refused.refusal (c.in_ok-push.ensures.reads bytes _ has)
    (sym c.state.ensures ∙ c.in-Refused.is))

pub returns-in-Some : goal.returns-in-Some
returns-in-Some c bytes has =
    subst (λ asked. IsAskedBy c.args.door bytes c.args.piece.now asked) (sym c.asked_of.ensures)
    (ByRequest c.in_ok-push.field-0 c.in-Some.request
    (asked_by c.push.new.self (bytes ++ take c.in_ok-push.field-0 c.args.piece.now) c.in-Some.request (c.in_ok-push.ensures.reads bytes _ has)
    c.in-Some.ensures.gives))
