use Rattle.std.proofs.Common.{◌∙◌, sym, ap, ℕ, List, [], None, slice_index_or}
use Rattle.std.proofs.lemmas.Bool.{ltb-true, ltb-false}
use Rattle.std.proofs.lemmas.List.{get_or_default, get_or_past}
use Rattle.call_plan.specs.declared.branch.Branch.{Branch}
use Rattle.access_log.proofs.told.name_of.Goals as goal

-- where there is none
abbrev nobody : Branch
nobody = record { name = []; address = []; path = []; timeout_ms = None; pass = [] }

abbrev name_in : ℕ → List Branch → List ℕ
name_in i branches = (slice_index_or branches i nobody).name

pub returns-in-Some : goal.returns-in-Some
returns-in-Some c =
    let there = ltb-true _ _ (sym c.in-Some.ensures.lookup.0) in
    c.as_str.ensures
    ∙ ap (λ (b : Branch). b.name) c.in-Some.ensures.lookup.1
    ∙ ap (λ (b : Branch). b.name) (get_or_default c.branches.result.now c.args.branch _ nobody there)
    ∙ ap (name_in c.args.branch) c.branches.ensures.branches

pub returns-in-None : goal.returns-in-None
returns-in-None c =
    let past = ltb-false _ _ (sym c.in-None.ensures.lookup.0) in
    sym (ap (λ (b : Branch). b.name) (get_or_past c.branches.result.now c.args.branch nobody past))
    ∙ ap (name_in c.args.branch) c.branches.ensures.branches
