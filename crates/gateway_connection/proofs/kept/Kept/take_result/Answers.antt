use Rattle.gateway_connection.specs.lemmas.Names.{◌≡◌, ◌+◌, ◌++◌, [], ◌∷◌, length, subst, sym, ap, ◌∙◌, ◌==◌, IsLawful, record_of, LiveValue, live_value, KeptValue, has_out, Some, false, result_on, slice_set, arith}
use Rattle.gateway_model.specs.declared.call_event.CallEvent.TheVariants.{Answer as Answered, Failed}
use Rattle.gateway_connection.specs.KeptCall.{live_of}
use Rattle.gateway_theory.specs.lemmas.Knowing.{index_in}
use Rattle.gateway_connection.proofs.KeptLemmas.{room_next, fail_kept, end_step, late_now, late_step, answer_last_kept, answer_going_kept, last_step, going_step}
use Rattle.gateway_connection.proofs.kept.Kept.take_result.Goals as goal

pub returns-in_default : goal.returns-in_default
returns-in_default c =
    late_step c.args.moment c.args.self.now c.self.inside.id c.self.inside.out.items c.args.branch c.self.inside.group c.done.new.self c.self.inside.live c.take-live.new.self
    c.done.result.next c.args.outcome c.self.view_is c.self.invariant (sym c.take-live.ensures.value ∙ c.in_default.is)
    (ap (λ (k : KeptValue). has_out k.call c.args.branch) c.self.view_is ∙ c.requires.out) (ap (λ f. f.next) c.done.ensures.freed) c.take-live.ensures.after

pub invariant_of-self : goal.invariant_of-self
invariant_of-self c =
    late_now c.self.inside.id c.self.inside.out.items c.args.branch c.self.inside.group c.done.new.self c.self.inside.live c.take-live.new.self c.self.invariant
    (ap (λ (k : KeptValue). has_out k.call c.args.branch) c.self.view_is ∙ c.requires.out) c.done.ensures.finishes (sym c.take-live.ensures.value ∙ c.in_default.is) c.take-live.ensures.after

pub invariant_of-self-in-Fail : goal.invariant_of-self-in-Fail
invariant_of-self-in-Fail c =
    fail_kept c.self.inside.id c.self.inside.out.items c.args.branch c.self.inside.group c.clear_queue.new.self c.done-next.new.self c.self.inside.live c.take-live.new.self
    c.self.invariant (ap (λ (k : KeptValue). has_out k.call c.args.branch) c.self.view_is ∙ c.requires.out) c.clear_queue.ensures.cleared c.done-next.ensures.finishes
    c.take-live.ensures.after

pub returns-in-Fail : goal.returns-in-Fail
returns-in-Fail c =
    end_step c.args.moment c.args.self.now c.self.inside.id c.self.inside.out.items c.args.branch (Failed c.args.branch c.in-Fail.error) c.self.inside.group c.clear_queue.new.self c.done-next.new.self
    c.self.inside.live c.take-live.new.self c.in-Some.live c.end.result c.done-next.result.next c.args.outcome c.self.view_is c.self.invariant
    (sym c.take-live.ensures.value ∙ c.in-Some.is) (ap (λ (k : KeptValue). has_out k.call c.args.branch) c.self.view_is ∙ c.requires.out)
    (ap (λ o. result_on c.args.moment c.args.branch o (slice_set c.self.inside.out.items c.args.branch false) (Some (live_of c.self.inside.group.queue c.in-Some.live))) c.in-Fail.is)
    c.clear_queue.ensures.cleared c.end.ensures (ap (λ f. f.next) c.done-next.ensures.freed) c.take-live.ensures.after

pub invariant_of-self-then-is_last_answer : goal.invariant_of-self-then-is_last_answer
invariant_of-self-then-is_last_answer c =
    let lawful : IsLawful c.in-Some.live.asked.plan = subst (λ (l : LiveValue). IsLawful l.asked.plan) c.start.ensures c.is_last_answer.ensures.lawful in
    let last : (length c.in-Some.live.events + 1 == length c.in-Some.live.asked.plan.branches) ≡ c.is_last_answer.result =
    ap (λ (l : LiveValue). length l.events + 1 == length l.asked.plan.branches) (sym c.start.ensures) ∙ sym c.is_last_answer.ensures.last in
    answer_last_kept c.self.inside.id c.self.inside.out.items c.args.branch c.self.inside.group c.done-in-Answer.new.self c.self.inside.live c.take-live.new.self c.in-Some.live
    c.self.invariant (sym c.take-live.ensures.value ∙ c.in-Some.is) (ap (λ (k : KeptValue). has_out k.call c.args.branch) c.self.view_is ∙ c.requires.out) lawful
    (last ∙ c.if-is_last_answer.true) c.done-in-Answer.ensures.finishes c.take-live.ensures.after

pub returns-then-is_last_answer : goal.returns-then-is_last_answer
returns-then-is_last_answer c =
    let lawful : IsLawful c.in-Some.live.asked.plan = subst (λ (l : LiveValue). IsLawful l.asked.plan) c.start.ensures c.is_last_answer.ensures.lawful in
    let last : (length c.in-Some.live.events + 1 == length c.in-Some.live.asked.plan.branches) ≡ c.is_last_answer.result =
    ap (λ (l : LiveValue). length l.events + 1 == length l.asked.plan.branches) (sym c.start.ensures) ∙ sym c.is_last_answer.ensures.last in
    last_step c.args.moment c.args.self.now c.self.inside.id c.self.inside.out.items c.args.branch c.in-Answer.body c.self.inside.group c.done-in-Answer.new.self c.self.inside.live
    c.take-live.new.self c.in-Some.live c.end-then-is_last_answer.result c.done-in-Answer.result.next c.args.outcome c.self.view_is c.self.invariant
    (sym c.take-live.ensures.value ∙ c.in-Some.is) (ap (λ (k : KeptValue). has_out k.call c.args.branch) c.self.view_is ∙ c.requires.out) c.in-Answer.is
    lawful (last ∙ c.if-is_last_answer.true) (c.end-then-is_last_answer.ensures ∙ ap (λ (l : LiveValue). record_of l.asked l.deadlines (l.events ++ Answered c.args.branch c.in-Answer.body ∷ [])) c.start.ensures)
    (ap (λ f. f.next) c.done-in-Answer.ensures.freed) c.take-live.ensures.after

pub invariant_of-self-in-Answer : goal.invariant_of-self-in-Answer
invariant_of-self-in-Answer c =
    answer_going_kept c.args.moment c.self.inside.id c.self.inside.out.items c.mark_out.new.out.items c.args.branch _ c.self.inside.group c.done-in-Answer.new.self c.self.inside.live c.in-Some.live
    c.keep.new.self c.done-in-Answer.result.next c.self.invariant (sym c.take-live.ensures.value ∙ c.in-Some.is)
    (ap (λ (k : KeptValue). has_out k.call c.args.branch) c.self.view_is ∙ c.requires.out) (ap (λ f. f.next) c.done-in-Answer.ensures.freed) c.done-in-Answer.ensures.finishes
    c.mark_out.ensures (c.keep.ensures ∙ ap (λ (l : LiveValue). live_value l.asked (l.events ++ Answered c.args.branch c.in-Answer.body ∷ []) l.deadlines) c.start.ensures)

pub returns-else-is_last_answer : goal.returns-else-is_last_answer
returns-else-is_last_answer c =
    let lawful : IsLawful c.in-Some.live.asked.plan = subst (λ (l : LiveValue). IsLawful l.asked.plan) c.start.ensures c.is_last_answer.ensures.lawful in
    let last : (length c.in-Some.live.events + 1 == length c.in-Some.live.asked.plan.branches) ≡ c.is_last_answer.result =
    ap (λ (l : LiveValue). length l.events + 1 == length l.asked.plan.branches) (sym c.start.ensures) ∙ sym c.is_last_answer.ensures.last in
    going_step c.args.moment c.args.self.now c.self.inside.id c.self.inside.out.items c.mark_out.new.out.items c.args.branch c.in-Answer.body c.self.inside.group c.done-in-Answer.new.self
    c.self.inside.live c.in-Some.live c.keep.new.self c.done-in-Answer.result.next c.args.outcome c.self.view_is c.self.invariant
    (sym c.take-live.ensures.value ∙ c.in-Some.is) (ap (λ (k : KeptValue). has_out k.call c.args.branch) c.self.view_is ∙ c.requires.out) c.in-Answer.is
    (last ∙ c.if-is_last_answer.false) (ap (λ f. f.next) c.done-in-Answer.ensures.freed) c.done-in-Answer.ensures.finishes
    c.mark_out.ensures (c.keep.ensures ∙ ap (λ (l : LiveValue). live_value l.asked (l.events ++ Answered c.args.branch c.in-Answer.body ∷ []) l.deadlines) c.start.ensures)

pub start-requires-clause-room : goal.start-requires-clause-room
start-requires-clause-room c =
    room_next c.self.inside.id c.self.inside.out.items c.args.branch c.self.inside.group c.self.inside.live c.in-Some.live c.done-in-Answer.result.next c.self.invariant
    (sym c.take-live.ensures.value ∙ c.in-Some.is) (ap (λ (k : KeptValue). has_out k.call c.args.branch) c.self.view_is ∙ c.requires.out)
    (ap (λ f. f.next) c.done-in-Answer.ensures.freed)

pub index_mut-requires : goal.index_mut-requires
index_mut-requires c =
    let lt = index_in c.self.inside.out.items c.args.branch (ap (λ (k : KeptValue). has_out k.call c.args.branch) c.self.view_is ∙ c.requires.out) in
    omega (arith, lt)

pub start-requires-clause-moment : goal.start-requires-clause-moment
start-requires-clause-moment c = c.requires.moment
