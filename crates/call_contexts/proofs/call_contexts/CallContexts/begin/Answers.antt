use Rattle.call_contexts.proofs.Names.{◌∙◌, ◌++◌, ◌∷◌, [], ap, arith, refl, sym, ◌≡◌, true, is_among, WithHooks, begun, with_call, let_go, Life}
use Rattle.call_contexts.proofs.Seeing.{conn_stands}
use Rattle.call_contexts.proofs.Making.{call_free, call_unmade}
use Rattle.call_contexts.proofs.Beginning.{begun_rises, sound_begun, seen_begun, begun_unheld, is_new, sound_alike, seen_alike, handed_back}
use Rattle.call_contexts.proofs.Indexing.{indexed_back, indexed_push, not_indexed, not_seen}
use Rattle.call_contexts.proofs.Hooking.{hooked_is, pair_is, kept_hooks, more_hooks}
use Rattle.call_contexts.proofs.Lists.{pushed_on, unless_err}
use Rattle.call_contexts.proofs.call_contexts.CallContexts.begin.Goals as goal

pub invariant_of-self-in_default : goal.invariant_of-self-in_default
invariant_of-self-in_default g c =
    let s = c.self.invariant.sound in
    let r = c.in_default.ensures.refused s.laws s.past s.tree_is in
    rw c.reserve.ensures.items (record { sound = sound_alike s.laws s r.later c.make.new.tree r.stands r.alike r.handed_is c.self.inside.hooks s.hooks_are; rising = c.self.invariant.rising; indexed = c.self.invariant.indexed })

pub returns-in_default-clause-unchanged : goal.returns-in_default-clause-unchanged
returns-in_default-clause-unchanged g c =
    let s = c.self.invariant.sound in
    let r = c.in_default.ensures.refused s.laws s.past s.tree_is in
    rw c.reserve.ensures.items
    (pair_is _ _ (seen_alike s.laws s r.later c.make.new.tree r.stands r.alike ∙ ap (λ (v : WithHooks _ _ _). v.standing) c.self.view_is) (ap (λ (v : WithHooks _ _ _). v.hooks) c.self.view_is))

pub invariant_of-self-in-Ok-keep : goal.invariant_of-self-in-Ok-keep
invariant_of-self-in-Ok-keep g c =
    let s = c.self.invariant.sound in
    let l : Life = record { id = c.args.id.now; ctx = c.in-Ok.made.0; holder = c.in-Ok.made.1; conn = c.args.conn; deadline = c.args.deadline; hook = c.in-Ok-keep.hook; twigs = c.new-twigs.result } in
    let there : is_among c.args.conn c.self.inside.conns.items ≡ true = conn_stands c.self.inside.tree.slots c.self.inside.conns.items c.args.conn c.self.view_is refl c.requires.known in
    let fresh = not_seen c.self.inside.tree.slots c.args.id.now c.self.inside.calls.items c.self.view_is refl c.requires.named in
    let grown : c.push_reserved.new.self.items ≡ c.self.inside.calls.items ++ l ∷ [] = pushed_on l c.self.inside.calls.items c.reserve.new.self.items c.push_reserved.new.self.items c.push_reserved.ensures.items c.reserve.ensures.items in
    rw grown (record {
      sound = sound_begun s.laws s l c.new-twigs.ensures c.args.now c.args.request_id c.in-Ok.ensures.held c.make.new.tree there (c.in-Ok.ensures.made s.past s.tree_is) c.args.hook c.keep.new.hooks (c.in-Ok-keep.ensures.hooked s.hooks s.hooks_are) (c.in-Ok-keep.ensures.number s.hooks s.hooks_are);
      rising = begun_rises s.laws s l c.new-twigs.ensures c.args.now c.args.request_id c.in-Ok.ensures.held c.make.new.tree there (c.in-Ok.ensures.made s.past s.tree_is) c.self.invariant.rising;
      indexed = indexed_push l c.self.inside.calls.items c.self.invariant.indexed fresh c.in-Ok-keep.ensures.named;
    })

pub invariant_of-self-in-Err : goal.invariant_of-self-in-Err
invariant_of-self-in-Err g c =
    let s = c.self.invariant.sound in
    let laws = s.laws in
    let made = c.in-Ok.ensures.made s.past s.tree_is in
    let free = call_free laws c.in-Ok.made.0 c.args.conn c.args.deadline c.args.now s.past c.in-Ok.made.1 c.args.request_id c.in-Ok.ensures.held made.contexts.lawful in
    let fresh = not_seen c.self.inside.tree.slots c.args.id.now c.self.inside.calls.items c.self.view_is refl c.requires.named in
    rw c.reserve.ensures.items (record { sound = sound_alike laws s (let_go c.in-Ok.made.0 c.in-Ok.made.1 (with_call c.in-Ok.made.0 c.in-Ok.made.1 c.args.conn c.args.deadline c.args.now c.args.request_id s.past)) c.release.new.tree (c.release.ensures _ made free) (call_unmade laws c.in-Ok.made.0 c.args.conn c.args.deadline c.args.now s.past c.in-Ok.made.1 c.args.request_id c.in-Ok.ensures.held made.contexts.lawful) (handed_back c.in-Ok.made.0 c.args.conn c.args.deadline c.args.now s.past c.in-Ok.made.1 c.args.request_id) c.keep.new.hooks (c.in-Err.ensures.unhooked s.hooks s.hooks_are); rising = c.self.invariant.rising; indexed = indexed_back c.args.id.now c.self.inside.calls.items c.self.invariant.indexed fresh (c.in-Err.ensures.unnamed (not_indexed c.args.id.now c.self.inside.calls.items c.self.invariant.indexed fresh)) })

pub returns-in-Ok-keep-clause-stands : goal.returns-in-Ok-keep-clause-stands
returns-in-Ok-keep-clause-stands g c =
    let s = c.self.invariant.sound in
    let l : Life = record { id = c.args.id.now; ctx = c.in-Ok.made.0; holder = c.in-Ok.made.1; conn = c.args.conn; deadline = c.args.deadline; hook = c.in-Ok-keep.hook; twigs = c.new-twigs.result } in
    let there : is_among c.args.conn c.self.inside.conns.items ≡ true = conn_stands c.self.inside.tree.slots c.self.inside.conns.items c.args.conn c.self.view_is refl c.requires.known in
    let grown : c.push_reserved.new.self.items ≡ c.self.inside.calls.items ++ l ∷ [] = pushed_on l c.self.inside.calls.items c.reserve.new.self.items c.push_reserved.new.self.items c.push_reserved.ensures.items c.reserve.ensures.items in
    rw grown
    (hooked_is (begun c.in-Ok.made.0 c.args.id.now c.args.conn c.args.deadline c.args.now c.args.request_id) c.in-Ok.made.0 c.args.hook c.self.view_is
    (seen_begun s.laws s l c.new-twigs.ensures c.args.now c.args.request_id c.in-Ok.ensures.held c.make.new.tree there (c.in-Ok.ensures.made s.past s.tree_is))
    (more_hooks c.self.inside.hooks c.keep.new.hooks s.hooks s.hooks_are c.in-Ok.made.0 c.args.hook (c.in-Ok-keep.ensures.hooked s.hooks s.hooks_are)))

pub returns-in-Ok-keep-clause-fresh : goal.returns-in-Ok-keep-clause-fresh
returns-in-Ok-keep-clause-fresh g c =
    let s = c.self.invariant.sound in
    let l : Life = record { id = c.args.id.now; ctx = c.in-Ok.made.0; holder = c.in-Ok.made.1; conn = c.args.conn; deadline = c.args.deadline; hook = c.in-Ok-keep.hook; twigs = c.new-twigs.result } in
    let there : is_among c.args.conn c.self.inside.conns.items ≡ true = conn_stands c.self.inside.tree.slots c.self.inside.conns.items c.args.conn c.self.view_is refl c.requires.known in
    rw (← c.self.view_is)
    (is_new s c.in-Ok.made.0 (begun_unheld s.laws s l c.new-twigs.ensures c.args.now c.args.request_id c.in-Ok.ensures.held c.make.new.tree there (c.in-Ok.ensures.made s.past s.tree_is)))

pub returns-in-Err-clause-back : goal.returns-in-Err-clause-back
returns-in-Err-clause-back g c = let s = c.self.invariant.sound in c.in-Err.ensures.back s.hooks s.hooks_are

pub returns-in-Err-clause-unchanged : goal.returns-in-Err-clause-unchanged
returns-in-Err-clause-unchanged g c =
    let s = c.self.invariant.sound in
    let laws = s.laws in
    let made = c.in-Ok.ensures.made s.past s.tree_is in
    let free = call_free laws c.in-Ok.made.0 c.args.conn c.args.deadline c.args.now s.past c.in-Ok.made.1 c.args.request_id c.in-Ok.ensures.held made.contexts.lawful in
    rw c.reserve.ensures.items
    (pair_is _ _
    (seen_alike laws s (let_go c.in-Ok.made.0 c.in-Ok.made.1 (with_call c.in-Ok.made.0 c.in-Ok.made.1 c.args.conn c.args.deadline c.args.now c.args.request_id s.past)) c.release.new.tree (c.release.ensures _ made free)
    (call_unmade laws c.in-Ok.made.0 c.args.conn c.args.deadline c.args.now s.past c.in-Ok.made.1 c.args.request_id c.in-Ok.ensures.held made.contexts.lawful)
    ∙ ap (λ (v : WithHooks _ _ _). v.standing) c.self.view_is)
    (kept_hooks c.self.inside.hooks c.keep.new.hooks s.hooks s.hooks_are (c.in-Err.ensures.unhooked s.hooks s.hooks_are) ∙ ap (λ (v : WithHooks _ _ _). v.hooks) c.self.view_is))

pub invariant_of-self : goal.invariant_of-self
invariant_of-self g c = rw c.reserve.ensures.items c.self.invariant

pub returns-then-is_err : goal.returns-then-is_err
returns-then-is_err g c = record { stands = tt; fresh = tt; back = refl; unchanged = rw c.reserve.ensures.items c.self.view_is }

pub returns-in_default-clause-stands : goal.returns-in_default-clause-stands
returns-in_default-clause-stands g c = tt

pub returns-in_default-clause-fresh : goal.returns-in_default-clause-fresh
returns-in_default-clause-fresh g c = tt

pub returns-in_default-clause-back : goal.returns-in_default-clause-back
returns-in_default-clause-back g c = refl

pub returns-in-Ok-keep-clause-back : goal.returns-in-Ok-keep-clause-back
returns-in-Ok-keep-clause-back g c = tt

pub returns-in-Ok-keep-clause-unchanged : goal.returns-in-Ok-keep-clause-unchanged
returns-in-Ok-keep-clause-unchanged g c = tt

pub returns-in-Err-clause-stands : goal.returns-in-Err-clause-stands
returns-in-Err-clause-stands g c = tt

pub returns-in-Err-clause-fresh : goal.returns-in-Err-clause-fresh
returns-in-Err-clause-fresh g c = tt

pub push_reserved-requires : goal.push_reserved-requires
push_reserved-requires g c = omega (arith, unless_err c.reserve.result (sym c.is_err.ensures.value ∙ c.if-is_err.false) c.reserve.ensures.ok)
