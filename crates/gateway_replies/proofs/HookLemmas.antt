-- The hooks of connections and of calls, beside their contexts.
use Rattle.gateway_replies.proofs.Names.{◌≡◌, ℕ, ◌<◌, zero, suc, refl, sym, ap, ◌∙◌, List, [], ◌∷◌, ◌++◌, append-nil, Option, Some, None, true, false, ⊎_elim, inr, subst, length, arith, ◌⊎◌, IfNone, IfOk, IfSome, OnErr, OnOk, Result, Ok, Err, ◌==◌, not, if◌then◌else◌, filter, slice_set, slice_index_or, list_any, cases_Bool, eqb-true, or_parts, map_push, All-head, All-tail, same_Some, Id, same, WithHooks, with_standing, ctx_for, first_of, hook_for, CallId, is_call, all_stay, ending_for, option_map, option_map_or, Peer, names_in, AllContexts, CallContext, ContextsValue, ctx_of, BringsHooks, Called, DropsHooks, GivesBytes, HookedContexts, Hooks, KeepsHooks, LosesHook, KeepsStocks, Stocks, TakesHook, hook_of, hooked, hooks_but, hooks_of_others, stock_in, stock_of, AreHooked, Takes, hooks_of, peer_ties, stock_tie, stock_ties, nat_tests}
use Rattle.gateway_replies.specs.Hooks.{MayLoseHook}
use Rattle.std.specs.Prelude.{option_and_then}
use Rattle.connect_codec.specs.Reply.{error_reply}
use Rattle.error_document.specs.declared.document.RpcError.{RpcError}
use Rattle.gateway_model.specs.CallRecord.{CallRecord, last_event}
use Rattle.gateway_model.specs.Duty.{MeetsDuty}
use Rattle.gateway_model.specs.Errors.{cause_error, cause_of, ending_error, error_of}
use Rattle.gateway_model.specs.Queue.{call_reply}
use Rattle.gateway_model.specs.Reply.{reply_of}
use Rattle.gateway_model.specs.declared.call_event.CallEvent.{CallEvent}
use Rattle.gateway_model.specs.declared.ending.EndCause.{EndCause}
use Rattle.gateway_theory.specs.Endings.{ending_with}
use Rattle.gateway_theory.specs.Replies.{joined_reply}
use Rattle.gateway_replies.specs.Ties.{AreOthers}
use Rattle.http_pieces.specs.Request.{most_requests}
use Rattle.std.specs.declared.alloc.AllocError.{AllocError}
use Rattle.gateway_model.specs.declared.ending.Ending.{Ending}
use Rattle.gateway_replies.specs.declared.contexts.cancelled.CancelledBy.{CancelledBy}
use Rattle.gateway_replies.proofs.ListLemmas.{filter_map_both}
use Rattle.gateway_replies.proofs.PeerLemmas.{first_same, rest_same}
use Rattle.gateway_replies.proofs.ContextLemmas.{Agree, no_ctx_for}

-- ---- the hooks of calls

module _ {V H : Type 0} where
  -- one that is not there has no hook
  none_hooked : (id : CallId) (cs : List (CallContext V)) (hs : List (Id × H)) → list_any (λ c. is_call c.name id) cs ≡ false → list_any (λ h. is_call h.0 id) (hooks_of (names_in cs) hs) ≡ false
  none_hooked id [] hs none = refl
  none_hooked id (c ∷ cs) [] none = refl
  none_hooked id (c ∷ cs) (h ∷ hs) none =
      let two = or_parts (is_call c.name id) (list_any (λ d. is_call d.name id) cs) none in
      rw two.0 (none_hooked id cs hs two.1)

  -- a call begins with a hook
  pub hooks_more : (cs : List (CallContext V)) (hs : List (Id × H)) (i : CallId) (h : Id × H) → AreHooked cs hs
      → hooks_of (names_in cs ++ i ∷ []) (hs ++ h ∷ []) ≡ hooks_of (names_in cs) hs ++ (i, h.1) ∷ []
  hooks_more [] [] l h hooked = refl
  hooks_more [] (k ∷ hs) l h hooked = cc
  hooks_more (c ∷ cs) [] l h hooked = cc
  hooks_more (c ∷ cs) (k ∷ hs) l h hooked = ap (λ xs. (c.name, k.1) ∷ xs) (hooks_more cs hs l h (rest_same _ _ _ _ hooked))

  -- without the call
  pub hooks_less : (cs : List (CallContext V)) (hs : List (Id × H)) (id : CallId) (x : Id) → AreHooked cs hs → Agree id x cs
      → hooks_of (names_in (filter (λ c. not (same c.id x)) cs)) (filter (λ h. not (same h.0 x)) hs) ≡ hooks_but id (hooks_of (names_in cs) hs)
  hooks_less [] hs id x hooked all = refl
  hooks_less (c ∷ cs) [] id x hooked all = cc
  hooks_less (c ∷ cs) (h ∷ hs) id x hooked all =
      let here : same c.id x ≡ is_call c.name id = All-head (λ (d : CallContext V). same d.id x ≡ is_call d.name id) c cs all in
      let there : same h.0 x ≡ is_call c.name id = ap (λ z. same z x) (first_same _ _ _ _ hooked) ∙ here in
      let rest = hooks_less cs hs id x (rest_same _ _ _ _ hooked) (All-tail (λ (d : CallContext V). same d.id x ≡ is_call d.name id) c cs all) in
      ⊎_elim
      (λ (y : is_call c.name id ≡ true). let c_is : same c.id x ≡ true = here ∙ y in let h_is : same h.0 x ≡ true = there ∙ y in rw (y, c_is, h_is) rest)
      (λ (n : is_call c.name id ≡ false).
      let c_is : same c.id x ≡ false = here ∙ n in
      let h_is : same h.0 x ≡ false = there ∙ n in
      rw (n, c_is, h_is) (ap (λ k. (c.name, h.1) ∷ k) rest))
      (cases_Bool (is_call c.name id))

  -- the hook on the context of a call is the call's
  pub its_hook : (cs : List (CallContext V)) (hs : List (Id × H)) (id : CallId) (x : Id) → AreHooked cs hs → Agree id x cs → hook_for x hs ≡ hook_of id (hooks_of (names_in cs) hs)
  its_hook [] [] id x hooked all = refl
  its_hook [] (h ∷ hs) id x hooked all = cc
  its_hook (c ∷ cs) [] id x hooked all = cc
  its_hook (c ∷ cs) (h ∷ hs) id x hooked all =
      let here : same h.0 x ≡ is_call c.name id = ap (λ z. same z x) (first_same _ _ _ _ hooked) ∙ All-head (λ (d : CallContext V). same d.id x ≡ is_call d.name id) c cs all in
      rw here (ap (λ o. if is_call c.name id then Some h.1 else o)
      (its_hook cs hs id x (rest_same _ _ _ _ hooked) (All-tail (λ (d : CallContext V). same d.id x ≡ is_call d.name id) c cs all)))

  -- a call that has no hook loses none
  pub no_hook_but : (id : CallId) (cs : List (CallContext V)) (hs : List (Id × H)) → list_any (λ c. is_call c.name id) cs ≡ false → hooks_of (names_in cs) hs ≡ hooks_but id (hooks_of (names_in cs) hs)
  no_hook_but id cs hs none = sym (all_stay (λ (k : CallId × H). is_call k.0 id) (hooks_of (names_in cs) hs) (none_hooked id cs hs none))

module _ {H : Type 0} where
  -- without one of the connection's calls the hooks of others are the same
  pub same_hooks : (number : ℕ) (id : CallId) (hooks : Hooks H) → (id.conn == number) ≡ true → hooks_of_others number (hooks_but id hooks) ≡ hooks_of_others number hooks
  same_hooks number id [] its = refl
  same_hooks number id (h ∷ hs) its = grind (arith, same_hooks number id hs its)

  -- of a connection without calls none has a hook
  pub hooks_stay : {V : Type 0} (number : ℕ) (cs : List (CallContext V)) (hs : List (Id × H)) → first_of number cs ≡ None → hooks_of (names_in cs) hs ≡ hooks_of_others number (hooks_of (names_in cs) hs)
  hooks_stay number [] hs none = refl
  hooks_stay number (c ∷ cs) [] none = refl
  hooks_stay number (c ∷ cs) (h ∷ hs) none = grind (arith, hooks_stay number cs hs)

-- ---- the hooks that connections have

module _ {H : Type 0} where
  -- the one at that place has other hooks then
  pub stock_set : (number i : ℕ) (ps : List (Peer H)) (p q : Peer H) → i < length ps → p ≡ slice_index_or ps i p → (p.number == number) ≡ true → q.number ≡ p.number → AreOthers number i ps
      → (stock_of number (stock_ties ps) ≡ p.stock.items) × (stock_of number (stock_ties (slice_set ps i q)) ≡ q.stock.items) × KeepsStocks number (stock_ties ps) (stock_ties (slice_set ps i q))
  stock_set number i [] p q low is its same others = absurd (omega (arith, low))
  stock_set number zero (r ∷ ps) p q low is its same others = grind arith
  stock_set number (suc i) (r ∷ ps) p q low is its same others = grind (arith, stock_set number i ps p q)

  set_same : (i : ℕ) (ps : List (Peer H)) (p q : Peer H) → p ≡ slice_index_or ps i p → q.number ≡ p.number → q.stock.items ≡ p.stock.items → stock_ties (slice_set ps i q) ≡ stock_ties ps
  set_same i [] p q is number_is stock_is = refl
  set_same zero (r ∷ ps) p q is number_is stock_is = ap (λ n. (n, q.stock.items) ∷ stock_ties ps) number_is ∙ ap (λ s. (p.number, s) ∷ stock_ties ps) stock_is ∙ ap (λ (z : Peer H). stock_ties (z ∷ ps)) is
  set_same (suc i) (r ∷ ps) p q is number_is stock_is = ap (λ ss. stock_tie r ∷ ss) (set_same i ps p q is number_is stock_is)

  -- the first hook of the one at that place is taken
  pub taken_at : (number i : ℕ) (ps : List (Peer H)) (p q : Peer H) (r : Option H) → i < length ps → p ≡ slice_index_or ps i p → (p.number == number) ≡ true → q.number ≡ p.number
      → AreOthers number i ps → IfSome r (λ h. p.stock.items ≡ h ∷ q.stock.items) → IfNone r ((p.stock.items ≡ []) × (q.stock.items ≡ [])) → Takes number r (stock_ties ps) (stock_ties (slice_set ps i q))
  taken_at number i ps p q r h6 h7 h8 h9 h10 h11 h12 = grind (arith, nat_tests, stock_set, set_same)

  -- none is of that number
  pub no_stock : (number : ℕ) (ps : List (Peer H)) → AreOthers number (length ps) ps → stock_of number (stock_ties ps) ≡ []
  no_stock number [] others = refl
  no_stock number (p ∷ ps) others = rw others.0 (no_stock number ps others.1)

  pub stocks_less : (number : ℕ) (ps : List (Peer H)) → stock_ties (filter (λ p. not (p.number == number)) ps) ≡ filter (λ s. not (s.0 == number)) (stock_ties ps)
  stocks_less number ps = filter_map_both (λ (s : ℕ × List H). not (s.0 == number)) stock_tie ps

  -- a connection that is not there takes no hooks along
  pub stocks_stay : (number : ℕ) (ps : List (Peer H)) → list_any (λ (s : ℕ × List H). s.0 == number) (stock_ties ps) ≡ false → stock_ties ps ≡ filter (λ s. not (s.0 == number)) (stock_ties ps)
  stocks_stay number ps none = sym (all_stay (λ (s : ℕ × List H). s.0 == number) (stock_ties ps) none)

-- ---- a connection's stock, if it has one

module _ {H : Type 0} where
  stock_is : (number : ℕ) (ss : Stocks H) (stock : List H) → stock_in number ss ≡ Some stock → stock_of number ss ≡ stock
  stock_is number [] stock is = absurd (let clash : None ≡ Some stock = is in cc)
  stock_is number (s ∷ ss) stock is = grind (arith, stock_is number ss stock)

  pub no_stock_in : (number : ℕ) (ps : List (Peer H)) → ctx_of number (peer_ties ps) ≡ None → stock_in number (stock_ties ps) ≡ None
  no_stock_in number [] none = refl
  no_stock_in number (p ∷ ps) none = grind (arith, no_stock_in number ps)

  pub has_stock : (number : ℕ) (ps : List (Peer H)) (x : Id) → ctx_of number (peer_ties ps) ≡ Some x → stock_in number (stock_ties ps) ≡ Some (stock_of number (stock_ties ps))
  has_stock number [] x is = absurd (let clash : None ≡ Some x = is in cc)
  has_stock number (p ∷ ps) x is = grind (arith, has_stock number ps x)

  pub has_its_stock : (number : ℕ) (ps : List (Peer H)) → (ctx_of number (peer_ties ps) ≡ None → ⊥) → stock_in number (stock_ties ps) ≡ Some (stock_of number (stock_ties ps))
  has_its_stock number ps known = by (ctx_of number (peer_ties ps)) refl
    where
      by : (o : Option Id) → ctx_of number (peer_ties ps) ≡ o → stock_in number (stock_ties ps) ≡ Some (stock_of number (stock_ties ps))
      by None none = absurd (known none)
      by (Some x) is = has_stock number ps x is

  -- connections with the same contexts have stocks alike
  there_too : (number : ℕ) (ps qs : List (Peer H)) (stock : List H) → peer_ties qs ≡ peer_ties ps → stock_in number (stock_ties qs) ≡ Some stock
      → stock_in number (stock_ties ps) ≡ Some (stock_of number (stock_ties ps))
  there_too number ps qs stock ties is = grind (arith, nat_tests, has_stock, no_stock_in)

  pub takes_at_most : (number : ℕ) (r : Option H) (ps qs : List (Peer H)) → peer_ties qs ≡ peer_ties ps → Takes number r (stock_ties ps) (stock_ties qs) → (other : ℕ) (stock : List H)
      → stock_in other (stock_ties qs) ≡ Some stock
      → (stock_in other (stock_ties ps) ≡ Some stock) ⊎ ((other ≡ number) × ((hook : H) × (stock_in other (stock_ties ps) ≡ Some (hook ∷ stock))))
  takes_at_most number r ps qs h4 h5 other stock h8 = grind (arith, nat_tests, eqb-true, stock_is, there_too)

  -- a connection that is not there has none
  pub no_stock_yet : (number : ℕ) (ps : List (Peer H)) → list_any (λ (p : ℕ × Id). p.0 == number) (peer_ties ps) ≡ false → stock_in number (stock_ties ps) ≡ None
  no_stock_yet number [] none = refl
  no_stock_yet number (p ∷ ps) none =
      let two = or_parts (p.number == number) (list_any (λ (q : ℕ × Id). q.0 == number) (peer_ties ps)) none in
      rw two.0 (no_stock_yet number ps two.1)

  pub takes_most : {log : Called} (u : HookedContexts H) (x : ContextsValue) (ps qs : List (Peer H)) (hs : Hooks H) (number : ℕ) (r : Option H) → hooked x (stock_ties ps) hs log ≡ u → peer_ties qs ≡ peer_ties ps
      → Takes number r (stock_ties ps) (stock_ties qs) → (other : ℕ) (stock : List H) → stock_in other (stock_ties qs) ≡ Some stock
      → (stock_in other u.stocks ≡ Some stock) ⊎ ((other ≡ number) × ((hook : H) × (stock_in other u.stocks ≡ Some (hook ∷ stock))))
  takes_most u x ps qs hs number r u_is ties takes other stock there = grind (arith, nat_tests, takes_at_most)

-- ---- what becomes of them, as the code keeps them

module _ {H : Type 0} where
  pub keeps : {log : Called} (u : HookedContexts H) (x y : ContextsValue) (ps : List (Peer H)) (ls ms : List CallId) (hs is : List (Id × H)) → hooked x (stock_ties ps) (hooks_of ls hs) log ≡ u → ms ≡ ls → is ≡ hs
      → KeepsHooks u (hooked y (stock_ties ps) (hooks_of ms is) log)
  keeps u x y ps ls ms hs is u_is ms_is e = grind arith

  pub brings : {log : Called} (u : HookedContexts H) (x y : ContextsValue) (ps more : List (Peer H)) (p : Peer H) (stock : List H) (ls ms : List CallId) (hs is : List (Id × H)) → hooked x (stock_ties ps) (hooks_of ls hs) log ≡ u
      → ms ≡ ls → is ≡ hs → more ≡ ps ++ p ∷ [] → p.stock.items ≡ stock → length stock ≡ most_requests → stock_in p.number (stock_ties ps) ≡ None
      → BringsHooks p.number stock u (hooked y (stock_ties more) (hooks_of ms is) log)
  brings u x y ps more p stock ls ms hs is u_is ms_is e more_is stock_is full new = grind (arith, nat_tests, keeps, map_push, stock_is)

  pub takes_one : {V : Type 0} {log : Called} (u : HookedContexts H) (x y : ContextsValue) (ps qs : List (Peer H)) (cs : List (CallContext V)) (ms : List CallId) (hs is : List (Id × H)) (l : CallId × Id) (hook : H)
      → hooked x (stock_ties ps) (hooks_of (names_in cs) hs) log ≡ u → stock_of l.0.conn (stock_ties ps) ≡ hook ∷ stock_of l.0.conn (stock_ties qs) → AreHooked cs hs
      → ms ≡ names_in cs ++ l.0 ∷ [] → is ≡ hs ++ (l.1, hook) ∷ [] → TakesHook l.0 u (hooked y (stock_ties qs) (hooks_of ms is) log)
  takes_one u x y ps qs cs ms hs is l hook u_is first hooked more_is is_is = record {
    hook = hook;
    first = sym (ap (λ (v : HookedContexts H). stock_of l.0.conn v.stocks) u_is) ∙ first;
    hooks_are = ap (λ m. hooks_of m is) more_is ∙ ap (hooks_of (names_in cs ++ l.0 ∷ [])) is_is
        ∙ hooks_more cs hs l.0 (l.1, hook) hooked ∙ ap (λ (v : HookedContexts H). v.hooks ++ (l.0, hook) ∷ []) u_is;
    called_are = ap (λ (v : HookedContexts H). v.called) u_is;
  }

  -- a connection's first hook is taken, and no call begins with it
  pub loses_first : {log : Called} (u : HookedContexts H) (x y : ContextsValue) (ps qs : List (Peer H)) (hs : Hooks H) (number : ℕ) (hook : H) → hooked x (stock_ties ps) hs log ≡ u
      → stock_of number (stock_ties ps) ≡ hook ∷ stock_of number (stock_ties qs) → MayLoseHook number u (hooked y (stock_ties qs) hs log)
  loses_first u x y ps qs hs number hook u_is first = record {
    hooks_are = ap (λ (v : HookedContexts H). v.hooks) u_is;
    called_are = ap (λ (v : HookedContexts H). v.called) u_is;
    stock_is = inr (hook, ap (λ (v : HookedContexts H). stock_of number v.stocks) (sym u_is) ∙ first);
  }

  pub keeps_others : {log : Called} (u : HookedContexts H) (x : ContextsValue) (ps qs : List (Peer H)) (hs : Hooks H) (number : ℕ) → hooked x (stock_ties ps) hs log ≡ u
      → KeepsStocks number (stock_ties ps) (stock_ties qs) → KeepsStocks number u.stocks (stock_ties qs)
  keeps_others u x ps qs hs number u_is keeps = λ other ne. keeps other ne ∙ ap (λ (v : HookedContexts H). stock_of other v.stocks) u_is

  -- and these are called
  pub drops_one : {V : Type 0} {log later : Called} (more : Called) (u : HookedContexts H) (y z : ContextsValue) (peers : List (Peer H)) (cs left : List (CallContext V)) (hs is : List (Id × H)) (id : CallId) (x : Id)
      → hooked y (stock_ties peers) (hooks_of (names_in cs) hs) log ≡ u → AreHooked cs hs → Agree id x cs → left ≡ filter (λ c. not (same c.id x)) cs → is ≡ filter (λ h. not (same h.0 x)) hs
      → later ≡ log ++ more → LosesHook id more u (hooked z (stock_ties peers) (hooks_of (names_in left) is) later)
  drops_one more u y z peers cs left hs is id x u_is hooked all left_is is_is later_is = grind (arith, nat_tests, hooks_less)

  pub drops_none : {V : Type 0} {log : Called} (u : HookedContexts H) (y : ContextsValue) (ss : Stocks H) (cs : List (CallContext V)) (hs : List (Id × H)) (id : CallId)
      → hooked y ss (hooks_of (names_in cs) hs) log ≡ u → ctx_for id cs ≡ None → LosesHook id [] u u
  drops_none u y ss cs hs id u_is none = grind (arith, nat_tests, no_hook_but, no_ctx_for, append-nil)

  pub calls_hook : {V : Type 0} {log : Called} (u : HookedContexts H) (y : ContextsValue) (ss : Stocks H) (cs : List (CallContext V)) (hs : List (Id × H)) (id : CallId) (x : Id) (hook : H)
      → hooked y ss (hooks_of (names_in cs) hs) log ≡ u → AreHooked cs hs → Agree id x cs → hook_of id u.hooks ≡ Some hook → hook_for x hs ≡ Some hook
  calls_hook u y ss cs hs id x hook u_is hooked all its = its_hook cs hs id x hooked all ∙ ap (λ (v : HookedContexts H). hook_of id v.hooks) u_is ∙ its

  -- a connection goes of which no call has a context
  pub drops_its : {V : Type 0} {log : Called} (u : HookedContexts H) (y z : ContextsValue) (peers left : List (Peer H)) (cs : List (CallContext V)) (ms : List CallId) (hs is : List (Id × H)) (number : ℕ)
      → hooked y (stock_ties peers) (hooks_of (names_in cs) hs) log ≡ u → left ≡ filter (λ p. not (p.number == number)) peers → ms ≡ names_in cs → is ≡ hs → first_of number cs ≡ None
      → DropsHooks number u (hooked z (stock_ties left) (hooks_of ms is) log)
  drops_its u y z peers left cs ms hs is number u_is left_is ms_is is_is none = grind (arith, nat_tests, stocks_less, hooks_stay)

  no_peer : (number : ℕ) (peers : List (Peer H)) → ctx_of number (peer_ties peers) ≡ None → list_any (λ (s : ℕ × List H). s.0 == number) (stock_ties peers) ≡ false
  no_peer number [] none = refl
  no_peer number (p ∷ ps) none = grind (arith, no_peer number ps)

  pub drops_nothing : {V : Type 0} {log : Called} (u : HookedContexts H) (y : ContextsValue) (peers : List (Peer H)) (cs : List (CallContext V)) (hs : List (Id × H)) (number : ℕ)
      → hooked y (stock_ties peers) (hooks_of (names_in cs) hs) log ≡ u → ctx_of number (peer_ties peers) ≡ None → first_of number cs ≡ None → DropsHooks number u u
  drops_nothing u y peers cs hs number u_is no_conn none = grind (arith, nat_tests, stocks_stay, no_peer, hooks_stay)

-- where a branch has its context, and where memory was refused, the hooks stay
module _ {V H : Type 0} where
  pub same_hooks_then : {A E : Type 0} (v w : WithHooks CancelledBy V H) (r : Result A E) (standing : AllContexts V) → IfOk r (λ _. w ≡ with_standing standing v) → OnErr r (w ≡ v) → w.hooks ≡ v.hooks
  same_hooks_then v w (Ok a) standing made refused = ap (λ (y : WithHooks CancelledBy V H). y.hooks) made
  same_hooks_then v w (Err e) standing made refused = ap (λ (y : WithHooks CancelledBy V H). y.hooks) refused

-- ---- what the reply to a decided call makes of its hook

pub ok_if : {T E P : Type 0} (r : Result T E) → P → OnOk r P
ok_if (Ok x) p = p
ok_if (Err e) p = tt

module _ {H : Type 0} (gives : H → Ending → Result (List ℕ) AllocError → Type 0) (id : CallId) (told : Option Ending) where
  pub gives_told : (ending : Ending) (r : Result (List ℕ) AllocError) (v : HookedContexts H) → Some ending ≡ told
      → ((hook : H) → hook_of id v.hooks ≡ Some hook → gives hook ending r) → IfOk r (λ bytes. GivesBytes gives id told bytes v)
  gives_told ending (Ok bytes) v is gave = λ hook other its told_is. subst (λ e. gives hook e (Ok bytes)) (same_Some ending other (is ∙ told_is)) (gave hook its)
  gives_told ending (Err error) v is gave = tt

  pub gives_none : (r : Result (List ℕ) AllocError) (v : HookedContexts H) → None ≡ told → IfOk r (λ bytes. GivesBytes gives id told bytes v)
  gives_none (Ok bytes) v is = λ hook other its told_is. absurd (let clash : None ≡ Some other = is ∙ told_is in cc)
  gives_none (Err error) v is = tt

-- .. and of its bytes
module _ (call : CallRecord) where
  -- what tells this error, or the answers joined
  abbrev bytes_as : Option RpcError → List ℕ
  bytes_as o = (option_map_or (λ error. reply_of (error_reply error call.last) call.last) o (reply_of (joined_reply call.plan call.events call.last) call.last)).bytes

  error_is : (e : Option CallEvent) → option_and_then (error_of call.plan) e ≡ option_map cause_error (option_and_then (cause_of call.plan) e)
  error_is None = refl
  error_is (Some e) = refl

  error_bytes : (o : Option EndCause) (ending : Ending) → Some ending ≡ option_map (λ cause. ending_with cause call.last) o → error_reply (ending_error ending) ending.last ≡ bytes_as (option_map cause_error o)
  error_bytes None ending is = cc
  error_bytes (Some cause) ending is = ap (λ (e : Ending). error_reply (ending_error e) e.last) (same_Some ending (ending_with cause call.last) is)

  pub bytes_told : (ending : Ending) (r : Result (List ℕ) AllocError) → Some ending ≡ ending_for call → IfOk r (MeetsDuty ending) → IfOk r (λ bytes. bytes ≡ (call_reply call).bytes)
  bytes_told ending (Ok bytes) is met = met ∙ error_bytes (option_and_then (cause_of call.plan) (last_event call.events)) ending is ∙ sym (ap bytes_as (error_is (last_event call.events)))
  bytes_told ending (Err e) is met = tt
