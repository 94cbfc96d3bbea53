-- What the making and the release of contexts leave of the others.
use Rattle.call_contexts.proofs.Names.{◌≡◌, refl, sym, ◌∙◌, List, [], ◌∷◌, ◌++◌, Option, Some, None, false, true, arith, map, All, option_and_then, unwrap_or, All-head, All-tail, All-weaker, All-nil, All-cons, Kind, Cancel, Deadline, Value, Id, held, TreeValue, StandsFor, is_among, AfterFuncs, Operation, waiting, due, Life, Twig, cause_in, seen, seen_conn, seen_call, seen_branch, value_in, Op, TreeLaws, Distinct, IsSound, IsLife, IsConn, IsHolder, IsTwig, IsUnhanded, Touches, all_ids, contexts, ids_in, ids_of, kind_of, hook_of, kept_of, twig_ids, nat_tests}
use Rattle.after_funcs.specs.Stands.{StandsFor as HooksStand}
use Rattle.call_contexts.proofs.Distinct.{Far, all_parts}
use Rattle.call_contexts.proofs.Family.{among_in, each_held}
use Rattle.call_contexts.proofs.Trees.{shown, shown_request}
use Rattle.call_contexts.proofs.Seeing.{maps_agree, seen_as, conn_as, call_as, branch_as}
use Rattle.call_contexts.proofs.Lists.{both_all, unmapped}

-- these connections and calls were held, and none of their contexts is among those that are touched
module _ {C V H : Type 0} (laws : TreeLaws C V) {f : AfterFuncs H} {base : Id} {conns : List Id} {calls : List Life} {old : TreeValue C V} (s : IsSound old f base conns calls)
    (ids : List Id) (later : List (Op C V)) (new : TreeValue C V) (st : StandsFor new later) (t : Touches ids s.past later)
    (cs : List Id) (ls : List Life) (cs_are : All (IsConn base s.past) cs) (ls_are : All (IsLife s.past base) ls) (known : All (λ l. is_among l.conn cs ≡ true) ls)
    (far : Far (all_ids s.root base cs ls) ids) where
  abbrev Off : Id → Type 0
  Off x = is_among x ids ≡ false

  keeps : (x : Id) (kind : Kind C V) → held x s.past ≡ Some kind → Off x → held x later ≡ Some kind
  keeps x kind is off = t.held_is x off ∙ is

  pub shows : (x : Id) (kind : Kind C V) → held x s.past ≡ Some kind → Off x → cause_in new.slots x ≡ cause_in old.slots x
  shows x kind is off = shown new later x kind st (keeps x kind is off) ∙ t.ending_is x kind off is ∙ sym (shown old s.past x kind s.tree_is is)

  base_off : Off base
  base_off = All-head Off base (cs ++ ids_in ls) (All-tail Off s.root (base ∷ cs ++ ids_in ls) far)

  root_off : Off s.root
  root_off = All-head Off s.root (base ∷ cs ++ ids_in ls) far

  parts : All Off cs × All Off (ids_in ls)
  parts = all_parts Off cs (ids_in ls) (All-tail Off base (cs ++ ids_in ls) (All-tail Off s.root (base ∷ cs ++ ids_in ls) far))

  each_off : (ms : List Life) → All Off (ids_in ms) → All (λ l. All Off (ids_of l)) ms
  each_off [] all = All-nil (λ l. All Off (ids_of l))
  each_off (m ∷ ms) all = let two = all_parts Off (ids_of m) (ids_in ms) all in All-cons (λ l. All Off (ids_of l)) m ms two.0 (each_off ms two.1)

  conns_held : All (λ c. IsConn base s.past c × Off c) cs
  conns_held = both_all (IsConn base s.past) Off cs cs_are parts.0

  -- what is known of each of the calls
  abbrev Other : Life → Type 0
  Other l = IsLife s.past base l × (All Off (ids_of l) × Off l.conn)

  calls_held : All Other ls
  calls_held = both_all (IsLife s.past base) (λ l. All Off (ids_of l) × Off l.conn) ls ls_are
      (both_all (λ l. All Off (ids_of l)) (λ l. Off l.conn) ls (each_off ls parts.1) (All-weaker (λ l. is_among l.conn cs ≡ true) (λ l. Off l.conn) (λ l k. among_in Off l.conn cs parts.0 k) ls known))

  twigs_off : (l : Life) → All Off (ids_of l) → All (λ t. Off t.ctx) l.twigs
  twigs_off l all = unmapped Off (λ (t : Twig). t.ctx) l.twigs (all_parts Off (contexts l.ctx l.holder) (twig_ids l.twigs) all).1

  ctx_off : (ctx : Id) (holder : Option Id) → All Off (contexts ctx holder) → Off ctx
  ctx_off ctx None all = All-head Off ctx [] all
  ctx_off ctx (Some h) all = All-head Off ctx (h ∷ []) all

  own_off : (l : Life) → All Off (ids_of l) → All Off (contexts l.ctx l.holder)
  own_off l all = (all_parts Off (contexts l.ctx l.holder) (twig_ids l.twigs) all).0

  holder_kept : (ctx conn : Id) (holder : Option Id) → All Off (contexts ctx holder) → IsHolder s.past conn holder → IsHolder later conn holder
  holder_kept ctx conn None all is = tt
  holder_kept ctx conn (Some h) all is = (is.0, keeps h (Value conn 0 is.0) is.1 (All-head Off h [] (All-tail Off ctx (h ∷ []) all)))

  request_seen : (ctx conn : Id) (holder : Option Id) → All Off (contexts ctx holder) → IsHolder s.past conn holder → option_and_then (value_in new.slots) holder ≡ option_and_then (value_in old.slots) holder
  request_seen ctx conn None all is = refl
  request_seen ctx conn (Some h) all is =
      shown_request new later h conn is.0 st (keeps h (Value conn 0 is.0) is.1 (All-head Off h [] (All-tail Off ctx (h ∷ []) all))) ∙ sym (shown_request old s.past h conn is.0 s.tree_is is.1)

  pub conns_kept : All (IsConn base later) cs
  conns_kept = All-weaker (λ c. IsConn base s.past c × Off c) (IsConn base later) (λ c is. keeps c (Cancel base) is.0 is.1) cs conns_held

  pub calls_kept : All (IsLife later base) ls
  calls_kept = All-weaker Other (IsLife later base)
      (λ l is. record {
        call_is = keeps l.ctx (kind_of (unwrap_or l.holder l.conn) l.deadline) is.0.call_is (ctx_off l.ctx l.holder (own_off l is.1.0));
        holder_is = holder_kept l.ctx l.conn l.holder (own_off l is.1.0) is.0.holder_is;
        conn_is = keeps l.conn (Cancel base) is.0.conn_is is.1.1;
        twigs_are = All-weaker (λ t. IsTwig s.past l.ctx t × Off t.ctx) (IsTwig later l.ctx) (λ t t_is. keeps t.ctx (Deadline l.ctx t.at None) t_is.0 t_is.1) l.twigs
            (both_all (IsTwig s.past l.ctx) (λ t. Off t.ctx) l.twigs is.0.twigs_are (twigs_off l is.1.0));
      }) ls calls_held

  pub framed_sound : (f' : AfterFuncs H) (hooks' : List (Operation H)) (cs' : List Id) (ls' : List Life) → HooksStand f' hooks' → All (IsConn base later) cs' → All (IsLife later base) ls'
      → All (λ l. is_among l.conn cs' ≡ true) ls' → ((x : Id) → is_among x (all_ids s.root base cs' ls') ≡ false → held x later ≡ None) → Distinct (all_ids s.root base cs' ls')
      → map hook_of (waiting hooks') ≡ map kept_of ls' → due hooks' ≡ [] → All (IsUnhanded later) ls' → IsSound new f' base cs' ls'
  framed_sound f' hooks' cs' ls' hs conns_are calls_are known_are else_none distinct waits none unhanded = grind (arith, nat_tests, keeps, root_off, base_off)

  calls_seen : map (seen_call new.slots) ls ≡ map (seen_call old.slots) ls
  calls_seen = maps_agree (seen_call new.slots) (seen_call old.slots) ls
      (All-weaker Other (λ l. seen_call new.slots l ≡ seen_call old.slots l)
      (λ l is. call_as new.slots l _ _ _ (request_seen l.ctx l.conn l.holder (own_off l is.1.0) is.0.holder_is)
      (shows l.ctx (kind_of (unwrap_or l.holder l.conn) l.deadline) is.0.call_is (ctx_off l.ctx l.holder (own_off l is.1.0)))
      (maps_agree (seen_branch new.slots) (seen_branch old.slots) l.twigs
      (All-weaker (λ t. IsTwig s.past l.ctx t × Off t.ctx) (λ t. seen_branch new.slots t ≡ seen_branch old.slots t)
      (λ t t_is. branch_as new.slots t _ (shows t.ctx (Deadline l.ctx t.at None) t_is.0 t_is.1)) l.twigs
      (both_all (IsTwig s.past l.ctx) (λ t. Off t.ctx) l.twigs is.0.twigs_are (twigs_off l is.1.0))))) ls calls_held)

  pub all_seen : seen new.slots base cs ls ≡ seen old.slots base cs ls
  all_seen = seen_as new.slots base cs ls _ _ _ (shows base (Cancel s.root) s.base_is base_off)
      (maps_agree (seen_conn new.slots) (seen_conn old.slots) cs
      (All-weaker (λ c. IsConn base s.past c × Off c) (λ c. seen_conn new.slots c ≡ seen_conn old.slots c) (λ c is. conn_as new.slots c _ (shows c (Cancel base) is.0 is.1)) cs conns_held)) calls_seen

-- contexts that were not held before are far from all that are kept
pub all_far : {C V H : Type 0} {f : AfterFuncs H} {base : Id} {conns : List Id} {calls : List Life} {old : TreeValue C V} (s : IsSound old f base conns calls)
    (ids : List Id) → ((x : Id) (kind : Kind C V) → held x s.past ≡ Some kind → is_among x ids ≡ false) → Far (all_ids s.root base conns calls) ids
all_far {base = base} {conns = conns} {calls = calls} s ids new_far =
    each_held s.past s.root base s.root_is s.base_is (λ x. is_among x ids ≡ false) new_far conns calls s.conns_are s.calls_are
