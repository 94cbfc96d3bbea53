-- What is seen after a cancel of a connection.
use Rattle.call_contexts.proofs.Names.{◌≡◌, refl, ap, ◌∙◌, ◌∷◌, Some, None, Bool, true, false, List, ◌&&◌, ◌||◌, All, map, unwrap_or, option_or, All-weaker, Cancel, Deadline, Id, same, Cancels, chain, has_cancel, held, TreeValue, StandsFor, is_ended_by_cancel, is_among, AfterFuncs, Life, cause_in, if_cancelled, seen, seen_conn, seen_call, seen_branch, seen_branches, ends_branch, ends_call, ends_conn, cancelled, TreeLaws, IsSound, IsLife, IsConn, IsTwig, kind_of, ids_in, ids_of}
use Rattle.call_contexts.proofs.Making.{or_none}
use Rattle.call_contexts.proofs.Trees.{base_chain, conn_chain, call_hit, twig_hit}
use Rattle.call_contexts.proofs.Distinct.{ctx_off, lives_off, none_of_conns, twigs_off}
use Rattle.call_contexts.proofs.Family.{among_in}
use Rattle.call_contexts.proofs.Lists.{both_all}
use Rattle.call_contexts.proofs.Seeing.{maps_to, hit_base, hit_conn, hit_call, conn_as, call_as, branch_as, seen_as, lawful, struck_after, request_after}

module _ {C V H : Type 0} (laws : TreeLaws C V) {f : AfterFuncs H} {base : Id} {conns : List Id} {calls : List Life} {old : TreeValue C V} (s : IsSound old f base conns calls)
    (id : Id) (cause : C) (there : is_among id conns ≡ true) (new : TreeValue C V) (answer : Bool)
    (answer_is : answer ≡ is_ended_by_cancel id s.past) (ends : answer ≡ true → StandsFor new (Cancels id (Some cause) ∷ s.past)) (stays : answer ≡ false → new.slots ≡ old.slots) where
  id_is : held id s.past ≡ Some (Cancel base)
  id_is = among_in (IsConn base s.past) id conns s.conns_are there

  apart : (same base id ≡ false) × (is_among id (ids_in calls) ≡ false)
  apart = none_of_conns id s.root base conns calls s.distinct there

  far : same base id ≡ false
  far = apart.0

  -- a call, of whose contexts it is none
  abbrev Other : Life → Type 0
  Other l = IsLife s.past base l × (is_among id (ids_of l) ≡ false)

  others : All Other calls
  others = both_all (IsLife s.past base) (λ l. is_among id (ids_of l) ≡ false) calls s.calls_are (lives_off id calls apart.1)

  one_conn : (c : Id) → IsConn base s.past c → seen_conn new.slots c ≡ ends_conn (if_cancelled (same c id) cause) (seen_conn old.slots c)
  one_conn c is = conn_as new.slots c _
      (struck_after laws s cause new answer id base id_is answer_is ends stays c (Cancel base) is
      ∙ ap (λ b. option_or (cause_in old.slots c) (if_cancelled b cause))
      (rw (conn_chain laws s.past (lawful laws s) s.root base s.root_is s.base_is c is) (hit_conn (same c id) (same base id) (same s.root id) far)))

  life_struck : (l : Life) → Other l → has_cancel id (chain l.ctx s.past) ≡ same l.conn id
  life_struck l is =
      rw (call_hit laws s.past (lawful laws s) s.root base s.root_is s.base_is l.conn is.0.conn_is l.ctx l.holder is.0.holder_is l.deadline is.0.call_is id, conn_chain laws s.past (lawful laws s) s.root base s.root_is s.base_is l.conn is.0.conn_is)
      (hit_call (same l.ctx id) (same l.conn id) (same base id) (same s.root id) (ctx_off id l is.1) far)

  off_chain : (a b : Bool) → a ≡ false → ((a && true) || b) ≡ b
  off_chain true b is = cc
  off_chain false b is = refl

  branches_struck : (l : Life) → Other l → seen_branches new.slots l.twigs ≡ map (ends_branch (if_cancelled (same l.conn id) cause)) (seen_branches old.slots l.twigs)
  branches_struck l is = maps_to (seen_branch new.slots) (ends_branch (if_cancelled (same l.conn id) cause)) (seen_branch old.slots) l.twigs
      (All-weaker (λ t. IsTwig s.past l.ctx t × (same t.ctx id ≡ false)) (λ t. seen_branch new.slots t ≡ ends_branch (if_cancelled (same l.conn id) cause) (seen_branch old.slots t))
      (λ t t_is. branch_as new.slots t _
      (struck_after laws s cause new answer id base id_is answer_is ends stays t.ctx (Deadline l.ctx t.at None) t_is.0
      ∙ ap (λ b. option_or (cause_in old.slots t.ctx) (if_cancelled b cause))
      (twig_hit laws s.past (lawful laws s) l.ctx t t_is.0 id ∙ off_chain (same t.ctx id) (has_cancel id (chain l.ctx s.past)) t_is.1
      ∙ life_struck l is))) l.twigs (both_all (IsTwig s.past l.ctx) (λ t. same t.ctx id ≡ false) l.twigs is.0.twigs_are (twigs_off id l is.1)))

  one_call : (l : Life) → Other l → seen_call new.slots l ≡ ends_call (if_cancelled (same l.conn id) cause) (seen_call old.slots l)
  one_call l is = call_as new.slots l _ _ _ (request_after laws s cause new answer id base id_is answer_is ends stays l is.0)
      (struck_after laws s cause new answer id base id_is answer_is ends stays l.ctx (kind_of (unwrap_or l.holder l.conn) l.deadline) is.0.call_is
      ∙ ap (λ b. option_or (cause_in old.slots l.ctx) (if_cancelled b cause)) (life_struck l is))
      (branches_struck l is)

  base_missed : has_cancel id (chain base s.past) ≡ false
  base_missed = rw (base_chain laws s.past (lawful laws s) s.root base s.root_is s.base_is) (hit_base (same base id) (same s.root id) far)

  pub seen_cancelled : seen new.slots base conns calls ≡ cancelled id cause (seen old.slots base conns calls)
  seen_cancelled = seen_as new.slots base conns calls _ _ _
      (struck_after laws s cause new answer id base id_is answer_is ends stays base (Cancel s.root) s.base_is
      ∙ ap (λ b. option_or (cause_in old.slots base) (if_cancelled b cause)) base_missed ∙ or_none (cause_in old.slots base))
      (maps_to (seen_conn new.slots) (λ c. ends_conn (if_cancelled (same c.id id) cause) c) (seen_conn old.slots) conns
      (All-weaker (IsConn base s.past) (λ c. seen_conn new.slots c ≡ ends_conn (if_cancelled (same c id) cause) (seen_conn old.slots c)) one_conn conns s.conns_are))
      (maps_to (seen_call new.slots) (λ c. ends_call (if_cancelled (same c.conn id) cause) c) (seen_call old.slots) calls
      (All-weaker Other (λ l. seen_call new.slots l ≡ ends_call (if_cancelled (same l.conn id) cause) (seen_call old.slots l)) one_call calls others))
