-- What a connection's reader read.
use Rattle.gateway_connection.specs.lemmas.Names.{◌≡◌, ℕ, ◌+◌, ◌≤◌, ◌<◌, refl, sym, ap, ◌∙◌, List, [], ◌∷◌, ◌++◌, Option, Some, None, Ok, Err, true, false, length, subst, arith, take, inl, inr, ◌⊎◌, IfNone, IfSome, MatchOption, length-append, HasRead, ReaderValue, Reading, Stopped, Waiting, after_request, state_of, HttpRequest, most_requests, PlanRecord, Coming, HasBrought, MayGive, ReadsOn, arriving_in, broken_held, coming_of, hears, hung_held, next_held, read_held, broke, came, read, unread, HeldConnection, HungUp, told, HookedContexts, KeepsHooks, Brings, BringsNone, Feeds, ReadsAll, ReadsNone, LeavesRest, MayStep, none_over, over_by, IsTied, LeavesContexts, Shared, nat_tests}
use Rattle.http_pieces.specs.Reader.{is_over}
use Rattle.http_pieces.specs.declared.refusal.Refusal.{Refusal}
use Rattle.http_pieces.specs.declared.state.State.TheVariants.{Refused as StateRefused}
use Rattle.gateway_theory.specs.lemmas.ServedPieces.{few_given, no_refusal}
use Rattle.gateway_theory.specs.Core.{is_waiting}
use Rattle.gateway_theory.specs.declared.fault.StepFault.{StepFault}
use Rattle.gateway_connection.specs.lemmas.OwnContexts.{hung_leaves, others_same, others_then}
use Rattle.gateway_connection.specs.lemmas.OwnTold.{hung_tied}
use Rattle.gateway_connection.proofs.LentLemmas.{rest_conn, rest_none, rest_then}
use Rattle.gateway_connection.specs.Comes as comes

-- what comes has room
pub read_room : (plans : List PlanRecord) (n : ℕ) (bytes : List ℕ) (request : Option HttpRequest) (k : HeldConnection) (reader : ReaderValue) → is_over k.reader.reading ≡ false → HasBrought k
    → ReadsOn n request bytes k.reader reader → (x : Coming) → coming_of plans request reader.reading ≡ Some x → (next_held k).request < most_requests
read_room plans n bytes request k reader h6 h7 h8 x h10 = grind (arith, nat_tests, few_given, no_refusal, length-append)

-- a stream that was refused, by what its reader says
pub refused_by : (r : Reading) (refusal : Refusal) → state_of r ≡ StateRefused refusal → r ≡ Stopped refusal
refused_by r refusal h2 = grind (arith, nat_tests)

-- ---- a push, and what is taken behind it

-- the request that waits is given, or none waits
pub gives_by : (request : Option HttpRequest) (old new : ReaderValue) → ((bytes : List ℕ) (given : List HttpRequest) → HasRead old bytes given → MatchOption request (HasRead new bytes given) (λ q. HasRead new bytes (given ++ q ∷ [])))
    → ((q : HttpRequest) → old.reading ≡ Waiting q → request ≡ Some q) → IfSome request (λ q. old.reading ≡ Waiting q) → IfSome request (λ q. new ≡ record old { taken = old.taken + 1; reading = after_request q }) → IfNone request (new ≡ old)
    → MayGive request old new
gives_by request old new h3 h4 h5 h6 h7 = grind (arith, nat_tests)

moves_by : (old : ReaderValue) (n : ℕ) → (0 < n) ⊎ ((q : HttpRequest) × (old.reading ≡ Waiting q)) → is_waiting old.reading ≡ false → 0 < n
moves_by old n (inl lt) still = lt
moves_by old n (inr w) still = absurd (let clash : true ≡ false = sym (ap is_waiting w.1) ∙ still in cc)

pub reads_by : (n : ℕ) (request : Option HttpRequest) (bytes : List ℕ) (old pushed new : ReaderValue) → n ≤ length bytes
    → ((text : List ℕ) (given : List HttpRequest) → HasRead old text given → HasRead pushed (text ++ take n bytes) given)
    → (0 < length bytes → (0 < n) ⊎ ((q : HttpRequest) × (old.reading ≡ Waiting q))) → MayGive request pushed new → ReadsOn n request bytes old new
reads_by n request bytes old pushed new within reads moves gives =
    record { pushed = pushed; reads = record { reads = reads; within = within; moves = λ some still. moves_by old n (moves some) still }; gives = gives }

module _ {H : Type 0} where
  -- what is read changes no context
  read_tied : (k : HeldConnection) (reader : ReaderValue) (x : HookedContexts H) → IsTied none_over k x → IsTied none_over (read_held reader k) x
  read_tied k reader x t = record { are = t.are; only_by_drain = t.only_by_drain; stocked = t.stocked }

  pub read_may : (k : HeldConnection) (reader : ReaderValue) (s : Shared H) → MayStep none_over k s → MayStep none_over (read_held reader k) s
  read_may k reader s m = record { tied = read_tied k reader s.contexts m.tied; waits = m.waits; early = m.early }

  -- ---- what comes of it

  -- bytes that bring nothing, or what they bring
  pub all_feeds : (bytes : List ℕ) (n : ℕ) (k l : HeldConnection) (a b : Shared H) → hears k ≡ true → is_over k.reader.reading ≡ false → MayStep none_over k a → ReadsAll bytes n k l a b
      → Feeds bytes (Ok n) k l a b × IsTied none_over l b.contexts
  all_feeds bytes n k l a b on going may r = by (coming_of a.plans r.request r.reader.reading) refl r.brings
    where
      by : (x : Option Coming) → coming_of a.plans r.request r.reader.reading ≡ x → Brings x (read_held r.reader k) l a b → Feeds bytes (Ok n) k l a b × IsTied none_over l b.contexts
      by None is (l_is, b_is) =
          let none : ReadsOn n None bytes k.reader r.reader = request_none in (
            record {
              jobs = [];
              takes = read on going n r.reader none (ap (λ q. coming_of a.plans q r.reader.reading) (sym no_request) ∙ is) refl l_is refl (ap (λ (x : Shared H). x.begun) b_is);
              rest = subst (λ x. LeavesRest [] k l a x) (sym b_is) (subst (λ x. LeavesRest [] k x a a) (sym l_is) (rest_conn [] k k (read_held r.reader k) a a refl (rest_none k a)));
            },
            subst (λ x. IsTied none_over l x.contexts) (sym b_is) (subst (λ x. IsTied none_over x a.contexts) (sym l_is) (read_tied k r.reader a.contexts may.tied)),
          )
        where
          request_is : (q : Option HttpRequest) → coming_of a.plans q r.reader.reading ≡ None → q ≡ None
          request_is None e = refl
          request_is (Some q) e = absurd (cc)

          no_request : r.request ≡ None
          no_request = request_is r.request is

          request_none : ReadsOn n None bytes k.reader r.reader
          request_none = subst (λ q. ReadsOn n q bytes k.reader r.reader) no_request r.reads
      by (Some x) is e = (
        record {
          jobs = (arriving_in a.moment a.contexts.standing.drained x k).jobs;
          takes = came on going n r.request r.reader x r.reads is refl e.conn_is refl e.begun_is e.few;
          rest = record { plans_are = e.rest.plans_are; moment_is = e.rest.moment_is; jobs_are = e.rest.jobs_are; waits = e.rest.waits; others = e.rest.others };
        },
        e.tied,
      )

  -- a fault, after which it broke
  pub none_feeds : (bytes : List ℕ) (fault : StepFault) (k l m : HeldConnection) (a b d : Shared H) → hears k ≡ true → is_over k.reader.reading ≡ false → ReadsNone bytes fault k l a b
      → m ≡ broken_held l → LeavesRest [] l m b d → d.begun ≡ b.begun → Feeds bytes (Err fault) k m a d
  none_feeds bytes fault k l m a b d on going (comes.unread f_is l_is b_is) m_is rest begun = record {
    jobs = [];
    takes = unread on going (ap Err f_is) (m_is ∙ ap broken_held l_is) refl (begun ∙ ap (λ (x : Shared H). x.begun) b_is);
    rest = subst (λ x. LeavesRest [] x m a d) l_is (subst (λ x. LeavesRest [] l m x d) b_is rest);
  }
  none_feeds bytes fault k l m a b d on going (comes.read n request reader reads brings) m_is rest begun = by (coming_of a.plans request reader.reading) refl brings
    where
      by : (x : Option Coming) → coming_of a.plans request reader.reading ≡ x → BringsNone x fault (read_held reader k) l a b → Feeds bytes (Err fault) k m a d
      by None is none = absurd none
      by (Some x) is (f, fails) = record {
        jobs = [];
        takes = broke on going n request reader x reads is fault f refl (m_is ∙ ap broken_held fails.conn_is) refl (begun ∙ fails.begun_is);
        rest = rest_then [] [] k l m a b d (ap (λ (h : HeldConnection). h.number) fails.conn_is)
            (record { plans_are = fails.rest.plans_are; moment_is = fails.rest.moment_is; jobs_are = fails.rest.jobs_are; waits = fails.rest.waits; others = fails.rest.others }) rest;
      }

  -- ---- hang-ups

  -- its contexts are told of it
  pub hung_may : (k : HeldConnection) (s : Shared H) (x : HookedContexts H) → MayStep none_over k s → x.standing ≡ told (HungUp k.number) s.contexts.standing → KeepsHooks s.contexts x
      → MayStep (over_by (HungUp k.number)) (hung_held k) (record s { contexts = x })
  hung_may k s x may is keeps = record { tied = hung_tied k s.contexts x is keeps may.tied; waits = may.waits; early = may.early }

  pub hung_rest : (k l : HeldConnection) (s t : Shared H) (x : HookedContexts H) → x.standing ≡ told (HungUp k.number) s.contexts.standing → KeepsHooks s.contexts x
      → LeavesRest [] (hung_held k) l (record s { contexts = x }) t → LeavesRest [] k l s t
  hung_rest k l s t x is keeps rest =
      let leaves = subst (LeavesContexts k.number s.contexts.standing) (sym is) (hung_leaves k.number s.contexts.standing) in
      record {
        plans_are = rest.plans_are;
        moment_is = rest.moment_is;
        jobs_are = rest.jobs_are;
        waits = rest.waits;
        others = others_then k.number s.contexts x t.contexts (others_same k.number s.contexts x leaves keeps.stocks_are) rest.others;
      }
