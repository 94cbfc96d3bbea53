-- How the history goes on that holds of a loop's clients, at each call of the core.
use Rattle.gateway_loop.proofs.Words.{Ready, ◌≡◌, ℕ, ◌<◌, ◌≤◌, Bool, true, false, List, [], ◌∷◌, ◌++◌, All, All-push, length, Option, None, Some, refl, sym, ap, ◌∙◌, subst, append-nil, inl, inr, ◌==◌, max, not, unwrap_or, AllZip, reverse-append, All-weaker, PlanRecord, Outcome, Event, BranchResult, Closing, Drain, Moment, Opening, connections, is_open, stream, History, after_event, after_jobs, after_opening, no_history, JobValue, call_id, marked, IsPrefixOf, queued, occurrences, GatewayValue, Served, ClientValue, ClosedValue, IsExplainedClient, IsUnused, client_value, Explains, GoesOn, HandsIn, LoopValue, at, latest, one_below, IsResultOf, ResultValue, moments, results, Fits, HasStood, Holds, HoldsRest, IsExplained, IsHeld, IsServing, Leads, MakesSteps, OpensNone, lingering, LoopLaws}
use Rattle.std.specs.Prelude.{reverse}
use Rattle.std.proofs.lemmas.Bool.Decides.{nat_tests}
use Rattle.std.proofs.Common.{arith}
use Rattle.gateway_model.specs.declared.id.CallId.{CallId}
use Rattle.gateway_loop.proofs.LeadLemmas.{Elsewhere, born_count, closing_elsewhere, extends_event, extends_jobs, extends_none, extends_opening, leads_event, leads_jobs, leads_none, leads_opening}
use Rattle.gateway_loop.proofs.LivedLemmas.{known_by, lives_added, lives_left, lives_same}
use Rattle.gateway_loop.proofs.StepLemmas.{born_fits, closes, fits_on, leaves, quiet_event}
use Rattle.gateway_theory.specs.Served.{Adds}
use Rattle.gateway_theory.specs.Told.{AddsEvent, LeavesLived}
use Rattle.gateway_loop.proofs.CountLemmas.{count_same}
use Rattle.gateway_loop.proofs.Places.{Put}
use Rattle.gateway_loop.proofs.LoopLemmas.{SameRest, all_stood, held_comes, held_goes, held_steps, nobodys}

fits_known : (plans : List PlanRecord) (h : History) (x : ClientValue) → Fits plans h x → x.conn < connections h.opened h.events
fits_known plans h x f = search arith

-- ---- moments

max_below : (m n : ℕ) → m ≤ n → max m n ≡ n
max_below m n le = grind (arith, nat_tests)

-- the latest that was handed in is the latest that was told
latest_handed : (told handed : List ℕ) → HandsIn told handed → latest handed ≡ latest told
latest_handed [] handed none = ap latest none
latest_handed (m ∷ told) handed (inl (rest, is, hands)) = ap latest is ∙ ap (λ (n : ℕ). max m n) (latest_handed told rest hands)
latest_handed (m ∷ told) handed (inr (le, hands)) =
    let same = latest_handed told handed hands in
    same ∙ sym (max_below m (latest told) (subst (λ (n : ℕ). m ≤ n) same le))

-- a moment more was told
told_more : (told : List ℕ) (m : ℕ) → latest (reverse (told ++ m ∷ [])) ≡ max m (latest (reverse told))
told_more told m = ap latest (reverse-append told (m ∷ []))

pub moment_later : (told later : List ℕ) (m moment : ℕ) → later ≡ told ++ m ∷ [] → moment ≡ latest (reverse told) → max m moment ≡ latest (reverse later)
moment_later told later m moment is before = ap (λ (n : ℕ). max m n) before ∙ sym (ap (λ (t : List ℕ). latest (reverse t)) is ∙ told_more told m)

pub moment_same : (told later : List ℕ) (m moment : ℕ) → later ≡ told ++ m ∷ [] → m ≤ moment → moment ≡ latest (reverse told) → moment ≡ latest (reverse later)
moment_same told later m moment is late before = sym (max_below m moment late) ∙ moment_later told later m moment is before

-- ---- what goes on

-- where the history of the one goes on, the loop serves on
pub serves_on : (moment later : ℕ) (l m : LoopValue) → GoesOn l m → later ≡ latest (reverse m.told) → IsServing moment l → IsServing later m
serves_on moment later l m on is s = record {
  moment_is = is;
  holds = λ unknown. let before = s.holds unknown in let after = on unknown before.0 before.1 in (after.0, after.1);
}

module _ (laws : LoopLaws) (l m : LoopValue) where
  pub goes_steps : (i : ℕ) (x y : ClientValue) → at i l.clients ≡ Some x → MakesSteps l.core m.core x y → Put l.clients m.clients i (Some y)
      → m.gone ≡ l.gone → SameRest l m → GoesOn l m
  goes_steps i x y its steps puts gone rest = λ unknown h s.
      let made = steps.steps l.core.plans h refl s.serves (s.held.fits i x its) in (
        made.later,
        record {
          serves = made.serves;
          held = subst (λ (ps : List PlanRecord). IsHeld unknown ps made.later m) (sym steps.plans)
              (held_steps unknown laws l.core.plans l m h made.later i x y its steps.conn made.fits made.leads made.quiet made.opens puts gone rest s.held);
        },
        made.extends,
        made.lives,
      )

  module _ (plans_are : m.core.plans ≡ l.core.plans) where
    -- the connection of a client closes, and it lingers
    pub goes_leaves : (i : ℕ) (x : ClientValue) (until : ℕ) → at i l.clients ≡ Some x → ((h : History) → Served l.core h → Served m.core (after_event (Closing x.conn) h))
        → AddsEvent (Closing x.conn) l.core m.core → Put l.clients m.clients i (Some (lingering until x)) → m.gone ≡ l.gone → SameRest l m → GoesOn l m
    goes_leaves i x until its takes adds puts gone rest = λ unknown h s.
        let k = after_event (Closing x.conn) h in (
          k,
          record {
            serves = takes h s.serves;
            held = subst (λ (ps : List PlanRecord). IsHeld unknown ps k m) (sym plans_are)
                (held_steps unknown laws l.core.plans l m h k i x (lingering until x) its refl (leaves laws l.core l.core.plans h x until refl s.serves (s.held.fits i x its))
                (leads_event l.core.plans (λ c. c == x.conn) (Closing x.conn) h (λ c off. closing_elsewhere x.conn c off)) (quiet_event (Closing x.conn) h refl refl refl) refl puts gone rest s.held);
          },
          extends_event (Closing x.conn) h,
          lives_added h.opened (Closing x.conn) h l.core m.core (adds h),
        )

    -- .. and it goes
    pub goes_gone : (i : ℕ) (x : ClientValue) → at i l.clients ≡ Some x → ((h : History) → Served l.core h → Served m.core (after_event (Closing x.conn) h))
        → AddsEvent (Closing x.conn) l.core m.core → Put l.clients m.clients i None → m.gone ≡ l.gone ++ x ∷ [] → SameRest l m → GoesOn l m
    goes_gone i x its takes adds puts gone rest = λ unknown h s.
        let k = after_event (Closing x.conn) h in (
          k,
          record {
            serves = takes h s.serves;
            held = subst (λ (ps : List PlanRecord). IsHeld unknown ps k m) (sym plans_are)
                (held_goes unknown laws l.core.plans l m h k i x its (closes laws l.core l.core.plans h x refl s.serves (s.held.fits i x its))
                (leads_event l.core.plans (λ c. c == x.conn) (Closing x.conn) h (λ c off. closing_elsewhere x.conn c off)) (quiet_event (Closing x.conn) h refl refl refl) refl puts gone rest s.held);
          },
          extends_event (Closing x.conn) h,
          lives_added h.opened (Closing x.conn) h l.core m.core (adds h),
        )

    -- a client comes
    pub goes_comes : (i c : ℕ) (given got : List ℕ) (ended reads writes : Bool) (watched : Option (ℕ × Bool)) (reported : List Ready) → c ≡ l.core.opened → given ≡ [] → got ≡ [] → ended ≡ false
        → ((h : History) → Served l.core h → Served m.core (after_opening h))
        → ((h : History) → Adds (h.opened ++ length h.events ∷ []) Opening h l.core m.core)
        → at i l.clients ≡ None → Put l.clients m.clients i (Some (client_value c false given got ended [] reads writes watched reported None)) → m.gone ≡ l.gone → SameRest l m → GoesOn l m
    goes_comes i c given got ended reads writes watched reported number none_given none_got on takes adds vacant puts gone rest = λ unknown h s.
        let k = after_opening h in
        let below = s.serves.conns.below in
        let c_is : c ≡ connections h.opened h.events = number ∙ sym s.serves.conns.count_is in
        let y = client_value c false given got ended [] reads writes watched reported None in (
          k,
          record {
            serves = takes h s.serves;
            held = subst (λ (ps : List PlanRecord). IsHeld unknown ps k m) (sym plans_are)
                (held_comes unknown laws l.core.plans l m h k i y
                (subst (λ (n : ℕ). Fits l.core.plans k (client_value n false given got ended [] reads writes watched reported None)) (sym c_is) (born_fits laws m.core l.core.plans h below plans_are (takes h s.serves) given got ended none_given none_got on))
                c_is (fits_known l.core.plans h) (leads_opening h below l.core.plans nobodys) record { moments_are = refl; results_are = append-nil (results h.events); drains_are = refl; handed_are = refl }
                (born_count h below) vacant puts gone rest s.held);
          },
          extends_opening h below,
          lives_added (h.opened ++ length h.events ∷ []) Opening h l.core m.core (adds h),
        )

    -- ---- what concerns no client

    held_all : (unknown : Outcome) (h k : History) → m.clients ≡ l.clients → m.gone ≡ l.gone → Leads l.core.plans nobodys h k → OpensNone h k
        → HoldsRest unknown k m → IsHeld unknown l.core.plans h l → IsHeld unknown m.core.plans k m
    held_all unknown h k clients gone leads opens rest held = subst (λ (ps : List PlanRecord). IsHeld unknown ps k m) (sym plans_are) record {
      fits = λ i x is. fits_on laws l.core.plans nobodys h k x leads refl (held.fits i x (sym (ap (λ cs. at i cs) clients) ∙ is));
      apart = λ i j x y is also one. held.apart i j x y (sym (ap (λ cs. at i cs) clients) ∙ is) (sym (ap (λ cs. at j cs) clients) ∙ also) one;
      each = λ c. count_same l m c clients gone ∙ held.each c ∙ ap (one_below c) (sym opens);
      gone = subst (λ (g : List ClientValue). All (λ (z : ClientValue). HasStood l.core.plans k z) g) (sym gone) (all_stood laws l.core.plans nobodys h k l.gone leads held.gone);
      rest = rest;
    }

    -- an event that concerns no client
    goes_event : (e : Event) → ((c : ℕ) → Elsewhere c e) → ((h : History) → OpensNone h (after_event e h)) → m.clients ≡ l.clients → m.gone ≡ l.gone
        → ((h : History) → Served l.core h → Served m.core (after_event e h)) → AddsEvent e l.core m.core
        → ((unknown : Outcome) (h : History) → HoldsRest unknown h l → HoldsRest unknown (after_event e h) m) → GoesOn l m
    goes_event e away opens clients gone takes adds rest = λ unknown h s. (
      after_event e h,
      record {
        serves = takes h s.serves;
        held = held_all unknown h (after_event e h) clients gone (leads_event l.core.plans nobodys e h (λ c off. away c)) (opens h) (rest unknown h s.held.rest) s.held;
      },
      extends_event e h,
      lives_added h.opened e h l.core m.core (adds h),
    )

    -- a moment was told, and handed in
    pub goes_moment : (told : ℕ) → m.clients ≡ l.clients → m.gone ≡ l.gone → SameRest (record l { told = l.told ++ told ∷ [] }) m
        → ((h : History) → Served l.core h → Served m.core (after_event (Moment told) h))
        → AddsEvent (Moment told) l.core m.core → GoesOn l m
    goes_moment told clients gone same takes adds =
        goes_event (Moment told) (λ c. record { closing = refl; hang_up = refl; piece = refl }) (λ h. refl) clients gone takes adds
        (λ unknown h r. record {
          told = rw (same.told, reverse-append l.told (told ∷ [])) (inl (moments h.events, refl, r.told));
          results = rw (same.results, append-nil (results h.events)) r.results;
          handed = r.handed ∙ sym same.handed;
          drained = r.drained ∙ sym same.drained;
          unserved = rw same.unserved r.unserved;
        })

    -- the drain began
    pub goes_drain : m.clients ≡ l.clients → m.gone ≡ l.gone → SameRest (record l { drained = true }) m
        → ((h : History) → Served l.core h → Served m.core (after_event Drain h)) → AddsEvent Drain l.core m.core → GoesOn l m
    goes_drain clients gone same takes adds =
        goes_event Drain (λ c. record { closing = refl; hang_up = refl; piece = refl }) (λ h. refl) clients gone takes adds
        (λ unknown h r. record {
          told = rw same.told r.told;
          results = rw (same.results, append-nil (results h.events)) r.results;
          handed = r.handed ∙ sym same.handed;
          drained = sym same.drained;
          unserved = rw same.unserved r.unserved;
        })

    zip_push : (unknown : Outcome) (xs : List ResultValue) (ys : List (JobValue × Option Outcome)) (x : ResultValue) (y : JobValue × Option Outcome)
        → AllZip (IsResultOf unknown) xs ys → IsResultOf unknown x y → AllZip (IsResultOf unknown) (xs ++ x ∷ []) (ys ++ y ∷ [])
    zip_push unknown [] [] x y zip is = (is, tt)
    zip_push unknown [] (b ∷ ys) x y zip is = absurd zip
    zip_push unknown (a ∷ xs) [] x y zip is = absurd zip
    zip_push unknown (a ∷ xs) (b ∷ ys) x y zip is = (zip.0, zip_push unknown xs ys x y zip.1 is)

    -- a result was handed in: this one, whatever one is handed in where there was no memory for it
    pub goes_result : (job : JobValue) (call : CallId) (branch : ℕ) (given : Option Outcome) → call ≡ job.call → branch ≡ job.branch
        → m.clients ≡ l.clients → m.gone ≡ l.gone → SameRest (record l { results = l.results ++ (job, given) ∷ [] }) m
        → ((unknown : Outcome) (h : History) → Served l.core h → Served m.core (after_event (BranchResult call.conn call.request branch (unwrap_or given unknown)) h))
        → ((unknown : Outcome) → AddsEvent (BranchResult call.conn call.request branch (unwrap_or given unknown)) l.core m.core) → GoesOn l m
    goes_result job call branch given call_is branch_is clients gone same takes adds = λ unknown h s.
        let outcome = unwrap_or given unknown in
        let e = BranchResult call.conn call.request branch outcome in
        let r = s.held.rest in (
          after_event e h,
          record {
            serves = takes unknown h s.serves;
            held = held_all unknown h (after_event e h) clients gone (leads_event l.core.plans nobodys e h (λ c off. record { closing = refl; hang_up = refl; piece = refl })) refl
                record {
                  told = rw same.told r.told;
                  results = rw same.results
                      (zip_push unknown (results h.events) l.results record { call = call_id call.conn call.request; branch = branch; outcome = outcome } (job, given) r.results
                      record { call = call_is; branch = branch_is; outcome = refl });
                  handed = r.handed ∙ sym same.handed;
                  drained = r.drained ∙ sym same.drained;
                  unserved = rw same.unserved r.unserved;
                } s.held;
          },
          extends_event e h,
          lives_added h.opened e h l.core m.core (adds unknown h),
        )

    -- jobs were taken
    pub goes_jobs : (jobs : List JobValue) → m.clients ≡ l.clients → m.gone ≡ l.gone → SameRest (record l { handed = l.handed ++ jobs }) m
        → ((h : History) → Served l.core h → Served m.core (after_jobs jobs h))
        → LeavesLived jobs l.core m.core → GoesOn l m
    goes_jobs jobs clients gone same takes left = λ unknown h s.
        let r = s.held.rest in (
          after_jobs jobs h,
          record {
            serves = takes h s.serves;
            held = held_all unknown h (after_jobs jobs h) clients gone (leads_jobs l.core.plans nobodys jobs h) refl record {
              told = rw same.told r.told;
              results = rw same.results r.results;
              handed = ap (λ (js : List JobValue). js ++ jobs) r.handed ∙ sym same.handed;
              drained = r.drained ∙ sym same.drained;
              unserved = rw same.unserved r.unserved;
            } s.held;
          },
          extends_jobs jobs h,
          lives_left l.core m.core h (after_jobs jobs h) (left h),
        )

  -- no event came
  module _ (core : m.core ≡ l.core) where
    none_came : m.clients ≡ l.clients → m.gone ≡ l.gone → ((unknown : Outcome) (h : History) → HoldsRest unknown h l → HoldsRest unknown h m) → GoesOn l m
    none_came clients gone rest = λ unknown h s. (
      h,
      record {
        serves = subst (λ (v : GatewayValue). Served v h) (sym core) s.serves;
        held = held_all (ap (λ (v : GatewayValue). v.plans) core) unknown h h clients gone (leads_none l.core.plans nobodys h) refl (rest unknown h s.held.rest) s.held;
      },
      extends_none h,
      lives_same l.core m.core h core,
    )

    -- a moment was told that changes nothing
    pub goes_told : (moment told : ℕ) → told ≤ moment → moment ≡ latest (reverse l.told) → m.clients ≡ l.clients → m.gone ≡ l.gone → SameRest (record l { told = l.told ++ told ∷ [] }) m → GoesOn l m
    goes_told moment told late is clients gone same = none_came clients gone (λ unknown h r.
        let latest_is : latest (moments h.events) ≡ moment = latest_handed (reverse l.told) (moments h.events) r.told ∙ sym is in record {
          told = rw (same.told, reverse-append l.told (told ∷ [])) (inr (subst (λ (n : ℕ). told ≤ n) (sym latest_is) late, r.told));
          results = rw same.results r.results;
          handed = r.handed ∙ sym same.handed;
          drained = r.drained ∙ sym same.drained;
          unserved = rw same.unserved r.unserved;
        })

    -- a stream was not taken in
    pub goes_away : (s : ClosedValue) → IsUnused s → m.clients ≡ l.clients → m.gone ≡ l.gone → SameRest (record l { unserved = l.unserved ++ s ∷ [] }) m → GoesOn l m
    goes_away s unused clients gone same = none_came clients gone (λ unknown h r. record {
      told = rw same.told r.told;
      results = rw same.results r.results;
      handed = r.handed ∙ sym same.handed;
      drained = r.drained ∙ sym same.drained;
      unserved = rw same.unserved (All-push IsUnused l.unserved s r.unserved unused);
    })

-- nothing has come
pub holds_new : (unknown : Outcome) (l : LoopValue) → l.clients ≡ [] → l.gone ≡ [] → l.unserved ≡ [] → l.told ≡ [] → l.results ≡ [] → l.handed ≡ [] → l.drained ≡ false → Served l.core no_history
    → Holds unknown no_history l
holds_new unknown l clients gone unserved told results_are handed drained served = search arith

pub serving_new : (l : LoopValue) → l.told ≡ [] → ((unknown : Outcome) → Holds unknown no_history l) → IsServing 0 l
serving_new l told holds = record { moment_is = sym (ap (λ (t : List ℕ). latest (reverse t)) told); holds = λ unknown. (no_history, holds unknown) }

-- ---- all of it is explained

fits_explained : (laws : LoopLaws) (v : GatewayValue) (h : History) (x : ClientValue) → Served v h → Fits v.plans h x
    → IsExplainedClient v.plans h x × (is_open h.opened x.conn h.events ≡ not x.lingers)
fits_explained laws v h x served f = by_it x.lingers refl
  where
    by_it : (b : Bool) → x.lingers ≡ b → IsExplainedClient v.plans h x × (is_open h.opened x.conn h.events ≡ not x.lingers)
    by_it false off =
        let s = f.stands off in (
          record {
            known = s.known;
            dropped = [];
            read = s.read ∙ sym (append-nil (stream h.opened x.conn h.events));
            all_fed = λ is. refl;
            hangs_up = λ is. s.hangs_up;
            no_other = λ hung. sym s.hangs_up ∙ hung;
            written = λ occurred all.
                subst (λ (t : List ℕ). IsPrefixOf t (queued x.conn (marked (occurrences occurred)))) (sym (s.written occurred all)) (laws.bytes v h occurred served all x.conn s.still_open);
          },
          s.still_open ∙ sym (ap not off),
        )
    by_it true on = let s = f.stood on in (s.explained, s.closed ∙ sym (ap not on))

pub explained : (laws : LoopLaws) (moment : ℕ) (l : LoopValue) → IsServing moment l → IsExplained l
explained laws moment l s = record { holds = s.holds; explains = λ unknown h held. explains_by unknown h held }
  where
    explains_by : (unknown : Outcome) (h : History) → Holds unknown h l → Explains unknown h l
    explains_by unknown h held = record {
      knows = λ occurred all. laws.known l.core h occurred held.serves all;
      lives = held.serves.stands;
      known_by = λ lived was. known_by laws l.core h lived held.serves was;
      clients = λ i x is. (fits_explained laws l.core h x held.serves (held.held.fits i x is)).0;
      taken = λ occurred all i x is off. ((held.held.fits i x is).stands off).written occurred all;
      still_open = λ i x is. (fits_explained laws l.core h x held.serves (held.held.fits i x is)).1;
      each = held.held.each;
      gone = All-weaker (λ (x : ClientValue). HasStood l.core.plans h x) (λ (x : ClientValue). IsExplainedClient l.core.plans h x) (λ x stood. stood.explained) l.gone held.held.gone;
      closed = All-weaker (λ (x : ClientValue). HasStood l.core.plans h x) (λ (x : ClientValue). is_open h.opened x.conn h.events ≡ false) (λ x stood. stood.closed) l.gone held.held.gone;
      unserved = held.held.rest.unserved;
      told = held.held.rest.told;
      results = held.held.rest.results;
      handed = held.held.rest.handed;
      drained = held.held.rest.drained;
    }
