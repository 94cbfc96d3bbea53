-- A piece that is fed in parts.
use Rattle.std.proofs.Common.{◌≡◌, ℕ, ◌-◌, Bool, true, false, List, [], ◌∷◌, ◌++◌, take, drop, length, refl, sym, ap, ◌∙◌, subst, arith, inl, inr, append-nil, append_assoc}
use Rattle.std.specs.Prelude.{◌==◌, ◌↔◌, ◌⊎◌, ◌<◌, ◌≤◌, filter, OnOk, Result, Ok, Err, IsErr, IsErrAnd}
use Rattle.gateway_theory.specs.declared.fault.StepFault.{StepFault}
use Rattle.gateway_theory.specs.declared.fault.StepFault.TheVariants.{Exhausted, Gone, Memory}
use Rattle.std.proofs.lemmas.Bool.{cases_lt, eqb-true}
use Rattle.std.proofs.lemmas.List.Elements.{filter-append}
use Rattle.std.proofs.lemmas.List.{length-drop, take-append-drop, take_all}
use Rattle.gateway_model.specs.declared.event.Event.TheVariants.{Piece}
use Rattle.gateway_model.specs.Known.{is_of}
use Rattle.gateway_theory.specs.Gateway.{is_broken_conn, untaken_of}
use Rattle.gateway_theory.specs.Values.{GatewayValue}
use Rattle.gateway_model.specs.History.{History}
use Rattle.gateway_theory.specs.Served.{Adds, FedUpTo, HasConns}
use Rattle.gateway_theory.specs.Told.{AddsEvent, BeginsWithin}
use Rattle.gateway_theory.specs.Serving.{CountsCalls, NotListening, Keeps, TellsStep, WouldBegin}
use Rattle.gateway_theory.specs.Held.{most_begun}

-- nothing was fed yet, or the connection listens, and did
pub data Listening (conn : ℕ) (v w : GatewayValue) : Type 0 where
  first : w ≡ v → Listening conn v w
  later : (NotListening conn w → ⊥) → (NotListening conn v → ⊥) → Listening conn v w

-- what was fed, with what is left, is the piece
pub record Delivery (conn : ℕ) (piece rest : List ℕ) (v w : GatewayValue) : Type 0 where
  pub done : List ℕ
  pub whole : done ++ rest ≡ piece
  pub fed : (history : History) → HasConns v history.opened history.events → FedUpTo conn done history v w
  pub keeps : Keeps (λ c. c == conn) v w
  pub counts : CountsCalls v w
  pub listening : Listening conn v w

abbrev pub Begins : Type 0
Begins = (n : ℕ) (v : GatewayValue) (history : History) → HasConns v history.opened history.events → FedUpTo n [] history v v

-- nothing changed
keeps_still : (breaks : ℕ → Bool) (v : GatewayValue) → Keeps breaks v v
keeps_still breaks v = record {
  plans_are = refl;
  begun_is = λ few. refl;
  tally_is = λ before e. e;
  stays_silent = λ c silent. silent;
  stays_broken = λ c other broken. broken;
  broken_are = λ c now before. absurd (let clash : true ≡ false = sym now ∙ before in cc);
  replies_stay = λ c other. ([], sym (append-nil (untaken_of c v)));
  no_replies = λ c other silent. refl;
  jobs = [];
  jobs_are = sym (append-nil v.jobs);
  no_jobs = λ c silent. refl;
}

counts_still : (v : GatewayValue) → CountsCalls v v
counts_still v = record { grows = omega arith; sum_is = refl; few = λ more. absurd (omega (arith, more)) }

-- calls are begun one step after another
pub counts_then : (u v w : GatewayValue) → CountsCalls u v → CountsCalls v w → CountsCalls u w
counts_then u v w a b = record {
  grows = omega (arith, a.grows, b.grows);
  sum_is = omega (arith, a.sum_is, b.sum_is);
  few = λ more. by_last (cases_lt v.begun w.begun) more;
}
  where
    by_last : (v.begun < w.begun) ⊎ (w.begun ≤ v.begun) → u.begun < w.begun → w.begun ≤ most_begun
    by_last (inl lt) more = b.few lt
    by_last (inr le) more = let first : u.begun < v.begun → v.begun ≤ most_begun = a.few in let same : w.begun ≡ v.begun = omega (arith, le, b.grows) in
        subst (λ n. n ≤ most_begun) (sym same) (first (omega (arith, more, same)))

pub begun : Begins → (conn : ℕ) (piece : List ℕ) (v : GatewayValue) → Delivery conn piece piece v v
begun begins conn piece v = record {
  done = [];
  whole = refl;
  fed = λ history h. begins conn v history h;
  keeps = keeps_still (λ c. c == conn) v;
  counts = counts_still v;
  listening = first refl;
}

pub keeps_then : (breaks : ℕ → Bool) (u v w : GatewayValue) → Keeps breaks u v → Keeps breaks v w → CountsCalls u w → Keeps breaks u w
keeps_then breaks u v w a b counts = record {
  plans_are = b.plans_are ∙ a.plans_are;
  begun_is = λ few. omega (arith, few, counts.grows, counts.sum_is);
  tally_is = λ before e. b.tally_is before (a.tally_is before e);
  stays_silent = λ c silent. b.stays_silent c (a.stays_silent c silent);
  stays_broken = λ c other broken. b.stays_broken c other (a.stays_broken c other broken);
  broken_are = λ c now before. by_middle c (is_broken_conn c v) refl now before;
  replies_stay = λ c other.
      let first = a.replies_stay c other in
      let second = b.replies_stay c other in
      (first.0 ++ second.0, second.1 ∙ ap (λ xs. xs ++ second.0) first.1 ∙ append_assoc (untaken_of c u) first.0 second.0);
  no_replies = λ c other silent. b.no_replies c other (a.stays_silent c silent) ∙ a.no_replies c other silent;
  jobs = a.jobs ++ b.jobs;
  jobs_are = b.jobs_are ∙ ap (λ js. js ++ b.jobs) a.jobs_are ∙ append_assoc u.jobs a.jobs b.jobs;
  no_jobs = λ c silent. filter-append (is_of c) a.jobs b.jobs ∙ ap (λ js. js ++ filter (is_of c) b.jobs) (a.no_jobs c silent) ∙ b.no_jobs c (a.stays_silent c silent);
}
  where
    by_middle : (c : ℕ) (m : Bool) → is_broken_conn c v ≡ m → is_broken_conn c w ≡ true → is_broken_conn c u ≡ false → breaks c ≡ true
    by_middle c true m_is now before = a.broken_are c m_is before
    by_middle c false m_is now before = b.broken_are c now m_is

pub at_first : (conn : ℕ) (u v : GatewayValue) → Listening conn u v → (NotListening conn v → ⊥) → NotListening conn u → ⊥
at_first conn u v (first same) was not_listening = was (subst (NotListening conn) (sym same) not_listening)
at_first conn u v (later now before) was not_listening = before not_listening

pub not_listening_at_first : (conn : ℕ) (u v : GatewayValue) → Listening conn u v → NotListening conn v → (v ≡ u) × NotListening conn u
not_listening_at_first conn u v (first same) not_listening = (same, subst (NotListening conn) same not_listening)
not_listening_at_first conn u v (later now before) not_listening = absurd (now not_listening)

pub not_listening_now : (conn : ℕ) (u v : GatewayValue) → Listening conn u v → NotListening conn u → NotListening conn v
not_listening_now conn u v (first same) not_listening = subst (NotListening conn) (sym same) not_listening
not_listening_now conn u v (later now before) not_listening = absurd (before not_listening)

abbrev fault_in : {A : Type 0} → Result A StepFault → StepFault
fault_in (Ok a) = Gone
fault_in (Err fault) = fault

-- what is answered of the piece, by what was of its last part
pub gone_so : {A B : Type 0} (conn : ℕ) (u v : GatewayValue) (fed : Result A StepFault) (r : Result B StepFault) (fault : StepFault) → Listening conn u v → fed ≡ Err fault → r ≡ Err fault
    → (fed ≡ Err Gone) ↔ NotListening conn v → (r ≡ Err Gone) ↔ NotListening conn u
gone_so {A} {B} conn u v fed r fault h fed_is r_is gone = (
  λ e. (not_listening_at_first conn u v h (gone.0 (fed_is ∙ ap (λ f. err_a f) (ap fault_in (sym r_is ∙ e))))).1,
  λ not_listening. r_is ∙ ap (λ f. err_b f) (ap fault_in (sym fed_is ∙ gone.1 (not_listening_now conn u v h not_listening))),
)
  where
    err_a : StepFault → Result A StepFault
    err_a f = Err f

    err_b : StepFault → Result B StepFault
    err_b f = Err f

-- both end by the same fault
pub fault_same : {A B : Type 0} (fed : Result A StepFault) (r : Result B StepFault) (fault other : StepFault) → fed ≡ Err fault → r ≡ Err fault → r ≡ Err other → fed ≡ Err other
fault_same fed r fault other fed_is r_is e = fed_is ∙ ap (λ f. Err f) (ap fault_in (sym r_is ∙ e))

pub listening_ok : (conn : ℕ) (v : GatewayValue) (fed : Result ℕ StepFault) (n : ℕ) → fed ≡ Ok n → (fed ≡ Err Gone) ↔ NotListening conn v → NotListening conn v → ⊥
listening_ok conn v fed n is gone not_listening = let clash : Ok n ≡ Err Gone = sym is ∙ gone.1 not_listening in cc

pub from_err : {T : Type 0} (r : Result T StepFault) (f : StepFault) → IsErr r → IsErrAnd r (λ e. e ≡ f) → r ≡ Err f
from_err (Ok t) f bad same = absurd (cc)
from_err (Err e) f bad same = ap Err same

pub fed_on : (conn n : ℕ) (piece rest : List ℕ) (u v w : GatewayValue) → Delivery conn piece rest u v
    → ((fed : List ℕ) (history : History) (first : GatewayValue) → FedUpTo conn fed history first v → FedUpTo conn (fed ++ take n rest) history first w)
    → Keeps (λ c. c == conn) v w → CountsCalls v w → (NotListening conn v → ⊥) → (NotListening conn w → ⊥) → Delivery conn piece (drop n rest) u w
fed_on conn n piece rest u v w d stands keeps counts was now = record {
  done = d.done ++ take n rest;
  whole = append_assoc d.done (take n rest) (drop n rest) ∙ ap (λ xs. d.done ++ xs) (take-append-drop n rest) ∙ d.whole;
  fed = λ history h. stands d.done history u (d.fed history h);
  keeps = keeps_then (λ c. c == conn) u v w d.keeps keeps (counts_then u v w d.counts counts);
  counts = counts_then u v w d.counts counts;
  listening = later now (at_first conn u v d.listening was);
}

-- what one event adds, if it does so by the connections
adds_by : (conn : ℕ) (piece : List ℕ) (v w : GatewayValue) → Keeps (λ c. c == conn) v w
    → ((history : History) → HasConns v history.opened history.events → Adds history.opened (Piece conn piece) history v w) → AddsEvent (Piece conn piece) v w
adds_by conn piece v w keeps adds history = record {
  plans_are = keeps.plans_are;
  conns = λ h. (adds history h).conns h;
  lives = λ lived l. (adds history l.conns).lives lived l;
}

pub fed_whole : (conn : ℕ) (piece rest : List ℕ) (v w : GatewayValue) → Delivery conn piece rest v w → rest ≡ [] → AddsEvent (Piece conn piece) v w
fed_whole conn piece rest v w d none = adds_by conn piece v w d.keeps (λ history h.
    subst (λ bytes. Adds history.opened (Piece conn bytes) history v w) (sym (append-nil d.done) ∙ ap (λ xs. d.done ++ xs) (sym none) ∙ d.whole) (d.fed history h).adds)

pub fed_fault : (conn : ℕ) (piece rest : List ℕ) (u v w : GatewayValue) → Delivery conn piece rest u v
    → ((fed : List ℕ) (history : History) (first : GatewayValue) → FedUpTo conn fed history first v → Adds history.opened (Piece conn (fed ++ rest)) history first w)
    → Keeps (λ c. c == conn) v w → CountsCalls v w → AddsEvent (Piece conn piece) u w
fed_fault conn piece rest u v w d stands keeps counts = adds_by conn piece u w (keeps_then (λ c. c == conn) u v w d.keeps keeps (counts_then u v w d.counts counts)) (λ history h.
    subst (λ bytes. Adds history.opened (Piece conn bytes) history u w) d.whole (stands d.done history u (d.fed history h)))

-- ---- what is left of a slice

pub all_rest : (n : ℕ) (rest : List ℕ) → take (length rest - n) (drop n rest) ≡ drop n rest
all_rest n rest = take_all (length rest - n) (drop n rest) (omega (arith, length-drop n rest))

pub empty_rest : (n : ℕ) (rest : List ℕ) → true ≡ (length (take (length rest - n) (drop n rest)) == 0) → drop n rest ≡ []
empty_rest n rest e =
    let none : length (drop n rest) ≡ 0 = eqb-true (length (drop n rest)) 0 (sym (rw (all_rest n rest) at e)) in
    nothing (drop n rest) none
  where
    nothing : (xs : List ℕ) → length xs ≡ 0 → xs ≡ []
    nothing [] e = refl
    nothing (x ∷ xs) e = absurd (omega (arith, e))

-- ---- what the piece tells, by what its last part does

pub fault_tells : {A B : Type 0} (conn : ℕ) (u v w : GatewayValue) (fed : Result A StepFault) (r : Result B StepFault) (fault : StepFault) → Listening conn u v → fed ≡ Err fault → r ≡ Err fault
    → TellsStep conn v w fed → TellsStep conn u w r
fault_tells conn u v w fed r fault h fed_is r_is tells = record {
  gone = gone_so conn u v fed r fault h fed_is r_is tells.gone;
  unchanged = λ e. let gone = fault_same fed r fault Gone fed_is r_is e in tells.unchanged gone ∙ (not_listening_at_first conn u v h (tells.gone.0 gone)).0;
  broke = λ e. tells.broke (fault_same fed r fault Memory fed_is r_is e);
  exhausted = λ e. tells.exhausted (fault_same fed r fault Exhausted fed_is r_is e);
  unbroken = subst (λ x. OnOk x (is_broken_conn conn w ≡ false)) (sym r_is) tt;
}

-- a call would begin with what is left of the piece
pub begins_within : (conn : ℕ) (piece rest : List ℕ) (v w : GatewayValue) → Delivery conn piece rest v w → WouldBegin conn rest w → BeginsWithin conn piece v
begins_within conn piece rest v w d begins = record { fed = d.done; rest = rest; parts = d.whole; now = w; stands = λ history s. d.fed history s.conns; begins = begins }

pub whole_tells : {B : Type 0} (conn n : ℕ) (u v w : GatewayValue) (fed : Result ℕ StepFault) (b : B) → Listening conn u v → fed ≡ Ok n → TellsStep conn v w fed → TellsStep conn u w (Ok b)
whole_tells conn n u v w fed b h fed_is tells = record {
  gone = (λ e. absurd (let clash = e in cc), λ not_listening. absurd (at_first conn u v h (listening_ok conn v fed n fed_is tells.gone) not_listening));
  unchanged = λ e. absurd (let clash = e in cc);
  broke = λ e. absurd (let clash = e in cc);
  exhausted = λ e. absurd (let clash = e in cc);
  unbroken = subst (λ x. OnOk x (is_broken_conn conn w ≡ false)) fed_is tells.unbroken;
}
