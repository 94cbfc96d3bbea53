-- The lemmas of this crate, and the names that most proofs cite.
pub use Rattle.std.proofs.Common.{arith, rules, [], refl, ◌≡◌, ◌∷◌, ◌≤◌, List, ◌++◌, ap, ◌∙◌, ℕ, ◌+◌, length, subst, sym, take, length-append, ◌-◌, drop, append_assoc, lit≤}
pub use Rattle.std.specs.Prelude.{Option, Some, false, None, Bool, filter, Result, Ok, Err, MatchResult, true}
pub use Rattle.gateway_model.specs.History.{after_event, after_jobs, History, after_opening}
pub use Rattle.gateway_model.specs.declared.event.Event.TheVariants.{BranchResult, Opening, Closing, Drain, HangUp, Moment, Piece}
use Rattle.std.proofs.lemmas.Bool.Decides.{nat_tests}
use Rattle.gateway_model.specs.declared.seen.Seen.{Seen}
use Rattle.gateway_model.specs.declared.seen.Seen.TheVariants.{Counted, Late, Unknown}
use Rattle.gateway_model.specs.declared.event.Event.{Event}
pub use Rattle.gateway_theory.specs.Values.{GatewayValue}
use Rattle.gateway_model.specs.Job.{JobValue}
use Rattle.gateway_theory.specs.Replies.{ReplyValue}
use Rattle.gateway_theory.specs.Served.{Served, after_reply}
use Rattle.gateway_theory.specs.Tally.{is_counted, is_late, is_unknown, most_counted, tally_of}
pub use Rattle.backend_pool.specs.Book.{BookStands, BookValue, HandsJobs, HandsReply, IsTallied, TakesEvent, TakesOpening, bytes_in, bytes_of, reply_given, results_in, results_of}
use Rattle.std.proofs.lemmas.Grind.{common_steps}
use Rattle.std.specs.List.{AllZip}
use Rattle.connect_codec.specs.declared.answer.Outcome.{Outcome}
use Rattle.gateway_theory.specs.Task.{HandedJob}
use Rattle.branch_exchange.specs.declared.asked.Asked.{Asked}
pub use Rattle.backend_pool.specs.Work.{Told, WorksAt, NextTells, RecordTells, IsOutcomeOf, desk_record, SendsOn, unrecorded}
pub use Rattle.std.specs.Io.KnownBytes.{Appends, Consumes}
pub use Rattle.std.proofs.KnownBytes.{Appends-nil, Appends-trans, Consumes-trans}
use Rattle.std.proofs.lemmas.List.{nil_from_length, take-append-drop}
pub use Rattle.http_pieces.specs.ReplyReader.{ReplyReaderValue}
use Rattle.http_pieces.specs.declared.framing.Framing.TheVariants as framing
use Rattle.http_pieces.specs.declared.reply.HttpReply.{HttpReply}
use Rattle.branch_exchange.specs.Exchange.{BeginsWithReply, ComesTo, ExchangeValue}
pub use Rattle.branch_exchange.specs.Exchange.{IsReading}
use Rattle.branch_exchange.specs.declared.exchange_end.ExchangeEnd.TheVariants as ends
use Rattle.branch_exchange.specs.Outcomes.{asked_of}
use Rattle.branch_exchange.specs.declared.exchange_end.ExchangeEnd.{ExchangeEnd}
use Rattle.branch_exchange.specs.declared.asked.Asked.TheVariants as asked

-- ---- how results were seen

-- the tally of the core has grown by so many results
abbrev pub CoreTallies : ℕ → GatewayValue → GatewayValue → Type 0
CoreTallies n v w = (seen : List Seen) × (length seen ≡ n) × ((before : List Seen) → v.tally ≡ tally_of before → w.tally ≡ tally_of (seen ++ before))

tallied_then : (n results more : ℕ) (v w : GatewayValue) → CoreTallies n v w → more ≡ results + n → IsTallied v results → IsTallied w more
tallied_then n results more v w t is h =
    (t.0 ++ h.0, t.2 h.0 h.1, let now : length t.0 ≡ n = t.1 in let was : length h.0 ≡ results = h.2 in length-append t.0 h.0 ∙ omega (arith, now, was, is))

-- each result was seen in one of three ways
kinds : (seen : List Seen) → length (filter is_counted seen) + length (filter is_late seen) + length (filter is_unknown seen) ≡ length seen
kinds [] = refl
kinds (Counted ∷ seen) = let rest = kinds seen in omega (arith, rest)
kinds (Late ∷ seen) = let rest = kinds seen in omega (arith, rest)
kinds (Unknown ∷ seen) = let rest = kinds seen in omega (arith, rest)

-- while fewer came than are counted, the tally has them all
pub tally_sums : (v : GatewayValue) (results : ℕ) → results ≤ most_counted → IsTallied v results → v.tally.counted + v.tally.late + v.tally.unknown ≡ results
tally_sums v results few h = grind (arith, nat_tests, kinds)

-- ---- what comes, and what is taken

-- so many bytes, jobs and results are in the one history beside those of the other
record Adds (bytes jobs results : ℕ) (h k : History) : Type 0 where
  bytes_are : bytes_of k.events ≡ bytes_of h.events + bytes
  jobs_are : length k.handed ≡ length h.handed + jobs
  results_are : results_of k.events ≡ results_of h.events + results

module _ (b c : BookValue) where
  -- a book goes on to the history that this makes of its own, if its core does and its totals have grown by as much
  goes : (f : History → History) (bytes jobs results : ℕ) → ((h : History) → Adds bytes jobs results h (f h)) → ((h : History) → Served b.core h → Served c.core (f h))
      → CoreTallies results b.core c.core → c.bytes ≡ b.bytes + bytes → c.jobs ≡ b.jobs + jobs → c.results ≡ b.results + results → (h : History) → BookStands b h → BookStands c (f h)
  goes f bytes jobs results adds core tallies bytes_is jobs_is results_is h s =
      let more = adds h in
      let served = core h s.served in
      search (arith, nat_tests, tallied_then)

  pub takes_event : (e : Event) → ((h : History) → Served b.core h → Served c.core (after_event e h)) → CoreTallies (results_in e) b.core c.core
      → c.bytes ≡ b.bytes + bytes_in e → c.jobs ≡ b.jobs + 0 → c.results ≡ b.results + results_in e → TakesEvent e b c
  takes_event e = goes (after_event e) (bytes_in e) 0 (results_in e) (λ h. record { bytes_are = refl; jobs_are = omega arith; results_are = refl })

  pub takes_opening : {E : Type 0} → (result : Result ℕ E)
      → ((h : History) → Served b.core h → MatchResult result (λ _. Served c.core (after_opening h)) (λ _. Served c.core (after_event Opening h)))
      → CoreTallies 0 b.core c.core → c.bytes ≡ b.bytes + 0 → c.jobs ≡ b.jobs + 0 → c.results ≡ b.results + 0 → TakesOpening result b c
  takes_opening (Ok n) = goes after_opening 0 0 0 (λ h. record { bytes_are = refl; jobs_are = omega arith; results_are = refl })
  takes_opening (Err e) = takes_event Opening

  pub hands_jobs : (jobs : List JobValue) → ((h : History) → Served b.core h → Served c.core (after_jobs jobs h)) → CoreTallies 0 b.core c.core
      → c.bytes ≡ b.bytes + 0 → c.jobs ≡ b.jobs + length jobs → c.results ≡ b.results + 0 → HandsJobs jobs b c
  hands_jobs jobs = goes (after_jobs jobs) 0 (length jobs) 0 (λ h. record { bytes_are = omega arith; jobs_are = length-append h.handed jobs; results_are = omega arith })

  pub hands_reply : (conn : ℕ) (reply : Option ReplyValue) → ((h : History) → Served b.core h → Served c.core (after_reply conn reply h)) → CoreTallies 0 b.core c.core
      → c.bytes ≡ b.bytes + 0 → c.jobs ≡ b.jobs + 0 → c.results ≡ b.results + 0 → HandsReply conn reply b c
  hands_reply conn reply = goes (after_reply conn reply) 0 0 0 (λ h. record { bytes_are = omega arith; jobs_are = omega arith; results_are = omega arith })

-- ---- lemmas on what a worker does at a desk that tells its records

pub AllZip_more : {A B : Type 0} (R : A → B → Type 0) (xs : List A) (ys : List B) (x : A) (y : B) → AllZip R xs ys → R x y → AllZip R (xs ++ x ∷ []) (ys ++ y ∷ [])
AllZip_more R [] [] x y s r = (r, tt)
AllZip_more R [] (z ∷ ys) x y s r = absurd s
AllZip_more R (z ∷ xs) [] x y s r = absurd s
AllZip_more R (z ∷ xs) (w ∷ ys) x y s r = (s.0, AllZip_more R xs ys x y s.1 r)

pub works_none : (gives : HandedJob → Asked → Type 0) (told : Option Told) → WorksAt gives 0 told told
works_none gives None = tt
works_none gives (Some t) = record {
  jobs = [];
  last = [];
  written = [];
  took = grind (arith, common_steps);
  wrote = grind (arith, common_steps);
  each = tt;
  few = lit≤ tt;
}

-- one job more was taken, and recorded or not
pub works_then : (gives : HandedJob → Asked → Type 0) (old mid one new : Option Told) (job : HandedJob) (outcome : Option Outcome) (result : Bool)
    → WorksAt gives 0 old mid → NextTells mid one (Some job) → RecordTells one new job outcome result → IsOutcomeOf gives job outcome
    → WorksAt gives (unrecorded result) old new
works_then gives None mid one new job outcome result w n r o = tt
works_then gives (Some old) None one new job outcome result w n r o = absurd w
works_then gives (Some old) (Some mid) None new job outcome result w n r o = absurd n
works_then gives (Some old) (Some mid) (Some one) None job outcome result w n r o = absurd r
works_then gives (Some old) (Some mid) (Some one) (Some new) job outcome true w n r o =
    let none = nil_from_length w.last (omega (arith, w.few)) in
    record {
      jobs = w.jobs ++ job ∷ [];
      last = [];
      written = w.written ++ desk_record job outcome ∷ [];
      took = grind (arith, common_steps, none, w.took, n.0, r.0);
      wrote = grind (arith, common_steps, w.wrote, n.1, r.1);
      each = AllZip_more _ _ _ _ _ w.each (record { call_is = refl; branch_is = refl; outcome_is = o });
      few = lit≤ tt;
    }
works_then gives (Some old) (Some mid) (Some one) (Some new) job outcome false w n r o =
    let none = nil_from_length w.last (omega (arith, w.few)) in
    record {
      jobs = w.jobs;
      last = job ∷ [];
      written = w.written;
      took = grind (arith, common_steps, none, w.took, n.0, r);
      wrote = grind (arith, common_steps, w.wrote, n.1, r);
      each = w.each;
      few = lit≤ tt;
    }

-- ---- lemmas on what was written and read in an exchange over ends that wait

-- some more was written
pub sends_more : (u v w : Option (List ℕ)) (all left : List ℕ) (n : ℕ) → SendsOn u v all left → Appends v w (take n left) → SendsOn u w all (drop n left)
sends_more u v w all left n s more = (s.0 ++ take n left, grind (arith, common_steps, Appends-trans), grind (arith, common_steps, take-append-drop))

-- where a reply is told, what was read begins with it
pub reply_begins : (x : ExchangeValue) (bytes : List ℕ) (end : ExchangeEnd) (reply : HttpReply)
    → ComesTo framing.Fixed x bytes (Some end) → asked_of end ≡ asked.Reply reply → BeginsWithReply framing.Fixed bytes reply
reply_begins x bytes (ends.Reply told) reply comes is =
    let same : told ≡ reply = cc in
    subst (λ (q : HttpReply). BeginsWithReply framing.Fixed bytes q) same comes.0
reply_begins x bytes (ends.Lost loss) reply comes is = absurd (cc)
reply_begins x bytes ends.NoMemory reply comes is = absurd (cc)
