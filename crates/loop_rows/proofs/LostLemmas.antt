-- What a loop with one job goes on with.
use Rattle.std.proofs.Common.{◌≡◌, ℕ, ◌≤◌, zero, suc, List, [], ◌∷◌, ◌++◌, length, Option, None, Some, ap, arith, inl, inr, refl, sym, ◌∙◌}
use Rattle.std.proofs.lemmas.List.{length-append}
use Rattle.std.proofs.lemmas.List.Elements.{All-nil}
use Rattle.connect_codec.specs.declared.answer.Outcome.{Outcome}
use Rattle.gateway_model.specs.Job.{JobValue}
use Rattle.gateway_model.specs.Starts.{Placed}
use Rattle.gateway_theory.specs.Values.{GatewayValue}
use Rattle.gateway_theory.specs.lemmas.PastLemmas.{prefix-refl}
use Rattle.std.specs.declared.net.socket_addr.SocketAddr.{SocketAddr}
use Rattle.loop_model.specs.Asking.{AskingValue, BeginsRequest, EndedValue, IsUntouched, ended_value}
use Rattle.loop_model.specs.Clients.{ClientValue}
use Rattle.loop_model.specs.Growing.{Continues}
use Rattle.loop_model.specs.Requests.{request_of}
use Rattle.loop_model.specs.Shares.{IsStreamFor}
use Rattle.loop_model.specs.Streams.{IsNew, StreamValue}
use Rattle.loop_model.specs.declared.manner.Manner.{Manner}
use Rattle.loop_model.specs.Histories.{Extends, GoesOn, LivesOn}
use Rattle.loop_model.specs.Explained.{LoopValue}
use Rattle.gateway_model.specs.History.{History}
use Rattle.loop_model.specs.Whole.{AsksOn, HasEndedSince, WholeLoop, asked_at}
use Rattle.loop_rows.specs.LoopRows.{asked, asking, loop_of, new_stream}
use Rattle.wires.specs.Turns.{Turn}

pub some_is : (a b : AskingValue) → Some a ≡ Some b → a ≡ b
some_is a b e = cc

pub none_is : (b : AskingValue) → None ≡ Some b → ⊥
none_is b e = cc

pub some_stream : (s t : StreamValue) → Some s ≡ Some t → s ≡ t
some_stream s t e = cc

pub no_stream : (s : StreamValue) → Some s ≡ None → ⊥
no_stream s e = cc

none_there : (b : ClientValue) → None ≡ Some b → ⊥
none_there b e = cc

-- nothing came
pub extends_none : (h : History) → Extends h h
extends_none h = record { later = []; events_are = refl; openings = λ place lt. refl; taken = λ c. prefix-refl (h.taken c); handed = prefix-refl h.handed }

-- .. and nothing was lived
lives_none : (v : GatewayValue) (h : History) → LivesOn v h v h
lives_none v h = λ occurred o lived l. record {
  later = [];
  since = All-nil (λ (x : Placed). length h.events ≤ x.0);
  lives = l;
}

pub goes_on : (l : LoopValue) → GoesOn l l
goes_on l = λ unknown h held. (h, held, extends_none h, lives_none l.core h)

-- nobody is there, and this is more
pub side_on : (m : Manner) (v : GatewayValue) (results more : List (JobValue × Option Outcome)) (handed : List JobValue)
    → GoesOn (loop_of m v results handed [] []).side (loop_of m v (results ++ more) handed [] []).side
    → Continues (loop_of m v results handed [] []).side (loop_of m v (results ++ more) handed [] []).side
side_on m v results more handed history = record {
  history = history;
  plans = refl;
  clients = λ i x is. absurd (none_there x (nobody i ∙ is));
  gone = prefix-refl [];
  told = prefix-refl [];
  results = (more, refl);
  unserved = prefix-refl [];
  handed = prefix-refl handed;
}
  where
    nobody : (i : ℕ) → None ≡ Rattle.loop_model.specs.Explained.at i []
    nobody zero = refl
    nobody (suc i) = refl

-- it stands in the first place alone
pub alone : (i : ℕ) (x y : AskingValue) → asked_at i (Some x ∷ []) ≡ Some y → (i ≡ 0) × (x ≡ y)
alone zero x y is = (refl, some_is x y is)
alone (suc zero) x y is = absurd (none_is y is)
alone (suc (suc i)) x y is = absurd (none_is y is)

-- .. or in the second
pub second : (i : ℕ) (x y : AskingValue) → asked_at i (None ∷ Some x ∷ []) ≡ Some y → x ≡ y
second zero x y is = absurd (none_is y is)
second (suc i) x y is = (alone i x y is).1

-- .. or nowhere
pub nowhere : (i : ℕ) (y : AskingValue) → asked_at i (None ∷ []) ≡ Some y → ⊥
nowhere zero y is = none_is y is
nowhere (suc i) y is = none_is y is

-- nothing was done for it yet
pub begins_at_first : (m : Manner) (j : JobValue) → BeginsRequest m (asking j)
begins_at_first m j = record {
  new = All-nil IsNew;
  untouched = All-nil IsUntouched;
  goes_over = All-nil (IsStreamFor m j.address);
  prefix = (request_of m j, refl);
  addressed = record { later = []; in_order = inr refl };
}

-- nothing ended since where nothing has ended
pub nothing_since : (v w : WholeLoop) (y : AskingValue) → w.ended ≡ [] → HasEndedSince v w y → ⊥
nothing_since v w y none e =
    omega (
      arith,
      ap (λ (l : List EndedValue). length l) (sym none ∙ e.ended_are),
      length-append v.ended (e.before ++ ended_value y e.outcome ∷ e.after),
      length-append e.before (ended_value y e.outcome ∷ e.after),
    )

-- one that is asked for has more turns
pub more_turns : (a : SocketAddr) (j : JobValue) (turns more : List Turn) → AsksOn (asked a j [] turns) (asked a j [] (turns ++ more))
more_turns a j turns more = record {
  job = refl;
  found = prefix-refl (a ∷ []);
  streams = inl record {
    tried = refl;
    stream = inr (new_stream a (turns ++ more), refl, record { peer = refl; before = refl; turns = (more, refl) });
    reported = inr (prefix-refl []);
  };
}
