-- A connection as the code holds it, and what each step makes of it.
use Rattle.std.specs.List.{count_by, list_any}
use Rattle.std.specs.Prelude.{◌≡◌, ◌⊎◌, ⊤, ℕ, ◌+◌, ◌-◌, ◌<◌, ◌≤◌, ◌^◌, Bool, true, false, ◌&&◌, ◌||◌, not, is_some, is_none, if◌then◌else◌, nat_lt, All, List, [], ◌∷◌, ◌++◌, drop, filter, length, map, take, Option, None, Some, Result, Ok, Err, slice_set}
use Rattle.http_pieces.specs.Reader.{HasRead, Partial, ReaderValue, Reading, Stopped, Waiting, after_request, is_over, reader_value}
use Rattle.http_pieces.specs.Request.{HttpRequest, most_requests}
use Rattle.call_plan.specs.Plan.{PlanRecord}
use Rattle.connect_codec.specs.declared.answer.Outcome.{Outcome}
use Rattle.gateway_model.specs.Arrival.{arrival_of}
use Rattle.gateway_model.specs.Job.{JobValue}
use Rattle.gateway_model.specs.Occurrence.{Coming, Refused, Request}
use Rattle.gateway_model.specs.Past.{call_id, is_call}
use Rattle.gateway_model.specs.declared.entry.ReplyEntry.{ReplyEntry}
use Rattle.gateway_model.specs.declared.id.CallId.{CallId}
use Rattle.gateway_model.specs.declared.seen.Seen.TheVariants.{Unknown}
use Rattle.gateway_theory.specs.Begins.{arrive}
use Rattle.gateway_theory.specs.Breaks.{seen_by}
use Rattle.gateway_theory.specs.Conn.{fill_at, is_full, slot_at}
use Rattle.gateway_theory.specs.Ends.{AreApart, ended_call, ended_kept}
use Rattle.gateway_theory.specs.Values.{KeptValue, Live, call_at, HeldConnection, held_connection}
use Rattle.gateway_theory.specs.Replies.{ReplyValue}
use Rattle.gateway_theory.specs.Results.{back_kept, is_spent, stepped_kept}
use Rattle.gateway_theory.specs.Step.{Step, has_out, result_on}
use Rattle.gateway_theory.specs.Store.{IsFound, given_up, kept_at}
use Rattle.gateway_theory.specs.declared.fault.StepFault.{StepFault}
use Rattle.gateway_theory.specs.declared.fault.StepFault.TheVariants.{Exhausted, Gone, Memory}
use Rattle.gateway_theory.specs.declared.fault.Took.{Took}
use Rattle.gateway_theory.specs.declared.trigger.Trigger.{Trigger}
use Rattle.gateway_theory.specs.declared.trigger.Trigger.TheVariants.{HungUp}
use Rattle.gateway_theory.specs.Connection.{filled}
use Rattle.gateway_theory.specs.Core.{is_waiting, refusals}

-- nothing of a stream was read
abbrev pub new_reader : ReaderValue
new_reader = reader_value 0 (Partial [])

-- one that has just opened
abbrev pub new_held : ℕ → HeldConnection
new_held number = held_connection number 0 [] [] false false false new_reader

-- ---- what is asked of it

-- the id of its next request
abbrev pub next_held : HeldConnection → CallId
next_held k = call_id k.number (k.taken + length k.slots)

-- pieces of its stream are taken, if it is open
abbrev pub is_listening : HeldConnection → Bool
is_listening k = not k.broken && not k.hung_up

-- it is open, and pieces of its stream are taken
abbrev pub hears : HeldConnection → Bool
hears k = not k.closed && is_listening k

-- how many of its requests wait for their replies
abbrev pub undecided : HeldConnection → ℕ
undecided k = count_by is_none k.slots

-- ---- what holds of it, between two steps

-- its calls are its own, each of another request that came on it; none of one that is broken or closed can be decided, and no more came than can
pub record Holds (k : HeldConnection) : Type 0 where
  pub own : All (λ (c : KeptValue). c.id.conn ≡ k.number) k.calls
  pub apart : AreApart k.calls
  pub came : k.closed ≡ false → All (λ (c : KeptValue). c.id.request < k.taken + length k.slots) k.calls
  pub dead : (k.closed || k.broken) ≡ true → All (λ (c : KeptValue). c.call.live ≡ None) k.calls
  pub few : k.taken + length k.slots ≤ most_requests

-- the text of its stream was read, and no more came on it than that brought
pub record HasBrought (k : HeldConnection) : Type 0 where
  pub text : List ℕ
  pub given : List HttpRequest
  pub reads : HasRead k.reader text given
  pub came : k.taken + length k.slots ≤ length given + refusals k.reader.reading

-- ---- what a step makes of it

-- memory was refused: its calls are given up, and what was queued stays
abbrev pub broken_held : HeldConnection → HeldConnection
broken_held k = record k { calls = map given_up k.calls; broken = true }

-- it is closed: its calls are given up, and all else is dropped
abbrev pub closed_held : HeldConnection → HeldConnection
closed_held k = held_connection k.number k.taken [] (map given_up k.calls) false true k.hung_up new_reader

-- a branch of a call of it is out
abbrev pub has_out_in : HeldConnection → Bool
has_out_in k = list_any (λ (c : KeptValue). list_any (λ b. b) c.call.out) k.calls

-- it is closed, and nothing comes back to it any more
abbrev pub is_gone : HeldConnection → Bool
is_gone k = k.closed && not (has_out_in k)

-- what stays under its number
abbrev pub left_of : HeldConnection → Option HeldConnection
left_of k = if is_gone k then None else Some k

-- its peer hung up
abbrev pub hung_held : HeldConnection → HeldConnection
hung_held k = record k { hung_up = true }

-- its stream was read so far
abbrev pub read_held : ReaderValue → HeldConnection → HeldConnection
read_held reader k = record k { reader = reader }

-- what comes on it at that moment
abbrev pub arriving_in : ℕ → Bool → Coming → HeldConnection → Step
arriving_in moment drained x k = arrive moment drained (is_full k.slots) (next_held k) x

-- a call that begins is kept
abbrev pub kept_now : CallId → Step → Option Live → List KeptValue
kept_now id s None = []
kept_now id s (Some l) = record { id = id; call = s.call } ∷ []

-- something came that makes this step: its slot, and its call
abbrev pub entered_held : Step → HeldConnection → HeldConnection
entered_held s k = record k { slots = k.slots ++ s.reply ∷ []; calls = k.calls ++ kept_now (next_held k) s s.call.live }

-- the slot of that request holds the entry, unless it is taken or filled
abbrev pub replied : ℕ → Option ReplyEntry → HeldConnection → HeldConnection
replied request None k = k
replied request (Some e) k = if nat_lt request k.taken then k else record k { slots = fill_at (request - k.taken) e k.slots }

-- the first reply was taken
abbrev pub taken_held : HeldConnection → HeldConnection
taken_held k = record k { taken = k.taken + 1; slots = drop 1 k.slots }

-- ---- calls that end

-- the entry of the call of that request, if this ends it
abbrev pub ended_entry : Trigger → HeldConnection → ℕ → Option ReplyEntry
ended_entry trigger k request = (ended_call trigger (call_id k.number request) (call_at (call_id k.number request) k.calls)).reply

-- all its calls have ended that this ends, and their entries are in their slots
abbrev pub ended_held : Trigger → HeldConnection → HeldConnection
ended_held trigger k = record k { slots = filled (ended_entry trigger k) k.taken k.slots; calls = map (ended_kept trigger) k.calls }

-- a call of it ends by this
pub record EndsIn (trigger : Trigger) (k : HeldConnection) : Type 0 where
  pub request : ℕ
  pub ends : is_some (ended_entry trigger k request) ≡ true

-- its calls end that this ends; or memory was refused to the reply of one, and it breaks
pub data CallsEnd (trigger : Trigger) (k l : HeldConnection) : Type 0 where
  ended : l ≡ ended_held trigger k → CallsEnd trigger k l
  broke : k.closed ≡ false → k.broken ≡ false → EndsIn trigger k → l ≡ broken_held k → CallsEnd trigger k l

-- ---- results

-- the call at a place made this step
abbrev pub stepped_held : ℕ → Step → HeldConnection → HeldConnection
stepped_held i s k = record k { calls = slice_set k.calls i (stepped_kept s (kept_at i k.calls)) }

-- what a result makes of the call at a place
abbrev pub result_in : ℕ → ℕ → ℕ → Outcome → HeldConnection → Step
result_in moment i branch outcome k = result_on moment branch outcome (slice_set (kept_at i k.calls).call.out branch false) (kept_at i k.calls).call.live

-- .. and its entry is in its slot
abbrev pub settled_held : ℕ → Step → HeldConnection → HeldConnection
settled_held i s k = replied (kept_at i k.calls).id.request s.reply (stepped_held i s k)

-- a branch comes back of the call at a place, which can't be decided any more
abbrev pub back_held : ℕ → ℕ → HeldConnection → HeldConnection
back_held i branch k = record k { calls = slice_set k.calls i (back_kept branch (kept_at i k.calls)) }

-- it breaks, and that branch comes back
abbrev pub lost_held : ℕ → ℕ → HeldConnection → HeldConnection
lost_held i branch k = back_held i branch (broken_held k)

-- the call is forgotten, if nothing is left of it
pub data Forgets (id : CallId) (k l : HeldConnection) : Type 0 where
  stays : is_spent (call_at id k.calls) ≡ false → l ≡ k → Forgets id k l
  forgotten : is_spent (call_at id k.calls) ≡ true → l ≡ record k { calls = filter (λ c. not (is_call c.id id)) k.calls } → Forgets id k l

-- what a result of a branch at that moment makes of it, with the jobs that start, and how it is seen
pub data TakesResult (moment : ℕ) (id : CallId) (branch : ℕ) (outcome : Outcome) (k l : HeldConnection) (jobs : List JobValue) (took : Took) : Type 0 where
  -- of no branch that is out
  unknown : has_out (call_at id k.calls) branch ≡ false → took ≡ record { seen = Unknown; broke = false } → l ≡ k → jobs ≡ [] → TakesResult moment id branch outcome k l jobs took
  -- its call made its step
  settled : (i : ℕ) → IsFound id k.calls (Some i) → has_out (kept_at i k.calls).call branch ≡ true
      → took ≡ record { seen = seen_by (kept_at i k.calls).call branch; broke = false }
      → Forgets id (settled_held i (result_in moment i branch outcome k) k) l → jobs ≡ (result_in moment i branch outcome k).jobs
      → All (λ (j : JobValue). j.call ≡ (kept_at i k.calls).id) jobs
      → TakesResult moment id branch outcome k l jobs took
  -- memory was refused, where it counted
  lost : (i : ℕ) → IsFound id k.calls (Some i) → has_out (kept_at i k.calls).call branch ≡ true → is_some (kept_at i k.calls).call.live ≡ true
      → took ≡ record { seen = seen_by (kept_at i k.calls).call branch; broke = true }
      → Forgets id (lost_held i branch k) l → jobs ≡ [] → TakesResult moment id branch outcome k l jobs took

-- nothing is known of how the branch ended: a call that can be decided breaks its connection, and of another the branch comes back
pub data TakesStarved (id : CallId) (branch : ℕ) (k l : HeldConnection) (took : Took) : Type 0 where
  unknown : has_out (call_at id k.calls) branch ≡ false → took ≡ record { seen = Unknown; broke = false } → l ≡ k → TakesStarved id branch k l took
  late : (i : ℕ) → IsFound id k.calls (Some i) → has_out (kept_at i k.calls).call branch ≡ true → is_none (kept_at i k.calls).call.live ≡ true
      → took ≡ record { seen = seen_by (kept_at i k.calls).call branch; broke = false } → Forgets id (back_held i branch k) l → TakesStarved id branch k l took
  lost : (i : ℕ) → IsFound id k.calls (Some i) → has_out (kept_at i k.calls).call branch ≡ true → is_some (kept_at i k.calls).call.live ≡ true
      → took ≡ record { seen = seen_by (kept_at i k.calls).call branch; broke = true } → Forgets id (lost_held i branch k) l → TakesStarved id branch k l took

-- ---- its stream

-- as many calls may be begun
abbrev pub most_begun : ℕ
most_begun = 2 ^ 56

-- the step begins a call
abbrev pub begins_call : Step → Bool
begins_call s = is_some s.call.live

-- how many calls it begins
abbrev pub begun_by : Step → ℕ
begun_by s = if begins_call s then 1 else 0

-- why it breaks as something comes on it: memory was refused, or a call would begin and as many were begun as may be
abbrev pub IsFault : StepFault → ℕ → Bool → Type 0
IsFault fault begun begins = (fault ≡ Memory) ⊎ ((fault ≡ Exhausted) × (most_begun ≤ begun) × (begins ≡ true))

-- a reader read so many of these bytes
pub record ReadsBytes (n : ℕ) (bytes : List ℕ) (old new : ReaderValue) : Type 0 where
  pub reads : (text : List ℕ) (given : List HttpRequest) → HasRead old text given → HasRead new (text ++ take n bytes) given
  pub within : n ≤ length bytes
  pub moves : 0 < length bytes → is_waiting old.reading ≡ false → 0 < n

-- the request that waited in it was taken
pub record GivesRequest (q : HttpRequest) (old new : ReaderValue) : Type 0 where
  pub waited : old.reading ≡ Waiting q
  pub reads : (text : List ℕ) (given : List HttpRequest) → HasRead old text given → HasRead new text (given ++ q ∷ [])
  pub after : new.reading ≡ after_request q

-- .. or none waited
abbrev pub MayGive : Option HttpRequest → ReaderValue → ReaderValue → Type 0
MayGive None old new = (new ≡ old) × (is_waiting old.reading ≡ false)
MayGive (Some q) old new = GivesRequest q old new

-- so many bytes were read, and the request that they make whole was taken
pub record ReadsOn (n : ℕ) (request : Option HttpRequest) (bytes : List ℕ) (old new : ReaderValue) : Type 0 where
  pub pushed : ReaderValue
  pub reads : ReadsBytes n bytes old pushed
  pub gives : MayGive request pushed new

-- what comes of it: the request, or the refusal to which the stream came
abbrev pub coming_of : List PlanRecord → Option HttpRequest → Reading → Option Coming
coming_of plans (Some q) reading = Some (Request q (arrival_of plans q))
coming_of plans None (Stopped r) = Some (Refused r)
coming_of plans None _ = None

-- what bytes of its stream make of it, with the jobs that start, where so many calls were begun before and so many are then
pub data TakesBytes (plans : List PlanRecord) (moment : ℕ) (drained : Bool) (bytes : List ℕ) (begun : ℕ) (k : HeldConnection)
    (then_begun : ℕ) (l : HeldConnection) (jobs : List JobValue) (result : Result ℕ StepFault) : Type 0 where
  -- none are taken
  not_fed : hears k ≡ false → result ≡ Err Gone → l ≡ k → jobs ≡ [] → then_begun ≡ begun → TakesBytes plans moment drained bytes begun k then_begun l jobs result
  -- the stream has ended, and they are dropped
  dropped : hears k ≡ true → is_over k.reader.reading ≡ true → result ≡ Ok (length bytes) → l ≡ k → jobs ≡ [] → then_begun ≡ begun
      → TakesBytes plans moment drained bytes begun k then_begun l jobs result
  -- the reader found no memory
  unread : hears k ≡ true → is_over k.reader.reading ≡ false → result ≡ Err Memory → l ≡ broken_held k → jobs ≡ [] → then_begun ≡ begun
      → TakesBytes plans moment drained bytes begun k then_begun l jobs result
  -- so many were read, and nothing comes of it
  read : hears k ≡ true → is_over k.reader.reading ≡ false → (n : ℕ) (reader : ReaderValue) → ReadsOn n None bytes k.reader reader → coming_of plans None reader.reading ≡ None
      → result ≡ Ok n → l ≡ read_held reader k → jobs ≡ [] → then_begun ≡ begun → TakesBytes plans moment drained bytes begun k then_begun l jobs result
  -- this came
  came : hears k ≡ true → is_over k.reader.reading ≡ false → (n : ℕ) (request : Option HttpRequest) (reader : ReaderValue) (x : Coming) → ReadsOn n request bytes k.reader reader
      → coming_of plans request reader.reading ≡ Some x → result ≡ Ok n → l ≡ entered_held (arriving_in moment drained x k) (read_held reader k)
      → jobs ≡ (arriving_in moment drained x k).jobs → then_begun ≡ begun + begun_by (arriving_in moment drained x k) → (begun < then_begun → then_begun ≤ most_begun)
      → TakesBytes plans moment drained bytes begun k then_begun l jobs result
  -- this would come, and it broke
  broke : hears k ≡ true → is_over k.reader.reading ≡ false → (n : ℕ) (request : Option HttpRequest) (reader : ReaderValue) (x : Coming) → ReadsOn n request bytes k.reader reader
      → coming_of plans request reader.reading ≡ Some x → (fault : StepFault) → IsFault fault begun (begins_call (arriving_in moment drained x k)) → result ≡ Err fault
      → l ≡ broken_held (read_held reader k) → jobs ≡ [] → then_begun ≡ begun → TakesBytes plans moment drained bytes begun k then_begun l jobs result

-- its peer hangs up
pub data HangsUp (k l : HeldConnection) (result : Result ⊤ StepFault) : Type 0 where
  -- no piece of its stream is taken any more
  unnoticed : hears k ≡ false → result ≡ Err Gone → l ≡ k → HangsUp k l result
  -- its calls end
  hung : hears k ≡ true → result ≡ Ok tt → l ≡ ended_held (HungUp k.number) (hung_held k) → HangsUp k l result
  -- or it breaks
  broke : hears k ≡ true → EndsIn (HungUp k.number) k → result ≡ Err Memory → l ≡ broken_held (hung_held k) → HangsUp k l result

-- ---- what is taken

-- the first reply, and none where its first request has none yet
abbrev pub TakesReply : HeldConnection → HeldConnection → Option ReplyValue → Type 0
TakesReply k l None = (slot_at 0 k.slots ≡ None) × (l ≡ k)
TakesReply k l (Some r) = (slot_at 0 k.slots ≡ Some r.entry) × (r.id ≡ call_id k.number k.taken) × (l ≡ taken_held k)
