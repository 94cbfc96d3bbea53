-- What is kept of a connection stays what it is by each of its steps.
use Rattle.std.specs.Prelude.{◌≡◌, ◌+◌, ◌<◌, ◌∷◌, ◌++◌, ◌≤◌, ◌||◌, ◌==◌, ◌&&◌, if◌then◌else◌}
use Rattle.gateway_theory.specs.lemmas.Names.{ℕ, true, false, List, [], map, length, Option, None, Some, refl, sym, ap, ◌∙◌, subst, arith, Bool, nat_tests, All, not, slice_set, filter, is_none, take, append-nil, length-append, length-map, All-append, All-filter, All-get_or, All-map, All-set, most_requests, HttpRequest, Outcome, is_call, most_calls, ReplyEntry, CallId, AreApart, ended_if, ended_kept, KeptValue, Live, HeldConnection, back_kept, stepped_kept, Step, result_on, given_up, kept_at, no_call, Trigger, Forgets, forgotten, stays, Holds, back_held, broken_held, closed_held, ended_entry, ended_held, entered_held, hung_held, kept_now, lost_held, next_held, replied, result_in, settled_held, stepped_held, HasBrought, ReadsOn, arriving_in, coming_of, has_out_in, hears, is_gone, new_held, new_reader, read_held, undecided, count_by, list_any, leb-false, HasRead, ReaderValue, is_over, PlanRecord, Coming, arrive, filled, is_waiting, refusals, IsHeld}
use Rattle.gateway_theory.specs.lemmas.StoreLemmas.{calls_filtered, calls_more, ids_mapped, ids_set, fewer, one_more}
use Rattle.gateway_theory.specs.lemmas.ConnectionSteps.{filled_size, filled_at}
use Rattle.gateway_theory.specs.lemmas.HeldValues.{fresh_in, replied_rest, replied_slots}
use Rattle.gateway_theory.specs.lemmas.ServedPieces.{few_given, no_refusal}

-- a call that can't be decided stays so
abbrev pub IsDead : KeptValue → Type 0
IsDead c = c.call.live ≡ None

-- ---- it breaks, is closed, is read, or its peer hangs up

pub holds_broken : (k : HeldConnection) → Holds k → Holds (broken_held k)
holds_broken k h = record {
  own = All-map (λ (c : KeptValue). c.id.conn ≡ k.number) given_up k.calls h.own;
  apart = ids_mapped given_up k.calls (λ c. refl) h.apart;
  came = λ still. All-map (λ (c : KeptValue). c.id.request < k.taken + length k.slots) given_up k.calls (h.came still);
  dead = λ shut. All-map IsDead given_up k.calls (λ i d lt. refl);
  few = h.few;
}

pub holds_closed : (k : HeldConnection) → Holds k → Holds (closed_held k)
holds_closed k h = record {
  own = All-map (λ (c : KeptValue). c.id.conn ≡ k.number) given_up k.calls h.own;
  apart = ids_mapped given_up k.calls (λ c. refl) h.apart;
  came = λ still. absurd (cc);
  dead = λ shut. All-map IsDead given_up k.calls (λ i d lt. refl);
  few = let few = h.few in omega (arith, few);
}

pub holds_hung : (k : HeldConnection) → Holds k → Holds (hung_held k)
holds_hung k h = record { own = h.own; apart = h.apart; came = h.came; dead = h.dead; few = h.few }

-- ---- a slot is filled, or a reply taken

replied_size : (q : ℕ) (reply : Option ReplyEntry) (k : HeldConnection) → length (replied q reply k).slots ≡ length k.slots
replied_size q reply k = ap (λ (l : List (Option ReplyEntry)). length l) (replied_slots q reply k) ∙ filled_size _ k.taken k.slots

with_slots : (k : HeldConnection) (slots : List (Option ReplyEntry)) → length slots ≡ length k.slots → Holds k → Holds (record k { slots = slots })
with_slots k slots size h = grind arith

pub holds_replied : (q : ℕ) (reply : Option ReplyEntry) (k : HeldConnection) → Holds k → Holds (replied q reply k)
holds_replied q reply k h = subst Holds (sym (replied_rest q reply k)) (with_slots k (replied q reply k).slots (replied_size q reply k) h)

-- ---- its calls end

still_dead : (t : Trigger) (c : KeptValue) → IsDead c → IsDead (ended_kept t c)
still_dead t c dead = ap (λ l. (ended_if t c.id c.call.out l).call.live) dead

pub holds_ended : (t : Trigger) (k : HeldConnection) → Holds k → Holds (ended_held t k)
holds_ended t k h = record {
  own = All-map (λ (c : KeptValue). c.id.conn ≡ k.number) (ended_kept t) k.calls h.own;
  apart = ids_mapped (ended_kept t) k.calls (λ c. refl) h.apart;
  came = λ still. All-map (λ (c : KeptValue). c.id.request < k.taken + length (ended_held t k).slots) (ended_kept t) k.calls
      (λ i d lt. let less = h.came still i d lt in let size = filled_size (ended_entry t k) k.taken k.slots in omega (arith, less, size));
  dead = λ shut. All-map IsDead (ended_kept t) k.calls (λ i d lt. still_dead t _ (h.dead shut i d lt));
  few = let few = h.few in let size = filled_size (ended_entry t k) k.taken k.slots in omega (arith, few, size);
}

-- ---- a result

-- a call at a place changes, that can't be decided where it could not
with_call : (i : ℕ) (new : KeptValue) (k : HeldConnection) → i < length k.calls → new.id ≡ (kept_at i k.calls).id → (IsDead (kept_at i k.calls) → IsDead new) → Holds k → Holds (record k { calls = slice_set k.calls i new })
with_call i new k lt same dies h = record {
  own = All-set (λ (c : KeptValue). c.id.conn ≡ k.number) k.calls i new (ap (λ (n : CallId). n.conn) same ∙ All-get_or (λ (c : KeptValue). c.id.conn ≡ k.number) k.calls i no_call lt h.own) h.own;
  apart = ids_set i new k.calls lt same h.apart;
  came = λ still. All-set (λ (c : KeptValue). c.id.request < k.taken + length k.slots) k.calls i new
      (subst (λ (n : CallId). n.request < k.taken + length k.slots) (sym same) (All-get_or (λ (c : KeptValue). c.id.request < k.taken + length k.slots) k.calls i no_call lt (h.came still))) (h.came still);
  dead = λ shut. All-set IsDead k.calls i new (dies (All-get_or IsDead k.calls i no_call lt (h.dead shut))) (h.dead shut);
  few = h.few;
}

result_dies : (moment i branch : ℕ) (outcome : Outcome) (k : HeldConnection) → IsDead (kept_at i k.calls) → IsDead (stepped_kept (result_in moment i branch outcome k) (kept_at i k.calls))
result_dies moment i branch outcome k dead = ap (λ l. (result_on moment branch outcome (slice_set (kept_at i k.calls).call.out branch false) l).call.live) dead

pub holds_settled : (moment i branch : ℕ) (outcome : Outcome) (k : HeldConnection) → i < length k.calls → Holds k → Holds (settled_held i (result_in moment i branch outcome k) k)
holds_settled moment i branch outcome k lt h = holds_replied (kept_at i k.calls).id.request (result_in moment i branch outcome k).reply (stepped_held i (result_in moment i branch outcome k) k)
    (with_call i (stepped_kept (result_in moment i branch outcome k) (kept_at i k.calls)) k lt refl (result_dies moment i branch outcome k) h)

pub holds_back : (i branch : ℕ) (k : HeldConnection) → i < length k.calls → Holds k → Holds (back_held i branch k)
holds_back i branch k lt h = with_call i (back_kept branch (kept_at i k.calls)) k lt refl (λ dead. refl) h

pub holds_lost : (i branch : ℕ) (k : HeldConnection) → i < length k.calls → Holds k → Holds (lost_held i branch k)
holds_lost i branch k lt h = holds_back i branch (broken_held k) (let same : length (map given_up k.calls) ≡ length k.calls = length-map k.calls given_up in omega (arith, same, lt)) (holds_broken k h)

pub holds_forgotten : (id : CallId) (k l : HeldConnection) → Forgets id k l → Holds k → Holds l
holds_forgotten id k l (stays spent is) h = subst Holds (sym is) h
holds_forgotten id k l (forgotten spent is) h = subst Holds (sym is) (record {
  own = All-filter (λ (c : KeptValue). not (is_call c.id id)) (λ (c : KeptValue). c.id.conn ≡ k.number) k.calls h.own;
  apart = calls_filtered (λ (c : KeptValue). not (is_call c.id id)) k.calls h.apart;
  came = λ still. All-filter (λ (c : KeptValue). not (is_call c.id id)) (λ (c : KeptValue). c.id.request < k.taken + length k.slots) k.calls (h.came still);
  dead = λ shut. All-filter (λ (c : KeptValue). not (is_call c.id id)) IsDead k.calls (h.dead shut);
  few = h.few;
})

-- ---- something comes on it

module _ (s : Step) (k : HeldConnection) (still : k.closed ≡ false) (whole : k.broken ≡ false) (room : k.taken + length k.slots < most_requests) (h : Holds k) where
  size_then : length (k.slots ++ s.reply ∷ []) ≡ length k.slots + 1
  size_then = length-append k.slots (s.reply ∷ [])

  each_now : (P : KeptValue → Type 0) (live : Option Live) → ((c : KeptValue) → c.id ≡ next_held k → P c) → All P (kept_now (next_held k) s live)
  each_now P live each = grind (arith, nat_tests)

  apart_now : (live : Option Live) → AreApart (k.calls ++ kept_now (next_held k) s live)
  apart_now None = subst AreApart (sym (append-nil k.calls)) h.apart
  apart_now (Some l) = calls_more (record { id = next_held k; call = s.call }) k.calls h.apart (fresh_in (next_held k) k.calls (h.came still))

  pub holds_entered : Holds (entered_held s k)
  holds_entered = record {
    own = All-append (λ (c : KeptValue). c.id.conn ≡ k.number) k.calls (kept_now (next_held k) s s.call.live) h.own (each_now (λ (c : KeptValue). c.id.conn ≡ k.number) s.call.live (λ c is. ap (λ (n : CallId). n.conn) is));
    apart = apart_now s.call.live;
    came = λ open_now. All-append (λ (c : KeptValue). c.id.request < k.taken + length (k.slots ++ s.reply ∷ [])) k.calls (kept_now (next_held k) s s.call.live)
        (λ i d lt. let less = h.came still i d lt in let size = size_then in omega (arith, less, size))
        (each_now (λ (c : KeptValue). c.id.request < k.taken + length (k.slots ++ s.reply ∷ [])) s.call.live
        (λ c is. let at : c.id.request ≡ k.taken + length k.slots = ap (λ (n : CallId). n.request) is in let size = size_then in omega (arith, at, size)));
    dead = λ shut. absurd (let clash : true ≡ false = sym shut ∙ ap (λ b. b || k.broken) still ∙ whole in cc);
    few = let size = size_then in omega (arith, size, room);
  }

-- pieces of its stream are taken
pub hears_parts : (k : HeldConnection) → hears k ≡ true → (k.closed ≡ false) × (k.broken ≡ false) × (k.hung_up ≡ false)
hears_parts k on = grind arith

-- ---- slots

few_filled : (reply : ℕ → Option ReplyEntry) (n : ℕ) (slots : List (Option ReplyEntry)) → count_by is_none (filled reply n slots) ≤ count_by is_none slots
few_filled reply n slots = fewer (filled reply n slots) slots (λ j. reply (n + j)) (filled_size reply n slots) (λ j lt. filled_at reply n j slots lt)

-- ---- no more came on it, and it is as closed; it may have broken

pub record Like (k l : HeldConnection) : Type 0 where
  pub number_is : l.number ≡ k.number
  pub closed_is : l.closed ≡ k.closed
  pub broken_was : l.broken ≡ false → k.broken ≡ false
  pub stays_whole : k.closed ≡ true → l.broken ≡ k.broken
  pub hung_is : l.hung_up ≡ k.hung_up
  pub reader_is : l.reader ≡ k.reader
  pub fewer_wait : undecided l ≤ undecided k
  pub as_many : l.taken + length l.slots ≡ k.taken + length k.slots
  pub none_then : k.slots ≡ [] → l.slots ≡ []

pub like_itself : (k : HeldConnection) → Like k k
like_itself k = record { number_is = refl; closed_is = refl; broken_was = λ e. e; stays_whole = λ e. refl; hung_is = refl; reader_is = refl; fewer_wait = omega arith; as_many = refl; none_then = λ e. e }

pub like_then : (j k l : HeldConnection) → Like j k → Like k l → Like j l
like_then j k l a b = grind arith

-- its calls alone are others
pub like_calls : (k : HeldConnection) (calls : List KeptValue) → Like k (record k { calls = calls })
like_calls k calls = record { number_is = refl; closed_is = refl; broken_was = λ e. e; stays_whole = λ e. refl; hung_is = refl; reader_is = refl; fewer_wait = omega arith; as_many = refl; none_then = λ e. e }

pub like_broken : (k : HeldConnection) → k.closed ≡ false → Like k (broken_held k)
like_broken k still = grind arith

like_filled : (reply : ℕ → Option ReplyEntry) (k : HeldConnection) → Like k (record k { slots = filled reply k.taken k.slots })
like_filled reply k = grind (arith, nat_tests, few_filled, filled_size)

pub like_ended : (t : Trigger) (k : HeldConnection) → Like k (ended_held t k)
like_ended t k = like_then k (record k { slots = filled (ended_entry t k) k.taken k.slots }) (ended_held t k) (like_filled (ended_entry t k) k)
    (like_calls (record k { slots = filled (ended_entry t k) k.taken k.slots }) (map (ended_kept t) k.calls))

pub like_replied : (q : ℕ) (reply : Option ReplyEntry) (k : HeldConnection) → Like k (replied q reply k)
like_replied q reply k = subst (Like k) (sym (replied_rest q reply k ∙ ap (λ slots. record k { slots = slots }) (replied_slots q reply k)))
    (like_filled (λ r. if q == r then reply else None) k)

pub like_settled : (moment i branch : ℕ) (outcome : Outcome) (k : HeldConnection) → Like k (settled_held i (result_in moment i branch outcome k) k)
like_settled moment i branch outcome k = grind (arith, nat_tests, like_then, like_calls, like_replied)

pub like_back : (i branch : ℕ) (k : HeldConnection) → Like k (back_held i branch k)
like_back i branch k = like_calls k (back_held i branch k).calls

pub like_lost : (i branch : ℕ) (k : HeldConnection) → k.closed ≡ false → Like k (lost_held i branch k)
like_lost i branch k still = like_then k (broken_held k) (lost_held i branch k) (like_broken k still) (like_back i branch (broken_held k))

pub like_forgotten : (id : CallId) (k l : HeldConnection) → Forgets id k l → Like k l
like_forgotten id k l (stays spent is) = subst (Like k) (sym is) (like_itself k)
like_forgotten id k l (forgotten spent is) = subst (Like k) (sym is) (like_calls k (filter (λ (c : KeptValue). not (is_call c.id id)) k.calls))

-- so it is kept as it was
pub held_like : (n c : ℕ) (k l : HeldConnection) → Like k l → Holds l → is_gone l ≡ false → IsHeld n c k → IsHeld n c l
held_like n c k l s holds here h = grind arith

-- one that is not closed is not gone
pub here_open : (k : HeldConnection) → k.closed ≡ false → is_gone k ≡ false
here_open k still = ap (λ b. b && not (has_out_in k)) still

-- where the branches that are out are the same, it is as gone
any_map : (f : KeptValue → KeptValue) (calls : List KeptValue) → ((c : KeptValue) → (f c).call.out ≡ c.call.out) → list_any (λ (c : KeptValue). list_any (λ b. b) c.call.out) (map f calls) ≡ list_any (λ (c : KeptValue). list_any (λ b. b) c.call.out) calls
any_map f [] same = refl
any_map f (c ∷ calls) same = grind (arith, any_map f calls same)

out_ended : (t : Trigger) (c : KeptValue) → (ended_kept t c).call.out ≡ c.call.out
out_ended t c = grind arith

pub held_ended : (n c : ℕ) (t : Trigger) (k : HeldConnection) → IsHeld n c k → IsHeld n c (ended_held t k)
held_ended n c t k h = held_like n c k (ended_held t k) (like_ended t k) (holds_ended t k h.holds) (ap (λ b. k.closed && not b) (any_map (ended_kept t) k.calls (out_ended t)) ∙ h.stays) h

pub held_broken : (n c : ℕ) (k : HeldConnection) → k.closed ≡ false → IsHeld n c k → IsHeld n c (broken_held k)
held_broken n c k still h = held_like n c k (broken_held k) (like_broken k still) (holds_broken k h.holds) (here_open (broken_held k) still) h

pub held_hung : (n c : ℕ) (k : HeldConnection) → IsHeld n c k → IsHeld n c (hung_held k)
held_hung n c k h = grind arith

-- ---- it is closed

pub held_closed : (n c : ℕ) (k : HeldConnection) → is_gone (closed_held k) ≡ false → IsHeld n c k → IsHeld n c (closed_held k)
held_closed n c k here h = search (arith, holds_closed)

-- ---- it opens

pub held_new : (count : ℕ) → HasRead new_reader [] [] → IsHeld (count + 1) count (new_held count)
held_new count fresh = grind arith

-- where more were opened
pub held_more : (n m c : ℕ) (k : HeldConnection) → n ≤ m → IsHeld n c k → IsHeld m c k
held_more n m c k le h = grind arith

-- ---- its stream is read

-- a request that was crowded out has its reply
arrives_few : (moment : ℕ) (drained crowded : Bool) (id : CallId) (x : Coming) → (arrive moment drained crowded id x).reply ≡ None → crowded ≡ false
arrives_few moment drained crowded id x is = grind (arith, nat_tests)

few_entered : (moment : ℕ) (drained : Bool) (x : Coming) (k : HeldConnection) → undecided k ≤ most_calls → undecided (entered_held (arriving_in moment drained x k) k) ≤ most_calls
few_entered moment drained x k few = grind (arith, nat_tests, one_more, leb-false, arrives_few)

-- so many were given when this came
pub record GivenThen (text : List ℕ) (given : List HttpRequest) (coming : ℕ) (reader : ReaderValue) : Type 0 where
  pub now_given : List HttpRequest
  pub reads : HasRead reader text now_given
  pub settled : is_waiting reader.reading ≡ false
  pub as_many : length now_given + refusals reader.reading ≡ length given + coming

-- how many come
abbrev pub one_if : Option Coming → ℕ
one_if None = 0
one_if (Some x) = 1

pub given_then : (plans : List PlanRecord) (n : ℕ) (bytes text : List ℕ) (given : List HttpRequest) (request : Option HttpRequest) (old new : ReaderValue) → ReadsOn n request bytes old new → HasRead old text given
    → GivenThen (text ++ take n bytes) given (one_if (coming_of plans request new.reading)) new
given_then plans n bytes text given request old new fact further = grind (arith, length-append)

module _ (n c : ℕ) (plans : List PlanRecord) (bytes : List ℕ) (taken : ℕ) (request : Option HttpRequest) (reader : ReaderValue) (k : HeldConnection) (on : hears k ≡ true) (going : is_over k.reader.reading ≡ false)
    (r : ReadsOn taken request bytes k.reader reader) (h : IsHeld n c k) where
  abbrev b : HasBrought k
  b = h.brought on

  g : GivenThen (b.text ++ take taken bytes) b.given (one_if (coming_of plans request reader.reading)) reader
  g = given_then plans taken bytes b.text b.given request k.reader reader r b.reads

  came_before : k.taken + length k.slots ≤ length b.given
  came_before = let came = b.came in let none = no_refusal k.reader.reading going in omega (arith, came, none)

  -- nothing comes of it, or not yet
  pub held_read : IsHeld n c (read_held reader k)
  held_read = record {
    number_is = h.number_is;
    born = h.born;
    holds = record { own = h.holds.own; apart = h.holds.apart; came = h.holds.came; dead = h.holds.dead; few = h.holds.few };
    whole = h.whole;
    none_queued = h.none_queued;
    stays = h.stays;
    settled = g.settled;
    few_calls = h.few_calls;
    brought = λ still_on. record { text = b.text ++ take taken bytes; given = g.now_given; reads = g.reads; came = let size = g.as_many in let came = came_before in omega (arith, size, came) };
  }

  -- something comes
  pub held_entered : (moment : ℕ) (drained : Bool) (x : Coming) → coming_of plans request reader.reading ≡ Some x → IsHeld n c (entered_held (arriving_in moment drained x k) (read_held reader k))
  held_entered moment drained x is =
      let parts = hears_parts k on in
      let size : length g.now_given + refusals reader.reading ≡ length b.given + 1 = g.as_many ∙ ap (λ o. length b.given + one_if o) is in
      let most = few_given reader (b.text ++ take taken bytes) g.now_given g.reads in
      let came = came_before in
      let longer : length (k.slots ++ (arriving_in moment drained x k).reply ∷ []) ≡ length k.slots + 1 = length-append k.slots ((arriving_in moment drained x k).reply ∷ []) in record {
        number_is = h.number_is;
        born = h.born;
        holds = holds_entered (arriving_in moment drained x k) (read_held reader k) parts.0 parts.1 (omega (arith, size, most, came)) held_read.holds;
        whole = h.whole;
        none_queued = λ shut. absurd (let clash : true ≡ false = sym shut ∙ parts.0 in cc);
        stays = here_open (entered_held (arriving_in moment drained x k) (read_held reader k)) parts.0;
        settled = g.settled;
        few_calls = λ still whole. few_entered moment drained x (read_held reader k) (h.few_calls still whole);
        brought = λ still_on. record { text = b.text ++ take taken bytes; given = g.now_given; reads = g.reads; came = omega (arith, size, came, longer) };
      }
