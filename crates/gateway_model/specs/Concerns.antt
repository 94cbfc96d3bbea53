-- Which connections an occurrence and an event concern: at these, and at no others, one can break.
use Rattle.std.specs.Prelude.{ℕ, Bool, false, ◌&&◌, not, ◌==◌, nat_lt, is_some, List}
use Rattle.gateway_model.specs.Occurrence.{Occurrence, Opening, Comes, HangUp, Moment, Result, Drain, Closing, Break}
use Rattle.gateway_model.specs.Past.{Past, call_id, is_shut, is_undecided, deciding, counts, count_below, arrivals, mark_of}
use Rattle.gateway_model.specs.Events.{Before, listens}
use Rattle.gateway_model.specs.declared.event.Event.{Event}
use Rattle.gateway_model.specs.declared.event.Event.TheVariants as event

-- how many calls of the connection this occurrence decides
abbrev pub decided_by : ℕ → Occurrence → Past → ℕ
decided_by c o past = count_below (arrivals c past) (λ k. is_undecided (call_id c k) past && is_some (deciding (call_id c k) (mark_of past o) past))

-- the occurrence concerns the connection: what comes on its stream, its hang-up, its closing and its break; a result that counts for one
-- of its calls; a moment or the drain that decides one of them; an opening concerns none
abbrev pub concerns : ℕ → Occurrence → Past → Bool
concerns c Opening past = false
concerns c (Comes d x) past = (d == c) && not (is_shut c past)
concerns c (HangUp d) past = (d == c) && not (is_shut c past)
concerns c (Closing d) past = (d == c) && not (is_shut c past)
concerns c (Break d) past = (d == c) && not (is_shut c past)
concerns c (Result id i outcome) past = (id.conn == c) && counts (Result id i outcome) past
concerns c o past = nat_lt 0 (decided_by c o past)

-- the connection can break at the event: a piece or the hang-up of its own that has an effect; a result that counts for one of its calls;
-- a moment or the drain that decides one of them. An opening and a closing break none
abbrev pub can_break : ℕ → List ℕ → Event → Before → Past → Bool
can_break c opened (event.Piece n bytes) before past = (c == n) && listens opened n before
can_break c opened (event.HangUp n) before past = (c == n) && listens opened n before
can_break c opened (event.Moment m) before past = concerns c (Moment m) past
can_break c opened (event.BranchResult n k i outcome) before past = concerns c (Result (call_id n k) i outcome) past
can_break c opened event.Drain before past = concerns c Drain past
can_break c opened _ before past = false
