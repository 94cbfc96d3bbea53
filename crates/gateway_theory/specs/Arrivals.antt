-- Which requests ask for calls, and how many have arrived.
use Rattle.std.specs.Prelude.{Bool, true, false, ℕ, ◌+◌, List, [], ◌∷◌}
use Rattle.connect_codec.specs.declared.verdict.Verdict.{Verdict}
use Rattle.connect_codec.specs.declared.verdict.Verdict.TheVariants.{Ask, Bare, Fail}
use Rattle.gateway_model.specs.Arrival.{Asks, Judged}
use Rattle.gateway_model.specs.Occurrence.{Coming, Occurrence, Request, Refused, Comes}

-- the verdict asks for a call
abbrev pub is_ask : Verdict → Bool
is_ask (Ask timeout id) = true
is_ask (Bare status) = false
is_ask (Fail error) = false

-- how many calls come with it: one with a request that asks for a call, whatever it then comes to
abbrev pub calls_in : Coming → ℕ
calls_in (Request q (Judged verdict)) = 0
calls_in (Request q (Asks plan timeout id)) = 1
calls_in (Refused refusal) = 0

abbrev pub calls_by : Occurrence → ℕ
calls_by (Comes c x) = calls_in x
calls_by _ = 0

-- how many calls have arrived
abbrev pub calls_arrived : List Occurrence → ℕ
calls_arrived [] = 0
calls_arrived (o ∷ os) = calls_by o + calls_arrived os
