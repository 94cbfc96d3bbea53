-- Duty: a call's hook may be called on every ending, and an answer is the reply that tells the ending's error.
use Rattle.std.specs.Prelude.{◌≡◌, ℕ, List}
use Rattle.connect_codec.specs.Reply.{error_reply}
use Rattle.gateway_model.specs.declared.ending.Ending.{Ending}
use Rattle.gateway_model.specs.Errors.{ending_error}

-- these bytes are the answer to that ending
abbrev pub MeetsDuty : Ending → List ℕ → Type 0
MeetsDuty ending bytes = bytes ≡ error_reply (ending_error ending) ending.last
