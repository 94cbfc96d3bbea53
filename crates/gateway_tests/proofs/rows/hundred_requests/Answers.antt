use Rattle.std.proofs.Common.{◌≡◌, refl, ap, ◌∙◌, ◌∷◌, [], ◌++◌, length, replicate, false, true}
use Rattle.std.specs.List.{flat_map}
use Rattle.http_pieces.specs.Fields.{same_without_case}
use Rattle.connect_codec.specs.Reply.{bare_reply}
use Rattle.gateway_model.specs.Reply.{reply_of}
use Rattle.gateway_model.specs.Past.{marked}
use Rattle.gateway_theory.specs.Replies.{replies}
use Rattle.gateway_tests.specs.Rows.{after_gets}
use Rattle.gateway_tests.proofs.OnLiterals.{replies_on_literals}
use Rattle.gateway_tests.proofs.RowLemmas.{EntryStays, gets_answered}
use Rattle.gateway_tests.proofs.rows.hundred_requests.Goals as goal

answered : EntryStays → replies 0 (marked (after_gets 100)) ≡ replicate 99 (reply_of (bare_reply 405 false) false) ++ reply_of (bare_reply 405 true) true ∷ []
unfolding same_without_case
answered stays = gets_answered stays 100 ∙ refl

pub returns-clause-replies : goal.returns-clause-replies
returns-clause-replies c = answered c.entry_law.ensures.entry_stays

pub returns-clause-bytes : goal.returns-clause-bytes
unfolding replies_on_literals
returns-clause-bytes c = ap (λ all. length (flat_map (λ reply. reply.bytes) all)) (answered c.entry_law.ensures.entry_stays) ∙ refl
