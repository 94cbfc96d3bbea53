use Rattle.std.proofs.Common.{◌≡◌, ◌++◌, Some, codes, sym, ap, ◌∙◌}
use Rattle.std.specs.Prelude.{option_map}
use Rattle.std.specs.Option.{option_copied}
use Rattle.timeout_header.specs.Timeout.{timeout_text}
use Rattle.connect_codec.specs.BranchAsk.{call_of}
use Rattle.connect_codec.specs.Message.{field_of, field_line}
use Rattle.connect_codec.proofs.MessageLemmas.{lines, line_of_some, line_of_none, first_ends}
use Rattle.connect_codec.proofs.branch.first_of.Goals as goal
use Rattle.connect_codec.proofs.branch.first_of.Goals.{in-Some+in_ok-field-4, in_default, in-Some-request_id+in_ok-field-5, in_default-request_id}

pub returns : goal.returns
returns c =
    let call = call_of c.args.ask.now in
    let host : c.field.new.self ≡ c.in_ok-head.head ++ field_line (codes "Host", call.address) = rw (← c.as_bytes.ensures.value) c.in_ok-field.ensures in
    let timed : c.match-ask.head ≡ c.field-3.new.self ++ lines (field_of (codes "Connect-Timeout-Ms") (option_map timeout_text call.remaining)) =
    elim c.match-ask.branch [
      | in-Some+in_ok-field-4 w ↦
          line_of_some _ _ _ _ w.as_bytes-in-Some.result.now
          (ap (option_map timeout_text) w.in-Some.is ∙ ap Some (sym (w.as_bytes-in-Some.ensures ∙ w.write.ensures.digits)))
          (w.head-is ∙ w.in_ok-field-4.ensures)
      | in_default w ↦ line_of_none _ _ _ _ (ap (option_map timeout_text) w.in_default.is) w.head-is
    ] in
    let named : c.match-ask-2.head ≡ c.match-ask.head ++ lines (field_of (codes "X-Request-Id") call.request_id) =
    elim c.match-ask-2.branch [
      | in-Some-request_id+in_ok-field-5 w ↦ line_of_some _ _ _ _ _ (ap option_copied w.in-Some-request_id.is) (w.head-is ∙ w.in_ok-field-5.ensures)
      | in_default-request_id w ↦ line_of_none _ _ _ _ (ap option_copied w.in_default-request_id.is) w.head-is
    ] in
    first_ends call _ _ _ _ _ _ _ c.in_ok-head.ensures host c.in_ok-field-2.ensures c.in_ok-length.ensures c.in_ok-field-3.ensures timed named
