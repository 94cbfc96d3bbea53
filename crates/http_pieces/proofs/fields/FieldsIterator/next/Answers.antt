use Rattle.std.proofs.Common.{All, length, subst}
use Rattle.std.proofs.lemmas.List.Elements.{All-tail}
use Rattle.httparse.specs.Spans.{IsHeaderWithin}
use Rattle.http_pieces.proofs.fields.FieldsIterator.next.Goals as goal

pub invariant_of-self : goal.invariant_of-self
invariant_of-self c =
    let within = IsHeaderWithin (length c.self.inside.bytes.now) in
    All-tail within _ _ (subst (All within) c.in_ok-header.ensures.cases.0 c.self.invariant)
