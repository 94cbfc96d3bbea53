use Rattle.std.proofs.Common.{[], sym, ap, subst, ◌+◌, ◌∙◌}
use Rattle.std.proofs.lemmas.List.{take_rest}
use Rattle.http_pieces.specs.Cut.{Complete}
use Rattle.http_pieces.specs.Chunks.{cut_on, DecodesTo}
use Rattle.http_pieces.specs.declared.chunk_parts.Decoded.TheVariants as decoded
use Rattle.http_pieces.proofs.DecodeLemmas.{part_faults, part_last, part_goes}
use Rattle.http_pieces.proofs.chunks.Chunks.end_part.Goals as goal

pub returns-in-Fault-clause-decodes : goal.returns-in-Fault-clause-decodes
returns-in-Fault-clause-decodes c = λ more.
    let body = c.args.self.now.body.items in
    let found = rw (c.deref.ensures.value, take_rest body c.args.self.now.whole) at c.next_of.ensures in
    part_faults body c.args.self.now.whole c.args.self.now.place c.in-Fault.fault c.requires.ended (sym found ∙ c.in-Fault.is) more

pub returns-in-End-clause-decodes : goal.returns-in-End-clause-decodes
returns-in-End-clause-decodes c = λ more.
    let body = c.args.self.now.body.items in
    let found = rw (c.deref.ensures.value, take_rest body c.args.self.now.whole) at c.next_of.ensures in
    part_last body c.args.self.now.whole c.args.self.now.place c.requires.ended (sym found ∙ c.in-End.is) more ∙ ap (λ b. Complete b more) (sym c.truncate.ensures.items)

pub returns-in-Goes-clause-decodes : goal.returns-in-Goes-clause-decodes
returns-in-Goes-clause-decodes c =
    let body = c.args.self.now.body.items in
    let whole = c.args.self.now.whole in
    let place = c.args.self.now.place in
    let found = rw (c.deref.ensures.value, take_rest body whole) at c.next_of.ensures in
    subst (λ b. DecodesTo (cut_on body whole place) [] b (whole + c.in-Goes.data) c.in-Goes.place decoded.More) (sym c.truncate-in-Goes.ensures.items)
    (part_goes body whole place c.in-Goes.place c.in-Goes.data c.requires.within c.requires.ended (sym found ∙ c.in-Goes.is))
