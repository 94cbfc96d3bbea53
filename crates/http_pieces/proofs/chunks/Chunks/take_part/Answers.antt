use Rattle.std.proofs.Common.{[], take, sym, ap, subst, ◌∙◌, append-nil}
use Rattle.std.proofs.lemmas.List.{take_rest}
use Rattle.std.proofs.Math.Seq.{take-length}
use Rattle.http_pieces.specs.Chunks.{cut_on, DecodesTo}
use Rattle.http_pieces.proofs.DecodeLemmas.{part_ended, part_waits, on_added, decodes_on}
use Rattle.http_pieces.proofs.chunks.Chunks.take_part.Goals as goal

pub end_part-requires-clause-ended : goal.end_part-requires-clause-ended
end_part-requires-clause-ended c =
    let body = c.args.self.now.body.items in
    let whole = c.args.self.now.whole in
    let ends = rw (c.deref.ensures.value, take_rest body whole) at c.in-Some.ensures.ends in
    part_ended body c.args.bytes.now c.add-in-Some.new.list.items whole c.in-Some.count c.args.self.now.place c.requires.within c.in-Some.ensures.within.1 c.add-in-Some.ensures.items ends

pub returns-in-None-clause-decodes : goal.returns-in-None-clause-decodes
returns-in-None-clause-decodes c =
    let body = c.args.self.now.body.items in
    let whole = c.args.self.now.whole in
    let place = c.args.self.now.place in
    let bytes = c.args.bytes.now in
    let none = rw (c.deref.ensures.value, take_rest body whole) at c.in-None.ensures.none in
    subst (λ t. DecodesTo (cut_on body whole place) t c.add.new.list.items whole place c.look_on.result) (sym (take-length bytes))
    (part_waits body bytes c.add.new.list.items whole place c.look_on.result c.requires.within c.add.ensures.items none c.look_on.ensures)

pub returns-in-Some-clause-decodes : goal.returns-in-Some-clause-decodes
returns-in-Some-clause-decodes c =
    let body = c.args.self.now.body.items in
    let whole = c.args.self.now.whole in
    let place = c.args.self.now.place in
    let some = take c.in-Some.count c.args.bytes.now in
    let now = c.end_part.new.self in
    let decoded = decodes_on (cut_on body whole place) (cut_on c.add-in-Some.new.list.items whole place) some [] now.body.items now.whole now.place c.end_part.result
    (λ more. on_added body whole place some more c.requires.within ∙ ap (λ b. cut_on b whole place more) (sym c.add-in-Some.ensures.items)) c.end_part.ensures.decodes in
    subst (λ t. DecodesTo (cut_on body whole place) t now.body.items now.whole now.place c.end_part.result) (append-nil some) decoded
