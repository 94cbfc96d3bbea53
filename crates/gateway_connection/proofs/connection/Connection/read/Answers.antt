use Rattle.gateway_connection.specs.lemmas.Names.{◌∙◌, ◌<◌, Err, ap, sym, subst, IfErr, most_requests, ReadsOn, coming_of, hears, next_held, read_held, HeldConnection, Brings, BringsNone, ReadsNone, MayStep, none_over}
use Rattle.std.proofs.lemmas.Result.{err_from_is_err_and}
use Rattle.gateway_connection.proofs.StreamLemmas.{gives_by, read_may, read_room, reads_by}
use Rattle.gateway_connection.specs.Comes as comes
use Rattle.gateway_connection.proofs.connection.Connection.read.Goals as goal

pub take_in-requires-clause-may : goal.take_in-requires-clause-may
take_in-requires-clause-may g c =
    subst (λ k. MayStep none_over k c.args.shared.now) (sym (ap (read_held c.take-request.new.self) c.self.view_is)) (read_may c.args.self.now c.take-request.new.self c.args.shared.now c.requires.may)

pub take_in-requires-clause-on : goal.take_in-requires-clause-on
take_in-requires-clause-on g c = ap hears c.self.view_is ∙ c.requires.on

pub take_in-requires-clause-room : goal.take_in-requires-clause-room
take_in-requires-clause-room g c = λ x is. subst (λ k. (next_held k).request < most_requests) (sym c.self.view_is)
    (read_room c.args.shared.now.plans c.in_ok-taken.taken c.args.bytes.now c.take-request.result c.args.self.now c.take-request.new.self c.requires.going c.requires.brought (subst (λ (k : HeldConnection). ReadsOn c.in_ok-taken.taken c.take-request.result c.args.bytes.now k.reader c.take-request.new.self) c.self.view_is
    (reads_by c.in_ok-taken.taken c.take-request.result c.args.bytes.now c.self.inside.reader c.push.new.self c.take-request.new.self c.in_ok-taken.ensures.within c.in_ok-taken.ensures.reads c.in_ok-taken.ensures.moves
    (gives_by c.take-request.result c.push.new.self c.take-request.new.self c.take-request.ensures.reads c.take-request.ensures.waits c.take-request.ensures.gives c.take-request.ensures.after c.take-request.ensures.none))) x is)

pub returns-in_err-take_in-clause-err : goal.returns-in_err-take_in-clause-err
returns-in_err-take_in-clause-err g c =
    let given = err_from_is_err_and c.from_residual-in_err-take_in.result c.from_residual-in_err-take_in.ensures.1 in
    subst (λ r. IfErr r (λ fault. ReadsNone c.args.bytes.now fault c.args.self.now c.take_in.new.self c.args.shared.now c.take_in.new.shared)) (sym (given.1 ∙ ap Err given.2))
    (comes.read c.in_ok-taken.taken c.take-request.result c.take-request.new.self (subst (λ (k : HeldConnection). ReadsOn c.in_ok-taken.taken c.take-request.result c.args.bytes.now k.reader c.take-request.new.self) c.self.view_is
    (reads_by c.in_ok-taken.taken c.take-request.result c.args.bytes.now c.self.inside.reader c.push.new.self c.take-request.new.self c.in_ok-taken.ensures.within c.in_ok-taken.ensures.reads c.in_ok-taken.ensures.moves
    (gives_by c.take-request.result c.push.new.self c.take-request.new.self c.take-request.ensures.reads c.take-request.ensures.waits c.take-request.ensures.gives c.take-request.ensures.after c.take-request.ensures.none)))
    (subst (λ k. BringsNone (coming_of c.args.shared.now.plans c.take-request.result c.take-request.new.self.reading) c.in_err-take_in.field-0.0 k c.take_in.new.self c.args.shared.now c.take_in.new.shared)
    (ap (read_held c.take-request.new.self) c.self.view_is) c.in_err-take_in.ensures.err))

pub returns-clause-ok : goal.returns-clause-ok
returns-clause-ok g c = record {
  request = c.take-request.result;
  reader = c.take-request.new.self;
  reads = subst (λ (k : HeldConnection). ReadsOn c.in_ok-taken.taken c.take-request.result c.args.bytes.now k.reader c.take-request.new.self) c.self.view_is
      (reads_by c.in_ok-taken.taken c.take-request.result c.args.bytes.now c.self.inside.reader c.push.new.self c.take-request.new.self c.in_ok-taken.ensures.within c.in_ok-taken.ensures.reads c.in_ok-taken.ensures.moves
      (gives_by c.take-request.result c.push.new.self c.take-request.new.self c.take-request.ensures.reads c.take-request.ensures.waits c.take-request.ensures.gives c.take-request.ensures.after c.take-request.ensures.none));
  brings = subst (λ k. Brings (coming_of c.args.shared.now.plans c.take-request.result c.take-request.new.self.reading) k c.take_in.new.self c.args.shared.now c.take_in.new.shared)
      (ap (read_held c.take-request.new.self) c.self.view_is) c.in_ok-take_in.ensures.ok;
}
