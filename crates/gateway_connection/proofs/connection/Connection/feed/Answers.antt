use Rattle.gateway_connection.specs.lemmas.Names.{◌∙◌, [], refl, sym, dropped}
use Rattle.gateway_connection.proofs.LentLemmas.{rest_none}
use Rattle.gateway_connection.proofs.StreamLemmas.{all_feeds, none_feeds}
use Rattle.gateway_connection.proofs.connection.Connection.feed.Goals as goal

pub returns-then-is_over-clause-takes : goal.returns-then-is_over-clause-takes
returns-then-is_over-clause-takes g c = record {
  jobs = [];
  takes = dropped (sym c.is_listening.ensures ∙ c.if-not-is_listening.false) (sym c.is_over.ensures ∙ c.if-is_over.true) refl refl refl refl;
  rest = rest_none c.args.self.now c.args.shared.now;
}

pub returns-in-Ok-clause-takes : goal.returns-in-Ok-clause-takes
returns-in-Ok-clause-takes g c =
    (all_feeds c.args.bytes.now c.in-Ok.taken c.args.self.now c.read.new.self c.args.shared.now c.read.new.shared (sym c.is_listening.ensures ∙ c.if-not-is_listening.false) (sym c.is_over.ensures ∙ c.if-is_over.false)
    c.requires.may c.in-Ok.ensures.ok).0

pub returns-in-Err-clause-takes : goal.returns-in-Err-clause-takes
returns-in-Err-clause-takes g c =
    none_feeds c.args.bytes.now c.in-Err.fault c.args.self.now c.read.new.self c.break_now.new.self c.args.shared.now c.read.new.shared c.break_now.new.shared (sym c.is_listening.ensures ∙ c.if-not-is_listening.false)
    (sym c.is_over.ensures ∙ c.if-is_over.false) c.in-Err.ensures.err c.break_now.ensures.broken c.break_now.ensures.rest c.break_now.ensures.begun

pub returns-in-Err-clause-tied : goal.returns-in-Err-clause-tied
returns-in-Err-clause-tied g c = c.break_now.ensures.tied

pub returns-in-Ok-clause-tied : goal.returns-in-Ok-clause-tied
returns-in-Ok-clause-tied g c =
    (all_feeds c.args.bytes.now c.in-Ok.taken c.args.self.now c.read.new.self c.args.shared.now c.read.new.shared (sym c.is_listening.ensures ∙ c.if-not-is_listening.false) (sym c.is_over.ensures ∙ c.if-is_over.false)
    c.requires.may c.in-Ok.ensures.ok).1

pub returns-then-is_over-clause-tied : goal.returns-then-is_over-clause-tied
returns-then-is_over-clause-tied g c = c.requires.may.tied

pub returns-then-not-is_listening-clause-tied : goal.returns-then-not-is_listening-clause-tied
returns-then-not-is_listening-clause-tied g c = c.requires.may.tied

pub read-requires-clause-brought : goal.read-requires-clause-brought
read-requires-clause-brought g c = c.requires.brought (sym c.is_listening.ensures ∙ c.if-not-is_listening.false)

pub read-requires-clause-going : goal.read-requires-clause-going
read-requires-clause-going g c = sym c.is_over.ensures ∙ c.if-is_over.false

pub read-requires-clause-may : goal.read-requires-clause-may
read-requires-clause-may g c = c.requires.may

pub read-requires-clause-on : goal.read-requires-clause-on
read-requires-clause-on g c = sym c.is_listening.ensures ∙ c.if-not-is_listening.false
