use Rattle.gateway_run.proofs.Names.{◌≡◌, ◌++◌, ◌∷◌, [], List, Some, None, sym, ap, ◌∙◌, subst, append-nil, append_assoc, ReplyEntry, untaken_of, answer_of, TookReplies, bytes_of}
use Rattle.gateway_run.proofs.Gathering.{bytes_more, took_more, took_none}
use Rattle.gateway_run.proofs.log.take_replies.Goals as goal

pub loop-reply-init : goal.loop-reply-init
loop-reply-init g c = ([], took_none c.args.conn c.args.core.now, sym (append-nil c.args.bytes.now))

pub loop-reply-preserved : goal.loop-reply-preserved
loop-reply-preserved g c =
    let was = c.loop-reply.invariant in
    let e : ReplyEntry = c.in-Some.reply.entry in (
      was.0 ++ e ∷ [],
      took_more c.args.conn was.0 (Some c.in-Some.reply) c.args.core.now c.loop-reply.core c.take_reply.new.self was.1 c.in-Some.ensures.stands c.in-Some.ensures.lives c.in-Some.ensures.first c.in-Some.ensures.only,
      c.in_ok-extend_from_slice.ensures.ok ∙ ap (λ bytes. c.loop-reply.bytes ++ bytes) c.bytes.ensures ∙ ap (λ bytes. bytes ++ (answer_of e).bytes) was.2
          ∙ append_assoc c.args.bytes.now (bytes_of was.0) (answer_of e).bytes ∙ ap (λ bytes. c.args.bytes.now ++ bytes) (sym (bytes_more was.0 e)),
    )

pub returns-clause-took : goal.returns-clause-took
returns-clause-took g c =
    let was = c.loop-reply.invariant in
    let t : TookReplies c.args.conn (was.0 ++ []) c.args.core.now c.take_reply.new.self =
    took_more c.args.conn was.0 None c.args.core.now c.loop-reply.core c.take_reply.new.self was.1 c.in_default.ensures.stands c.in_default.ensures.lives c.in_default.ensures.first c.in_default.ensures.only in
    let none : untaken_of c.args.conn c.take_reply.new.self ≡ [] = sym c.in_default.ensures.first ∙ c.take_reply.ensures.none c.in_default.is in
    subst (λ es. TookReplies c.args.conn es c.args.core.now c.take_reply.new.self) (sym (t.untaken_are ∙ ap (λ es. (was.0 ++ []) ++ es) none ∙ append-nil (was.0 ++ []))) t

pub returns-clause-bytes : goal.returns-clause-bytes
returns-clause-bytes g c =
    let was = c.loop-reply.invariant in
    was.2 ∙ ap (λ (es : List ReplyEntry). c.args.bytes.now ++ bytes_of es) (sym (was.1.untaken_are ∙ ap (λ es. was.0 ++ es) (c.take_reply.ensures.none c.in_default.is) ∙ append-nil was.0))
