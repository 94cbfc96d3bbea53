use Rattle.gateway_connection.specs.lemmas.Names.{rules, ◌≡◌, ◌∙◌, [], ap, refl, sym, subst, All, ReplyValue, filled_by}
use Rattle.gateway_connection.proofs.SlotLemmas.{all_before, filled_last, filled_none, last_own, replied_number}
use Rattle.gateway_connection.proofs.connection.Connection.fill_all.Goals as goal

pub loop-reply-init : goal.loop-reply-init
loop-reply-init c = record { filled_are = refl; own = c.requires }

pub fill-requires : goal.fill-requires
fill-requires c = last_own c.loop-reply.self.number c.pop.new.self.items c.in-Some.reply (subst (All (λ (r : ReplyValue). r.id.conn ≡ c.loop-reply.self.number)) c.in-Some.ensures.items c.loop-reply.invariant.own)

pub loop-reply-preserved : goal.loop-reply-preserved
loop-reply-preserved c =
    let own = subst (All (λ (r : ReplyValue). r.id.conn ≡ c.loop-reply.self.number)) c.in-Some.ensures.items c.loop-reply.invariant.own in record {
      filled_are = filled_last c.pop.new.self.items c.in-Some.reply c.loop-reply.self c.fill.new.self (last_own c.loop-reply.self.number c.pop.new.self.items c.in-Some.reply own) c.fill.ensures
          ∙ ap (λ rs. filled_by rs c.loop-reply.self) (sym c.in-Some.ensures.items) ∙ c.loop-reply.invariant.filled_are;
      own = subst (λ n. All (λ (r : ReplyValue). r.id.conn ≡ n) c.pop.new.self.items) (sym (replied_number c.in-Some.reply c.loop-reply.self c.fill.new.self c.fill.ensures))
          (all_before c.loop-reply.self.number c.pop.new.self.items c.in-Some.reply own);
    }

pub returns : goal.returns
returns c =
    let none : c.loop-reply.made.items ≡ [] = search rules in
    filled_none c.loop-reply.self ∙ ap (λ rs. filled_by rs c.loop-reply.self) (sym none) ∙ c.loop-reply.invariant.filled_are
