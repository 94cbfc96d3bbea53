use Rattle.backend_pool.proofs.Lemmas.{reply_given, [], ◌≡◌, ◌∙◌, refl, arith, hands_reply}
use Rattle.backend_pool.proofs.book.Book.take_reply.Goals as goal

pub returns-clause-stands : goal.returns-clause-stands
returns-clause-stands g c =
    let r = c.take_reply in
    let given : reply_given c.match-take_reply.result ≡ r.result = grind arith in
    rw (given, ← c.self.view_is)
    (hands_reply _ _ c.args.conn r.result r.ensures.stands ([], refl, λ _ e. r.ensures.only.tally_is ∙ e) (omega arith) (omega arith) (omega arith))
