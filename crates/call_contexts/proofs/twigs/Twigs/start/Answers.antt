use Rattle.call_contexts.proofs.Names.{◌∙◌, ◌++◌, ◌∷◌, [], ap}
use Rattle.call_contexts.proofs.twigs.Twigs.start.Goals as goal

pub returns-in_default : goal.returns-in_default
returns-in_default g c = record { made = tt; same_twigs = rw c.reserve.ensures.items c.self.view_is; same_tree = c.in_default.ensures.unchanged }

pub returns : goal.returns
returns g c =
    record {
      made = record {
        ctx = c.in-Ok.ctx;
        is = c.push_reserved.ensures.items ∙ ap (λ ts. ts ++ record { ctx = c.in-Ok.ctx; branch = c.args.branch; at = c.args.at } ∷ []) (c.reserve.ensures.items ∙ c.self.view_is);
        stands = λ past st. (c.in-Ok.ensures.made past st).1;
      };
      same_twigs = tt;
      same_tree = tt;
    }
