use Rattle.call_contexts.proofs.Names.{◌∙◌, refl, sym, registered}
use Rattle.call_contexts.proofs.Hooking.{refused_back}
use Rattle.call_contexts.proofs.Indexing.{forgotten, unnamed}
use Rattle.call_contexts.proofs.Lists.{once_err, unless_err}
use Rattle.call_contexts.proofs.call_contexts.keep.Goals as goal

pub returns-then-is_err : goal.returns-then-is_err
returns-then-is_err g c = record {
  hooked = λ past st. tt;
  number = λ past st. tt;
  named = tt;
  back = λ past st. refl;
  unhooked = λ past st. st;
  unnamed = λ none. unnamed c.args.id.now c.args.index.now c.add.new.self (once_err c.add.result (sym c.is_err.ensures.value ∙ c.if-is_err.true) c.add.ensures.unchanged) none;
}

pub returns-in-Ok : goal.returns-in-Ok
returns-in-Ok g c = record {
  hooked = λ past st. c.in-Ok.ensures.stands past st;
  number = λ past st. c.in-Ok.ensures.id past st;
  named = unless_err c.add.result (sym c.is_err.ensures.value ∙ c.if-is_err.false) c.add.ensures.added;
  back = λ past st. tt;
  unhooked = λ past st. tt;
  unnamed = tt;
}

pub returns-in-Err : goal.returns-in-Err
returns-in-Err g c = record {
  hooked = λ past st. tt;
  number = λ past st. tt;
  named = tt;
  back = λ past st. refused_back (registered past) c.args.hook _ _ c.in-Err.refused c.after_func.result c.in-Err.is (c.after_func.ensures.exhausted past st) (c.after_func.ensures.memory past st);
  unhooked = λ past st. c.in-Err.ensures.unchanged past st;
  unnamed = λ none. forgotten c.args.id.now c.args.ctx c.args.index.now c.add.new.self c.forget.new.self
      (unless_err c.add.result (sym c.is_err.ensures.value ∙ c.if-is_err.false) c.add.ensures.added) c.forget.ensures;
}
