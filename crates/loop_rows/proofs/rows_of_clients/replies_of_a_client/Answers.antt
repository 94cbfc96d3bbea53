use Rattle.std.proofs.Common.{[], ◌∷◌, ◌++◌, ap, append-nil, arith, codes, refl, sym, ◌∙◌}
use Rattle.gateway_model.specs.Occurrence.{Opening}
use Rattle.loop_rows.proofs.RowLemmas.{longer, other_first}
use Rattle.loop_rows.proofs.rows_of_clients.replies_of_a_client.Goals as goal

pub returns-clause-whole : goal.returns-clause-whole
returns-clause-whole c plans reply h q at = record {
  known = at.0;
  dropped = [];
  read = sym (ap (λ t. t ++ []) at.1);
  all_fed = λ off. refl;
  hangs_up = λ off. at.2;
  no_other = λ hung. sym at.2 ∙ hung;
  written = λ occurred all. ([], q.queued_are occurred all ∙ sym (append-nil (reply ++ []) ∙ append-nil reply));
}

pub returns-clause-waits : goal.returns-clause-waits
returns-clause-waits c plans front rest more h q at = record {
  known = at.0;
  dropped = [];
  read = sym (ap (λ t. t ++ []) at.1);
  all_fed = λ off. refl;
  hangs_up = λ off. at.2;
  no_other = λ hung. sym at.2 ∙ hung;
  written = λ occurred all. (more, q.queued_are occurred all);
}

pub returns-clause-twice : goal.returns-clause-twice
returns-clause-twice c plans h q e =
    let w = e.written q.occurred q.occurs in longer 1 (codes "ok") (codes "okok" ++ []) w.0 refl (sym (q.queued_are q.occurred q.occurs) ∙ w.1)

pub returns-clause-cut : goal.returns-clause-cut
returns-clause-cut c plans h q e =
    let w = e.written q.occurred q.occurs in other_first (codes "ok") ((codes "k" ++ []) ++ w.0) (λ f. omega (arith, f)) (sym (q.queued_are q.occurred q.occurs) ∙ w.1)

pub returns-clause-nothing : goal.returns-clause-nothing
returns-clause-nothing c plans e =
    let w = e.written ((1, Opening) ∷ (0, Opening) ∷ []) ((0, Opening) ∷ [], ([], refl, (Opening ∷ [], refl, refl)), (Opening ∷ [], refl, refl)) in
    longer 0 [] (codes "x" ++ []) w.0 refl w.1
