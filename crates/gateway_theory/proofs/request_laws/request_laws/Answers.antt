use Rattle.gateway_theory.proofs.request_laws.request_laws.Goals as goal

pub returns : goal.returns
returns c = record {
  cut_unique = c.cut_law.ensures.unique;
  cut_stays = c.cut_law.ensures.request_stays;
  unique = c.requests_law.ensures.unique;
  refused_stays = c.requests_law.ensures.refused_stays;
  closed_stays = c.requests_law.ensures.closed_stays;
}
