use Rattle.gateway_run.proofs.Existence.{occurs_exists}
use Rattle.gateway_run.proofs.Occurring.{occurs_unique}
use Rattle.gateway_run.proofs.laws.occurs_law.Goals as goal

pub returns : goal.returns
returns c = record {
  unique = occurs_unique c.requests_law.ensures.unique;
  exists = occurs_exists (record {
    requests = c.existence_law.ensures.requests;
    more = c.requests_law.ensures.more;
    refused_stays = c.requests_law.ensures.refused_stays;
    closed_stays = c.requests_law.ensures.closed_stays;
  });
}
