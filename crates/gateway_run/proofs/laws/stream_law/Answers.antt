use Rattle.gateway_run.proofs.Names.{occurrences}
use Rattle.gateway_run.proofs.FromStreams.{came_are, came_at}
use Rattle.gateway_run.proofs.laws.stream_law.Goals as goal

pub returns-clause-requests : goal.returns-clause-requests
returns-clause-requests c = λ plans opened events occurred conn given ending o r.
    came_are (record {
      first = c.fresh_law.ensures.requests.reads;
      unique = c.requests_law.ensures.unique;
      refused_stays = c.requests_law.ensures.refused_stays;
      closed_stays = c.requests_law.ensures.closed_stays;
    }) plans opened conn events occurred given ending o r

pub returns-clause-numbers : goal.returns-clause-numbers
returns-clause-numbers c = λ plans opened events occurred conn k o. came_at conn k (occurrences occurred)
