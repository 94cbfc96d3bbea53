-- What a backend is asked.
use Rattle.std.specs.Prelude.{ℕ, List}
use Rattle.connect_codec.specs.BranchRequest.{branch_request}
use Rattle.gateway_model.specs.Job.{JobValue}
use Rattle.loop_model.specs.declared.manner.Manner.{Manner}

-- the bytes that ask for the job: the request says that its connection ends behind the reply, unless those are kept
abbrev pub request_of : Manner → JobValue → List ℕ
request_of manner job =
    branch_request (record { address = job.address; path = job.path; remaining = job.remaining; request_id = job.request_id; passed = job.passed; body = job.body; keeps = manner.keeps })
