use Rattle.std.proofs.Common.{None, Some, lit≤, lit<}
use Rattle.error_document.specs.Codes.{code_status}
use Rattle.error_document.specs.Documents.{error_text}
use Rattle.connect_codec.specs.Reply.{success_reply, error_reply, bare_reply}
use Rattle.connect_codec.proofs.ReadBackLemmas.{reply_reads_back, code_range, bare_range}
use Rattle.connect_codec.proofs.laws.replies_read_back.Goals as goal

pub returns-clause-success : goal.returns-clause-success
unfolding success_reply
returns-clause-success c = λ body more last small. reply_reads_back 200 (Some body) last more (lit≤ tt) (lit< tt) small

pub returns-clause-error : goal.returns-clause-error
unfolding error_reply
returns-clause-error c = λ error more last small.
    let range = code_range error.code in
    reply_reads_back (code_status error.code) (Some (error_text error)) last more range.0 range.1 small

pub returns-clause-bare : goal.returns-clause-bare
unfolding bare_reply
returns-clause-bare c = λ status more last bare.
    let range = bare_range status bare in
    reply_reads_back status None last more range.0 range.1 (lit< tt)
