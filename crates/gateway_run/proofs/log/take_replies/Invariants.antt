use Rattle.gateway_run.proofs.Names.{◌≡◌, ◌++◌, List, length, ReplyEntry, untaken_of, TookReplies, bytes_of}
use Rattle.gateway_run.proofs.log.take_replies.Given as goal

abbrev pub invariant-loop-reply : goal.invariant-loop-reply
invariant-loop-reply g l = (entries : List ReplyEntry) × TookReplies l.conn entries l.initial.core l.core × (l.bytes ≡ l.initial.bytes ++ bytes_of entries)

abbrev pub decreases-loop-reply : goal.decreases-loop-reply
decreases-loop-reply g l = length (untaken_of l.conn l.core)
