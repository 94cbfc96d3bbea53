use Rattle.std.proofs.Common.{take}
use Rattle.access_log.specs.Leaves.{members_of}
use Rattle.access_log.specs.Members.{HasMembers}
use Rattle.access_log.proofs.members.object_text.Given as goal

abbrev pub invariant-loop-key : goal.invariant-loop-key
invariant-loop-key l = HasMembers (members_of (take l.key-index l.members)) l.out
