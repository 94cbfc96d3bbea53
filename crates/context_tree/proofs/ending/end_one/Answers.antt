use Rattle.context_tree.proofs.WalkSteps.{end_shown, live_room, not_done, ready_step}
use Rattle.context_tree.proofs.ending.end_one.Goals as goal

pub push-requires-clause-room : goal.push-requires-clause-room
push-requires-clause-room g c = live_room c.args.nodes.now.slots c.args.done.now.items _ c.args.id.1 c.requires.ready c.requires.live

pub push-requires-clause-apart : goal.push-requires-clause-apart
push-requires-clause-apart g c = not_done c.args.nodes.now.slots c.args.done.now.items _ c.args.id.1 c.requires.ready c.requires.live

pub returns-clause-ends : goal.returns-clause-ends
returns-clause-ends g c =
    end_shown c.args.nodes.now.slots (c.id.inside.number, c.id.inside.slot) c.args.id c.index_mut.result.now c.args.ending c.id.view_is c.index_mut.ensures.value

pub returns-clause-ready : goal.returns-clause-ready
returns-clause-ready g c =
    rw (c.push.ensures.items, c.push.ensures.room)
    (ready_step c.args.nodes.now.slots _ c.args.done.now.items _ c.args.id c.args.ending c.requires.ready c.requires.live
    (end_shown c.args.nodes.now.slots (c.id.inside.number, c.id.inside.slot) c.args.id c.index_mut.result.now c.args.ending c.id.view_is c.index_mut.ensures.value))
