use Rattle.std.proofs.Common.{arith, length}
use Rattle.module_frame.specs.Drafts.{HasRoom}
use Rattle.module_frame.proofs.Growing.{room_left}
use Rattle.module_frame.proofs.StatesOfThread.{started_slot, thread_room, thread_grown, thread_states}
use Rattle.module_frame.proofs.thread.add_thread.Goals as goal

pub add_sites-requires : goal.add_sites-requires
add_sites-requires c = record {
  room = thread_room c.args.draft.now c.add_state.new.self c.add_nodes.new.draft c.args.thread c.args.plan.now c.deref.result.now c.deref-2.result.now
      c.deref.ensures.value c.deref-2.ensures.value c.requires.room c.in_ok-started.ensures.grown c.in_ok-nodes.ensures.grown;
}

pub returns-clause-grown : goal.returns-clause-grown
returns-clause-grown c =
    thread_grown c.args.draft.now c.add_state.new.self c.add_nodes.new.draft c.add_sites.new.draft c.args.thread c.args.plan.now c.deref.result.now c.deref-2.result.now
    c.deref.ensures.value c.deref-2.ensures.value c.in_ok-started.ensures.grown c.in_ok-nodes.ensures.grown c.in_ok-sites.ensures.grown

pub returns-clause-states : goal.returns-clause-states
returns-clause-states c =
    let nodes = c.deref.result.now in
    let deeds = c.deref-2.result.now in
    let second_room : HasRoom c.add_state.new.self 0 =
    room_left c.args.draft.now c.add_state.new.self (started_slot c.args.thread) 1 0 _ (omega arith) (omega arith) c.requires.room c.in_ok-started.ensures.grown in
    let third_room =
    thread_room c.args.draft.now c.add_state.new.self c.add_nodes.new.draft c.args.thread c.args.plan.now nodes deeds
    c.deref.ensures.value c.deref-2.ensures.value c.requires.room c.in_ok-started.ensures.grown c.in_ok-nodes.ensures.grown in
    thread_states c.add_state.new.self c.add_nodes.new.draft c.add_sites.new.draft c.args.thread c.args.plan.now nodes deeds _ 0 (length deeds)
    c.deref.ensures.value c.deref-2.ensures.value second_room third_room
    c.in_ok-nodes.ensures.grown c.in_ok-sites.ensures.grown c.in_ok-started.ensures.held c.in_ok-started.ensures.width
    c.in_ok-nodes.ensures.count c.in_ok-nodes.ensures.held
    c.in_ok-sites.ensures.side_count c.in_ok-sites.ensures.newest_count c.in_ok-sites.ensures.held
