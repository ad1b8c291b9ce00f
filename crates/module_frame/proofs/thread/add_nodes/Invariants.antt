use Rattle.std.proofs.Common.{◌≡◌, ℕ, ◌<◌, length, take}
use Rattle.machine_parts.specs.Parts.{bit_at, form_in}
use Rattle.module_frame.specs.Slots.{node_slots}
use Rattle.module_frame.specs.Drafts.{Grown, NodeHeld}
use Rattle.module_frame.proofs.thread.add_nodes.Given as goal

abbrev pub invariant-loop-plan : goal.invariant-loop-plan
invariant-loop-plan l = record {
  grown : Grown l.fn.draft l.draft (node_slots l.thread 0 (take l.plan-index l.nodes));
  count : length l.states.items ≡ l.plan-index;
  held : (node : ℕ) → node < l.plan-index → NodeHeld l.draft.frame l.thread node (form_in l.nodes node) (bit_at l.states.items node);
}
