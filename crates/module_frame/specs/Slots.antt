-- The states of a module: what each keeps, and of how many bits it is. They come in the order of what is kept.
use Rattle.std.specs.Prelude.{ℕ, ◌+◌, List, [], ◌∷◌, ◌++◌, suc}
use Rattle.order_rules.specs.Form.{Form, After, Sync, Join}
use Rattle.sv_tree.specs.declared.tree.SvReg.{SvReg}
use Rattle.sv_tree.specs.declared.tree.SvRegName.TheVariants.{State}
use Rattle.pulse_nets.specs.Pulses.{form_of}
use Rattle.act_deeds.specs.declared.deed.Deed.{Deed}
use Rattle.act_deeds.specs.declared.deed.Deed.TheVariants as deed
use Rattle.machine_parts.specs.declared.plan.NodePlan.{NodePlan}
use Rattle.machine_parts.specs.declared.plan.TurnPlan.{TurnPlan}
use Rattle.machine_parts.specs.declared.frame.Keep.{Keep}
use Rattle.machine_parts.specs.declared.frame.Keep.TheVariants as keep
use Rattle.machine_parts.specs.Digits.{digits}

pub record Slot : Type 0 where
  pub keep : Keep
  pub width : ℕ

-- of a node: the digits of a delay for its counter, and else a bit
abbrev pub node_slot : (thread node : ℕ) → Form ℕ → List Slot
node_slot thread node (After delay from) = record { keep = keep.Node thread node; width = digits delay } ∷ []
node_slot thread node (Sync from) = record { keep = keep.Node thread node; width = 1 } ∷ []
node_slot thread node (Join first second) = record { keep = keep.Node thread node; width = 1 } ∷ []
node_slot thread node form = []

-- of the nodes from a number on
abbrev pub node_slots : (thread node : ℕ) → List NodePlan → List Slot
node_slots thread node [] = []
node_slots thread node (plan ∷ rest) =
    node_slot thread node (form_of plan.shape) ++ node_slots thread (suc node) rest

-- of an act, by what it does
abbrev pub site_slot : (thread site : ℕ) → Deed → List Slot
site_slot thread site deed.Decides = record { keep = keep.Side thread site; width = 1 } ∷ []
site_slot thread site (deed.Sends port) = record { keep = keep.Newest thread site; width = 1 } ∷ []
site_slot thread site act = []

-- of the acts from a number on
abbrev pub site_slots : (thread site : ℕ) → List Deed → List Slot
site_slots thread site [] = []
site_slots thread site (deed ∷ rest) = site_slot thread site deed ++ site_slots thread (suc site) rest

abbrev pub thread_slots : (thread : ℕ) → TurnPlan → List Slot
thread_slots thread plan =
    record { keep = keep.Started thread; width = 1 }
    ∷ (node_slots thread 0 plan.nodes.items ++ site_slots thread 0 plan.deeds.items)

-- of the threads from a number on
abbrev pub threads_slots : (thread : ℕ) → List TurnPlan → List Slot
threads_slots thread [] = []
threads_slots thread (plan ∷ rest) = thread_slots thread plan ++ threads_slots (suc thread) rest

-- the registers of states, numbered from a number on
abbrev pub states_from : (number : ℕ) → List Slot → List SvReg
states_from number [] = []
states_from number (slot ∷ rest) =
    record { name = State number; width = slot.width; reset = record { width = slot.width; value = 0 } }
    ∷ states_from (number + 1) rest
