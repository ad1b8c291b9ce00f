-- How many bits the registers of a frame have, and how many of them are states, told from the plans of the threads.
use Rattle.std.specs.Prelude.{ℕ, ◌+◌, List, [], ◌∷◌, sum, map}
use Rattle.sv_tree.specs.declared.tree.SvReg.{SvReg}
use Rattle.pulse_nets.specs.Pulses.{form_of}
use Rattle.process_machine.specs.StateBits.{node_bits}
use Rattle.act_deeds.specs.declared.deed.Deed.{Deed}
use Rattle.act_deeds.specs.declared.deed.Deed.TheVariants as deed
use Rattle.machine_parts.specs.declared.plan.NodePlan.{NodePlan}
use Rattle.machine_parts.specs.declared.plan.TurnPlan.{TurnPlan}
use Rattle.machine_parts.specs.declared.frame.Frame.{Frame}
use Rattle.machine_parts.specs.Digits.{digits}

abbrev pub widths_sum : List SvReg → ℕ
widths_sum regs = sum (map (λ reg. reg.width) regs)

abbrev pub frame_bits : Frame → ℕ
frame_bits frame = widths_sum frame.regs.items

-- of the nodes: the digits of each delay, and one bit for each wait and each join
abbrev pub node_plans_bits : List NodePlan → ℕ
node_plans_bits [] = 0
node_plans_bits (plan ∷ rest) = node_bits digits (form_of plan.shape) + node_plans_bits rest

-- of the acts: one bit for each `if` and each `send`
abbrev pub deed_bits : Deed → ℕ
deed_bits deed.Decides = 1
deed_bits (deed.Sends port) = 1
deed_bits act = 0

abbrev pub deeds_bits : List Deed → ℕ
deeds_bits [] = 0
deeds_bits (act ∷ rest) = deed_bits act + deeds_bits rest

-- of a thread, with its bit that it has started
abbrev pub plan_bits : TurnPlan → ℕ
plan_bits plan = 1 + (node_plans_bits plan.nodes.items + deeds_bits plan.deeds.items)

abbrev pub plans_bits : List TurnPlan → ℕ
plans_bits [] = 0
plans_bits (plan ∷ rest) = plan_bits plan + plans_bits rest
