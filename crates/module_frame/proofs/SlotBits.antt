-- The bits of a frame are those of the registers of the source and of its states, and those of a state are what its plan tells.
use Rattle.std.proofs.Common.{◌≡◌, ℕ, ◌+◌, arith, refl, ◌∙◌, ap, List, [], ◌∷◌, ◌++◌, map, suc}
use Rattle.std.specs.List.{fold, sum}
use Rattle.order_rules.specs.Form.{Form, Start, Same, After, Sync, Join, Side, Merge}
use Rattle.core_term.specs.declared.process.CoreReg.{CoreReg}
use Rattle.core_term.specs.ProcessView.{register_of}
use Rattle.sv_tree.specs.declared.tree.SvReg.{SvReg}
use Rattle.pulse_nets.specs.Pulses.{form_of}
use Rattle.process_machine.specs.StateBits.{node_bits, registers_bits}
use Rattle.act_deeds.specs.declared.deed.Deed.{Deed}
use Rattle.act_deeds.specs.declared.deed.Deed.TheVariants as deed
use Rattle.machine_parts.specs.declared.plan.NodePlan.{NodePlan}
use Rattle.machine_parts.specs.declared.plan.TurnPlan.{TurnPlan}
use Rattle.machine_parts.specs.Digits.{digits}
use Rattle.machine_parts.specs.Frames.{source_of}
use Rattle.module_frame.specs.Bits.{widths_sum, node_plans_bits, deed_bits, deeds_bits, plans_bits}
use Rattle.module_frame.specs.Slots.{Slot, node_slot, node_slots, site_slot, site_slots, thread_slots, threads_slots, states_from}

abbrev slots_bits : List Slot → ℕ
slots_bits [] = 0
slots_bits (slot ∷ rest) = slot.width + slots_bits rest

fold_from : (start : ℕ) (items : List ℕ) → fold ◌+◌ start items ≡ start + sum items
fold_from start [] = omega arith
fold_from start (item ∷ rest) =
    let here = fold_from (start + item) rest in
    let there = fold_from (0 + item) rest in
    omega (arith, here, there)

sum_cons : (item : ℕ) (rest : List ℕ) → sum (item ∷ rest) ≡ item + sum rest
sum_cons item rest = let known = fold_from (0 + item) rest in omega (arith, known)

states_bits : (number : ℕ) (slots : List Slot) → widths_sum (states_from number slots) ≡ slots_bits slots
states_bits number [] = refl
states_bits number (slot ∷ rest) =
    let first = sum_cons slot.width (map (λ reg. reg.width) (states_from (number + 1) rest)) in
    let known = states_bits (number + 1) rest in
    omega (arith, first, known)

sources_bits : (registers : List CoreReg) (states : List SvReg) → widths_sum (map source_of registers ++ states) ≡ registers_bits (map register_of registers) + widths_sum states
sources_bits [] states = omega arith
sources_bits (register ∷ rest) states =
    let first = sum_cons register.width (map (λ reg. reg.width) (map source_of rest ++ states)) in
    let known = sources_bits rest states in
    omega (arith, first, known)

bits_append : (these those : List Slot) → slots_bits (these ++ those) ≡ slots_bits these + slots_bits those
bits_append [] those = omega arith
bits_append (slot ∷ these) those = let known = bits_append these those in omega (arith, known)

node_slot_bits : (thread node : ℕ) (form : Form ℕ) → slots_bits (node_slot thread node form) ≡ node_bits digits form
node_slot_bits thread node Start = refl
node_slot_bits thread node (Same from) = refl
node_slot_bits thread node (After delay from) = omega arith
node_slot_bits thread node (Sync from) = refl
node_slot_bits thread node (Join first second) = refl
node_slot_bits thread node (Side from) = refl
node_slot_bits thread node (Merge first second) = refl

nodes_bits_are : (thread node : ℕ) (plans : List NodePlan) → slots_bits (node_slots thread node plans) ≡ node_plans_bits plans
nodes_bits_are thread node [] = refl
nodes_bits_are thread node (plan ∷ rest) =
    let one = node_slot_bits thread node (form_of plan.shape) in
    let others = nodes_bits_are thread (suc node) rest in
    let all = bits_append (node_slot thread node (form_of plan.shape)) (node_slots thread (suc node) rest) in
    omega (arith, one, others, all)

site_bits : (thread site : ℕ) (act : Deed) → slots_bits (site_slot thread site act) ≡ deed_bits act
site_bits thread site (deed.Sets register) = refl
site_bits thread site (deed.Sends port) = refl
site_bits thread site (deed.Receives port) = refl
site_bits thread site deed.Decides = refl
site_bits thread site deed.Other = refl

sites_bits : (thread site : ℕ) (deeds : List Deed) → slots_bits (site_slots thread site deeds) ≡ deeds_bits deeds
sites_bits thread site [] = refl
sites_bits thread site (act ∷ rest) =
    let one = site_bits thread site act in
    let others = sites_bits thread (suc site) rest in
    let all = bits_append (site_slot thread site act) (site_slots thread (suc site) rest) in
    omega (arith, one, others, all)

threads_bits_are : (thread : ℕ) (plans : List TurnPlan) → slots_bits (threads_slots thread plans) ≡ plans_bits plans
threads_bits_are thread [] = refl
threads_bits_are thread (plan ∷ rest) =
    let nodes = nodes_bits_are thread 0 plan.nodes.items in
    let sites = sites_bits thread 0 plan.deeds.items in
    let inner = bits_append (node_slots thread 0 plan.nodes.items) (site_slots thread 0 plan.deeds.items) in
    let others = threads_bits_are (suc thread) rest in
    let all = bits_append (thread_slots thread plan) (threads_slots (suc thread) rest) in
    omega (arith, nodes, sites, inner, others, all)

pub bits_are : (registers : List CoreReg) (plans : List TurnPlan) (regs : List SvReg) → regs ≡ map source_of registers ++ states_from 0 (threads_slots 0 plans)
    → widths_sum regs ≡ registers_bits (map register_of registers) + plans_bits plans
bits_are registers plans regs are =
    let sources = sources_bits registers (states_from 0 (threads_slots 0 plans)) in
    let states = states_bits 0 (threads_slots 0 plans) in
    let told = threads_bits_are 0 plans in
    ap widths_sum are ∙ omega (arith, sources, states, told)
