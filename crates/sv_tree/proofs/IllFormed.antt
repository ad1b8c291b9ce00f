-- Modules that are not well-formed. Each breaks one point, and the test of that point alone says so.
--
-- The points are numbered: 0 good names, 1 nothing twice, 2 the order of registers, 3 widths, 4 nets, 5 outputs, 6 resets,
-- 7 next values, 8 counts.
use Rattle.std.specs.Prelude.{◌≡◌, ℕ, Bool, true, false, List, [], ◌∷◌, ◌++◌, set, replicate, codes, refl}
use Rattle.std.specs.List.{list_all}
use Rattle.core_term.specs.declared.operators.BinOp.TheVariants.{Add, Eq, Cat}
use Rattle.sv_tree.specs.declared.tree.SvRegName.TheVariants.{Source}
use Rattle.sv_tree.specs.declared.tree.SvReg.{SvReg}
use Rattle.sv_tree.specs.declared.tree.SvRef.TheVariants.{Valid, Ack, Reg}
use Rattle.sv_tree.specs.declared.tree.SvOperand.TheVariants.{Ref}
use Rattle.sv_tree.specs.declared.tree.SvOp.TheVariants.{Not, Bin, Slice, Choose}
use Rattle.sv_tree.specs.declared.tree.SvOut.TheVariants.{Received, Sent}
use Rattle.sv_tree.specs.Module.{Module}
use Rattle.sv_tree.specs.WellFormed.{is_well_formed, names_are_good, names_differ, sources_then_states, register_names}
use Rattle.sv_tree.specs.WellFormed.{widths_are_within, nets_fit, outs_fit, reset_fits, nexts_fit, are_few}
use Rattle.sv_tree.proofs.Parts.{literal, register, net, port, source, state, wire}
use Rattle.sv_tree.proofs.Ports.{swap}

-- the points in their order, and at the end the test as a whole
unfoldable points : Module → List Bool
points tree =
    names_are_good tree
    ∷ names_differ tree
    ∷ sources_then_states (register_names tree)
    ∷ widths_are_within tree
    ∷ nets_fit tree 0 tree.nets
    ∷ outs_fit tree tree.ports tree.outs
    ∷ list_all reset_fits tree.regs
    ∷ nexts_fit tree tree.regs tree.nexts
    ∷ are_few tree
    ∷ is_well_formed tree
    ∷ []

-- the point at this place in the list is broken, and so the test fails
abbrev broken : (point : ℕ) → List Bool
broken point = set (replicate 9 true) point false ++ false ∷ []

-- a module that meets each point: a byte and a number of two bits, without nets
abbrev bare : Module
bare = record {
  proc = codes "c";
  ports = [];
  regs = source (codes "a") 8 0 ∷ source (codes "b") 2 0 ∷ state 0 1 ∷ [];
  nets = [];
  outs = [];
  nexts = literal 8 0 ∷ literal 2 0 ∷ literal 1 0 ∷ [];
}

meets_each_point : points bare ≡ replicate 10 true
unfolding points is_well_formed
meets_each_point = refl

-- Names.

-- a name that ends with `_`
name_ends_with_underscore : points (record bare { proc = codes "c_" }) ≡ broken 0
unfolding points is_well_formed
name_ends_with_underscore = refl

-- a name with `__`
name_with_double_underscore : points (record bare { proc = codes "c__d" }) ≡ broken 0
unfolding points is_well_formed
name_with_double_underscore = refl

-- a name that begins with a digit
name_begins_with_digit : points (record bare { proc = codes "0c" }) ≡ broken 0
unfolding points is_well_formed
name_begins_with_digit = refl

-- a name of 65 bytes
name_too_long : points (record bare { proc = replicate 65 97 }) ≡ broken 0
unfolding points is_well_formed
name_too_long = refl

-- two registers of one name
one_name_twice : points (record bare { regs = source (codes "a") 8 0 ∷ source (codes "a") 2 0 ∷ state 0 1 ∷ [] }) ≡ broken 1
unfolding points is_well_formed
one_name_twice = refl

-- two ports of one endpoint and message
one_port_twice : points (record swap { ports = port (codes "p") (codes "req") true 8 ∷ port (codes "p") (codes "req") false 8 ∷ [] }) ≡ broken 1
unfolding points is_well_formed
one_port_twice = refl

-- The order of registers.

-- a state before a source register
state_before_source : points (record bare { regs = state 0 8 ∷ source (codes "a") 2 0 ∷ state 1 1 ∷ [] }) ≡ broken 2
unfolding points is_well_formed
state_before_source = refl

-- states that are numbered from 1
states_from_one : points (record bare { regs = source (codes "a") 8 0 ∷ state 1 2 ∷ state 2 1 ∷ [] }) ≡ broken 2
unfolding points is_well_formed
states_from_one = refl

-- Nets.

-- a net of 65 bits
net_too_wide : points (record bare { nets = wire 65 (Bin Cat (literal 64 0) (register 2)) ∷ [] }) ≡ broken 3
unfolding points is_well_formed
net_too_wide = refl

-- a net that reads a later one
reads_later_net : points (record bare { nets = wire 1 (Not (net 1)) ∷ wire 1 (Not (register 2)) ∷ [] }) ≡ broken 4
unfolding points is_well_formed
reads_later_net = refl

-- a net that reads itself
reads_itself : points (record bare { nets = wire 1 (Not (net 0)) ∷ [] }) ≡ broken 4
unfolding points is_well_formed
reads_itself = refl

-- an operand that names a register past the last
reads_no_register : points (record bare { nets = wire 1 (Not (register 3)) ∷ [] }) ≡ broken 4
unfolding points is_well_formed
reads_no_register = refl

-- a sum with an operand of another width
adds_other_width : points (record bare { nets = wire 8 (Bin Add (register 0) (literal 4 1)) ∷ [] }) ≡ broken 4
unfolding points is_well_formed
adds_other_width = refl

-- a comparison with two bits
compares_into_two_bits : points (record bare { nets = wire 2 (Bin Eq (register 0) (register 0)) ∷ [] }) ≡ broken 4
unfolding points is_well_formed
compares_into_two_bits = refl

-- a slice past the operand's last bit
cuts_past_the_end : points (record bare { nets = wire 2 (Slice (Reg 0) 8 7) ∷ [] }) ≡ broken 4
unfolding points is_well_formed
cuts_past_the_end = refl

-- a choice by two bits
chooses_by_two_bits : points (record bare { nets = wire 2 (Choose (register 1) (register 1) (register 1)) ∷ [] }) ≡ broken 4
unfolding points is_well_formed
chooses_by_two_bits = refl

-- a concatenation into fewer bits
joins_into_too_few : points (record bare { nets = wire 2 (Bin Cat (register 1) (register 1)) ∷ [] }) ≡ broken 4
unfolding points is_well_formed
joins_into_too_few = refl

-- a literal that is not below 2 to its width
literal_too_large : points (record bare { nets = wire 2 (Not (literal 2 4)) ∷ [] }) ≡ broken 4
unfolding points is_well_formed
literal_too_large = refl

-- Outputs.

-- the `ack` of a received port as an operand
reads_ack_of_received : points (record swap { outs = Received (Ref (Ack 0)) ∷ Sent (net 4) (Ref (Valid 0)) ∷ [] }) ≡ broken 5
unfolding points is_well_formed
reads_ack_of_received = refl

-- outputs in the other order than the ports
outputs_the_other_way : points (record swap { outs = Sent (net 4) (Ref (Valid 0)) ∷ Received (Ref (Ack 1)) ∷ [] }) ≡ broken 5
unfolding points is_well_formed
outputs_the_other_way = refl

-- a port without an output
one_output_too_few : points (record swap { outs = Received (Ref (Ack 1)) ∷ [] }) ≡ broken 5
unfolding points is_well_formed
one_output_too_few = refl

-- Resets and next values.

abbrev reset_by_nine : SvReg
reset_by_nine = record { name = Source (codes "a"); width = 8; reset = record { width = 9; value = 0 } }

-- a reset of another width
reset_of_other_width : points (record bare { regs = reset_by_nine ∷ source (codes "b") 2 0 ∷ state 0 1 ∷ [] }) ≡ broken 6
unfolding points is_well_formed
reset_of_other_width = refl

-- a next value of another width
next_of_other_width : points (record bare { nexts = literal 9 0 ∷ literal 2 0 ∷ literal 1 0 ∷ [] }) ≡ broken 7
unfolding points is_well_formed
next_of_other_width = refl

-- a register without a next value
one_next_too_few : points (record bare { nexts = literal 8 0 ∷ literal 2 0 ∷ [] }) ≡ broken 7
unfolding points is_well_formed
one_next_too_few = refl
