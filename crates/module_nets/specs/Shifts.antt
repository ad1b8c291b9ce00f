-- Shifts by a literal. One of the width or more gives 0 whatever it shifts, and tools misread a literal amount that is
-- large: Verilator refuses one of 2^32 or more, Yosys reads it as a signed number of 32 bits. So none is drawn.
use Rattle.std.specs.Prelude.{ℕ, nat_lt, Bool, true, List}
use Rattle.std.specs.List.{list_all}
use Rattle.core_term.specs.declared.operators.BinOp.{BinOp}
use Rattle.core_term.specs.declared.operators.BinOp.TheVariants.{Shl, Shr}
use Rattle.sv_tree.specs.declared.tree.SvOperand.{SvOperand}
use Rattle.sv_tree.specs.declared.tree.SvOperand.TheVariants.{Ref, Lit}
use Rattle.sv_tree.specs.declared.tree.SvOp.{SvOp}
use Rattle.sv_tree.specs.declared.tree.SvOp.TheVariants.{Bin}
use Rattle.sv_tree.specs.declared.tree.SvNet.{SvNet}

-- a name, or a literal below the width
abbrev pub is_below : (width : ℕ) → SvOperand → Bool
is_below width (Ref name) = true
is_below width (Lit number) = nat_lt number.value width

-- the operator is no shift of so many bits by a literal of the width or more
abbrev pub stays : BinOp → (width : ℕ) → SvOperand → Bool
stays Shl width amount = is_below width amount
stays Shr width amount = is_below width amount
stays op width amount = true

abbrev pub shift_stays : (width : ℕ) → SvOp → Bool
shift_stays width (Bin op left right) = stays op width right
shift_stays width op = true

-- of each net
abbrev pub shifts_stay : List SvNet → Bool
shifts_stay nets = list_all (λ net. shift_stays net.width net.op) nets
