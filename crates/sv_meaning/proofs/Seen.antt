-- Two cycles in which the same comes in show the same: in nets, operands and outputs. The last of a list of rows is such a
-- cycle beside the row alone.
use Rattle.std.proofs.Common.{◌≡◌, ℕ, zero, suc, ◌<◌, List, [], ◌∷◌, ◌++◌, length, refl, ap, subst, arith}
use Rattle.anvil_bits.specs.Operators.{truth}
use Rattle.core_term.specs.declared.rows.InCell.{InCell}
use Rattle.core_term.specs.declared.rows.Row.{Row}
use Rattle.core_term.specs.Inputs.{Inputs}
use Rattle.core_term.specs.Rows.{nth_row, nth_cell, valid_in, data_in, ack_in}
use Rattle.sv_tree.specs.declared.tree.SvRef.{SvRef}
use Rattle.sv_tree.specs.declared.tree.SvRef.TheVariants.{Data, Valid, Ack, Reg, Net}
use Rattle.sv_tree.specs.declared.tree.SvOperand.{SvOperand}
use Rattle.sv_tree.specs.declared.tree.SvOperand.TheVariants.{Ref, Lit}
use Rattle.sv_tree.specs.declared.tree.SvOp.{SvOp}
use Rattle.sv_tree.specs.declared.tree.SvOp.TheVariants.{Not, Bin, Slice, Choose}
use Rattle.sv_tree.specs.declared.tree.SvNet.{SvNet}
use Rattle.sv_tree.specs.Module.{Module}
use Rattle.sv_tree.specs.Clocked.{ref_value, operand_value, operation_value, net_values_after, net_values, settled_value}
use Rattle.sv_meaning.specs.Rows.{BeginsWith}
use Rattle.sv_meaning.specs.Cycle.{in_cells}

-- in this cycle of the inputs these cells come in
pub record Shows (inputs : Inputs) (cycle : ℕ) (cells : List InCell) : Type 0 where
  pub valid : (port : ℕ) → inputs.valid port cycle ≡ valid_in (nth_cell cells port)
  pub data_at : (port : ℕ) → inputs.data_at port cycle ≡ data_in (nth_cell cells port)
  pub ack : (port : ℕ) → inputs.ack port cycle ≡ ack_in (nth_cell cells port)

module _ (tree : Module) (inputs : Inputs) (cycle : ℕ) (cells : List InCell) (shows : Shows inputs cycle cells) (registers : List ℕ) where
  ref_same : (nets : List ℕ) (ref : SvRef) → ref_value inputs cycle registers nets ref ≡ ref_value (in_cells cells) 0 registers nets ref
  ref_same nets (Data port) = shows.data_at port
  ref_same nets (Valid port) = ap truth (shows.valid port)
  ref_same nets (Ack port) = ap truth (shows.ack port)
  ref_same nets (Reg register) = refl
  ref_same nets (Net net) = refl

  operand_same : (nets : List ℕ) (x : SvOperand) → operand_value inputs cycle registers nets x ≡ operand_value (in_cells cells) 0 registers nets x
  operand_same nets (Ref ref) = ref_same nets ref
  operand_same nets (Lit number) = refl

  operation_same :
      (nets : List ℕ) (width : ℕ) (op : SvOp)
      → operation_value tree inputs cycle registers nets width op ≡ operation_value tree (in_cells cells) 0 registers nets width op
  operation_same nets width (Not x) = rw (operand_same nets x) refl
  operation_same nets width (Bin op x y) = rw (operand_same nets x) (rw (operand_same nets y) refl)
  operation_same nets width (Slice of high low) = rw (ref_same nets of) refl
  operation_same nets width (Choose condition x y) = rw (operand_same nets condition) (rw (operand_same nets x) (rw (operand_same nets y) refl))

  nets_same :
      (so_far : List ℕ) (nets : List SvNet)
      → net_values_after tree inputs cycle registers so_far nets ≡ net_values_after tree (in_cells cells) 0 registers so_far nets
  nets_same so_far [] = refl
  nets_same so_far (net ∷ rest) =
      let first = operation_same so_far net.width net.op in
      subst (λ given. net_values_after tree inputs cycle registers (so_far ++ operation_value tree inputs cycle registers so_far net.width net.op ∷ []) rest
      ≡ net_values_after tree (in_cells cells) 0 registers (so_far ++ given ∷ []) rest) first
      (nets_same (so_far ++ operation_value tree inputs cycle registers so_far net.width net.op ∷ []) rest)

  -- what an operand shows once the nets are valued
  pub settled_same :
      (x : SvOperand)
      → settled_value tree inputs cycle registers x ≡ operand_value (in_cells cells) 0 registers (net_values tree (in_cells cells) 0 registers) x
  settled_same x =
      subst (λ nets. settled_value tree inputs cycle registers x ≡ operand_value (in_cells cells) 0 registers nets x) (nets_same [] tree.nets)
      (operand_same (net_values tree inputs cycle registers) x)

-- The last row, and the rows before it.

last_row : (rows : List Row) (row : Row) → nth_row (rows ++ row ∷ []) (length rows) ≡ row.cells.items
last_row [] row = refl
last_row (first ∷ rest) row = last_row rest row

earlier_row : (rows : List Row) (row : Row) (cycle : ℕ) → cycle < length rows → nth_row (rows ++ row ∷ []) cycle ≡ nth_row rows cycle
earlier_row [] row cycle inside = absurd (omega (arith, inside))
earlier_row (first ∷ rest) row zero inside = refl
earlier_row (first ∷ rest) row (suc cycle) inside =
    let shorter : cycle < length rest = omega (arith, inside) in
    earlier_row rest row cycle shorter

pub longer : (rows : List Row) (row : Row) → length (rows ++ row ∷ []) ≡ suc (length rows)
longer [] row = refl
longer (first ∷ rest) row = ap suc (longer rest row)

module _ (inputs : Inputs) (rows : List Row) (row : Row) (begins : BeginsWith inputs (rows ++ row ∷ [])) where
  last_within : length rows < length (rows ++ row ∷ [])
  last_within =
      let more = longer rows row in
      omega (arith, more)

  pub last_shows : Shows inputs (length rows) row.cells.items
  last_shows = record {
    valid = λ port. subst (λ cells. inputs.valid port (length rows) ≡ valid_in (nth_cell cells port)) (last_row rows row)
        (begins.valid port (length rows) last_within);
    data_at = λ port. subst (λ cells. inputs.data_at port (length rows) ≡ data_in (nth_cell cells port)) (last_row rows row)
        (begins.data_at port (length rows) last_within);
    ack = λ port. subst (λ cells. inputs.ack port (length rows) ≡ ack_in (nth_cell cells port)) (last_row rows row)
        (begins.ack port (length rows) last_within);
  }

  earlier_within : (cycle : ℕ) → cycle < length rows → cycle < length (rows ++ row ∷ [])
  earlier_within cycle inside =
      let more = longer rows row in
      omega (arith, more, inside)

  pub begins_before : BeginsWith inputs rows
  begins_before = record {
    valid = λ port cycle inside. subst (λ cells. inputs.valid port cycle ≡ valid_in (nth_cell cells port)) (earlier_row rows row cycle inside)
        (begins.valid port cycle (earlier_within cycle inside));
    data_at = λ port cycle inside. subst (λ cells. inputs.data_at port cycle ≡ data_in (nth_cell cells port)) (earlier_row rows row cycle inside)
        (begins.data_at port cycle (earlier_within cycle inside));
    ack = λ port cycle inside. subst (λ cells. inputs.ack port cycle ≡ ack_in (nth_cell cells port)) (earlier_row rows row cycle inside)
        (begins.ack port cycle (earlier_within cycle inside));
  }
