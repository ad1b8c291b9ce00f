-- What a module shows in a cycle rests on what comes in up to that cycle alone.
use Rattle.std.proofs.Common.{◌≡◌, ℕ, zero, suc, ◌+◌, ◌<◌, List, [], ◌∷◌, ◌++◌, map, refl, ◌∙◌, ap, arith}
use Rattle.anvil_bits.specs.Operators.{truth}
use Rattle.core_term.specs.Inputs.{Inputs}
use Rattle.sv_tree.specs.declared.tree.SvRef.{SvRef}
use Rattle.sv_tree.specs.declared.tree.SvRef.TheVariants.{Data, Valid, Ack, Reg, Net}
use Rattle.sv_tree.specs.declared.tree.SvOperand.{SvOperand}
use Rattle.sv_tree.specs.declared.tree.SvOperand.TheVariants.{Ref, Lit}
use Rattle.sv_tree.specs.declared.tree.SvOp.{SvOp}
use Rattle.sv_tree.specs.declared.tree.SvOp.TheVariants.{Not, Bin, Slice, Choose}
use Rattle.sv_tree.specs.declared.tree.SvNet.{SvNet}
use Rattle.sv_tree.specs.Module.{Module}
use Rattle.sv_tree.specs.Clocked.{ref_value, operand_value, operation_value, net_values_after, net_values, settled_value, registers_at}

-- the two say the same of a cycle
pub record SameCycle (one other : Inputs) (cycle : ℕ) : Type 0 where
  pub word : (port : ℕ) → one.data_at port cycle ≡ other.data_at port cycle
  pub valid : (port : ℕ) → one.valid port cycle ≡ other.valid port cycle
  pub ack : (port : ℕ) → one.ack port cycle ≡ other.ack port cycle

map_same : {A B : Type 0} (f g : A → B) → ((item : A) → f item ≡ g item) → (items : List A) → map f items ≡ map g items
map_same f g same [] = refl
map_same f g same (item ∷ items) = rw (same item, map_same f g same items) refl

module _ (tree : Module) (one other : Inputs) (cycle : ℕ) (same : SameCycle one other cycle) (registers : List ℕ) where
  ref_same : (nets : List ℕ) (x : SvRef) → ref_value one cycle registers nets x ≡ ref_value other cycle registers nets x
  ref_same nets (Data port) = same.word port
  ref_same nets (Valid port) = ap truth (same.valid port)
  ref_same nets (Ack port) = ap truth (same.ack port)
  ref_same nets (Reg register) = refl
  ref_same nets (Net net) = refl

  operand_same : (nets : List ℕ) (x : SvOperand) → operand_value one cycle registers nets x ≡ operand_value other cycle registers nets x
  operand_same nets (Ref x) = ref_same nets x
  operand_same nets (Lit number) = refl

  operation_same : (nets : List ℕ) (width : ℕ) (op : SvOp) → operation_value tree one cycle registers nets width op ≡ operation_value tree other cycle registers nets width op
  operation_same nets width (Not x) = rw (operand_same nets x) refl
  operation_same nets width (Bin op x y) = rw (operand_same nets x, operand_same nets y) refl
  operation_same nets width (Slice of high low) = rw (ref_same nets of) refl
  operation_same nets width (Choose condition x y) = rw (operand_same nets condition, operand_same nets x, operand_same nets y) refl

  nets_same : (nets : List ℕ) (rest : List SvNet) → net_values_after tree one cycle registers nets rest ≡ net_values_after tree other cycle registers nets rest
  nets_same nets [] = refl
  nets_same nets (net ∷ rest) =
      ap (λ value. net_values_after tree one cycle registers (nets ++ value ∷ []) rest) (operation_same nets net.width net.op)
      ∙ nets_same (nets ++ operation_value tree other cycle registers nets net.width net.op ∷ []) rest

  pub settled_same : (x : SvOperand) → settled_value tree one cycle registers x ≡ settled_value tree other cycle registers x
  settled_same x =
      ap (λ nets. operand_value one cycle registers nets x) (nets_same [] tree.nets)
      ∙ operand_same (net_values tree other cycle registers) x

pub registers_same : (tree : Module) (one other : Inputs) (cycle : ℕ) → ((before : ℕ) → before < cycle → SameCycle one other before)
    → registers_at tree one cycle ≡ registers_at tree other cycle
unfolding registers_at
registers_same tree one other zero same = refl
registers_same tree one other (suc cycle) same =
    let earlier = registers_same tree one other cycle (λ before less. same before (omega (arith, less))) in
    map_same _ _ (settled_same tree one other cycle (same cycle (omega arith)) (registers_at tree one cycle)) tree.nexts
    ∙ ap (λ registers. map (settled_value tree other cycle registers) tree.nexts) earlier

pub settled_all : (tree : Module) (one other : Inputs) (cycle : ℕ) → ((before : ℕ) → before < cycle + 1 → SameCycle one other before) → (x : SvOperand)
    → settled_value tree one cycle (registers_at tree one cycle) x ≡ settled_value tree other cycle (registers_at tree other cycle) x
settled_all tree one other cycle same x =
    settled_same tree one other cycle (same cycle (omega arith)) (registers_at tree one cycle) x
    ∙ ap (λ registers. settled_value tree other cycle registers x) (registers_same tree one other cycle (λ before less. same before (omega (arith, less))))
