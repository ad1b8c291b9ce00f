-- What a cycle shows and how the registers move, against the outputs and registers of the clocked meaning.
use Rattle.std.proofs.Common.{◌≡◌, ℕ, suc, ◌+◌, ◌≤◌, ◌⊎◌, inl, inr, true, false, not, ◌&&◌, List, [], ◌∷◌, ◌++◌, length, drop, map, take, refl, sym, ap, subst, arith}
use Rattle.std.specs.Prelude.{◌==◌, slice_index}
use Rattle.std.proofs.lemmas.Bool.{and_parts, cases_Bool, eqb-true, false≢true}
use Rattle.std.proofs.lemmas.List.{length-map, take_at}
use Rattle.std.proofs.lemmas.Simd.{map-map}
use Rattle.std.specs.List.{list_all}
use Rattle.anvil_bits.specs.Number.{Number}
use Rattle.core_term.specs.declared.rows.OutCell.TheVariants as outgoing
use Rattle.core_term.specs.Inputs.{Inputs}
use Rattle.core_term.specs.Rows.{number_of}
use Rattle.sv_tree.specs.declared.tree.SvPort.{SvPort}
use Rattle.sv_tree.specs.declared.tree.SvReg.{SvReg}
use Rattle.sv_tree.specs.declared.tree.SvRegName.{SvRegName}
use Rattle.sv_tree.specs.declared.tree.SvRegName.TheVariants.{Source, State as StateName}
use Rattle.sv_tree.specs.declared.tree.SvOperand.{SvOperand}
use Rattle.sv_tree.specs.declared.tree.SvOut.{SvOut}
use Rattle.sv_tree.specs.declared.tree.SvOut.TheVariants.{Received, Sent}
use Rattle.sv_tree.specs.Module.{Module}
use Rattle.sv_tree.specs.WellFormed.{IsWellFormed, gives, is_number, reset_fits, out_fits, outs_fit, nexts_fit, operand_stands, operand_width, sources_then_states, are_states_from}
use Rattle.sv_tree.specs.Clocked.{settled_value, operand_value, net_values, output_value, outputs_at, reset_values, next_registers, registers_at}
use Rattle.sv_tree.proofs.WellFormedPoints.{points_of}
use Rattle.sv_meaning.specs.declared.cycle.Cycle.{Cycle}
use Rattle.sv_meaning.specs.Cycle.{AreRegisters, in_cells, values, widths, operand_in, out_in}
use Rattle.sv_tree.specs.Sources.{is_source}
use Rattle.sv_meaning.specs.Shown.{cell_of, cells_of, source_count, sources_of}
use Rattle.core_term.specs.declared.rows.Row.{Row}
use Rattle.sv_meaning.specs.Rows.{BeginsWith}
use Rattle.sv_meaning.specs.State.{State}
use Rattle.sv_meaning.specs.Stands.{StandsAfter}
use Rattle.sv_meaning.proofs.Seen.{Shows, settled_same, last_shows, begins_before, longer}

width_given : (tree : Module) (width : ℕ) (x : SvOperand) → gives tree width x ≡ true → operand_width tree x ≡ width
width_given tree width x fits =
    eqb-true (operand_width tree x) width (and_parts (operand_stands tree (length tree.nets) x) (operand_width tree x == width) fits).1

-- the numbers that the registers take have their widths
pub nexts_wide :
    (now : Cycle) (nets : List Number) (regs : List SvReg) (xs : List SvOperand) → nexts_fit now.module.now regs xs ≡ true
    → widths (map (operand_in now nets) xs) ≡ map (λ reg. reg.width) regs
nexts_wide now nets [] [] fits = refl
nexts_wide now nets [] (x ∷ xs) fits = absurd (false≢true fits)
nexts_wide now nets (reg ∷ regs) [] fits = absurd (false≢true fits)
nexts_wide now nets (reg ∷ regs) (x ∷ xs) fits =
    let parts = and_parts (gives now.module.now reg.width x) (nexts_fit now.module.now regs xs) fits in
    rw (width_given now.module.now reg.width x parts.0) (rw (nexts_wide now nets regs xs parts.1) refl)

pub registers_count : (tree : Module) (numbers : List Number) → AreRegisters tree numbers → length numbers ≡ length tree.regs
registers_count tree numbers wide =
    let left = length-map numbers (λ number. number.width) in
    let right = length-map tree.regs (λ reg. reg.width) in
    let same = ap (λ list. length list) wide in
    omega (arith, left, right, same)

-- the resets have the widths of their registers
pub resets_wide : (regs : List SvReg) → list_all reset_fits regs ≡ true → widths (map (λ reg. reg.reset) regs) ≡ map (λ reg. reg.width) regs
resets_wide [] fits = refl
resets_wide (reg ∷ regs) fits =
    let parts = and_parts (reset_fits reg) (list_all reset_fits regs) fits in
    let width : reg.reset.width ≡ reg.width = eqb-true reg.reset.width reg.width (and_parts (is_number reg.reset) (reg.reset.width == reg.width) parts.0).1 in
    rw width (rw (resets_wide regs parts.1) refl)

pub resets_shown : (tree : Module) → values (map (λ reg. reg.reset) tree.regs) ≡ reset_values tree
resets_shown tree = map-map (λ number. number.value) (λ reg. reg.reset) tree.regs

-- A cycle with all nets valued, in which what comes in is what comes in in a cycle of the inputs.
module _ (now : Cycle) (nets : List Number) (inputs : Inputs) (cycle : ℕ)
    (shows : Shows inputs cycle now.cells.now)
    (valued : values nets ≡ net_values now.module.now (in_cells now.cells.now) 0 (values now.registers.now)) where
  operand_shown : (x : SvOperand) → (operand_in now nets x).value ≡ settled_value now.module.now inputs cycle (values now.registers.now) x
  operand_shown x =
      let same = settled_same now.module.now inputs cycle now.cells.now shows (values now.registers.now) x in
      subst (λ list. operand_value (in_cells now.cells.now) 0 (values now.registers.now) list x ≡ settled_value now.module.now inputs cycle (values now.registers.now) x)
      (sym valued) (sym same)

  pub nexts_shown :
      (xs : List SvOperand) → values (map (operand_in now nets) xs) ≡ map (settled_value now.module.now inputs cycle (values now.registers.now)) xs
  nexts_shown [] = refl
  nexts_shown (x ∷ xs) = rw (nexts_shown xs) (rw (operand_shown x) refl)

  out_shown :
      (port : SvPort) (out : SvOut) → out_fits now.module.now port out ≡ true
      → out_in now nets out ≡ cell_of port (output_value now.module.now inputs cycle (values now.registers.now) out)
  out_shown port (Received ack) fits = ap (λ given. outgoing.Received (given == 1)) (operand_shown ack)
  out_shown port (Sent value valid) fits =
      let front = and_parts (not port.received && gives now.module.now port.width value) (gives now.module.now 1 valid) fits in
      let wide = width_given now.module.now port.width value (and_parts (not port.received) (gives now.module.now port.width value) front.0).1 in
      rw (operand_shown value) (rw (operand_shown valid) (rw wide refl))

  pub outs_shown :
      (ports : List SvPort) (outs : List SvOut) → outs_fit now.module.now ports outs ≡ true
      → map (out_in now nets) outs ≡ cells_of ports (map (output_value now.module.now inputs cycle (values now.registers.now)) outs)
  outs_shown [] [] fits = refl
  outs_shown [] (out ∷ outs) fits = absurd (false≢true fits)
  outs_shown (port ∷ ports) [] fits = refl
  outs_shown (port ∷ ports) (out ∷ outs) fits =
      let parts = and_parts (out_fits now.module.now port out) (outs_fit now.module.now ports outs) fits in
      rw (out_shown port out parts.0) (rw (outs_shown ports outs parts.1) refl)

pub next_cycle : (tree : Module) (inputs : Inputs) (cycle : ℕ) → registers_at tree inputs (suc cycle) ≡ next_registers tree inputs cycle (registers_at tree inputs cycle)
unfolding registers_at
next_cycle tree inputs cycle = refl

pub first_cycle : (tree : Module) (inputs : Inputs) → registers_at tree inputs 0 ≡ reset_values tree
unfolding registers_at
first_cycle tree inputs = refl

-- Source registers stand first, so they are the first numbers.

pub sources_within : (regs : List SvReg) → source_count regs ≤ length regs
sources_within [] = omega arith
sources_within (reg ∷ regs) =
    let rest = sources_within regs in
    elim (cases_Bool (is_source reg.name)) [
      | inl source ↦ rw source (omega (arith, rest))
      | inr state ↦ rw state (omega (arith, rest))
    ]

state_parts :
    (first : ℕ) (name : SvRegName) (names : List SvRegName) → are_states_from first (name ∷ names) ≡ true
    → (is_source name ≡ false) × (are_states_from (first + 1) names ≡ true)
state_parts first (Source name) names states = absurd (false≢true states)
state_parts first (StateName number) names states = (refl, (and_parts (number == first) (are_states_from (first + 1) names) states).1)

no_sources : (first : ℕ) (regs : List SvReg) → are_states_from first (map (λ reg. reg.name) regs) ≡ true → source_count regs ≡ 0
no_sources first [] states = refl
no_sources first (reg ∷ regs) states =
    let parts = state_parts first reg.name (map (λ reg. reg.name) regs) states in
    rw parts.0 (no_sources (first + 1) regs parts.1)

no_sources_shown :
    (first : ℕ) (regs : List SvReg) (values : List ℕ) → are_states_from first (map (λ reg. reg.name) regs) ≡ true → sources_of regs values ≡ []
no_sources_shown first [] values states = refl
no_sources_shown first (reg ∷ regs) [] states = refl
no_sources_shown first (reg ∷ regs) (value ∷ values) states =
    let parts = state_parts first reg.name (map (λ reg. reg.name) regs) states in
    rw parts.0 (no_sources_shown (first + 1) regs values parts.1)

order_parts :
    (name : SvRegName) (names : List SvRegName) → sources_then_states (name ∷ names) ≡ true
    → ((is_source name ≡ true) × (sources_then_states names ≡ true)) ⊎ ((is_source name ≡ false) × (are_states_from 1 names ≡ true))
order_parts (Source name) names ordered = inl (refl, ordered)
order_parts (StateName number) names ordered = inr (state_parts 0 (StateName number) names ordered)

pub first_are_sources :
    (regs : List SvReg) (numbers : List Number) → sources_then_states (map (λ reg. reg.name) regs) ≡ true → widths numbers ≡ map (λ reg. reg.width) regs
    → take (source_count regs) numbers ≡ sources_of regs (values numbers)
first_are_sources [] numbers ordered wide = refl
first_are_sources (reg ∷ regs) [] ordered wide =
    let short : 0 ≡ suc (length (map (λ reg. reg.width) regs)) = ap (λ list. length list) wide in
    absurd (omega (arith, short))
first_are_sources (reg ∷ regs) (number ∷ numbers) ordered wide =
    let width : number.width ≡ reg.width = ap (λ list. slice_index list 0) wide in
    let rest : widths numbers ≡ map (λ reg. reg.width) regs = ap (λ list. drop 1 list) wide in
    elim (order_parts reg.name (map (λ reg. reg.name) regs) ordered) [
      | inl source ↦
          let shown : number ≡ number_of reg.width number.value = subst (λ bits. number ≡ number_of bits number.value) width refl in
          let more : take (source_count regs) numbers ≡ sources_of regs (values numbers) = first_are_sources regs numbers source.1 rest in
          rw source.0 (subst (λ head. number ∷ take (source_count regs) numbers ≡ head ∷ sources_of regs (values numbers)) shown (rw more refl))
      | inr states ↦
          let none : source_count regs ≡ 0 = no_sources 1 regs states.1 in
          rw states.0 (rw none (rw (no_sources_shown 1 regs (values numbers) states.1) refl))
    ]

-- One step of a machine that stands after `rows`, at the row `row`.
module _ (machine : State) (now : Cycle) (nets : List Number) (row : Row)
    (seen : machine ≡ record { tree = now.module.now; registers = values now.registers.now })
    (cells : now.cells.now ≡ row.cells.items)
    (valued : values nets ≡ net_values now.module.now (in_cells now.cells.now) 0 (values now.registers.now))
    (holds : IsWellFormed now.module.now)
    (rows : List Row) (stands : StandsAfter rows machine)
    (inputs : Inputs) (begins : BeginsWith inputs (rows ++ row ∷ [])) where
  tree_seen : machine.tree ≡ now.module.now
  tree_seen = ap (λ machine. machine.tree) seen

  last : Shows inputs (length rows) now.cells.now
  last = subst (λ incoming. Shows inputs (length rows) incoming) (sym cells) (last_shows inputs rows row begins)

  registers_before : values now.registers.now ≡ registers_at now.module.now inputs (length rows)
  registers_before =
      subst (λ machine. machine.registers ≡ registers_at machine.tree inputs (length rows)) seen (stands inputs (begins_before inputs rows row begins))

  pub outs_of_step : map (out_in now nets) now.module.now.outs ≡ cells_of machine.tree.ports (outputs_at machine.tree inputs (length rows))
  outs_of_step =
      let shown = outs_shown now nets inputs (length rows) last valued now.module.now.ports now.module.now.outs (points_of now.module.now holds).outs in
      rw tree_seen (rw registers_before at shown)

  pub registers_of_step : values (map (operand_in now nets) now.module.now.nexts) ≡ registers_at now.module.now inputs (length (rows ++ row ∷ []))
  registers_of_step =
      let shown = nexts_shown now nets inputs (length rows) last valued now.module.now.nexts in
      rw (longer rows row) (rw (next_cycle now.module.now inputs (length rows)) (rw registers_before at shown))

  pub sources_of_step :
      widths now.registers.now ≡ map (λ reg. reg.width) now.module.now.regs
      → take (source_count machine.tree.regs) now.registers.now ≡ sources_of machine.tree.regs (registers_at machine.tree inputs (length rows))
  sources_of_step wide =
      let shown = first_are_sources now.module.now.regs now.registers.now (points_of now.module.now holds).order wide in
      rw tree_seen (rw registers_before at shown)

-- what a `Vec` holds after all its places were written
pub written_back : {X : Type 0} (items before target : List X) (count : ℕ) → length items ≡ count → items ≡ target → take count (items ++ drop (length items) before) ≡ target
written_back items before target count same is = subst (λ list. list ≡ target) (sym (take_at items (drop (length items) before) count same)) is

pub written_length :
    {X : Type 0} (items before : List X) (count target : ℕ) → length items ≡ count → count ≡ target
    → length (take count (items ++ drop (length items) before)) ≡ target
written_length items before count target same is =
    let long : length items ≡ target = omega (arith, same, is) in
    subst (λ list. length list ≡ target) (sym (take_at items (drop (length items) before) count same)) long
