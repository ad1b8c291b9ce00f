-- What a machine shows in a cycle is what is seen of its module.
--
-- The claim: the outputs of a well-formed module with the ports of a process are the cells of the wires that are seen, and its
-- source registers the registers that are seen. The argument for the outputs goes along the ports: an output is of the side of
-- its port. For registers: those of the source stand first, so the number of one in the process is its place in the module.
use Rattle.std.proofs.Common.{◌≡◌, ◌∙◌, ℕ, zero, suc, ◌+◌, ◌<◌, true, false, nat_lt, List, [], ◌∷◌, inl, inr, length, map, drop, get_or, Some, refl, ap, sym, arith}
use Rattle.std.specs.Prelude.{◌==◌, filter, slice_get, slice_index}
use Rattle.std.proofs.Math.ListN.{length-map}
use Rattle.std.proofs.lemmas.Bool.{and_parts, cases_Bool, false≢true, not-true}
use Rattle.std.proofs.lemmas.Bool.Decides.{nat_tests}
use Rattle.core_term.specs.Inputs.{Inputs}
use Rattle.core_term.specs.Process.{Port, Process, Register, nth_port, is_received}
use Rattle.core_term.specs.Rows.{cell_shown, cells_shown, registers_shown}
use Rattle.machine_meaning.specs.ModuleRun.{shown_registers, shown_wires}
use Rattle.sv_meaning.specs.Shown.{cell_of, cells_of, sources_of}
use Rattle.sv_tree.specs.declared.tree.SvOut.{SvOut}
use Rattle.sv_tree.specs.declared.tree.SvOut.TheVariants.{Received, Sent}
use Rattle.sv_tree.specs.declared.tree.SvReg.{SvReg}
use Rattle.sv_tree.specs.declared.tree.SvRegName.{SvRegName}
use Rattle.sv_tree.specs.declared.tree.SvRegName.TheVariants.{Source, State}
use Rattle.sv_tree.specs.Clocked.{Output, output_value, outputs_at, registers_at, reset_values, settled_value}
use Rattle.sv_tree.specs.Module.{Module}
use Rattle.sv_tree.specs.Sources.{is_source}
use Rattle.sv_tree.specs.WellFormed.{IsWellFormed, are_states_from, out_fits, outs_fit, sources_then_states}
use Rattle.sv_tree.proofs.WellFormedPoints.{next_count, points_of}
use Rattle.module_log.specs.SamePorts.{HasPortsOf, module_port, of_module, of_process}

-- Outputs.

module _ (p : Process) (tree : Module) (inputs : Inputs) (n : ℕ) where
  abbrev value : SvOut → Output
  value out = output_value tree inputs n (registers_at tree inputs n) out

  cell_here : (base : ℕ) (port : Port) (out : SvOut) → out_fits tree (module_port port) out ≡ true → nth_port p.ports base ≡ port
      → slice_get (outputs_at tree inputs n) base ≡ Some (value out)
      → cell_of (module_port port) (value out) ≡ cell_shown (shown_wires p tree inputs) n base port
  cell_here base port (Received ack) fits here found =
      let received : port.received ≡ true = (and_parts _ _ fits).0 in
      let side : is_received p base ≡ true = ap (λ q. q.received) here ∙ received in
      rw (received, side, found) refl
  cell_here base port (Sent number valid) fits here found =
      let sent : port.received ≡ false = not-true port.received (and_parts _ _ (and_parts _ _ fits).0).0 in
      let side : is_received p base ≡ false = ap (λ q. q.received) here ∙ sent in
      rw (sent, side, found) refl

  cells_from : (base : ℕ) (ports : List Port) (outs : List SvOut) → outs_fit tree (map module_port ports) outs ≡ true
      → ((k : ℕ) → nth_port p.ports (base + k) ≡ nth_port ports k)
      → ((k : ℕ) → slice_get (outputs_at tree inputs n) (base + k) ≡ slice_get (map value outs) k)
      → cells_of (map module_port ports) (map value outs) ≡ cells_shown (shown_wires p tree inputs) n base ports
  cells_from base [] outs fits ports_at outs_at = refl
  cells_from base (port ∷ ports) [] fits ports_at outs_at = absurd (false≢true fits)
  cells_from base (port ∷ ports) (out ∷ outs) fits ports_at outs_at =
      let parts = and_parts (out_fits tree (module_port port) out) _ fits in
      let here : base ≡ base + 0 = omega arith in
      let next : (k : ℕ) → (base + 1) + k ≡ base + suc k = λ k. omega arith in
      let first = cell_here base port out parts.0 (ap (nth_port p.ports) here ∙ ports_at 0) (ap (slice_get (outputs_at tree inputs n)) here ∙ outs_at 0) in
      let rest = cells_from (base + 1) ports outs parts.1 (λ k. ap (nth_port p.ports) (next k) ∙ ports_at (suc k)) (λ k. ap (slice_get (outputs_at tree inputs n)) (next k) ∙ outs_at (suc k)) in
      λ i. first i ∷ rest i

  pub outputs_shown : HasPortsOf p tree → IsWellFormed tree → cells_of tree.ports (outputs_at tree inputs n) ≡ cells_shown (shown_wires p tree inputs) n 0 p.ports
  outputs_shown same holds =
      let from_zero : (k : ℕ) → 0 + k ≡ k = λ k. omega arith in
      let fits : outs_fit tree (map module_port p.ports) tree.outs ≡ true = ap (λ ports. outs_fit tree ports tree.outs) (sym same.ports) ∙ (points_of tree holds).outs in
      ap (λ ports. cells_of ports (outputs_at tree inputs n)) same.ports
      ∙ cells_from 0 p.ports tree.outs fits (λ k. ap (nth_port p.ports) (from_zero k)) (λ k. ap (slice_get (outputs_at tree inputs n)) (from_zero k))

-- Source registers.

after_source : (name : SvRegName) (names : List SvRegName) → sources_then_states (name ∷ names) ≡ true → is_source name ≡ true → sources_then_states names ≡ true
after_source (Source name) names ordered source = ordered
after_source (State number) names ordered source = absurd (false≢true source)

after_state : (name : SvRegName) (names : List SvRegName) → sources_then_states (name ∷ names) ≡ true → is_source name ≡ false → are_states_from 1 names ≡ true
after_state (Source name) names ordered state = absurd (false≢true (sym state))
after_state (State number) names ordered state = (and_parts (number == 0) (are_states_from 1 names) ordered).1

state_first : (first : ℕ) (name : SvRegName) (names : List SvRegName) → are_states_from first (name ∷ names) ≡ true
    → (is_source name ≡ false) × (are_states_from (first + 1) names ≡ true)
state_first first (Source name) names states = absurd (false≢true states)
state_first first (State number) names states = (refl, (and_parts (number == first) (are_states_from (first + 1) names) states).1)

states_only : (first : ℕ) (regs : List SvReg) → are_states_from first (map (λ reg. reg.name) regs) ≡ true → filter (λ reg. is_source reg.name) regs ≡ []
states_only first [] states = refl
states_only first (reg ∷ regs) states =
    let parts = state_first first reg.name (map (λ other. other.name) regs) states in
    rw parts.0 (states_only (first + 1) regs parts.1)

none_shown : (regs : List SvReg) (numbers : List ℕ) → map of_module (filter (λ reg. is_source reg.name) regs) ≡ [] → sources_of regs numbers ≡ []
none_shown [] numbers none = refl
none_shown (reg ∷ regs) [] none = refl
none_shown (reg ∷ regs) (number ∷ numbers) none = elim (cases_Bool (is_source reg.name)) [
  | inl source ↦
      let long = ap length (rw source at none) in
      absurd (omega (arith, long))
  | inr state ↦ rw state (none_shown regs numbers (rw state at none))
]

registers_from : (shown : ℕ → ℕ → ℕ) (n base : ℕ) (regs : List SvReg) (registers : List Register) (numbers : List ℕ)
    → sources_then_states (map (λ reg. reg.name) regs) ≡ true
    → map of_module (filter (λ reg. is_source reg.name) regs) ≡ map of_process registers → length numbers ≡ length regs
    → ((k : ℕ) → k < length registers → shown n (base + k) ≡ slice_index numbers k)
    → sources_of regs numbers ≡ registers_shown shown n base registers
registers_from shown n base regs [] numbers ordered same long shown_at = none_shown regs numbers same
registers_from shown n base [] (register ∷ registers) numbers ordered same long shown_at =
    let count = ap length same in
    absurd (omega (arith, count))
registers_from shown n base (reg ∷ regs) (register ∷ registers) [] ordered same long shown_at = absurd (omega (arith, long))
registers_from shown n base (reg ∷ regs) (register ∷ registers) (number ∷ numbers) ordered same long shown_at =
    elim (cases_Bool (is_source reg.name)) [
      | inl source ↦
          let sources : of_module reg ∷ map of_module (filter (λ other. is_source other.name) regs) ≡ of_process register ∷ map of_process registers = rw source at same in
          let first : of_module reg ≡ of_process register = ap (λ list. get_or list 0 (of_module reg)) sources in
          let rest : map of_module (filter (λ other. is_source other.name) regs) ≡ map of_process registers = ap (λ list. drop 1 list) sources in
          let width : reg.width ≡ register.width = ap (λ named. named.width) first in
          let here : base + 0 ≡ base = omega arith in
          let next : (k : ℕ) → (base + 1) + k ≡ base + suc k = λ k. omega arith in
          let shown_here : number ≡ shown n base = sym (shown_at 0 (omega arith)) ∙ ap (shown n) here in
          let more = registers_from shown n (base + 1) regs registers numbers (after_source reg.name (map (λ other. other.name) regs) ordered source) rest (omega (arith, long))
          (λ k less. ap (shown n) (next k) ∙ shown_at (suc k) (omega (arith, less))) in
          rw source (λ i. record { width = width i; value = shown_here i } ∷ more i)
      | inr state ↦
          let none = states_only 1 regs (after_state reg.name (map (λ other. other.name) regs) ordered state) in
          let count : 0 ≡ length (map of_process (register ∷ registers)) = ap (λ list. length (map of_module list)) (sym none) ∙ ap length (rw state at same) in
          absurd (omega (arith, count))
    ]

resets_long : (tree : Module) → length (reset_values tree) ≡ length tree.regs
resets_long tree = length-map tree.regs (λ reg. reg.reset.value)

registers_long : (tree : Module) → IsWellFormed tree → (inputs : Inputs) (n : ℕ) → length (registers_at tree inputs n) ≡ length tree.regs
unfolding registers_at
registers_long tree holds inputs zero = resets_long tree
registers_long tree holds inputs (suc n) = length-map tree.nexts (settled_value tree inputs n (registers_at tree inputs n)) ∙ next_count tree holds

pub sources_shown : (p : Process) (tree : Module) (inputs : Inputs) (n : ℕ) → HasPortsOf p tree → IsWellFormed tree
    → sources_of tree.regs (registers_at tree inputs n) ≡ registers_shown (shown_registers p tree inputs) n 0 p.registers
sources_shown p tree inputs n same holds =
    registers_from (shown_registers p tree inputs) n 0 tree.regs p.registers (registers_at tree inputs n) (points_of tree holds).order same.registers
    (registers_long tree holds inputs n) shown_at
  where
    shown_at : (k : ℕ) → k < length p.registers → shown_registers p tree inputs n (0 + k) ≡ slice_index (registers_at tree inputs n) k
    shown_at k less =
        let from_zero : 0 + k ≡ k = omega arith in
        let within : nat_lt k (length p.registers) ≡ true = grind (arith, nat_tests) in
        ap (shown_registers p tree inputs n) from_zero ∙ rw within refl
