-- Ports and source registers that were compared one by one, against the lists of the process.
--
-- The claim: the comparison is true exactly where the module has the ports and source registers of the process. The argument
-- goes along both lists; states are passed over, as they are left out of the source registers.
use Rattle.std.proofs.Common.{◌≡◌, ◌∙◌, ℕ, zero, suc, ◌<◌, ◌≤◌, Bool, true, false, ◌&&◌, List, [], ◌∷◌, inl, inr, length, map, drop, get_or, refl, ap, sym, arith}
use Rattle.std.specs.Prelude.{◌==◌, bytes_eq, filter}
use Rattle.std.proofs.Math.Seq.{drop-cons}
use Rattle.std.proofs.lemmas.Bool.{and_parts, cases_Bool, eqb-true, eqb-false, eq-eqb, false≢true}
use Rattle.std.proofs.lemmas.List.{at_drop_all}
use Rattle.std.proofs.lemmas.Slice.Eq.{bytes_eq-Decides}
use Rattle.core_term.specs.declared.process.CorePort.{CorePort}
use Rattle.core_term.specs.declared.process.CoreReg.{CoreReg}
use Rattle.core_term.specs.ProcessView.{port_of, register_of}
use Rattle.sv_tree.specs.declared.tree.SvPort.{SvPort}
use Rattle.sv_tree.specs.declared.tree.SvReg.{SvReg}
use Rattle.sv_tree.specs.declared.tree.SvRegName.{SvRegName}
use Rattle.sv_tree.specs.declared.tree.SvRegName.TheVariants.{Source, State}
use Rattle.sv_tree.specs.Sources.{is_source}
use Rattle.module_log.specs.SamePorts.{module_port, of_module, of_process, Named}
use Rattle.module_log.specs.Compared.{is_same_side, is_same_port, are_same_ports, is_named, is_same_register, are_same_registers}

bytes_same : (one other : List ℕ) → bytes_eq one other ≡ true → one ≡ other
bytes_same one other = (bytes_eq-Decides one other).0

same_bytes : (one other : List ℕ) → one ≡ other → bytes_eq one other ≡ true
same_bytes one other = (bytes_eq-Decides one other).1

both : (one other : Bool) → one ≡ true → other ≡ true → (one && other) ≡ true
both one other first second = rw first second

-- Ports.

side_same : (received other : Bool) → is_same_side received other ≡ true → received ≡ other
side_same true true e = refl
side_same true false e = absurd (false≢true e)
side_same false true e = absurd (false≢true e)
side_same false false e = refl

same_side : (received : Bool) → is_same_side received received ≡ true
same_side true = refl
same_side false = refl

port_same : (port : CorePort) (other : SvPort) → is_same_port port other ≡ true → other ≡ module_port (port_of port)
port_same port other e =
    let first = and_parts _ _ e in
    let second = and_parts _ _ first.1 in
    let third = and_parts _ _ second.1 in
    let endpoint : other.endpoint ≡ port.endpoint = sym (bytes_same port.endpoint other.endpoint first.0) in
    let message : other.message ≡ port.message = sym (bytes_same port.message other.message second.0) in
    let received : other.received ≡ port.received = sym (side_same port.received other.received third.0) in
    let width : other.width ≡ port.width = sym (eqb-true port.width other.width third.1) in
    λ i. record { endpoint = endpoint i; message = message i; received = received i; width = width i }

same_port : (port : CorePort) → is_same_port port (module_port (port_of port)) ≡ true
same_port port =
    both _ _ (same_bytes port.endpoint port.endpoint refl)
    (both _ _ (same_bytes port.message port.message refl) (both _ _ (same_side port.received) (eq-eqb port.width port.width refl)))

pub ports_same : (ports : List CorePort) (others : List SvPort) → are_same_ports ports others ≡ true → others ≡ map module_port (map port_of ports)
ports_same [] [] e = refl
ports_same [] (other ∷ others) e = absurd (false≢true e)
ports_same (port ∷ ports) [] e = absurd (false≢true e)
ports_same (port ∷ ports) (other ∷ others) e =
    let parts = and_parts (is_same_port port other) _ e in
    let first = port_same port other parts.0 in
    let rest = ports_same ports others parts.1 in
    λ i. first i ∷ rest i

pub same_ports : (ports : List CorePort) → are_same_ports ports (map module_port (map port_of ports)) ≡ true
same_ports [] = refl
same_ports (port ∷ ports) = both _ _ (same_port port) (same_ports ports)

-- lists of two lengths
pub ports_long : (ports : List CorePort) (others : List SvPort) → are_same_ports ports others ≡ true → length ports ≡ length others
ports_long [] [] e = refl
ports_long [] (other ∷ others) e = absurd (false≢true e)
ports_long (port ∷ ports) [] e = absurd (false≢true e)
ports_long (port ∷ ports) (other ∷ others) e = ap suc (ports_long ports others (and_parts (is_same_port port other) _ e).1)

-- one port more
pub ports_more : (ports : List CorePort) (others : List SvPort) (index : ℕ) (port : CorePort) (other : SvPort)
    → index < length ports → index < length others
    → are_same_ports (drop index ports) (drop index others)
    ≡ (is_same_port (get_or ports index port) (get_or others index other) && are_same_ports (drop (suc index) ports) (drop (suc index) others))
ports_more ports others index port other inside within = rw (drop-cons ports index port inside, drop-cons others index other within) refl

-- Registers.

named_same : (name : List ℕ) (other : SvRegName) → is_named name other ≡ true → other ≡ Source name
named_same name (Source other) e = ap Source (sym (bytes_same name other e))
named_same name (State number) e = absurd (false≢true e)

register_same : (reg : CoreReg) (other : SvReg) → is_same_register reg other ≡ true → of_module other ≡ of_process (register_of reg)
register_same reg other e =
    let parts = and_parts (is_named reg.name other.name) _ e in
    let name = named_same reg.name other.name parts.0 in
    let width : other.width ≡ reg.width = sym (eqb-true reg.width other.width parts.1) in
    λ i. record { name = name i; width = width i }

same_register : (reg : CoreReg) (other : SvReg) → of_module other ≡ of_process (register_of reg) → is_same_register reg other ≡ true
same_register reg other is =
    let name : other.name ≡ Source reg.name = ap (λ named. named.name) is in
    let width : other.width ≡ reg.width = ap (λ named. named.width) is in
    both _ _ (rw name (same_bytes reg.name reg.name refl)) (eq-eqb reg.width other.width (sym width))

abbrev pub sources : List SvReg → List Named
sources others = map of_module (filter (λ reg. is_source reg.name) others)

abbrev pub registers : List CoreReg → List Named
registers regs = map of_process (map register_of regs)

pub registers_same : (regs : List CoreReg) (others : List SvReg) → are_same_registers regs others ≡ true → sources others ≡ registers regs
registers_same [] [] e = refl
registers_same (reg ∷ regs) [] e = absurd (false≢true e)
registers_same [] (other ∷ others) e = elim (cases_Bool (is_source other.name)) [
  | inl source ↦ absurd (false≢true (rw source at e))
  | inr state ↦ rw state (registers_same [] others (rw state at e))
]
registers_same (reg ∷ regs) (other ∷ others) e = elim (cases_Bool (is_source other.name)) [
  | inl source ↦
      let parts = and_parts (is_same_register reg other) _ (rw source at e) in
      let first = register_same reg other parts.0 in
      let rest = registers_same regs others parts.1 in
      rw source (λ i. first i ∷ rest i)
  | inr state ↦ rw state (registers_same (reg ∷ regs) others (rw state at e))
]

pub same_registers : (regs : List CoreReg) (others : List SvReg) → sources others ≡ registers regs → are_same_registers regs others ≡ true
same_registers [] [] is = refl
same_registers (reg ∷ regs) [] is =
    let long = ap length is in
    absurd (omega (arith, long))
same_registers [] (other ∷ others) is = elim (cases_Bool (is_source other.name)) [
  | inl source ↦
      let long = ap length (rw source at is) in
      absurd (omega (arith, long))
  | inr state ↦ rw state (same_registers [] others (rw state at is))
]
same_registers (reg ∷ regs) (other ∷ others) is = elim (cases_Bool (is_source other.name)) [
  | inl source ↦
      let here = rw source at is in
      let first : of_module other ≡ of_process (register_of reg) = ap (λ list. get_or list 0 (of_module other)) here in
      let rest : sources others ≡ registers regs = ap (λ list. drop 1 list) here in
      rw source (both _ _ (same_register reg other first) (same_registers regs others rest))
  | inr state ↦ rw state (same_registers (reg ∷ regs) others (rw state at is))
]

-- one register of the module more
pub registers_more : (regs : List CoreReg) (others : List SvReg) (found place : ℕ) (other : SvReg) → place < length others
    → are_same_registers (drop found regs) (drop place others) ≡ are_same_registers (drop found regs) (get_or others place other ∷ drop (suc place) others)
registers_more regs others found place other within = rw (drop-cons others place other within) refl

pub state_passed : (regs : List CoreReg) (other : SvReg) (others : List SvReg) → is_source other.name ≡ false
    → are_same_registers regs (other ∷ others) ≡ are_same_registers regs others
state_passed [] other others state = rw state refl
state_passed (reg ∷ regs) other others state = rw state refl

-- behind the last register of the module
some_left : (regs : List CoreReg) (found : ℕ) → found < length regs → are_same_registers (drop found regs) [] ≡ false
some_left [] found less = absurd (omega arith)
some_left (reg ∷ regs) zero less = refl
some_left (reg ∷ regs) (suc found) less = some_left regs found (omega arith)

pub at_end : (regs : List CoreReg) (found : ℕ) → found ≤ length regs → are_same_registers (drop found regs) [] ≡ (found == length regs)
at_end regs found within = elim (cases_Bool (found == length regs)) [
  | inl all ↦
      let same = eqb-true found (length regs) all in
      at_drop_all (λ left. are_same_registers left []) regs found (omega (arith, same)) ∙ sym all
  | inr some ↦
      let other = eqb-false found (length regs) some in
      some_left regs found (omega (arith, within, other)) ∙ sym some
]

-- ports of two lengths
pub lengths_differ : (ports : List CorePort) (others : List SvPort) → (length ports ≡ length others → ⊥) → false ≡ are_same_ports ports others
lengths_differ ports others differ = elim (cases_Bool (are_same_ports ports others)) [
  | inl same ↦ absurd (differ (ports_long ports others same))
  | inr other ↦ sym other
]
