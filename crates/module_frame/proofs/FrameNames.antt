-- The ports and registers of a frame are those of a well-formed module.
--
-- What the source keeps of its names, widths and resets is told by tests over its lists (`is_sized`) and by the types of its
-- ports and registers; states have numbers for names, in order, and are reset to 0. Each test goes over the registers of the
-- source first and then over the states.
use Rattle.std.proofs.Common.{◌≡◌, ℕ, ◌+◌, ◌^◌, ◌<◌, ◌==◌, ◌&&◌, ◌||◌, not, arith, refl, ◌∙◌, ap, Bool, true, false, List, [], ◌∷◌, ◌++◌, length, map, nat_lt, nat_le}
use Rattle.std.specs.List.{list_all, list_any}
use Rattle.std.proofs.lemmas.Bool.{eq-eqb, lt-ltb}
use Rattle.std.proofs.lemmas.Bool.Decides.{nat_tests}
use Rattle.std.proofs.lemmas.Nat.{pow_pos}
use Rattle.core_term.specs.declared.process.CorePort.{CorePort}
use Rattle.core_term.specs.declared.process.CoreReg.{CoreReg}
use Rattle.core_term.specs.ProcessView as view
use Rattle.core_term.specs.Sized as sized
use Rattle.core_term.specs.Sized.{port_fits, register_fits}
use Rattle.core_term.specs.Names.{has_no_twice}
use Rattle.sv_tree.specs.declared.tree.SvReg.{SvReg}
use Rattle.sv_tree.specs.declared.tree.SvRegName.{SvRegName}
use Rattle.sv_tree.specs.declared.tree.SvRegName.TheVariants.{Source, State}
use Rattle.sv_tree.specs.Limits.{longest_name}
use Rattle.sv_tree.specs.WellFormed.{is_port_name, is_register_name, is_same_port, is_same_register, is_width, reset_fits, are_states_from, sources_then_states}
use Rattle.sv_tree.specs.GoodName.{is_good_name}
use Rattle.machine_parts.specs.Frames.{port_of, source_of}
use Rattle.module_frame.specs.Slots.{Slot, states_from}
use Rattle.module_frame.specs.Drafts.{is_kept_port, is_kept_register}

pub both : (first second : Bool) → (first && second) ≡ true → (first ≡ true) × (second ≡ true)
both true second passes = (refl, passes)
both false second passes = absurd cc

pub pass : {first second : Bool} → first ≡ true → second ≡ true → (first && second) ≡ true
pass passes also = rw (passes, also) refl

-- a test of all items is of the first and of the rest
parts : {Item : Type 0} (test : Item → Bool) (item : Item) (rest : List Item) → list_all test (item ∷ rest) ≡ true → (test item ≡ true) × (list_all test rest ≡ true)
parts test item rest passes = both (test item) (list_all test rest) passes

-- Ports.

port_good : (port : CorePort) → port_fits (view.port_of port) ≡ true → is_kept_port port ≡ true → (is_width port.width ≡ true) × (is_port_name (port_of port) ≡ true)
port_good port fit kept =
    let fits = both (is_width port.width) (is_good_name port.endpoint && is_good_name port.message) fit in
    let good = both (is_good_name port.endpoint) (is_good_name port.message) fits.1 in
    let short = both (nat_le (length port.endpoint) longest_name) (nat_le (length port.message) longest_name) kept in
    (fits.0, pass (pass good.0 short.0) (pass good.1 short.1))

pub ports_named : (ports : List CorePort) → list_all port_fits (map view.port_of ports) ≡ true → list_all is_kept_port ports ≡ true
    → list_all is_port_name (map port_of ports) ≡ true
ports_named [] fit kept = refl
ports_named (port ∷ rest) fit kept =
    let fits = parts port_fits (view.port_of port) (map view.port_of rest) fit in
    let keeps = parts is_kept_port port rest kept in
    pass (port_good port fits.0 keeps.0).1 (ports_named rest fits.1 keeps.1)

pub port_widths : (ports : List CorePort) → list_all port_fits (map view.port_of ports) ≡ true → list_all (λ port. is_width port.width) (map port_of ports) ≡ true
port_widths [] fit = refl
port_widths (port ∷ rest) fit =
    let fits = parts port_fits (view.port_of port) (map view.port_of rest) fit in
    pass (both (is_width port.width) (is_good_name port.endpoint && is_good_name port.message) fits.0).0 (port_widths rest fits.1)

same_port_found : (port : CorePort) (ports : List CorePort) → list_any (is_same_port (port_of port)) (map port_of ports) ≡ list_any (sized.is_same_port (view.port_of port)) (map view.port_of ports)
same_port_found port [] = refl
same_port_found port (other ∷ rest) = ap (λ found. is_same_port (port_of port) (port_of other) || found) (same_port_found port rest)

pub ports_differ : (ports : List CorePort) → has_no_twice sized.is_same_port (map view.port_of ports) ≡ true → has_no_twice is_same_port (map port_of ports) ≡ true
ports_differ [] differ = refl
ports_differ (port ∷ rest) differ =
    let split = both (not (list_any (sized.is_same_port (view.port_of port)) (map view.port_of rest))) (has_no_twice sized.is_same_port (map view.port_of rest)) differ in
    pass (ap not (same_port_found port rest) ∙ split.0) (ports_differ rest split.1)

-- A register of the source, and a state.

pub source_good : (register : CoreReg) → register_fits register ≡ true → is_kept_register register ≡ true
    → (is_register_name (source_of register).name ≡ true) × (is_width register.width ≡ true) × (reset_fits (source_of register) ≡ true)
source_good register fit kept =
    let fits = both (is_width register.width) ((register.reset.width == register.width) && is_good_name register.name) fit in
    let rest = both (register.reset.width == register.width) (is_good_name register.name) fits.1 in
    let keeps = both (nat_le (length register.name) longest_name) (nat_lt register.reset.value (2 ^ register.reset.width)) kept in
    let same_width : register.reset.width ≡ register.width = (let test = rest.0 in grind (arith, nat_tests)) in
    let wide : is_width register.reset.width ≡ true = ap is_width same_width ∙ fits.0 in
    (pass rest.1 keeps.0, fits.0, pass (pass wide keeps.1) rest.0)

state_reset : (number : ℕ) (slot : Slot) → is_width slot.width ≡ true
    → reset_fits record { name = State number; width = slot.width; reset = record { width = slot.width; value = 0 } } ≡ true
state_reset number slot wide = pass (pass wide (lt-ltb 0 (2 ^ slot.width) (pow_pos slot.width))) (eq-eqb slot.width slot.width refl)

-- Registers: those of the source, and then states from a number on.

pub registers_named : (registers : List CoreReg) (slots : List Slot) (number : ℕ) → list_all register_fits registers ≡ true → list_all is_kept_register registers ≡ true
    → list_all (λ reg. is_register_name reg.name) (map source_of registers ++ states_from number slots) ≡ true
registers_named [] [] number fit kept = refl
registers_named [] (slot ∷ rest) number fit kept = registers_named [] rest (number + 1) fit kept
registers_named (register ∷ rest) slots number fit kept =
    let fits = parts register_fits register rest fit in
    let keeps = parts is_kept_register register rest kept in
    pass (source_good register fits.0 keeps.0).0 (registers_named rest slots number fits.1 keeps.1)

pub register_widths : (registers : List CoreReg) (slots : List Slot) (number : ℕ) → list_all register_fits registers ≡ true → list_all (λ slot. is_width slot.width) slots ≡ true
    → list_all (λ reg. is_width reg.width) (map source_of registers ++ states_from number slots) ≡ true
register_widths [] [] number fit wide = refl
register_widths [] (slot ∷ rest) number fit wide = let widths = parts (λ slot. is_width slot.width) slot rest wide in pass widths.0 (register_widths [] rest (number + 1) fit widths.1)
register_widths (register ∷ rest) slots number fit wide = let fits = parts register_fits register rest fit in
    pass (both (is_width register.width) ((register.reset.width == register.width) && is_good_name register.name) fits.0).0 (register_widths rest slots number fits.1 wide)

pub resets_fit : (registers : List CoreReg) (slots : List Slot) (number : ℕ) → list_all register_fits registers ≡ true → list_all is_kept_register registers ≡ true
    → list_all (λ slot. is_width slot.width) slots ≡ true → list_all reset_fits (map source_of registers ++ states_from number slots) ≡ true
resets_fit [] [] number fit kept wide = refl
resets_fit [] (slot ∷ rest) number fit kept wide =
    let widths = parts (λ slot. is_width slot.width) slot rest wide in pass (state_reset number slot widths.0) (resets_fit [] rest (number + 1) fit kept widths.1)
resets_fit (register ∷ rest) slots number fit kept wide =
    let fits = parts register_fits register rest fit in
    let keeps = parts is_kept_register register rest kept in
    pass (source_good register fits.0 keeps.0).2 (resets_fit rest slots number fits.1 keeps.1 wide)

-- No name stands twice.

abbrev names : List SvReg → List SvRegName
names regs = map (λ reg. reg.name) regs

no_earlier_state : (number first : ℕ) (slots : List Slot) → number < first → list_any (is_same_register (State number)) (names (states_from first slots)) ≡ false
no_earlier_state number first [] below = refl
no_earlier_state number first (slot ∷ rest) below =
    let differ : (number == first) ≡ false = grind (arith, nat_tests) in
    rw differ (no_earlier_state number (first + 1) rest (omega (arith, below)))

states_differ : (number : ℕ) (slots : List Slot) → has_no_twice is_same_register (names (states_from number slots)) ≡ true
states_differ number [] = refl
states_differ number (slot ∷ rest) = pass (ap not (no_earlier_state number (number + 1) rest (omega arith))) (states_differ (number + 1) rest)

no_source_state : (name : List ℕ) (number : ℕ) (slots : List Slot) → list_any (is_same_register (Source name)) (names (states_from number slots)) ≡ false
no_source_state name number [] = refl
no_source_state name number (slot ∷ rest) = no_source_state name (number + 1) rest

same_register_found : (register : CoreReg) (registers : List CoreReg) (slots : List Slot) (number : ℕ)
    → list_any (is_same_register (Source register.name)) (names (map source_of registers ++ states_from number slots)) ≡ list_any (sized.is_same_register register) registers
same_register_found register [] slots number = no_source_state register.name number slots
same_register_found register (other ∷ rest) slots number =
    ap (λ found. sized.is_same_register register other || found) (same_register_found register rest slots number)

pub registers_differ : (registers : List CoreReg) (slots : List Slot) (number : ℕ) → has_no_twice sized.is_same_register registers ≡ true
    → has_no_twice is_same_register (names (map source_of registers ++ states_from number slots)) ≡ true
registers_differ [] slots number differ = states_differ number slots
registers_differ (register ∷ rest) slots number differ =
    let split = both (not (list_any (sized.is_same_register register) rest)) (has_no_twice sized.is_same_register rest) differ in
    pass (ap not (same_register_found register rest slots number) ∙ split.0) (registers_differ rest slots number split.1)

-- States come after the registers of the source, in order.

in_order : (number : ℕ) (slots : List Slot) → are_states_from number (names (states_from number slots)) ≡ true
in_order number [] = refl
in_order number (slot ∷ rest) = pass (eq-eqb number number refl) (in_order (number + 1) rest)

pub sources_first : (registers : List CoreReg) (slots : List Slot) → sources_then_states (names (map source_of registers ++ states_from 0 slots)) ≡ true
sources_first [] [] = refl
sources_first [] (slot ∷ rest) = in_order 0 (slot ∷ rest)
sources_first (register ∷ rest) slots = sources_first rest slots
