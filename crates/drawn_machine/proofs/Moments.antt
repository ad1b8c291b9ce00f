-- The cycles of a finished module over an input list, and past its end.
--
-- A machine's equations are asked of all cycles. So what comes in past the list is taken as 0, which fits every port, and a moment is a
-- cycle of a list that is just long enough. Within the list it shows what the module shows over the list itself.
use Rattle.std.proofs.Common.{◌≡◌, ℕ, ◌+◌, ◌<◌, ◌≤◌, ◌^◌, inl, inr, true, false, map, refl, sym, subst, arith}
use Rattle.std.specs.Prelude.{nat_lt, if◌then◌else◌, slice_index}
use Rattle.std.proofs.lemmas.Bool.{cases_lt, lt-ltb, le-ltb}
use Rattle.std.proofs.lemmas.Nat.{pow_pos}
use Rattle.core_term.specs.Inputs.{Inputs}
use Rattle.sv_tree.specs.declared.tree.SvOperand.{SvOperand}
use Rattle.sv_tree.specs.Module.{Module}
use Rattle.sv_tree.specs.WellFormed.{IsWellFormed}
use Rattle.sv_tree.specs.Fitting.{InputsFit}
use Rattle.sv_tree.specs.Clocked.{registers_at, settled_value}
use Rattle.module_nets.specs.Shown.{Moment, IsMomentOf, operand_shown}
use Rattle.module_nets.proofs.Growing.{extends_self}
use Rattle.drawn_machine.proofs.SameInputs.{SameCycle, registers_same, settled_all}

-- what comes in, and 0 for the words past the list
abbrev pub word_within : Inputs → (port cycle : ℕ) → ℕ
word_within inputs port cycle = if nat_lt cycle inputs.count then inputs.data_at port cycle else 0

-- the first so many cycles of it
abbrev pub first_cycles : Inputs → ℕ → Inputs
first_cycles inputs count = record {
  count = count;
  valid = inputs.valid;
  data_at = word_within inputs;
  ack = inputs.ack;
}

abbrev pub moment : Module → Inputs → ℕ → Moment
moment tree inputs cycle = record { tree = tree; inputs = first_cycles inputs (cycle + 1); cycle = cycle }

word_inside : (inputs : Inputs) (port cycle : ℕ) → cycle < inputs.count → word_within inputs port cycle ≡ inputs.data_at port cycle
word_inside inputs port cycle inside = let less : nat_lt cycle inputs.count ≡ true = lt-ltb cycle inputs.count inside in rw less refl

word_fits : (inputs : Inputs) (port cycle width : ℕ) → (cycle < inputs.count → inputs.data_at port cycle < 2 ^ width) → word_within inputs port cycle < 2 ^ width
word_fits inputs port cycle width fits = elim (cases_lt cycle inputs.count) [
  | inl inside ↦ subst (λ word. word < 2 ^ width) (sym (word_inside inputs port cycle inside)) (fits inside)
  | inr past ↦ let none : nat_lt cycle inputs.count ≡ false = le-ltb cycle inputs.count past in rw none (pow_pos width)
]

module _ (tree : Module) (inputs : Inputs) where
  abbrev pub at : ℕ → Moment
  at = moment tree inputs

  pub is_moment : IsWellFormed tree → InputsFit tree inputs → (cycle : ℕ) → IsMomentOf tree (at cycle)
  is_moment well fit cycle = record {
    extends = extends_self tree;
    well_formed = well;
    fit = λ port before inside there. word_fits inputs port before (slice_index (map (λ p. p.width) tree.ports) port) (λ within. fit port before within there);
    within = omega arith;
  }

  -- two such lists say the same of each cycle
  both_same : (one other cycle : ℕ) → SameCycle (first_cycles inputs one) (first_cycles inputs other) cycle
  both_same one other cycle = record { word = λ port. refl; valid = λ port. refl; ack = λ port. refl }

  pub registers_on : (cycle count : ℕ) → registers_at tree (first_cycles inputs count) cycle ≡ registers_at tree (first_cycles inputs (cycle + 1)) cycle
  registers_on cycle count = registers_same tree (first_cycles inputs count) (first_cycles inputs (cycle + 1)) cycle (λ before less. both_same count (cycle + 1) before)

  pub settled_on : (cycle count : ℕ) (x : SvOperand)
      → settled_value tree (first_cycles inputs count) cycle (registers_at tree (first_cycles inputs count) cycle) x ≡ operand_shown (at cycle) x
  settled_on cycle count x = settled_all tree (first_cycles inputs count) (first_cycles inputs (cycle + 1)) cycle (λ before less. both_same count (cycle + 1) before) x

  inside_same : (count cycle : ℕ) → cycle < inputs.count → SameCycle inputs (first_cycles inputs count) cycle
  inside_same count cycle inside = record { word = λ port. sym (word_inside inputs port cycle inside); valid = λ port. refl; ack = λ port. refl }

  -- within the list a moment shows what the module shows over the list
  pub registers_within : (cycle : ℕ) → cycle ≤ inputs.count → registers_at tree inputs cycle ≡ registers_at tree (first_cycles inputs (cycle + 1)) cycle
  registers_within cycle within = registers_same tree inputs (first_cycles inputs (cycle + 1)) cycle (λ before less. inside_same (cycle + 1) before (omega (arith, less, within)))

  pub settled_within : (cycle : ℕ) → cycle < inputs.count → (x : SvOperand)
      → settled_value tree inputs cycle (registers_at tree inputs cycle) x ≡ operand_shown (at cycle) x
  settled_within cycle inside x = settled_all tree inputs (first_cycles inputs (cycle + 1)) cycle (λ before less. inside_same (cycle + 1) before (omega (arith, less, inside))) x

  pub word_of : (port cycle : ℕ) → cycle < inputs.count → word_within inputs port cycle ≡ inputs.data_at port cycle
  word_of port cycle inside = word_inside inputs port cycle inside
