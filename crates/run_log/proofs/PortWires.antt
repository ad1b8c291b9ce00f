-- Wires of a run, and those of its ports alone.
--
-- The claim: what the two tell of exchanges, promises and log lines is the same. The argument: what comes in on a port that a
-- process does not have is no `ack`, so there is no exchange on it, whatever is driven there; and promises and lines are those
-- of ports that it has.
use Rattle.std.proofs.Common.{◌≡◌, ◌∙◌, ◌⊎◌, inl, inr, ℕ, zero, suc, ◌+◌, ◌<◌, ◌≤◌, Bool, true, false, ◌&&◌, ◌||◌, nat_lt, List, [], ◌∷◌, ◌++◌, length, Option, Some, None, refl, ap, sym, arith}
use Rattle.std.specs.Prelude.{codes}
use Rattle.std.proofs.lemmas.Bool.Decides.{nat_tests}
use Rattle.std.proofs.lemmas.Bool.{false≢true}
use Rattle.core_term.specs.declared.rows.InCell.{InCell}
use Rattle.core_term.specs.declared.rows.Row.{Row}
use Rattle.core_term.specs.Breach.{PromisesKept, IsFirstBreach}
use Rattle.core_term.specs.LogText.{exchanged, lives, is_shown, bit_text, data_text, port_text, port_texts, register_texts, spaced, log_line}
use Rattle.core_term.specs.Outputs.{alive, latest}
use Rattle.core_term.specs.Process.{LifeEnd, Cycles, Until, Port, Process, nth_port, life_of}
use Rattle.core_term.specs.Rows.{nth_cell, nth_row, ack_in, cell_fits, cells_fit}
use Rattle.core_term.specs.Wires.{Wires, Exchange, WithinAll, IsKept}
use Rattle.run_laws.proofs.source_runs.Offers.{and_second}
use Rattle.run_log.specs.OnRows.{IsOnRows}
use Rattle.run_log.specs.Ports.{port_wires}
use Rattle.run_log.specs.Shown.{Shown}

-- a port that the process does not have
past_cell : (ports : List Port) (cells : List InCell) (j : ℕ) → cells_fit ports cells ≡ true → length ports ≤ j → (nth_cell cells j ≡ None) × ((nth_port ports j).received ≡ false)
past_cell [] [] j fits past = (refl, refl)
past_cell [] (cell ∷ cells) j fits past = absurd cc
past_cell (port ∷ ports) [] j fits past = absurd cc
past_cell (port ∷ ports) (cell ∷ cells) zero fits past = absurd (omega arith)
past_cell (port ∷ ports) (cell ∷ cells) (suc j) fits past = past_cell ports cells j (and_second (cell_fits port cell) _ fits) (omega arith)

pub received_within : (ports : List Port) (m : ℕ) → (nth_port ports m).received ≡ true → m < length ports
received_within [] m received = absurd (false≢true received)
received_within (port ∷ ports) zero received = omega arith
received_within (port ∷ ports) (suc m) received = let rest = received_within ports m received in omega (arith, rest)

and_false : (b : Bool) → (b && false) ≡ false
and_false true = refl
and_false false = refl

module _ (p : Process) (rows : List Row) (shown : Shown) (on_rows : IsOnRows p rows shown)
    (fit : (t : ℕ) → t < length rows → cells_fit p.ports (nth_row rows t) ≡ true) where
  abbrev full : Wires
  full = shown.wires

  abbrev own : Wires
  own = port_wires p shown.wires

  -- no exchange past the ports
  no_ack : (m t : ℕ) → t < full.count → length p.ports ≤ m → full.ack m t ≡ false
  no_ack m t less past =
      let count = on_rows.count in
      let none = past_cell p.ports (nth_row rows t) m (fit t (omega (arith, less, count))) past in
      on_rows.ack m t none.1 ∙ ap ack_in none.0

  past_or_within : (m : ℕ) → (nat_lt m (length p.ports) ≡ true) ⊎ (nat_lt m (length p.ports) ≡ false)
  past_or_within m = by_case (nat_lt m (length p.ports)) refl
    where
      by_case : (b : Bool) → nat_lt m (length p.ports) ≡ b → (nat_lt m (length p.ports) ≡ true) ⊎ (nat_lt m (length p.ports) ≡ false)
      by_case true is = inl is
      by_case false is = inr is

  within_test : (m : ℕ) → m < length p.ports → nat_lt m (length p.ports) ≡ true
  within_test m less = grind (arith, nat_tests)

  same_exchange : (m t : ℕ) → exchanged own m t ≡ exchanged full m t
  same_exchange m t = by_cycle (nat_lt t full.count) refl
    where
      inside : t < full.count → (own.valid m t && own.ack m t) ≡ (full.valid m t && full.ack m t)
      inside less = elim (past_or_within m) [
        | inl within ↦ rw within refl
        | inr past ↦
            let none : full.ack m t ≡ false = no_ack m t less (grind (arith, nat_tests)) in
            rw past (sym (ap (λ (b : Bool). full.valid m t && b) none ∙ and_false (full.valid m t)))
      ]

      by_cycle : (b : Bool) → nat_lt t full.count ≡ b → (b && (own.valid m t && own.ack m t)) ≡ (b && (full.valid m t && full.ack m t))
      by_cycle true is = inside (grind (arith, nat_tests))
      by_cycle false is = refl

  same_exchanges : exchanged own ≡ exchanged full
  same_exchanges = λ i m t. same_exchange m t i

  to_own : (m s : ℕ) → Exchange full m s → Exchange own m s
  to_own m s (less, valid, ack) = elim (past_or_within m) [
    | inl within ↦ (less, rw within valid, ack)
    | inr past ↦ absurd (false≢true (sym (no_ack m s less (grind (arith, nat_tests))) ∙ ack))
  ]

  to_full : (m s : ℕ) → Exchange own m s → Exchange full m s
  to_full m s (less, valid, ack) = (less, and_second (nat_lt m (length p.ports)) (full.valid m s) valid, ack)

  -- lives
  within_own : (start cycle : ℕ) (life : List LifeEnd) → WithinAll full start cycle life → WithinAll own start cycle life
  within_own start cycle [] all = tt
  within_own start cycle (Cycles k ∷ more) (one, all) = (one, within_own start cycle more all)
  within_own start cycle (Until m ∷ more) (one, all) = (λ c from to met. one c from to (to_full m c met), within_own start cycle more all)

  within_full : (start cycle : ℕ) (life : List LifeEnd) → WithinAll own start cycle life → WithinAll full start cycle life
  within_full start cycle [] all = tt
  within_full start cycle (Cycles k ∷ more) (one, all) = (one, within_full start cycle more all)
  within_full start cycle (Until m ∷ more) (one, all) = (λ c from to met. one c from to (to_own m c met), within_full start cycle more all)

  -- promises
  same_data : (m t : ℕ) → m < length p.ports → own.data_at m t ≡ full.data_at m t
  same_data m t less = rw (within_test m less) refl

  kept_full : (life : List LifeEnd) (m last : ℕ) → m < length p.ports → IsKept own life m last → IsKept full life m last
  kept_full life m last less kept = λ start cycle met to in_life.
      sym (same_data m cycle less) ∙ (kept start cycle (to_own m start met) to (in_life.0, within_own start cycle life in_life.1) ∙ same_data m start less)

  kept_own : (life : List LifeEnd) (m last : ℕ) → m < length p.ports → IsKept full life m last → IsKept own life m last
  kept_own life m last less kept = λ start cycle met to in_life.
      same_data m cycle less ∙ (kept start cycle (to_full m start met) to (in_life.0, within_full start cycle life in_life.1) ∙ sym (same_data m start less))

  pub promises_full : (t : ℕ) → PromisesKept p own t → PromisesKept p full t
  promises_full t kept = λ m received. kept_full (life_of p m) m t (received_within p.ports m received) (kept m received)

  pub breach_full : (cycle port : ℕ) → IsFirstBreach p own cycle port → IsFirstBreach p full cycle port
  breach_full cycle port first = record {
    within = first.within;
    before = λ t less. promises_full t (first.before t less);
    received = first.received;
    broken = λ kept. first.broken (kept_own (life_of p port) port cycle (received_within p.ports port first.received) kept);
    first = λ m less received. kept_full (life_of p m) m cycle (received_within p.ports m received) (first.first m less received);
  }

  -- lines
  same_lives : (life : List LifeEnd) (t : ℕ) (o : Option ℕ) → lives own life t o ≡ lives full life t o
  same_lives life t None = refl
  same_lives life t (Some u) = ap (λ (met : ℕ → ℕ → Bool). alive met life u t) same_exchanges

  same_valid : (m t : ℕ) → m < length p.ports → own.valid m t ≡ full.valid m t
  same_valid m t less = rw (within_test m less) refl

  same_shown : (life : List LifeEnd) (m t : ℕ) → m < length p.ports → is_shown own life m t ≡ is_shown full life m t
  same_shown life m t less =
      ap (λ (b : Bool). b || lives own life t (latest (exchanged own m) t)) (same_valid m t less)
      ∙ ap (λ (b : Bool). full.valid m t || b)
      (same_lives life t (latest (exchanged own m) t) ∙ ap (λ (met : ℕ → ℕ → Bool). lives full life t (latest (met m) t)) same_exchanges)

  abbrev text_by : Port → (valid ack shown : Bool) → ℕ → List ℕ
  text_by port valid ack shown number =
      port.endpoint ++ (codes "." ++ (port.message ++ (codes "=v" ++ (bit_text valid ++ (codes "a" ++ (bit_text ack ++ (codes "d" ++ data_text port.received shown number)))))))

  same_text : (m t : ℕ) (port : Port) → m < length p.ports → port_text own t m port ≡ port_text full t m port
  same_text m t port less = λ i. text_by port (same_valid m t less i) (full.ack m t) (same_shown port.life m t less i) (same_data m t less i)

  same_texts : (m t : ℕ) (ports : List Port) → m + length ports ≡ length p.ports → port_texts own t m ports ≡ port_texts full t m ports
  same_texts m t [] long = refl
  same_texts m t (port ∷ ports) long = cc (same_text m t port (omega (arith, long)), same_texts (m + 1) t ports (omega (arith, long)))

  pub same_line : (registers : ℕ → ℕ → ℕ) (t : ℕ) → log_line p own registers t ≡ log_line p full registers t
  same_line registers t = ap (λ texts. spaced (texts ++ register_texts registers t 0 p.registers) ++ codes "\n") (same_texts 0 t p.ports (omega arith))
