-- A simulation at its start: what is kept of each thread goes with its body, and it stands after no rows.
use Rattle.std.proofs.Common.{◌≡◌, ℕ, ◌+◌, ◌<◌, ◌≤◌, arith, refl, sym, ◌∙◌, ap, subst, List, [], ◌∷◌, length, map, Bool, true, false, ◌&&◌, if◌then◌else◌, ◌==◌, nat_lt, nat_le, IsTrue, zero, suc}
use Rattle.std.specs.Prelude.{All, slice_index_or}
use Rattle.std.specs.List.{list_all, slice_get}
use Rattle.std.proofs.lemmas.Bool.Decides.{nat_tests}
use Rattle.std.proofs.lemmas.List.Elements.{All-head, All-tail}
use Rattle.anvil_bits.specs.Number.{Number}
use Rattle.core_term.specs.declared.process.CorePort.{CorePort}
use Rattle.core_term.specs.declared.process.CoreReg.{CoreReg}
use Rattle.core_term.specs.declared.term.CoreTerm.{CoreTerm}
use Rattle.core_term.specs.History.{history}
use Rattle.core_term.specs.Names.{is_good_name, has_no_twice}
use Rattle.core_term.specs.Numbering.{size, Numbered}
use Rattle.core_term.specs.Process.{Port, Register, Thread, Process, IsThread, IsProcess, nth_port, nth_register, resets, resets_of}
use Rattle.core_term.specs.ProcessView.{port_of, register_of, widths_of, thread_of, process_of}
use Rattle.core_term.specs.Rows.{inputs_of}
use Rattle.core_term.specs.Sized.{is_sized, is_width, port_fits, register_fits, is_same_port, is_same_register, lives_fit, process_fits, term_fits, words_fit}
use Rattle.core_term.specs.View.{term_of}
use Rattle.core_term.specs.Widths.{Widths}
use Rattle.run_laws.proofs.source_runs.Offers.{and_first, and_second}
use Rattle.exchanges.specs.declared.latest.Latest.{Latest}
use Rattle.sim_laws.specs.declared.act_state.ActState.{ActState}
use Rattle.sim_laws.specs.Advance.{state_at, zero_bit}
use Rattle.sim_laws.specs.Kept.{Kept, widths_by, IsReady, AllReady, SameBodies}
use Rattle.sim_laws.specs.SiteWidths.{site_widths}
use Rattle.sim_laws.specs.Stands.{State, AreLong, StandsAfter, number_at, latest_at}
use Rattle.sim_laws.specs.Typed.{kept_width, AreWide, AreRegisters, term_in, Typed}
use Rattle.sim_laws.specs.WidthsFound.{register_width, port_width, Found, walk, start_width, start_state, start_of, start_number, start_latest}
use Rattle.sim_laws.proofs.Bridge.{widths_long}
use Rattle.sim_laws.proofs.Counts.{map_count}
use Rattle.sim_laws.proofs.RowsTaken.{new_told}
use Rattle.sim_laws.proofs.Sized.{body_typed}
use Rattle.sim_laws.proofs.Walked.{Narrow, Sees, Walked, walked}

-- Ports and registers of the code.

register_seen : (regs : List CoreReg) (r : ℕ) → register_width (slice_get regs r) ≡ (nth_register (map register_of regs) r).width
register_seen [] r = refl
register_seen (register ∷ regs) zero = refl
register_seen (register ∷ regs) (suc r) = register_seen regs r

port_seen : (ports : List CorePort) (m : ℕ) → port_width (slice_get ports m) ≡ (nth_port (map port_of ports) m).width
port_seen [] m = refl
port_seen (port ∷ ports) zero = refl
port_seen (port ∷ ports) (suc m) = port_seen ports m

width_few : (w : ℕ) → is_width w ≡ true → (1 ≤ w) × (w ≤ 64)
width_few w fits = let low = and_first (nat_le 1 w) _ fits in let high = and_second (nat_le 1 w) _ fits in (grind (arith, nat_tests), grind (arith, nat_tests))

port_few : (ports : List CorePort) (m : ℕ) → list_all port_fits (map port_of ports) ≡ true → m < length ports → (1 ≤ (nth_port (map port_of ports) m).width) × ((nth_port (map port_of ports) m).width ≤ 64)
port_few [] m fits within = absurd (omega arith)
port_few (port ∷ ports) zero fits within = width_few port.width (and_first (is_width port.width) _ (and_first (port_fits (port_of port)) _ fits))
port_few (port ∷ ports) (suc m) fits within = port_few ports m (and_second (port_fits (port_of port)) _ fits) (omega arith)

register_few : (regs : List CoreReg) (r : ℕ) → list_all register_fits regs ≡ true → r < length regs → (1 ≤ (nth_register (map register_of regs) r).width) × ((nth_register (map register_of regs) r).width ≤ 64)
register_few [] r fits within = absurd (omega arith)
register_few (register ∷ regs) zero fits within = width_few register.width (and_first (is_width register.width) _ (and_first (register_fits register) _ fits))
register_few (register ∷ regs) (suc r) fits within = register_few regs r (and_second (register_fits register) _ fits) (omega arith)

-- Registers and latest exchanges at the start.

register_wide : (regs : List CoreReg) (r : ℕ) → list_all register_fits regs ≡ true → r < length regs → (slice_index_or (map start_number regs) r zero_bit).width ≡ (nth_register (map register_of regs) r).width
register_wide [] r fits within = absurd (omega arith)
register_wide (register ∷ regs) zero fits within =
    let test = and_first (register.reset.width == register.width) _ (and_second (is_width register.width) _ (and_first (register_fits register) _ fits)) in
    grind (arith, nat_tests)
register_wide (register ∷ regs) (suc r) fits within = register_wide regs r (and_second (register_fits register) _ fits) (omega arith)

register_is : (regs : List CoreReg) (r : ℕ) → number_at (map start_number regs) r ≡ slice_index_or (resets_of (map register_of regs)) r 0
register_is [] r = refl
register_is (register ∷ regs) zero = refl
register_is (register ∷ regs) (suc r) = register_is regs r

latest_wide : (ports : List CorePort) (m : ℕ) → m < length ports → (latest_at (map start_latest ports) m).number.width ≡ (nth_port (map port_of ports) m).width
latest_wide [] m within = absurd (omega arith)
latest_wide (port ∷ ports) zero within = refl
latest_wide (port ∷ ports) (suc m) within = latest_wide ports m (omega arith)

none_lives : (ports : List CorePort) (m : ℕ) → (latest_at (map start_latest ports) m).lives ≡ false
none_lives [] m = refl
none_lives (port ∷ ports) zero = refl
none_lives (port ∷ ports) (suc m) = none_lives ports m

-- Acts at the start.

start_wide : (widths : List ℕ) (y : ℕ) → All (λ w. w ≤ 64) widths → y < length widths → (state_at (map start_state widths) y).made.width ≡ kept_width (slice_index_or widths y 0)
start_wide [] y few within = absurd (omega arith)
start_wide (w ∷ widths) zero few within = by_case (w == 0) refl
  where
    at_most : w ≤ 64
    at_most = All-head (λ n. n ≤ 64) w widths few

    by_case : (b : Bool) → (w == 0) ≡ b → start_width w ≡ kept_width w
    by_case true test =
        let none : w ≡ 0 = grind (arith, nat_tests) in
        rw none refl
    by_case false test =
        let some : 1 ≤ w = grind (arith, nat_tests) in
        let few : w ≤ 64 = at_most in
        let low : nat_le 1 w ≡ true = grind (arith, nat_tests) in
        let high : nat_le w 64 ≡ true = grind (arith, nat_tests) in
        rw (test, low, high) refl
start_wide (w ∷ widths) (suc y) few within = start_wide widths y (All-tail (λ n. n ≤ 64) w widths few) (omega arith)

none_begun : (widths : List ℕ) (y : ℕ) → (state_at (map start_state widths) y).begun ≡ false
none_begun [] y = refl
none_begun (w ∷ widths) zero = refl
none_begun (w ∷ widths) (suc y) = none_begun widths y

start_are_wide : (list : List ℕ) (widths : Widths) → All (λ w. w ≤ 64) list → AreWide list widths (map start_state list)
start_are_wide list widths few = record {
  long = map_count start_state list;
  made = λ y within. start_wide list y few within;
  takes = λ y begun. let never : false ≡ true = sym (none_begun list y) ∙ begun in absurd cc;
}

module _ (name : List ℕ) (ports : List CorePort) (regs : List CoreReg) (bodies : List CoreTerm) (sized : IsTrue (is_sized name ports regs bodies)) (process : IsProcess (process_of name ports regs bodies)) where
  view : Widths
  view = widths_of (map port_of ports) (map register_of regs)

  process_parts : process_fits (process_of name ports regs bodies) ≡ true
  process_parts = and_first (process_fits (process_of name ports regs bodies)) _ sized

  after_ports : (list_all port_fits (map port_of ports) && (has_no_twice is_same_port (map port_of ports) && (lives_fit (process_of name ports regs bodies) 0 (map port_of ports) && (nat_le (length (process_of name ports regs bodies).threads) 16
      && list_all (λ thread. term_fits (process_of name ports regs bodies) (widths_of (map port_of ports) (map register_of regs)) thread.body) (process_of name ports regs bodies).threads)))) ≡ true
  after_ports = and_second (nat_le (length (map port_of ports)) 64) _ (and_second (is_good_name name) _ process_parts)

  pub ports_fit : list_all port_fits (map port_of ports) ≡ true
  ports_fit = and_first (list_all port_fits (map port_of ports)) _ after_ports

  bodies_fit : list_all (λ thread. term_fits (process_of name ports regs bodies) (widths_of (map port_of ports) (map register_of regs)) thread.body) (process_of name ports regs bodies).threads ≡ true
  bodies_fit =
      let third = and_second (list_all port_fits (map port_of ports)) _ after_ports in
      let fourth = and_second (has_no_twice is_same_port (map port_of ports)) _ third in
      let fifth = and_second (lives_fit (process_of name ports regs bodies) 0 (map port_of ports)) _ fourth in
      and_second (nat_le (length (process_of name ports regs bodies).threads) 16) _ fifth

  registers_part : (list_all register_fits regs && (has_no_twice is_same_register regs && list_all (words_fit (widths_of (map port_of ports) (map register_of regs))) bodies)) ≡ true
  registers_part = and_second (nat_le (length regs) 64) _ (and_second (process_fits (process_of name ports regs bodies)) _ sized)

  pub registers_fit : list_all register_fits regs ≡ true
  registers_fit = and_first (list_all register_fits regs) _ registers_part

  words : list_all (words_fit (widths_of (map port_of ports) (map register_of regs))) bodies ≡ true
  words = and_second (has_no_twice is_same_register regs) _ (and_second (list_all register_fits regs) _ registers_part)

  narrow : Narrow (process_of name ports regs bodies) (widths_of (map port_of ports) (map register_of regs))
  narrow = record {
    registers = λ r within. let count = map_count register_of regs in (register_few regs r registers_fit (omega arith)).1;
    ports = λ m within. let count = map_count port_of ports in (port_few ports m ports_fit (omega arith)).1;
    variables = λ y. omega arith;
  }

  sees : Sees (process_of name ports regs bodies) ports regs (widths_of (map port_of ports) (map register_of regs)) [] []
  sees = record { registers_are = λ r within. register_seen regs r; ports_are = λ m within. port_seen ports m; variables = λ y none. elim none [ ] }

  -- one body
  found : (body : CoreTerm) → Numbered [] 0 (term_of (widths_of (map port_of ports) (map register_of regs)) body) → term_fits (process_of name ports regs bodies) (widths_of (map port_of ports) (map register_of regs)) (term_of (widths_of (map port_of ports) (map register_of regs)) body) ≡ true
      → words_fit (widths_of (map port_of ports) (map register_of regs)) body ≡ true → Walked (process_of name ports regs bodies) ports regs (widths_of (map port_of ports) (map register_of regs)) body []
  found body numbered fits fit = walked (process_of name ports regs bodies) ports regs (widths_of (map port_of ports) (map register_of regs)) [] [] body sees narrow (λ y none. elim none [ ]) numbered fits fit

  -- what is kept at the start goes with the body
  pub record StartsWith (body : CoreTerm) : Type 0 where
    pub ready : IsReady ports regs (length regs) body (start_of ports regs body)
    pub same : term_of (widths_of (map port_of ports) (map register_of regs)) body ≡ term_in (widths_by ports regs (start_of ports regs body).widths) body
    pub long : length (start_of ports regs body).acts ≡ size (term_of (widths_of (map port_of ports) (map register_of regs)) body)

  starts : (body : CoreTerm) → Numbered [] 0 (term_of (widths_of (map port_of ports) (map register_of regs)) body) → term_fits (process_of name ports regs bodies) (widths_of (map port_of ports) (map register_of regs)) (term_of (widths_of (map port_of ports) (map register_of regs)) body) ≡ true
      → words_fit (widths_of (map port_of ports) (map register_of regs)) body ≡ true → StartsWith body
  starts body numbered fits fit =
      let walk_is = found body numbered fits fit in
      let list_is : (walk ports regs body []).widths ≡ site_widths (widths_of (map port_of ports) (map register_of regs)) (term_of (widths_of (map port_of ports) (map register_of regs)) body) = ap (λ (f : Found). f.widths) walk_is.found in
      let count = map_count register_of regs in
      let ports_count = map_count port_of ports in
      let typed =
      body_typed (process_of name ports regs bodies) ports regs refl refl (λ r within. (register_few regs r registers_fit (omega arith)).0) (λ m within. (port_few ports m ports_fit (omega arith)).0) body (walk ports regs body []).widths list_is numbered fits in
      let few : All (λ w. w ≤ 64) (walk ports regs body []).widths = subst (All (λ w. w ≤ 64)) (sym list_is) walk_is.all_few in
      record {
        ready = (
          subst (λ n. Typed (length (walk ports regs body []).widths) n (map port_of ports) (widths_by ports regs (walk ports regs body []).widths) (term_in (widths_by ports regs (walk ports regs body []).widths) body)) count typed.1,
          start_are_wide (walk ports regs body []).widths (widths_by ports regs (walk ports regs body []).widths) few,
        );
        same = typed.0;
        long = map_count start_state (walk ports regs body []).widths ∙ (ap (λ l. length l) list_is ∙ widths_long (widths_of (map port_of ports) (map register_of regs)) (term_of (widths_of (map port_of ports) (map register_of regs)) body));
      }

  -- all of them
  pub record AllStart (some : List CoreTerm) : Type 0 where
    pub ready : AllReady ports regs (length regs) some (map (start_of ports regs) some)
    pub same : SameBodies ports regs (map (thread_of (widths_of (map port_of ports) (map register_of regs))) some) some (map (start_of ports regs) some)
    pub long : AreLong (map (thread_of (widths_of (map port_of ports) (map register_of regs))) some) (map (λ (kept : Kept). kept.acts) (map (start_of ports regs) some))

  all_start : (some : List CoreTerm) → ((j : ℕ) (thread : Thread) → IsThread (map (thread_of (widths_of (map port_of ports) (map register_of regs))) some) j thread → Numbered [] 0 thread.body)
      → list_all (λ thread. term_fits (process_of name ports regs bodies) (widths_of (map port_of ports) (map register_of regs)) thread.body) (map (thread_of (widths_of (map port_of ports) (map register_of regs))) some) ≡ true
      → list_all (words_fit (widths_of (map port_of ports) (map register_of regs))) some ≡ true → AllStart some
  all_start [] numbered fits fit = record { ready = omega arith; same = omega arith; long = tt }
  all_start (body ∷ some) numbered fits fit =
      let first = starts body (numbered 0 (thread_of (widths_of (map port_of ports) (map register_of regs)) body) refl) (and_first _ _ fits) (and_first _ _ fit) in
      let rest =
      all_start some (λ j thread is. numbered (suc j) thread is) (and_second (term_fits (process_of name ports regs bodies) (widths_of (map port_of ports) (map register_of regs)) (term_of (widths_of (map port_of ports) (map register_of regs)) body)) _ fits)
      (and_second (words_fit (widths_of (map port_of ports) (map register_of regs)) body) _ fit) in
      record { ready = (first.ready, rest.ready); same = (first.same, rest.same); long = (first.long, rest.long) }

  pub at_start : AllStart bodies
  at_start = all_start bodies process.numbered bodies_fit words

  pub start_registers : AreRegisters regs (map start_number regs)
  start_registers = record { long = map_count start_number regs; wide = λ r within. let count = map_count start_number regs in register_wide regs r registers_fit (omega arith) }

  pub start_latests : (m : ℕ) → m < length ports → (latest_at (map start_latest ports) m).number.width ≡ (nth_port (map port_of ports) m).width
  start_latests m within = latest_wide ports m within

  pub start_stands : StandsAfter (process_of name ports regs bodies) [] (record { begun = false; threads = map (λ (kept : Kept). kept.acts) (map (start_of ports regs) bodies); registers = map start_number regs; latests = map start_latest ports })
  start_stands =
      new_told (process_of name ports regs bodies) (record { begun = false; threads = map (λ (kept : Kept). kept.acts) (map (start_of ports regs) bodies); registers = map start_number regs; latests = map start_latest ports }) refl at_start.long
      (λ r. register_is regs r) (λ m. none_lives ports m)
