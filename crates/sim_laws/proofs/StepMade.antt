-- One step of a simulation, over plain variables: what the code has made is the state after, what is kept stays as it is asked to be,
-- and what is shown are the wires and registers of the run.
use Rattle.std.proofs.Common.{◌≡◌, ℕ, ◌+◌, ◌<◌, arith, refl, sym, ◌∙◌, ap, subst, List, [], ◌∷◌, ◌++◌, length, map, Bool, true, false, nat_le, IsTrue, zero, suc}
use Rattle.std.specs.Prelude.{slice_index_or}
use Rattle.std.specs.List.{list_all}
use Rattle.anvil_bits.specs.Number.{Number}
use Rattle.core_term.specs.declared.process.CorePort.{CorePort}
use Rattle.core_term.specs.declared.process.CoreReg.{CoreReg}
use Rattle.core_term.specs.declared.rows.InCell.{InCell}
use Rattle.core_term.specs.declared.rows.Row.{Row}
use Rattle.core_term.specs.declared.term.CoreTerm.{CoreTerm}
use Rattle.core_term.specs.Inputs.{Inputs}
use Rattle.core_term.specs.Names.{is_good_name, has_no_twice}
use Rattle.core_term.specs.History.{history}
use Rattle.core_term.specs.Outputs.{wires}
use Rattle.core_term.specs.Process.{LifeEnd, Port, Register, Thread, Process, IsProcess, nth_port, nth_register}
use Rattle.core_term.specs.ProcessView.{port_of, register_of, process_of}
use Rattle.core_term.specs.Rows.{number_of, cells_fit, cells_shown, registers_shown}
use Rattle.core_term.specs.Sized.{is_sized, port_fits, is_same_port, lives_fit, process_fits}
use Rattle.run_laws.proofs.source_runs.Offers.{and_first, and_second}
use Rattle.exchanges.specs.declared.latest.Latest.{Latest}
use Rattle.exchanges.specs.Lives.{lives_of}
use Rattle.exchanges.specs.Next.{Bounded, next}
use Rattle.sim_laws.specs.declared.act_state.ActState.{ActState}
use Rattle.sim_laws.specs.declared.drive.Drive.{Drive}
use Rattle.sim_laws.specs.Advance.{zero_bit}
use Rattle.sim_laws.specs.Fitting.{Fitting}
use Rattle.sim_laws.specs.Kept.{Kept, AllReady, widths_by, all_stepped, SameBodies}
use Rattle.sim_laws.specs.Passes.{drive_at, drive_all, write_all}
use Rattle.sim_laws.specs.SimLaws.{BeginsWith}
use Rattle.sim_laws.specs.Stands.{State, StandsAfter, state_after, drive_threads, write_threads, no_drives, all_meet, shown_cells, next_latests, threads_after, drives_in, exchanged_in, latest_at, number_at}
use Rattle.sim_laws.specs.Typed.{AreRegisters}
use Rattle.sim_laws.proofs.Cycle.{all_long}
use Rattle.sim_laws.proofs.Counts.{map_count, no_drives_count, latests_count, met_count, fit_long}
use Rattle.sim_laws.proofs.Offered.{drives_long}
use Rattle.sim_laws.proofs.RowsTaken.{step_told, shows_told}
use Rattle.sim_laws.proofs.Sized.{fitting, drives_wide, numbers_wide, stepped_same}
use Rattle.sim_laws.proofs.Writes.{writes_long}

same_stepped : (ports : List CorePort) (regs : List CoreReg) (cells : List InCell) (numbers : List Number) (begun : Bool) (threads : List Thread) (bodies : List CoreTerm) (kept : List Kept) → SameBodies ports regs threads bodies kept
    → SameBodies ports regs threads bodies (all_stepped ports regs cells numbers begun bodies kept)
same_stepped ports regs cells numbers begun [] [] [] k = k
same_stepped ports regs cells numbers begun (thread ∷ threads) (body ∷ bodies) (x ∷ kept) k = (k.0, same_stepped ports regs cells numbers begun threads bodies kept k.1)
same_stepped ports regs cells numbers begun [] [] (x ∷ kept) k = absurd (omega arith)
same_stepped ports regs cells numbers begun [] (body ∷ bodies) kept k = absurd (omega arith)
same_stepped ports regs cells numbers begun (thread ∷ threads) [] kept k = absurd (omega arith)
same_stepped ports regs cells numbers begun (thread ∷ threads) (body ∷ bodies) [] k = absurd (omega arith)

none_wide : (ports : List Port) (m : ℕ) → m < length ports → (drive_at (no_drives ports) m).number.width ≡ (nth_port ports m).width
none_wide [] m l = absurd (omega arith)
none_wide (port ∷ ports) zero l = refl
none_wide (port ∷ ports) (suc m) l = none_wide ports m (omega arith)

module _ (ports : List CorePort) (regs : List CoreReg) (count : ℕ) where
  threads_wide : (bodies : List CoreTerm) (threads : List Kept) (m : ℕ) (drives : List Drive) → AllReady ports regs count bodies threads → m < length drives → (drive_at drives m).number.width ≡ (nth_port (map port_of ports) m).width
      → (drive_at (drive_threads (map (λ k. k.acts) threads) drives) m).number.width ≡ (nth_port (map port_of ports) m).width
  threads_wide [] [] m drives k l w = w
  threads_wide [] (x ∷ rest) m drives k l w = absurd (omega arith)
  threads_wide (body ∷ bodies) [] m drives k l w = absurd (omega arith)
  threads_wide (body ∷ bodies) (x ∷ rest) m drives k l w =
      let long : length (drive_all x.acts drives) ≡ length drives = drives_long 0 x.acts drives in
      threads_wide bodies rest m (drive_all x.acts drives) k.1 (omega arith) (drives_wide (widths_by ports regs x.widths) m x.acts drives l k.0.1.takes w)

  written_wide : (bodies : List CoreTerm) (threads : List Kept) (r : ℕ) (numbers : List Number) → AllReady ports regs count bodies threads → r < length numbers → (slice_index_or numbers r zero_bit).width ≡ (nth_register (map register_of regs) r).width
      → (slice_index_or (write_threads (map (λ k. k.acts) threads) numbers) r zero_bit).width ≡ (nth_register (map register_of regs) r).width
  written_wide [] [] r numbers k l w = w
  written_wide [] (x ∷ rest) r numbers k l w = absurd (omega arith)
  written_wide (body ∷ bodies) [] r numbers k l w = absurd (omega arith)
  written_wide (body ∷ bodies) (x ∷ rest) r numbers k l w =
      let long : length (write_all x.acts numbers) ≡ length numbers = writes_long 0 x.acts numbers in
      written_wide bodies rest r (write_all x.acts numbers) k.1 (omega arith) (numbers_wide (widths_by ports regs x.widths) r x.acts numbers l k.0.1.takes w)

written_count : (states : List (List ActState)) (numbers : List Number) → length (write_threads states numbers) ≡ length numbers
written_count [] numbers = refl
written_count (acts ∷ states) numbers = written_count states (write_all acts numbers) ∙ writes_long 0 acts numbers

number_eta : (v : Number) (w k : ℕ) → v.width ≡ w → v.value ≡ k → v ≡ number_of w k
number_eta v w k e f = rw (← e, ← f) refl

-- the registers are shown as they are
shown_registers : (h : ℕ → ℕ → ℕ) (n low : ℕ) (registers : List Register) (numbers : List Number) → length numbers ≡ length registers → ((r : ℕ) → r < length numbers → (slice_index_or numbers r zero_bit).width ≡ (nth_register registers r).width)
    → ((r : ℕ) → number_at numbers r ≡ h n (low + r)) → numbers ≡ registers_shown h n low registers
shown_registers h n low [] [] long wide is = refl
shown_registers h n low [] (x ∷ numbers) long wide is = absurd (omega arith)
shown_registers h n low (register ∷ registers) [] long wide is = absurd (omega arith)
shown_registers h n low (register ∷ registers) (x ∷ numbers) long wide is =
    let first : x ≡ number_of register.width (h n low) = number_eta x register.width (h n low) (wide 0 (omega arith)) (is 0 ∙ ap (h n) (omega arith)) in
    let rest = shown_registers h n (low + 1) registers numbers (omega arith) (λ r l. wide (suc r) (omega arith)) (λ r. is (suc r) ∙ ap (h n) (omega arith)) in
    ap (λ v. v ∷ numbers) first ∙ ap (λ vs. number_of register.width (h n low) ∷ vs) rest

next_wide : (exchanged : List Bool) (drive : Drive) (latest : Latest) (life : List LifeEnd) (now : Bool) (w : ℕ) → drive.number.width ≡ w → latest.number.width ≡ w → (next exchanged life now drive.number latest).number.width ≡ w
next_wide exchanged drive latest life true w e f = e
next_wide exchanged drive latest life false w e f = f

-- what one step of the code had before it, and what it made
pub record Made : Type 0 where
  pub name : List ℕ
  pub ports : List CorePort
  pub regs : List CoreReg
  pub bodies : List CoreTerm
  pub sized : IsTrue (is_sized name ports regs bodies)
  pub process : IsProcess (process_of name ports regs bodies)
  pub bounded : (m : ℕ) → m < length ports → Bounded (nth_port (map port_of ports) m).life
  pub row : Row
  pub fits : IsTrue (cells_fit (map port_of ports) row.cells.items)
  pub begun : Bool
  pub threads : List Kept
  pub registers : List Number
  pub latests : List Latest
  pub bodies_same : SameBodies ports regs (process_of name ports regs bodies).threads bodies threads
  pub register_widths : AreRegisters regs registers
  pub latest_count : length latests ≡ length ports
  pub latest_widths : (m : ℕ) → m < length ports → (latest_at latests m).number.width ≡ (nth_port (map port_of ports) m).width
  pub threads' : List Kept
  pub drives' : List Drive
  pub exchanged' : List Bool
  pub latests' : List Latest
  pub registers' : List Number
  pub ready : AllReady ports regs (length registers) bodies threads'
  pub threads_made : threads' ≡ all_stepped ports regs row.cells.items registers begun bodies threads
  pub drives_made : drives' ≡ drive_threads (map (λ k. k.acts) threads') (no_drives (map port_of ports))
  pub exchanged_made : exchanged' ≡ all_meet row.cells.items drives'
  pub latests_made : latests' ≡ next_latests exchanged' exchanged' (lives_of (map port_of ports)) drives' latests
  pub registers_made : registers' ≡ write_threads (map (λ k. k.acts) threads') registers

abbrev pub process_in_step : Made → Process
process_in_step s = process_of s.name s.ports s.regs s.bodies

abbrev pub before : Made → State
before s = record { begun = s.begun; threads = map (λ k. k.acts) s.threads; registers = s.registers; latests = s.latests }

abbrev pub after : Made → State
after s = record { begun = true; threads = map (λ k. k.acts) s.threads'; registers = s.registers'; latests = s.latests' }

-- the latest exchange of a port, one cycle on
latest_next : (exchanged rest : List Bool) (ports : List CorePort) (drives : List Drive) (latests : List Latest) (m : ℕ) → length rest ≡ length ports → length drives ≡ length ports → length latests ≡ length ports → m < length ports
    → latest_at (next_latests exchanged rest (lives_of (map port_of ports)) drives latests) m ≡ next exchanged (nth_port (map port_of ports) m).life (slice_index_or rest m false) (drive_at drives m).number (latest_at latests m)
latest_next exchanged [] [] drives latests m a b c l = absurd (omega arith)
latest_next exchanged [] (p ∷ ports) drives latests m a b c l = absurd (omega arith)
latest_next exchanged (x ∷ rest) [] drives latests m a b c l = absurd (omega arith)
latest_next exchanged (x ∷ rest) (p ∷ ports) [] latests m a b c l = absurd (omega arith)
latest_next exchanged (x ∷ rest) (p ∷ ports) (y ∷ drives) [] m a b c l = absurd (omega arith)
latest_next exchanged (x ∷ rest) (p ∷ ports) (y ∷ drives) (z ∷ latests) zero a b c l = refl
latest_next exchanged (x ∷ rest) (p ∷ ports) (y ∷ drives) (z ∷ latests) (suc m) a b c l = latest_next exchanged rest ports drives latests m (omega arith) (omega arith) (omega arith) (omega arith)

module _ (s : Made) where
  ports_count : length (map port_of s.ports) ≡ length s.ports
  ports_count = map_count port_of s.ports

  regs_count : length (map register_of s.regs) ≡ length s.regs
  regs_count = map_count register_of s.regs

  acts_are : map (λ k. k.acts) s.threads' ≡ threads_after (process_in_step s) s.row.cells.items (before s)
  acts_are = ap (map (λ k. k.acts)) s.threads_made ∙ stepped_same s.ports s.regs s.row.cells.items s.registers s.begun (process_in_step s).threads s.bodies s.threads s.bodies_same

  drives_are : s.drives' ≡ drives_in (process_in_step s) s.row.cells.items (before s)
  drives_are = s.drives_made ∙ ap (λ states. drive_threads states (no_drives (map port_of s.ports))) acts_are

  exchanged_are : s.exchanged' ≡ exchanged_in (process_in_step s) s.row.cells.items (before s)
  exchanged_are = s.exchanged_made ∙ ap (all_meet s.row.cells.items) drives_are

  state_is : state_after (process_in_step s) s.row.cells.items (before s)
      ≡ after s
  state_is =
      let a = acts_are in
      let r = s.registers_made ∙ ap (λ states. write_threads states s.registers) acts_are in
      let l = s.latests_made ∙ (ap (λ e. next_latests e e (lives_of (map port_of s.ports)) s.drives' s.latests) exchanged_are ∙ ap (λ d. next_latests (exchanged_in (process_in_step s) s.row.cells.items (before s)) (exchanged_in (process_in_step s) s.row.cells.items (before s)) (lives_of (map port_of s.ports)) d s.latests) drives_are) in
      made _ _ _ _ _ _ (sym a) (sym r) (sym l)
    where
      made : (a a' : List (List ActState)) (r r' : List Number) (l l' : List Latest) → a ≡ a' → r ≡ r' → l ≡ l' → let s : State = record { begun = true; threads = a; registers = r; latests = l } in s ≡ record { begun = true; threads = a'; registers = r'; latests = l' }
      made a a' r r' l l' e f g = rw (e, f, g) refl

  fit : Fitting (process_in_step s)
  fit =
      let all = and_first (process_fits (process_in_step s)) _ s.sized in
      let one = and_second (is_good_name s.name) _ all in
      let two = and_second (nat_le (length (map port_of s.ports)) 64) _ one in
      let three = and_second (list_all port_fits (map port_of s.ports)) _ two in
      let four = and_second (has_no_twice is_same_port (map port_of s.ports)) _ three in
      let five = and_second (lives_fit (process_in_step s) 0 (map port_of s.ports)) _ four in
      let six = and_second (nat_le (length (process_in_step s).threads) 16) _ five in
      let count = ports_count in
      fitting (process_in_step s) s.process six (λ m l. s.bounded m (omega arith))

  pub stands_made : (rows : List Row) → StandsAfter (process_in_step s) rows (before s)
      → StandsAfter (process_in_step s) (rows ++ s.row ∷ []) (after s)
  stands_made rows stands =
      let a = ports_count in
      let b = regs_count in
      let c = s.register_widths.long in
      subst (StandsAfter (process_in_step s) (rows ++ s.row ∷ [])) state_is
      (step_told (process_in_step s) fit rows s.row (before s) s.fits (omega arith, omega arith) stands)

  drives_widths : (m : ℕ) → m < length s.ports → (drive_at s.drives' m).number.width ≡ (nth_port (map port_of s.ports) m).width
  drives_widths m l =
      let a = ports_count in
      let b : length (no_drives (map port_of s.ports)) ≡ length s.ports = no_drives_count s.ports in
      ap (λ d. (drive_at d m).number.width) s.drives_made
      ∙ threads_wide s.ports s.regs (length s.registers) s.bodies s.threads' m (no_drives (map port_of s.ports)) s.ready (omega arith) (none_wide (map port_of s.ports) m (omega arith))

  shows : (rows : List Row) → StandsAfter (process_in_step s) rows (before s) → (inputs : Inputs) → BeginsWith inputs (rows ++ s.row ∷ [])
      → (shown_cells (map port_of s.ports) (drives_in (process_in_step s) s.row.cells.items (before s)) s.latests ≡ cells_shown (wires (process_in_step s) inputs (history (process_in_step s) inputs)) (length rows) 0 (map port_of s.ports))
      × ((r : ℕ) → number_at s.registers r ≡ history (process_in_step s) inputs (length rows) r)
  shows rows stands inputs k =
      let a = ports_count in
      let b = regs_count in
      let c = s.register_widths.long in
      shows_told (process_in_step s) fit rows s.row (before s) s.fits (omega arith, omega arith)
      ((λ m l. ap (λ d. (drive_at d m).number.width) (sym drives_are) ∙ drives_widths m (omega arith)), (λ m l. s.latest_widths m (omega arith))) stands inputs k

  pub cells_made : (rows : List Row) → StandsAfter (process_in_step s) rows (before s) → (inputs : Inputs) → BeginsWith inputs (rows ++ s.row ∷ [])
      → shown_cells (map port_of s.ports) s.drives' s.latests ≡ cells_shown (wires (process_in_step s) inputs (history (process_in_step s) inputs)) (length rows) 0 (map port_of s.ports)
  cells_made rows stands inputs k = ap (λ d. shown_cells (map port_of s.ports) d s.latests) drives_are ∙ (shows rows stands inputs k).0

  pub registers_seen : (rows : List Row) → StandsAfter (process_in_step s) rows (before s) → (inputs : Inputs) → BeginsWith inputs (rows ++ s.row ∷ [])
      → s.registers ≡ registers_shown (history (process_in_step s) inputs) (length rows) 0 (map register_of s.regs)
  registers_seen rows stands inputs k =
      let b = regs_count in
      let c = s.register_widths.long in
      shown_registers (history (process_in_step s) inputs) (length rows) 0 (map register_of s.regs) s.registers (omega arith) s.register_widths.wide
      (λ r. (shows rows stands inputs k).1 r ∙ ap (history (process_in_step s) inputs (length rows)) (omega arith))

  -- What is kept stays as it is asked to be.

  pub registers_count : length s.registers' ≡ length s.registers
  registers_count = ap (λ l. length l) s.registers_made ∙ written_count (map (λ k. k.acts) s.threads') s.registers

  pub registers_after : AreRegisters s.regs s.registers'
  registers_after =
      let c = s.register_widths.long in
      let d = registers_count in
      record {
        long = d ∙ c;
        wide = λ r l. ap (λ v. (slice_index_or v r zero_bit).width) s.registers_made ∙ written_wide s.ports s.regs (length s.registers) s.bodies s.threads' r s.registers s.ready (omega arith) (s.register_widths.wide r (omega arith));
      }

  pub ready_after : AllReady s.ports s.regs (length s.registers') s.bodies s.threads'
  ready_after = subst (λ n. AllReady s.ports s.regs n s.bodies s.threads') (sym registers_count) s.ready

  pub bodies_after : SameBodies s.ports s.regs (process_in_step s).threads s.bodies s.threads'
  bodies_after = subst (SameBodies s.ports s.regs (process_in_step s).threads s.bodies) (sym s.threads_made) (same_stepped s.ports s.regs s.row.cells.items s.registers s.begun (process_in_step s).threads s.bodies s.threads s.bodies_same)

  pub drives_count : length s.drives' ≡ length s.ports
  drives_count = ap (λ l. length l) s.drives_made ∙ (all_long (map (λ k. k.acts) s.threads') (no_drives (map port_of s.ports)) ∙ no_drives_count s.ports)

  pub exchanged_count : length s.exchanged' ≡ length s.ports
  exchanged_count =
      let a = ports_count in
      let d = drives_count in
      let f : length s.row.cells.items ≡ length (map port_of s.ports) = fit_long (map port_of s.ports) s.row.cells.items s.fits in
      let m : length (all_meet s.row.cells.items s.drives') ≡ length s.row.cells.items = met_count s.row.cells.items s.drives' (omega arith) in
      let e = ap (λ l. length l) s.exchanged_made in
      omega arith

  pub latests_after_count : length s.latests' ≡ length s.ports
  latests_after_count = ap (λ l. length l) s.latests_made ∙ latests_count s.exchanged' s.exchanged' s.ports s.drives' s.latests exchanged_count drives_count s.latest_count

  pub latests_after_wide : (m : ℕ) → m < length s.ports → (latest_at s.latests' m).number.width ≡ (nth_port (map port_of s.ports) m).width
  latests_after_wide m l =
      let z = latest_next s.exchanged' s.exchanged' s.ports s.drives' s.latests m exchanged_count drives_count s.latest_count l in
      ap (λ ls. (latest_at ls m).number.width) s.latests_made
      ∙ (ap (λ x. x.number.width) z ∙ next_wide s.exchanged' (drive_at s.drives' m) (latest_at s.latests m) (nth_port (map port_of s.ports) m).life (slice_index_or s.exchanged' m false) (nth_port (map port_of s.ports) m).width (drives_widths m l) (s.latest_widths m l))
