-- One cycle of a simulation: it stands one cycle on, and shows what the run has in the cycle.
--
-- The present turns of the threads tell what is driven and written; with what comes in that tells the exchanges; and those tell the
-- latest exchanges and the data that stays.
use Rattle.std.proofs.Common.{◌≡◌, ℕ, ◌+◌, ◌<◌, ◌≤◌, arith, refl, sym, ◌∙◌, ap, subst, List, [], ◌∷◌, length, Bool, true, false, if◌then◌else◌, ◌&&◌, nat_lt, zero, suc, Option, Some, None}
use Rattle.std.specs.Prelude.{slice_index_or, not}
use Rattle.std.proofs.lemmas.List.{get_or_past}
use Rattle.std.proofs.lemmas.Bool.Decides.{nat_tests}
use Rattle.anvil_bits.specs.Number.{Number}
use Rattle.core_term.specs.declared.rows.InCell.{InCell}
use Rattle.core_term.specs.declared.rows.InCell.TheVariants as incoming
use Rattle.core_term.specs.declared.rows.OutCell.TheVariants as outgoing
use Rattle.core_term.specs.Inputs.{Inputs}
use Rattle.core_term.specs.Acts.{Sets}
use Rattle.core_term.specs.Process.{Port, Thread, Process, IsThread, IsProcess, nth_port, life_of, is_received}
use Rattle.core_term.specs.History.{or_else, get_else, written_by, history}
use Rattle.core_term.specs.Outputs.{Offer, offered, has, driven, valid_wire, ack_wire, exchange, alive, data_of, latest, kept, shown_data, data_wire, wires}
use Rattle.core_term.specs.Rows.{number_of, nth_cell, valid_in, data_in, ack_in, cell_fits, cells_fit, out_cell, cell_shown, cells_shown}
use Rattle.run_laws.proofs.source_runs.Exists.{is_history}
use Rattle.run_laws.proofs.source_runs.Offers.{begun_act, and_first, and_second}
use Rattle.run_laws.proofs.source_runs.Written.{written_is}
use Rattle.exchanges.specs.declared.latest.Latest.{Latest}
use Rattle.exchanges.specs.Lives.{lives_of}
use Rattle.exchanges.specs.Next.{next, LatestIs, latest_before, IsLatest}
use Rattle.exchanges.proofs.GoesOn.{latest_goes_on}
use Rattle.sim_laws.specs.declared.act_state.ActState.{ActState}
use Rattle.sim_laws.specs.declared.drive.Drive.{Drive}
use Rattle.sim_laws.specs.Advance.{zero_bit}
use Rattle.sim_laws.specs.Present.{Present}
use Rattle.sim_laws.specs.Passes.{drive_at, drive_all}
use Rattle.sim_laws.specs.Stands.{State, AreLong, Threads, none_yet, present, latest_at, number_at, offered_data, StandsAt, step_threads, drive_threads, write_threads, no_drives, meets, all_meet, shown_number, shown_cell, shown_cells, next_latests, threads_after, drives_in, exchanged_in, state_after}
use Rattle.sim_laws.specs.Fitting.{Fitting}
use Rattle.sim_laws.proofs.Leaf.{Coming}
use Rattle.sim_laws.proofs.Turn.{turn_goes_on, first_turn}
use Rattle.sim_laws.proofs.Offered.{GoodThread, GoodThreads, offer_number, or_zero, IsDrive, drives_long, threads_drive}
use Rattle.sim_laws.proofs.Writes.{writes_long, threads_write}

good_threads : (p : Process) → IsProcess p → (threads : List Thread) → ((j : ℕ) (thread : Thread) → IsThread threads j thread → GoodThread thread) → GoodThreads threads
good_threads p k [] each = tt
good_threads p k (thread ∷ threads) each = (each 0 thread refl, good_threads p k threads (λ j t i. each (suc j) t i))

pub good_of : (p : Process) → IsProcess p → GoodThreads p.threads
good_of p k = good_threads p k p.threads (λ j thread is. record { numbered = k.numbered j thread is; counted = k.counted j thread is; takes_time = k.takes_time j thread is })

-- Threads.

module _ (n : ℕ) (inputs : Inputs) (history : ℕ → ℕ → ℕ) (cells : List InCell) (regs : List Number) (coming : Coming n inputs history cells regs) where
  begun_now : (threads : List Thread) (states : List (List ActState)) → n ≡ 0 → GoodThreads threads → AreLong threads states → Present n inputs history threads (step_threads cells regs threads false states)
  begun_now [] [] z good long = tt
  begun_now [] (acts ∷ states) z good long = absurd long
  begun_now (thread ∷ threads) [] z good long = absurd long
  begun_now (thread ∷ threads) (acts ∷ states) z good long = (
    first_turn n inputs history cells regs coming thread.body good.0.numbered good.0.takes_time acts z long.0,
    begun_now threads states z good.1 long.1,
  )

  gone_on : (b : ℕ) (threads : List Thread) (states : List (List ActState)) → n ≡ b + 1 → GoodThreads threads → Present b inputs history threads states → Present n inputs history threads (step_threads cells regs threads true states)
  gone_on b [] [] i good k = tt
  gone_on b [] (acts ∷ states) i good k = absurd k
  gone_on b (thread ∷ threads) [] i good k = absurd k
  gone_on b (thread ∷ threads) (acts ∷ states) i good k = (
    turn_goes_on n inputs history cells regs coming thread.body good.0.numbered good.0.takes_time b acts i k.0,
    gone_on b threads states i good.1 k.1,
  )

  pub present_after : (threads : List Thread) (begun : Bool) (states : List (List ActState)) → GoodThreads threads → Threads n inputs history threads begun states → Present n inputs history threads (step_threads cells regs threads begun states)
  present_after threads begun states good (none_yet z e long) = rw e (begun_now threads states z good long)
  present_after threads begun states good (present b i e k) = rw e (gone_on b threads states i good k)

-- Drives.

pub all_long : (states : List (List ActState)) (drives : List Drive) → length (drive_threads states drives) ≡ length drives
all_long [] drives = refl
all_long (acts ∷ states) drives = all_long states (drive_all acts drives) ∙ drives_long 0 acts drives

pub none_long : (ports : List Port) → length (no_drives ports) ≡ length ports
none_long [] = refl
none_long (port ∷ ports) = ap suc (none_long ports)

none_driven : (ports : List Port) (m : ℕ) → IsDrive (drive_at (no_drives ports) m) None
none_driven [] m = record { offered = refl; number = refl }
none_driven (port ∷ ports) zero = record { offered = refl; number = refl }
none_driven (port ∷ ports) (suc m) = none_driven ports m

has_number : (history : ℕ → ℕ → ℕ) (o : Option Offer) → has (offer_number history o) ≡ has o
has_number history None = refl
has_number history (Some offer) = refl

zero_number : (history : ℕ → ℕ → ℕ) (o : Option Offer) → or_zero (offer_number history o) ≡ data_of history o
zero_number history None = refl
zero_number history (Some offer) = refl

-- Exchanges.

abbrev meet_at : (received : Bool) → Option InCell → (offered : Bool) → Bool
meet_at received cell offered = (if received then valid_in cell else offered) && (if received then offered else ack_in cell)

cell_meets : (port : Port) (cell : InCell) (drive : Drive) → cell_fits port cell ≡ true → meets cell drive ≡ meet_at port.received (Some cell) drive.offered
cell_meets port (incoming.Received valid v) drive fits = let z : port.received ≡ true = and_first port.received _ fits in rw z refl
cell_meets port (incoming.Sent ack) drive fits = go port.received refl fits
  where
    go : (b : Bool) → port.received ≡ b → not b ≡ true → (drive.offered && ack) ≡ ((if b then valid_in (Some (incoming.Sent ack)) else drive.offered) && (if b then drive.offered else ack))
    go true e f = absurd cc
    go false e f = refl

and_false : (b : Bool) → false ≡ (b && false)
and_false true = refl
and_false false = refl

meets_at : (ports : List Port) (cells : List InCell) (drives : List Drive) (j : ℕ) → cells_fit ports cells ≡ true → length drives ≡ length ports
    → slice_index_or (all_meet cells drives) j false ≡ meet_at (nth_port ports j).received (nth_cell cells j) (drive_at drives j).offered
meets_at [] [] drives j fits long = and_false (drive_at drives j).offered
meets_at [] (cell ∷ cells) drives j fits long = absurd cc
meets_at (port ∷ ports) [] drives j fits long = absurd cc
meets_at (port ∷ ports) (cell ∷ cells) [] j fits long = absurd (omega arith)
meets_at (port ∷ ports) (cell ∷ cells) (drive ∷ drives) zero fits long = cell_meets port cell drive (and_first (cell_fits port cell) _ fits)
meets_at (port ∷ ports) (cell ∷ cells) (drive ∷ drives) (suc j) fits long = meets_at ports cells drives j (and_second (cell_fits port cell) _ fits) (omega arith)

past_cell : (ports : List Port) (cells : List InCell) (j : ℕ) → cells_fit ports cells ≡ true → length ports ≤ j → (nth_cell cells j ≡ None) × ((nth_port ports j).received ≡ false)
past_cell [] [] j fits l = (refl, refl)
past_cell [] (cell ∷ cells) j fits l = absurd cc
past_cell (port ∷ ports) [] j fits l = absurd cc
past_cell (port ∷ ports) (cell ∷ cells) zero fits l = absurd (omega arith)
past_cell (port ∷ ports) (cell ∷ cells) (suc j) fits l = past_cell ports cells j (and_second (cell_fits port cell) _ fits) (omega arith)

pub met_long : (ports : List Port) (cells : List InCell) (drives : List Drive) → cells_fit ports cells ≡ true → length drives ≡ length ports → length (all_meet cells drives) ≡ length ports
met_long [] [] drives fits long = refl
met_long [] (cell ∷ cells) drives fits long = absurd cc
met_long (port ∷ ports) [] drives fits long = absurd cc
met_long (port ∷ ports) (cell ∷ cells) [] fits long = absurd (omega arith)
met_long (port ∷ ports) (cell ∷ cells) (drive ∷ drives) fits long = ap suc (met_long ports cells drives (and_second (cell_fits port cell) _ fits) (omega arith))

-- Latest exchanges.

latest_next_at : (exchanged rest : List Bool) (ports : List Port) (drives : List Drive) (latests : List Latest) (m : ℕ) → m < length ports → length rest ≡ length ports → length drives ≡ length ports → length latests ≡ length ports
    → latest_at (next_latests exchanged rest (lives_of ports) drives latests) m ≡ next exchanged (nth_port ports m).life (slice_index_or rest m false) (drive_at drives m).number (latest_at latests m)
latest_next_at exchanged [] ports drives latests m l a b c = absurd (omega arith)
latest_next_at exchanged (now ∷ rest) [] drives latests m l a b c = absurd (omega arith)
latest_next_at exchanged (now ∷ rest) (port ∷ ports) [] latests m l a b c = absurd (omega arith)
latest_next_at exchanged (now ∷ rest) (port ∷ ports) (drive ∷ drives) [] m l a b c = absurd (omega arith)
latest_next_at exchanged (now ∷ rest) (port ∷ ports) (drive ∷ drives) (latest ∷ latests) zero l a b c = refl
latest_next_at exchanged (now ∷ rest) (port ∷ ports) (drive ∷ drives) (latest ∷ latests) (suc m) l a b c = latest_next_at exchanged rest ports drives latests m (omega arith) (omega arith) (omega arith) (omega arith)

-- what comes in in the cycle n
pub record CellsAt (n : ℕ) (inputs : Inputs) (cells : List InCell) : Type 0 where
  pub inside : n < inputs.count
  pub valid : (m : ℕ) → inputs.valid m n ≡ valid_in (nth_cell cells m)
  pub data_at : (m : ℕ) → inputs.data_at m n ≡ data_in (nth_cell cells m)
  pub ack : (m : ℕ) → inputs.ack m n ≡ ack_in (nth_cell cells m)

module _ (p : Process) (good : Fitting p) (n : ℕ) (inputs : Inputs) (cells : List InCell) (at : CellsAt n inputs cells) (fits : cells_fit p.ports cells ≡ true)
    (state : State) (stands : StandsAt n p inputs state) (register_count : length state.registers ≡ length p.registers) (latest_count : length state.latests ≡ length p.ports) where
  threads_good : GoodThreads p.threads
  threads_good = good_of p good.process

  pub coming : Coming n inputs (history p inputs) cells state.registers
  coming = record { inside = at.inside; valid = at.valid; data_at = at.data_at; ack = at.ack; registers = stands.registers }

  present_now : Present n inputs (history p inputs) p.threads (threads_after p cells state)
  present_now = present_after n inputs (history p inputs) cells state.registers coming p.threads state.begun state.threads threads_good stands.threads

  pub drives_count : length (drives_in p cells state) ≡ length p.ports
  drives_count = all_long (threads_after p cells state) (no_drives p.ports) ∙ none_long p.ports

  drive_is : (m : ℕ) → m < length p.ports → IsDrive (drive_at (drives_in p cells state) m) (offer_number (history p inputs) (offered inputs (history p inputs) p.threads m n))
  drive_is m l =
      let long : length (no_drives p.ports) ≡ length p.ports = none_long p.ports in
      threads_drive n inputs (history p inputs) at.inside m p.threads (threads_after p cells state) (no_drives p.ports) None threads_good present_now (omega arith) (none_driven p.ports m)

  pub driven_now : (m : ℕ) → m < length p.ports → (drive_at (drives_in p cells state) m).offered ≡ driven p inputs (history p inputs) m n
  driven_now m l = (drive_is m l).offered ∙ has_number (history p inputs) (offered inputs (history p inputs) p.threads m n)

  pub number_now : (m : ℕ) → m < length p.ports → (drive_at (drives_in p cells state) m).number.value ≡ offered_data p inputs m n
  number_now m l = (drive_is m l).number ∙ zero_number (history p inputs) (offered inputs (history p inputs) p.threads m n)

  -- the exchanges of the cycle
  pub exchanged_now : (j : ℕ) → slice_index_or (exchanged_in p cells state) j false ≡ exchange p inputs (history p inputs) j n
  exchanged_now j = meets_at p.ports cells (drives_in p cells state) j fits drives_count ∙ go (nat_lt j (length p.ports)) refl
    where
      go : (b : Bool) → nat_lt j (length p.ports) ≡ b → meet_at (nth_port p.ports j).received (nth_cell cells j) (drive_at (drives_in p cells state) j).offered ≡ exchange p inputs (history p inputs) j n
      go true e =
          let l : j < length p.ports = grind (arith, nat_tests) in
          rw (at.valid j, at.ack j, driven_now j l) refl
      go false e =
          let l : length p.ports ≤ j = grind (arith, nat_tests) in
          let z = past_cell p.ports cells j fits l in
          rw (at.valid j, at.ack j, z.0, z.1) (sym (and_false (drive_at (drives_in p cells state) j).offered) ∙ and_false (driven p inputs (history p inputs) j n))

  pub exchanged_count : length (exchanged_in p cells state) ≡ length p.ports
  exchanged_count = met_long p.ports cells (drives_in p cells state) fits drives_count

  latests_after : (m : ℕ) → m < length p.ports → IsLatest (exchange p inputs (history p inputs)) (life_of p m) m (offered_data p inputs m) (suc n) (latest_at (state_after p cells state).latests m)
  latests_after m l =
      let z =
      latest_goes_on (exchange p inputs (history p inputs)) (exchanged_in p cells state) n exchanged_now (life_of p m) m (offered_data p inputs m) (drive_at (drives_in p cells state) m).number (latest_at state.latests m)
      (good.bounded m l) (λ e. number_now m l) (stands.latests m l) in
      let y = latest_next_at (exchanged_in p cells state) (exchanged_in p cells state) p.ports (drives_in p cells state) state.latests m l exchanged_count drives_count latest_count in
      subst (λ w. IsLatest (exchange p inputs (history p inputs)) (life_of p m) m (offered_data p inputs m) (suc n) w) (sym y)
      (subst (λ b. IsLatest (exchange p inputs (history p inputs)) (life_of p m) m (offered_data p inputs m) (suc n) (next (exchanged_in p cells state) (life_of p m) b (drive_at (drives_in p cells state) m).number (latest_at state.latests m)))
      (sym (exchanged_now m)) z)

  -- Registers.

  nexts_long : (states : List (List ActState)) (nexts : List Number) → length (write_threads states nexts) ≡ length nexts
  nexts_long [] nexts = refl
  nexts_long (acts ∷ states) nexts = nexts_long states _ ∙ writes_long 0 acts nexts

  past_written : (r : ℕ) → length p.registers ≤ r → written_by inputs (history p inputs) p.threads r n ≡ None
  past_written r l = go (written_by inputs (history p inputs) p.threads r n) refl
    where
      go : (o : Option ℕ) → written_by inputs (history p inputs) p.threads r n ≡ o → o ≡ None
      go None e = refl
      go (Some v) e =
          let w = written_is inputs (history p inputs) p.threads r n v e in
          let m : r < length p.registers =
          good.in_range w.j w.thread w.place r w.is (begun_act inputs (history p inputs) w.thread.body (good.process.numbered w.j w.thread w.is) (λ a. Sets a r) w.turn w.place w.act w.sets) in
          absurd (omega arith)

  registers_after : (r : ℕ) → number_at (state_after p cells state).registers r ≡ history p inputs (n + 1) r
  registers_after r = go (nat_lt r (length p.registers)) refl
    where
      step : history p inputs (n + 1) r ≡ get_else (written_by inputs (history p inputs) p.threads r n) (history p inputs n r)
      step = (is_history p inputs).step n r at.inside

      go : (b : Bool) → nat_lt r (length p.registers) ≡ b → number_at (write_threads (threads_after p cells state) state.registers) r ≡ history p inputs (n + 1) r
      go true e =
          let l : r < length p.registers = grind (arith, nat_tests) in
          threads_write n inputs (history p inputs) at.inside r p.threads (threads_after p cells state) state.registers threads_good good.process.one_setter present_now (omega arith)
          ∙ (ap (get_else (written_by inputs (history p inputs) p.threads r n)) (stands.registers r) ∙ sym step)
      go false e =
          let l : length p.registers ≤ r = grind (arith, nat_tests) in
          let long : length (write_threads (threads_after p cells state) state.registers) ≡ length state.registers = nexts_long (threads_after p cells state) state.registers in
          let before = stands.registers r in
          let out = get_or_past (write_threads (threads_after p cells state) state.registers) r zero_bit (omega arith) in
          let out' = get_or_past state.registers r zero_bit (omega arith) in
          ap (λ v. v.value) (out ∙ sym out') ∙ (before ∙ sym (step ∙ ap (λ o. get_else o (history p inputs n r)) (past_written r l)))

  -- the simulation stands one cycle on
  pub stands_on : StandsAt (n + 1) p inputs (state_after p cells state)
  stands_on =
      let z : n + 1 ≡ suc n = omega arith in
      record {
        threads = present n refl refl present_now;
        registers = registers_after;
        latests = λ m l. subst (λ k. IsLatest (exchange p inputs (history p inputs)) (life_of p m) m (offered_data p inputs m) k (latest_at (state_after p cells state).latests m)) (sym z) (latests_after m l);
      }

  -- What is shown.

  kept_is : (m : ℕ) (o : Option ℕ) (width : ℕ) → latest_before (exchange p inputs (history p inputs) m) n ≡ o → LatestIs (exchange p inputs (history p inputs)) (life_of p m) (offered_data p inputs m) n o (latest_at state.latests m)
      → (if (latest_at state.latests m).lives then (latest_at state.latests m).number else number_of width 0).value ≡ kept p inputs (history p inputs) m n o
  kept_is m None width e k = rw k refl
  kept_is m (Some u) width e k = rw k.0 (go (alive (exchange p inputs (history p inputs)) (life_of p m) u n))
    where
      go : (b : Bool) → (if b then (latest_at state.latests m).number else number_of width 0).value ≡ (if b then data_of (history p inputs) (offered inputs (history p inputs) p.threads m u) else 0)
      go true = k.2
      go false = refl

  -- the data of a sent port
  pub data_now : (m width : ℕ) → m < length p.ports → is_received p m ≡ false → (shown_number width (drive_at (drives_in p cells state) m) (latest_at state.latests m)).value ≡ data_wire p inputs (history p inputs) m n
  data_now m width l sent = rw (driven_now m l, sent) (go (offered inputs (history p inputs) p.threads m n) refl)
    where
      go : (o : Option Offer) → offered inputs (history p inputs) p.threads m n ≡ o
          → (if has o then (drive_at (drives_in p cells state) m).number else (if (latest_at state.latests m).lives then (latest_at state.latests m).number else number_of width 0)).value ≡ shown_data p inputs (history p inputs) m n o
      go (Some offer) e = number_now m l ∙ ap (data_of (history p inputs)) e
      go None e =
          let quiet : exchange p inputs (history p inputs) m n ≡ false = rw (sent, e) refl in
          let z : n + 1 ≡ suc n = omega arith in
          let y : latest (exchange p inputs (history p inputs) m) n ≡ latest_before (exchange p inputs (history p inputs) m) n =
          ap (latest_before (exchange p inputs (history p inputs) m)) z ∙ ap (λ b. or_else (if b then Some n else None) (latest_before (exchange p inputs (history p inputs) m) n)) quiet in
          kept_is m _ width refl (stands.latests m l) ∙ ap (kept p inputs (history p inputs) m n) (sym y)

  -- the numbers have the widths of their ports
  pub record Wide (ports : List Port) (drives : List Drive) (latests : List Latest) : Type 0 where
    pub drives_wide : (m : ℕ) → m < length ports → (drive_at drives m).number.width ≡ (nth_port ports m).width
    pub latests_wide : (m : ℕ) → m < length ports → (latest_at latests m).number.width ≡ (nth_port ports m).width

  number_eta : (v : Number) (w k : ℕ) → v.width ≡ w → v.value ≡ k → v ≡ number_of w k
  number_eta v w k e f = rw (← e, ← f) refl

  shown_width : (w : ℕ) (drive : Drive) (latest : Latest) → drive.number.width ≡ w → latest.number.width ≡ w → (shown_number w drive latest).width ≡ w
  shown_width w drive latest e f = go drive.offered latest.lives
    where
      go : (b c : Bool) → (if b then drive.number else (if c then latest.number else number_of w 0)).width ≡ w
      go true c = e
      go false true = f
      go false false = refl

  cell_now : (m : ℕ) (port : Port) → m < length p.ports → nth_port p.ports m ≡ port → (drive_at (drives_in p cells state) m).number.width ≡ port.width → (latest_at state.latests m).number.width ≡ port.width
      → shown_cell port (drive_at (drives_in p cells state) m) (latest_at state.latests m) ≡ cell_shown (wires p inputs (history p inputs)) n m port
  cell_now m port l same wide wide' = go port.received (ap (λ q. q.received) same)
    where
      go : (b : Bool) → (nth_port p.ports m).received ≡ b
          → (if b then outgoing.Received (drive_at (drives_in p cells state) m).offered else outgoing.Sent (drive_at (drives_in p cells state) m).offered (shown_number port.width (drive_at (drives_in p cells state) m) (latest_at state.latests m)))
          ≡ out_cell b port.width (ack_wire p inputs (history p inputs) m n) (valid_wire p inputs (history p inputs) m n) (data_wire p inputs (history p inputs) m n)
      go true e = rw e (ap outgoing.Received (driven_now m l))
      go false e =
          let v = data_now m port.width l e in
          let number = number_eta _ port.width _ (shown_width port.width (drive_at (drives_in p cells state) m) (latest_at state.latests m) wide wide') v in
          ap (λ b. outgoing.Sent b (shown_number port.width (drive_at (drives_in p cells state) m) (latest_at state.latests m))) (driven_now m l ∙ valid_is e)
          ∙ ap (λ v. outgoing.Sent (valid_wire p inputs (history p inputs) m n) v) number
        where
          valid_is : (nth_port p.ports m).received ≡ false → driven p inputs (history p inputs) m n ≡ valid_wire p inputs (history p inputs) m n
          valid_is e = rw e refl

  -- from the port low on
  cells_from : (low : ℕ) (ports : List Port) (drives : List Drive) (latests : List Latest) → length drives ≡ length ports → length latests ≡ length ports
      → ((k : ℕ) → k < length ports → shown_cell (nth_port ports k) (drive_at drives k) (latest_at latests k) ≡ cell_shown (wires p inputs (history p inputs)) n (low + k) (nth_port ports k))
      → shown_cells ports drives latests ≡ cells_shown (wires p inputs (history p inputs)) n low ports
  cells_from low [] drives latests a b each = refl
  cells_from low (port ∷ ports) [] latests a b each = absurd (omega arith)
  cells_from low (port ∷ ports) (drive ∷ drives) [] a b each = absurd (omega arith)
  cells_from low (port ∷ ports) (drive ∷ drives) (latest ∷ latests) a b each =
      let here : shown_cell port drive latest ≡ cell_shown (wires p inputs (history p inputs)) n low port = each 0 (omega arith) ∙ ap (λ m. cell_shown (wires p inputs (history p inputs)) n m port) (omega arith) in
      let rest = cells_from (low + 1) ports drives latests (omega arith) (omega arith) (λ k l. each (suc k) (omega arith) ∙ ap (λ m. cell_shown (wires p inputs (history p inputs)) n m (nth_port ports k)) (omega arith)) in
      rw (here, rest) refl

  -- the outputs of the cycle
  pub cells_now : Wide p.ports (drives_in p cells state) state.latests → shown_cells p.ports (drives_in p cells state) state.latests ≡ cells_shown (wires p inputs (history p inputs)) n 0 p.ports
  cells_now wide =
      cells_from 0 p.ports (drives_in p cells state) state.latests drives_count latest_count
      (λ k l. cell_now k (nth_port p.ports k) l refl (wide.drives_wide k l) (wide.latests_wide k l) ∙ ap (λ m. cell_shown (wires p inputs (history p inputs)) n m (nth_port p.ports k)) (omega arith))
