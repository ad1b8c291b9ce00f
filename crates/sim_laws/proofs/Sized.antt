-- What a core process gives a simulation: bodies that are typed by the lists of their widths, registers in range, and numbers of the
-- widths of their ports and registers.
use Rattle.std.proofs.Common.{◌≡◌, ℕ, ◌+◌, ◌<◌, arith, refl, sym, ◌∙◌, ap, subst, List, [], ◌∷◌, length, map, Bool, true, false, if◌then◌else◌, ◌==◌, nat_lt, zero, suc}
use Rattle.std.specs.Prelude.{slice_index_or, slice_set}
use Rattle.std.specs.List.{list_all}
use Rattle.std.proofs.Common.{get_or-set_same, get_or-set_other, length-set}
use Rattle.std.proofs.lemmas.Bool.Decides.{nat_tests}
use Rattle.anvil_bits.specs.Number.{Number}
use Rattle.core_term.specs.declared.process.CorePort.{CorePort}
use Rattle.core_term.specs.declared.process.CoreReg.{CoreReg}
use Rattle.core_term.specs.declared.rows.InCell.{InCell}
use Rattle.core_term.specs.declared.term.CoreTerm.{CoreTerm}
use Rattle.core_term.specs.Term.{Term, One, Then, Both, Act, Cycle, Set, Send, Recv, If, When, Block, Wait, Pure, Nothing, head}
use Rattle.core_term.specs.Numbering.{size, Numbered}
use Rattle.core_term.specs.Stands.{Stands, StandsIn, here, in_one, in_then, after_then, in_both, after_both, in_yes, in_no, in_when, in_block}
use Rattle.core_term.specs.Acts.{Sets}
use Rattle.core_term.specs.Process.{Thread, Process, IsThread, IsProcess, nth_port, nth_register, life_of}
use Rattle.core_term.specs.ProcessView.{port_of, register_of, widths_of}
use Rattle.core_term.specs.Sized.{expr_fits, term_fits, act_fits}
use Rattle.core_term.specs.View.{after_act, term_of}
use Rattle.core_term.specs.Widths.{Widths}
use Rattle.core_term.proofs.code_tables.Fits.{standing_fits, head_fits, thread_of_all}
use Rattle.run_laws.proofs.source_runs.Offers.{and_first, and_second}
use Rattle.exchanges.specs.Next.{Bounded}
use Rattle.sim_laws.specs.declared.act_state.ActState.{ActState}
use Rattle.sim_laws.specs.declared.act_state.Does.{Does}
use Rattle.sim_laws.specs.declared.act_state.Does.TheVariants as does
use Rattle.sim_laws.specs.declared.drive.Drive.{Drive}
use Rattle.sim_laws.specs.Advance.{zero_bit, state_at}
use Rattle.sim_laws.specs.Fitting.{Fitting}
use Rattle.sim_laws.specs.Kept.{Kept, widths_by, all_stepped, SameBodies}
use Rattle.sim_laws.specs.Passes.{drive_at, offer_send, offer_receive, drive_by, is_offered, drive_all, write_by, begins_now, write_all}
use Rattle.sim_laws.specs.SiteWidths.{site_widths}
use Rattle.sim_laws.specs.Stands.{step_threads}
use Rattle.sim_laws.specs.Typed.{TakeFits, Typed, term_in}
use Rattle.sim_laws.proofs.Bridge as bridge
use Rattle.sim_laws.proofs.Bridge.{Lists, Bridged}

-- Bodies.

lists_here : (widths : Widths) (list all : List ℕ) (low : ℕ) → ((k : ℕ) → k < length list → widths.variables (low + k) ≡ slice_index_or list k 0) → Lists widths low list
lists_here widths [] all low each = omega arith
lists_here widths (w ∷ list) all low each =
    let first : widths.variables low ≡ w = ap widths.variables (omega arith) ∙ each 0 (omega arith) in
    (first, lists_here widths list all (low + 1) (λ k l. ap widths.variables (omega arith) ∙ each (suc k) (omega arith)))

-- a body that fits its process is typed by the list of its widths, and read with that list it is the body of the process
module _ (p : Process) (ports : List CorePort) (regs : List CoreReg) (port_list : p.ports ≡ map port_of ports) (register_list : p.registers ≡ map register_of regs)
    (registers_wide : (r : ℕ) → r < length p.registers → 0 < (nth_register (map register_of regs) r).width) (ports_wide : (m : ℕ) → m < length p.ports → 0 < (nth_port (map port_of ports) m).width) where
  pub body_typed : (body : CoreTerm) (list : List ℕ) → list ≡ site_widths (widths_of (map port_of ports) (map register_of regs)) (term_of (widths_of (map port_of ports) (map register_of regs)) body)
      → Numbered [] 0 (term_of (widths_of (map port_of ports) (map register_of regs)) body) → term_fits p (widths_of (map port_of ports) (map register_of regs)) (term_of (widths_of (map port_of ports) (map register_of regs)) body) ≡ true
      → (term_of (widths_of (map port_of ports) (map register_of regs)) body ≡ term_in (widths_by ports regs list) body) × Typed (length list) (length p.registers) p.ports (widths_by ports regs list) (term_in (widths_by ports regs list) body)
  body_typed body list is numbered fits =
      let view = widths_of (map port_of ports) (map register_of regs) in
      let widths = widths_by ports regs list in
      let long : length list ≡ size (term_of view body) = ap (λ l. length l) is ∙ bridge.widths_long view (term_of view body) in
      let z =
      bridge.bridge p widths (length list) (λ r. ap (λ rs. (nth_register rs r).width) register_list) (λ m. ap (λ ps. (nth_port ps m).width) port_list) registers_wide ports_wide view [] 0 body
      (record { registers = λ r. refl; ports = λ m. refl; variables = λ y k. elim k [ ] }) (λ y k. elim k [ ]) numbered
      (subst (λ l. Lists widths 0 l) is (lists_here widths list list 0 (λ k l. ap widths.variables (omega arith)))) (omega arith) fits in
      (z.same, subst (Typed (length list) (length p.registers) p.ports widths) z.same z.typed)

-- Registers in range.

module _ (p : Process) where
  set_within : (widths : Widths) (a : Act) (r : ℕ) → act_fits p widths a ≡ true → Sets a r → r < length p.registers
  set_within widths (Set q n e) r k s = let z : nat_lt n (length p.registers) ≡ true = and_first _ _ k in subst (λ c. c < length p.registers) s (grind (arith, nat_tests))
  set_within widths (Cycle q n) r k s = elim s [ ]
  set_within widths (Send q n e) r k s = elim s [ ]
  set_within widths (Recv q n) r k s = elim s [ ]
  set_within widths (If q e t f w) r k s = elim s [ ]
  set_within widths (When q e t) r k s = elim s [ ]
  set_within widths (Block q t) r k s = elim s [ ]
  set_within widths (Wait q y) r k s = elim s [ ]
  set_within widths (Pure q e) r k s = elim s [ ]
  set_within widths (Nothing q) r k s = elim s [ ]

  -- a process that is one, with bodies that fit and ends of the code, is what a simulation needs
  pub fitting : IsProcess p → list_all (λ thread. term_fits p (widths_of p.ports p.registers) thread.body) p.threads ≡ true → ((m : ℕ) → m < length p.ports → Bounded (life_of p m)) → Fitting p
  fitting process fits bounded = record {
    process = process;
    in_range = λ j thread w r is k.
        let body = thread_of_all (λ thread. term_fits p (widths_of p.ports p.registers) thread.body) p.threads j thread is fits in
        let z = standing_fits p [] k.0 (widths_of p.ports p.registers) thread.body k.1 k.2 body in
        set_within z.0 (head k.1) r (head_fits p z.0 k.1 z.1) k.4;
    bounded = bounded;
  }

-- Widths of what is driven and written.

module _ (widths : Widths) where
  -- what each act that has begun takes has its width
  abbrev pub TakesFit : List ActState → Type 0
  TakesFit acts = (y : ℕ) → (state_at acts y).begun ≡ true → TakeFits widths (state_at acts y).does (state_at acts y).taken

  fits_rest : (act : ActState) (acts : List ActState) → TakesFit (act ∷ acts) → TakesFit acts
  fits_rest act acts k y = k (suc y)

  drive_one : (m : ℕ) (on : Bool) (d : Does) (v : Number) (drives : List Drive) → m < length drives → (on ≡ true → TakeFits widths d v) → (drive_at drives m).number.width ≡ widths.ports m → (drive_at (drive_by on d v drives) m).number.width ≡ widths.ports m
  drive_one m false d v drives l f k = k
  drive_one m true does.Nothing v drives l f k = k
  drive_one m true (does.Sets r) v drives l f k = k
  drive_one m true (does.Receives j) v drives l f k = go (j == m) refl
    where
      go : (b : Bool) → (j == m) ≡ b → (drive_at (slice_set drives j (offer_receive (drive_at drives j))) m).number.width ≡ widths.ports m
      go true e = let z : j ≡ m = grind (arith, nat_tests) in rw z (ap (λ x. x.number.width) (get_or-set_same drives m (offer_receive (drive_at drives m)) _ l) ∙ k)
      go false e = ap (λ x. x.number.width) (get_or-set_other drives j m _ _ (λ i. let y : (j == m) ≡ true = grind (arith, nat_tests) in let x : true ≡ false = sym y ∙ e in cc)) ∙ k
  drive_one m true (does.Sends j) v drives l f k = go (j == m) refl
    where
      one : (drive : Drive) → drive.number.width ≡ widths.ports m → v.width ≡ widths.ports m → (offer_send drive v).number.width ≡ widths.ports m
      one drive a b = pick drive.offered
        where
          pick : (c : Bool) → (if c then drive else record { offered = true; number = v }).number.width ≡ widths.ports m
          pick true = a
          pick false = b

      go : (b : Bool) → (j == m) ≡ b → (drive_at (slice_set drives j (offer_send (drive_at drives j) v)) m).number.width ≡ widths.ports m
      go true e =
          let z : j ≡ m = grind (arith, nat_tests) in
          let w : v.width ≡ widths.ports m = f refl ∙ ap widths.ports z in
          rw z (ap (λ x. x.number.width) (get_or-set_same drives m (offer_send (drive_at drives m) v) _ l) ∙ one (drive_at drives m) k w)
      go false e = ap (λ x. x.number.width) (get_or-set_other drives j m _ _ (λ i. let y : (j == m) ≡ true = grind (arith, nat_tests) in let x : true ≡ false = sym y ∙ e in cc)) ∙ k

  drive_count : (on : Bool) (d : Does) (v : Number) (drives : List Drive) → length (drive_by on d v drives) ≡ length drives
  drive_count false d v drives = refl
  drive_count true does.Nothing v drives = refl
  drive_count true (does.Sends k) v drives = length-set drives k _
  drive_count true (does.Receives k) v drives = length-set drives k _
  drive_count true (does.Sets r) v drives = refl

  pub drives_wide : (m : ℕ) (acts : List ActState) (drives : List Drive) → m < length drives → TakesFit acts → (drive_at drives m).number.width ≡ widths.ports m → (drive_at (drive_all acts drives) m).number.width ≡ widths.ports m
  drives_wide m [] drives l f k = k
  drives_wide m (act ∷ acts) drives l f k =
      let long : length (drive_by (is_offered act) act.does act.taken drives) ≡ length drives = drive_count (is_offered act) act.does act.taken drives in
      drives_wide m acts (drive_by (is_offered act) act.does act.taken drives) (omega arith) (fits_rest act acts f)
      (drive_one m (is_offered act) act.does act.taken drives l (λ e. f 0 (and_first act.begun _ e)) k)

  abbrev width_at : List Number → ℕ → ℕ
  width_at numbers r = (slice_index_or numbers r zero_bit).width

  write_one : (r : ℕ) (on : Bool) (d : Does) (v : Number) (numbers : List Number) → r < length numbers → (on ≡ true → TakeFits widths d v) → width_at numbers r ≡ widths.registers r → width_at (write_by on d v numbers) r ≡ widths.registers r
  write_one r false d v numbers l f k = k
  write_one r true does.Nothing v numbers l f k = k
  write_one r true (does.Sends m) v numbers l f k = k
  write_one r true (does.Receives m) v numbers l f k = k
  write_one r true (does.Sets q) v numbers l f k = go (q == r) refl
    where
      go : (b : Bool) → (q == r) ≡ b → width_at (slice_set numbers q v) r ≡ widths.registers r
      go true e =
          let z : q ≡ r = grind (arith, nat_tests) in
          let w : v.width ≡ widths.registers r = f refl ∙ ap widths.registers z in
          rw z (ap (λ x. x.width) (get_or-set_same numbers r v zero_bit l) ∙ w)
      go false e = ap (λ x. x.width) (get_or-set_other numbers q r v zero_bit (λ i. let y : (q == r) ≡ true = grind (arith, nat_tests) in let x : true ≡ false = sym y ∙ e in cc)) ∙ k

  write_count : (on : Bool) (d : Does) (v : Number) (numbers : List Number) → length (write_by on d v numbers) ≡ length numbers
  write_count false d v numbers = refl
  write_count true does.Nothing v numbers = refl
  write_count true (does.Sends m) v numbers = refl
  write_count true (does.Receives m) v numbers = refl
  write_count true (does.Sets q) v numbers = length-set numbers q v

  pub numbers_wide : (r : ℕ) (acts : List ActState) (numbers : List Number) → r < length numbers → TakesFit acts → width_at numbers r ≡ widths.registers r → width_at (write_all acts numbers) r ≡ widths.registers r
  numbers_wide r [] numbers l f k = k
  numbers_wide r (act ∷ acts) numbers l f k =
      let long : length (write_by (begins_now act) act.does act.taken numbers) ≡ length numbers = write_count (begins_now act) act.does act.taken numbers in
      numbers_wide r acts (write_by (begins_now act) act.does act.taken numbers) (omega arith) (fits_rest act acts f)
      (write_one r (begins_now act) act.does act.taken numbers l (λ e. f 0 (and_first act.begun _ e)) k)

-- All threads of the code are the threads of the process.

pub stepped_same : (ports : List CorePort) (regs : List CoreReg) (cells : List InCell) (numbers : List Number) (begun : Bool) (threads : List Thread) (bodies : List CoreTerm) (kept : List Kept) → SameBodies ports regs threads bodies kept
    → map (λ k. k.acts) (all_stepped ports regs cells numbers begun bodies kept) ≡ step_threads cells numbers threads begun (map (λ k. k.acts) kept)
stepped_same ports regs cells numbers begun [] [] [] k = refl
stepped_same ports regs cells numbers begun (thread ∷ threads) (body ∷ bodies) (x ∷ kept) k =
    rw (k.0, stepped_same ports regs cells numbers begun threads bodies kept k.1) refl
stepped_same ports regs cells numbers begun [] [] (x ∷ kept) k = absurd (omega arith)
stepped_same ports regs cells numbers begun [] (body ∷ bodies) kept k = absurd (omega arith)
stepped_same ports regs cells numbers begun (thread ∷ threads) [] kept k = absurd (omega arith)
stepped_same ports regs cells numbers begun (thread ∷ threads) (body ∷ bodies) [] k = absurd (omega arith)
