-- A step, in its parts: what each call has made is gathered once, as `Made`, and the laws of `sim_laws` speak of that.
use Rattle.std.proofs.Common.{◌≡◌, ◌∙◌, ◌++◌, ◌∷◌, [], sym, subst, ap, arith, length, map, IsTrue, true}
use Rattle.std.specs.List.{slice_get}
use Rattle.core_term.specs.ProcessView.{port_of, register_of}
use Rattle.core_term.specs.History.{history}
use Rattle.core_term.specs.Outputs.{wires}
use Rattle.core_term.specs.Rows.{row_fits, cells_shown, registers_shown}
use Rattle.exchanges.proofs.LivesKept.{life_at, lives_count}
use Rattle.sim_laws.specs.Stands.{State, StandsAfter, shown_cells, next_latests}
use Rattle.sim_laws.proofs.Counts.{map_count, fit_long, shown_count}
use Rattle.sim_laws.proofs.StepMade.{Made, stands_made, cells_made, registers_seen, registers_after, ready_after, bodies_after, drives_count, exchanged_count, latests_after_count, latests_after_wide}
use Rattle.source_sim.specs.Seen.{process_in, HasRoom}
use Rattle.source_sim.proofs.Fills.{ports_few}
use Rattle.source_sim.proofs.sim.Sim.step.Goals as goal

pub step_all-requires-clause-ready : goal.step_all-requires-clause-ready
step_all-requires-clause-ready c = rw c.as_slice-2.ensures.value c.self.invariant.ready

pub step_all-requires-clause-registers : goal.step_all-requires-clause-registers
step_all-requires-clause-registers c = rw c.as_slice-2.ensures.value c.self.invariant.registers

pub step_all-requires-clause-cells : goal.step_all-requires-clause-cells
step_all-requires-clause-cells c = rw c.as_slice.ensures.value (subst (λ s. IsTrue (row_fits (process_in s).ports c.args.row.now)) (sym c.self.view_is) c.requires.row)

pub drive-requires-clause-all : goal.drive-requires-clause-all
drive-requires-clause-all c = rw c.as_slice-3.ensures.value c.self.invariant.drives

pub drive-requires-clause-fit : goal.drive-requires-clause-fit
drive-requires-clause-fit c = rw c.as_slice-3.ensures.value (ports_few c.self.inside.proc.now.name c.self.inside.proc.now.ports.items c.self.inside.proc.now.regs.items c.self.inside.proc.now.threads.items c.self.inside.proc.now.sized).1

pub meet-requires-clause-drives : goal.meet-requires-clause-drives
meet-requires-clause-drives c =
    let count = rw c.as_slice-3.ensures.value at c.drive.ensures.all in
    let fits = fit_long (map port_of c.self.inside.proc.now.ports.items) c.args.row.now.cells.items (subst (λ s. IsTrue (row_fits (process_in s).ports c.args.row.now)) (sym c.self.view_is) c.requires.row) in
    let ports = map_count port_of c.self.inside.proc.now.ports.items in
    rw (c.as_slice-5.ensures.value, c.as_slice-6.ensures.value) (omega (arith, count, fits, ports))

pub meet-requires-clause-exchanged : goal.meet-requires-clause-exchanged
meet-requires-clause-exchanged c =
    let fits = fit_long (map port_of c.self.inside.proc.now.ports.items) c.args.row.now.cells.items (subst (λ s. IsTrue (row_fits (process_in s).ports c.args.row.now)) (sym c.self.view_is) c.requires.row) in
    let ports = map_count port_of c.self.inside.proc.now.ports.items in
    rw c.as_slice-5.ensures.value (omega (arith, fits, ports, c.self.invariant.exchanged))

pub show-requires-clause-fit : goal.show-requires-clause-fit
show-requires-clause-fit c = rw c.as_slice-7.ensures.value (ports_few c.self.inside.proc.now.name c.self.inside.proc.now.ports.items c.self.inside.proc.now.regs.items c.self.inside.proc.now.threads.items c.self.inside.proc.now.sized).1

pub show-requires-clause-drives : goal.show-requires-clause-drives
show-requires-clause-drives c =
    let count = rw c.as_slice-3.ensures.value at c.drive.ensures.all in
    rw (c.as_slice-7.ensures.value, c.as_slice-8.ensures.value) count

pub show-requires-clause-latests : goal.show-requires-clause-latests
show-requires-clause-latests c = rw (c.as_slice-7.ensures.value, c.as_slice-9.ensures.value) c.self.invariant.latests

pub show-requires-clause-cells : goal.show-requires-clause-cells
show-requires-clause-cells c =
    let room = subst (λ s. HasRoom (process_in s) c.args.out.now) (sym c.self.view_is) c.requires.room in
    rw c.as_slice-7.ensures.value (room.0 ∙ map_count port_of c.self.inside.proc.now.ports.items)

pub pass-requires-clause-drives : goal.pass-requires-clause-drives
pass-requires-clause-drives c =
    let count = rw c.as_slice-3.ensures.value at c.drive.ensures.all in
    let lives = ap (λ l. length l) c.self.invariant.lives ∙ lives_count c.self.inside.proc.now.ports.items in
    rw c.as_slice-12.ensures.value (count ∙ sym lives)

pub pass-requires-clause-exchanged : goal.pass-requires-clause-exchanged
pass-requires-clause-exchanged c =
    let count = rw c.as_slice-5.ensures.value at c.meet.ensures.all in
    let fits = fit_long (map port_of c.self.inside.proc.now.ports.items) c.args.row.now.cells.items (subst (λ s. IsTrue (row_fits (process_in s).ports c.args.row.now)) (sym c.self.view_is) c.requires.row) in
    let ports = map_count port_of c.self.inside.proc.now.ports.items in
    let lives = ap (λ l. length l) c.self.invariant.lives ∙ lives_count c.self.inside.proc.now.ports.items in
    rw c.as_slice-11.ensures.value (count ∙ (fits ∙ (ports ∙ sym lives)))

pub pass-requires-clause-latests : goal.pass-requires-clause-latests
pass-requires-clause-latests c =
    let lives = ap (λ l. length l) c.self.invariant.lives ∙ lives_count c.self.inside.proc.now.ports.items in
    c.self.invariant.latests ∙ sym lives

-- what the calls of the step have made
abbrev made : (c : goal.After-self-1) → Made
made c = record {
  name = c.self.inside.proc.now.name;
  ports = c.self.inside.proc.now.ports.items;
  regs = c.self.inside.proc.now.regs.items;
  bodies = c.self.inside.proc.now.threads.items;
  sized = c.self.inside.proc.now.sized;
  process = c.stands.ensures;
  bounded = λ m within. c.pass.ensures.bounded m _ (ap (λ lives. slice_get lives m) c.self.invariant.lives ∙ life_at c.self.inside.proc.now.ports.items m within);
  row = c.args.row.now;
  fits = subst (λ s. IsTrue (row_fits (process_in s).ports c.args.row.now)) (sym c.self.view_is) c.requires.row;
  begun = c.self.inside.begun;
  threads = c.self.inside.threads.items;
  registers = c.self.inside.registers.items;
  latests = c.self.inside.latests.items;
  bodies_same = c.self.invariant.bodies;
  register_widths = c.self.invariant.registers;
  latest_count = c.self.invariant.latests;
  latest_widths = c.self.invariant.latests_wide;
  threads' = c.step_all.new.threads.items;
  drives' = c.drive.new.drives.items;
  exchanged' = c.meet.new.exchanged.items;
  latests' = c.pass.new.latests.items;
  registers' = c.write.new.registers.items;
  ready = rw c.as_slice-2.ensures.value at c.step_all.ensures.ready;
  threads_made = rw (c.as_slice.ensures.value, c.as_slice-2.ensures.value) at c.step_all.ensures.next;
  drives_made = rw (c.as_slice-3.ensures.value, c.as_slice-4.ensures.value) at c.drive.ensures.next;
  exchanged_made = rw (c.as_slice-5.ensures.value, c.as_slice-6.ensures.value) at c.meet.ensures.next;
  latests_made = (rw (c.as_slice-11.ensures.value, c.as_slice-12.ensures.value) at c.pass.ensures.next)
      ∙ ap (λ lives. next_latests c.meet.new.exchanged.items c.meet.new.exchanged.items lives c.drive.new.drives.items c.self.inside.latests.items) c.self.invariant.lives;
  registers_made = rw c.as_slice-13.ensures.value at c.write.ensures;
}

pub invariant_of-self : goal.invariant_of-self
invariant_of-self c = record {
  ready = ready_after (made c);
  bodies = bodies_after (made c);
  registers = registers_after (made c);
  lives = c.self.invariant.lives;
  latests = latests_after_count (made c);
  latests_wide = latests_after_wide (made c);
  drives = drives_count (made c);
  exchanged = exchanged_count (made c);
}

pub returns-clause-room : goal.returns-clause-room
returns-clause-room c =
    let ports = c.self.inside.proc.now.ports.items in
    let cells = rw (c.as_slice-7.ensures.value, c.as_slice-8.ensures.value, c.as_slice-9.ensures.value) at c.show.ensures in
    let numbers = rw c.as_slice-10.ensures.value at c.show_all.ensures in (
      ap (λ l. length l) cells ∙ (shown_count ports c.drive.new.drives.items c.self.inside.latests.items (drives_count (made c)) c.self.invariant.latests ∙ sym (map_count port_of ports)),
      ap (λ l. length l) numbers ∙ (c.self.invariant.registers.long ∙ sym (map_count register_of c.self.inside.proc.now.regs.items)),
    )

pub returns-clause-stands : goal.returns-clause-stands
returns-clause-stands c = λ rows stands.
    let after : State = record { begun = true; threads = map (λ k. k.acts) c.step_all.new.threads.items; registers = c.write.new.registers.items; latests = c.pass.new.latests.items } in
    subst (λ s. StandsAfter (process_in s) (rows ++ c.args.row.now ∷ []) after) c.self.view_is (stands_made (made c) rows (subst (λ s. StandsAfter (process_in s) rows s.state) (sym c.self.view_is) stands))

pub returns-clause-cells : goal.returns-clause-cells
returns-clause-cells c = λ rows stands inputs begins.
    rw (c.as_slice-7.ensures.value, c.as_slice-8.ensures.value, c.as_slice-9.ensures.value) at c.show.ensures
    ∙ subst (λ s. shown_cells (map port_of c.self.inside.proc.now.ports.items) c.drive.new.drives.items c.self.inside.latests.items ≡ cells_shown (wires (process_in s) inputs (history (process_in s) inputs)) (length rows) 0 (process_in s).ports) c.self.view_is
    (cells_made (made c) rows (subst (λ s. StandsAfter (process_in s) rows s.state) (sym c.self.view_is) stands) inputs begins)

pub returns-clause-regs : goal.returns-clause-regs
returns-clause-regs c = λ rows stands inputs begins.
    rw c.as_slice-10.ensures.value at c.show_all.ensures
    ∙ subst (λ s. c.self.inside.registers.items ≡ registers_shown (history (process_in s) inputs) (length rows) 0 (process_in s).registers) c.self.view_is
    (registers_seen (made c) rows (subst (λ s. StandsAfter (process_in s) rows s.state) (sym c.self.view_is) stands) inputs begins)
