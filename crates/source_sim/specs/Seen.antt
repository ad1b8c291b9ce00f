-- A simulation, as contracts see it, and what it keeps.
use Rattle.std.specs.Prelude.{ℕ, ◌≡◌, ◌<◌, List, length, map}
use Rattle.core_term.specs.declared.process.CorePort.{CorePort}
use Rattle.core_term.specs.declared.process.CoreReg.{CoreReg}
use Rattle.core_term.specs.declared.rows.OutRow.{OutRow}
use Rattle.core_term.specs.declared.term.CoreTerm.{CoreTerm}
use Rattle.core_term.specs.Process.{Process, nth_port}
use Rattle.core_term.specs.ProcessView.{port_of, process_of}
use Rattle.source_sim.specs.declared.sim.Sim.TheInside.{Inside}
use Rattle.exchanges.specs.Lives.{lives_of}
use Rattle.sim_laws.specs.Kept.{Kept, AllReady, SameBodies}
use Rattle.sim_laws.specs.Stands.{State, latest_at}
use Rattle.sim_laws.specs.Typed.{AreRegisters}

-- the parts of the process that is run, as the code has them, and what is kept of its run
pub record Seen : Type 0 where
  pub name : List ℕ
  pub ports : List CorePort
  pub regs : List CoreReg
  pub bodies : List CoreTerm
  pub state : State

-- the process that is run
abbrev pub process_in : Seen → Process
process_in s = process_of s.name s.ports s.regs s.bodies

abbrev pub seen_of : Inside → Seen
seen_of s = record {
  name = s.proc.now.name;
  ports = s.proc.now.ports.items;
  regs = s.proc.now.regs.items;
  bodies = s.proc.now.threads.items;
  state = record { begun = s.begun; threads = map (λ kept. kept.acts) s.threads.items; registers = s.registers.items; latests = s.latests.items };
}

-- what a simulation keeps between its cycles
pub record IsSim (s : Inside) : Type 0 where
  pub ready : AllReady s.proc.now.ports.items s.proc.now.regs.items (length s.registers.items) s.proc.now.threads.items s.threads.items
  pub bodies : SameBodies s.proc.now.ports.items s.proc.now.regs.items (process_of s.proc.now.name s.proc.now.ports.items s.proc.now.regs.items s.proc.now.threads.items).threads s.proc.now.threads.items s.threads.items
  pub registers : AreRegisters s.proc.now.regs.items s.registers.items
  pub lives : s.lives ≡ lives_of (map port_of s.proc.now.ports.items)
  pub latests : length s.latests.items ≡ length s.proc.now.ports.items
  pub latests_wide : (m : ℕ) → m < length s.proc.now.ports.items → (latest_at s.latests.items m).number.width ≡ (nth_port (map port_of s.proc.now.ports.items) m).width
  pub drives : length s.drives.items ≡ length s.proc.now.ports.items
  pub exchanged : length s.exchanged.items ≡ length s.proc.now.ports.items

-- one cell for each port, and one place for each register
abbrev pub HasRoom : Process → OutRow → Type 0
HasRoom p row = (length row.cells.items ≡ length p.ports) × (length row.regs.items ≡ length p.registers)
