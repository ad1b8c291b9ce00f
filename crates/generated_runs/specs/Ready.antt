-- What a process needs to be run on rows of the generated file.
use Rattle.std.specs.Prelude.{◌≡◌}
use Rattle.core_term.specs.Process.{Process}
use Rattle.core_term.specs.Rules.{KeepsDemands}
use Rattle.generated_tree.specs.Ports.{generated_ports}

-- it has the ports of a generated process, and keeps the timing rules
pub record IsReady (p : Process) : Type 0 where
  pub ports : p.ports ≡ generated_ports
  pub keeps : KeepsDemands p
