-- The lives so far are copied.
use Rattle.std.proofs.Common.{◌≡◌, map, take}
use Rattle.core_term.specs.ProcessView.{port_of}
use Rattle.exchanges.specs.Lives.{life_kept, lives_of}
use Rattle.exchanges.proofs.lives.Lives.of.Given as goal

abbrev pub invariant-loop-port : goal.invariant-loop-port
invariant-loop-port l = map life_kept l.ends.items ≡ take l.port (lives_of (map port_of l.proc.ports.items))
