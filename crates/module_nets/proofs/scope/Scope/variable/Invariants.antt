use Rattle.std.proofs.Common.{◌≡◌, drop}
use Rattle.module_nets.specs.Signals.{no_signal, variable_in}
use Rattle.module_nets.proofs.scope.Scope.variable.Given as goal

abbrev pub invariant-loop-variable : goal.invariant-loop-variable
invariant-loop-variable l = variable_in l.found (drop l.variable-index l.variable-items) l.number ≡ variable_in no_signal l.variable-items l.number
