-- What the code knows where an act stands, as the scope of the definitions.
use Rattle.std.specs.Prelude.{ℕ, ◌==◌, if◌then◌else◌, List, [], map}
use Rattle.core_term.specs.declared.process.CoreReg.{CoreReg}
use Rattle.core_term.specs.ProcessView.{port_of, register_of, widths_of}
use Rattle.core_file.specs.Scope as definition
use Rattle.core_file.specs.Scope.{Bound, bind}
use Rattle.expr_check.specs.declared.made.Made.{Made, Nothing, Act'}
use Rattle.expr_check.specs.declared.scope.Known.{Known}
use Rattle.expr_check.specs.declared.scope.Scope.{Scope}

-- the variables, innermost first
abbrev pub variables_of : Made → List Bound
variables_of Nothing = []
variables_of (Act' name site width pointer outer) = bind name.now site (variables_of outer)

-- the width of the value of the act of a site
abbrev pub width_at : Made → ℕ → ℕ
width_at Nothing wanted = 0
width_at (Act' name site width pointer outer) wanted = if wanted == site then width else width_at outer wanted

-- with the parts of the process that are known, and these acts made
abbrev pub scope_with : Known → Made → definition.Scope
scope_with known made = record {
  endpoints = known.endpoints.keys;
  ports = map port_of known.ports;
  registers = map (λ (register : CoreReg). register.name) known.registers;
  variables = variables_of made;
  widths = record {
    registers = (widths_of (map port_of known.ports) (map register_of known.registers)).registers;
    ports = (widths_of (map port_of known.ports) (map register_of known.registers)).ports;
    variables = λ y. width_at made y;
  };
}

unfoldable pub scope_of : Scope → definition.Scope
scope_of scope = scope_with scope.known.now scope.made.now
