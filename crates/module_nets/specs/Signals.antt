-- Signals by their numbers: those of the registers, of the data of the ports, of the sides of the `if`s, and of the
-- variables; and what they show, as a value that is read again sees it.
use Rattle.std.specs.Prelude.{◌==◌, ℕ, ◌<◌, if◌then◌else◌, List, [], ◌∷◌, length, slice_index_or}
use Rattle.core_term.specs.Widths.{Widths}
use Rattle.core_term.specs.Again.{Sight}
use Rattle.sv_tree.specs.declared.tree.SvOperand.TheVariants.{Lit}
use Rattle.sv_tree.specs.Module.{Module}
use Rattle.module_nets.specs.declared.signal.Signal.{Signal}
use Rattle.module_nets.specs.declared.scope.Variable.{Variable}
use Rattle.module_nets.specs.declared.scope.Scope.{Scope}
use Rattle.module_nets.specs.Netlist.{Stands}
use Rattle.module_nets.specs.Shown.{Moment, shown}
use Rattle.module_nets.specs.Bits.{IsBit, told}

-- what stands for a value that is unit
abbrev pub no_signal : Signal
no_signal = record { operand = Lit (record { width = 1; value = 0 }); width = 0 }

abbrev pub signal_at : List Signal → ℕ → Signal
signal_at signals place = slice_index_or signals place no_signal

-- the value of a variable: that of the last that has its number, or the one given
abbrev pub variable_in : Signal → List Variable → ℕ → Signal
variable_in other [] number = other
variable_in other (variable ∷ rest) number =
    variable_in (if number == variable.site then variable.value else other) rest number

abbrev pub widths_in : (registers ports : List Signal) → List Variable → Widths
widths_in registers ports variables = record {
  registers = λ register. (signal_at registers register).width;
  ports = λ port. (signal_at ports port).width;
  variables = λ variable. (variable_in no_signal variables variable).width;
}

abbrev pub sight_in : Moment → (registers ports sides : List Signal) → Sight
sight_in now registers ports sides = record {
  wire = λ port. shown now (signal_at ports port);
  register = λ register. shown now (signal_at registers register);
  side = λ site. told now (signal_at sides site);
}

-- what the variables show
abbrev pub shown_in : Moment → List Variable → ℕ → ℕ
shown_in now variables number = shown now (variable_in no_signal variables number)

abbrev pub widths_of : Scope → Widths
widths_of scope = widths_in scope.registers.now scope.ports.now scope.variables.now

abbrev pub sight_of : Moment → Scope → Sight
sight_of now scope = sight_in now scope.registers.now scope.ports.now scope.sides.now

abbrev pub variables_shown : Moment → Scope → ℕ → ℕ
variables_shown now scope = shown_in now scope.variables.now

-- every signal stands that has a width
pub record PlacesStand (old : Module) (registers ports sides : List Signal) : Type 0 where
  pub registers_stand : (register : ℕ) → register < length registers → Stands old (signal_at registers register)
  pub ports_stand : (port : ℕ) → 0 < (signal_at ports port).width → Stands old (signal_at ports port)
  pub sides_stand : (site : ℕ) → site < length sides → IsBit old (signal_at sides site)

abbrev pub VariablesStand : Module → List Variable → Type 0
VariablesStand old variables =
    (number : ℕ) → 0 < (variable_in no_signal variables number).width
    → Stands old (variable_in no_signal variables number)

pub record AllStand (old : Module) (scope : Scope) : Type 0 where
  pub places : PlacesStand old scope.registers.now scope.ports.now scope.sides.now
  pub variables : VariablesStand old scope.variables.now
