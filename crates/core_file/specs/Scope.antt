-- What is known where an act stands: the endpoints, ports and registers of its process, the variables in scope, and
-- the widths of all; and the number that a name stands for. A name that is not known stands for some number, and a
-- check of it fails.
use Rattle.std.specs.Prelude.{ℕ, Bool, ◌&&◌, if◌then◌else◌, List, [], ◌∷◌, Option, Some, None, bytes_eq}
use Rattle.std.specs.List.{list_any, position_or_len}
use Rattle.anvil_tree.specs.Tree.{Name}
use Rattle.core_term.specs.Term.{Act}
use Rattle.core_term.specs.Process.{Port}
use Rattle.core_term.specs.View.{after_act}
use Rattle.core_term.specs.Widths.{Widths}

-- a variable in scope, with the site of the act that makes it
pub record Bound : Type 0 where
  pub name : Name
  pub site : ℕ

-- names of endpoints and registers in the order of the text, ports in their order, variables innermost first
pub record Scope : Type 0 where
  pub endpoints : List Name
  pub ports : List Port
  pub registers : List Name
  pub variables : List Bound
  pub widths : Widths

abbrev pub is_among : List Name → Name → Bool
is_among names name = list_any (bytes_eq name) names

-- the number of the first of the name
abbrev pub number_among : List Name → Name → ℕ
number_among names name = position_or_len (bytes_eq name) names

abbrev pub is_bound : List Bound → Name → Bool
is_bound variables name = list_any (λ (bound : Bound). bytes_eq name bound.name) variables

-- the site of the innermost variable of the name
abbrev pub site_of : List Bound → Name → ℕ
site_of [] name = 0
site_of (bound ∷ outer) name = if bytes_eq name bound.name then bound.site else site_of outer name

abbrev pub is_port : Name → Name → Port → Bool
is_port endpoint message port = bytes_eq endpoint port.endpoint && bytes_eq message port.message

abbrev pub is_known_port : Scope → Name → Name → Bool
is_known_port scope endpoint message = list_any (is_port endpoint message) scope.ports

-- the number of the port of an endpoint and a message
abbrev pub port_number : Scope → Name → Name → ℕ
port_number scope endpoint message = position_or_len (is_port endpoint message) scope.ports

-- with the act of the site bound to the name of a `let`, if there is one
abbrev pub bind : Option Name → ℕ → List Bound → List Bound
bind None site variables = variables
bind (Some name) site variables = record { name = name; site = site } ∷ variables

-- in the rest of a chain, after the act of the site
abbrev pub after : Scope → Option Name → ℕ → Act → Scope
after scope bound site act = record {
  endpoints = scope.endpoints;
  ports = scope.ports;
  registers = scope.registers;
  variables = bind bound site scope.variables;
  widths = after_act scope.widths act;
}
