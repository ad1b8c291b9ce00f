-- The core process that a process of the tree is, with the classes of its file: its ports in the order of the
-- endpoints and then of the messages of their classes, its registers with what they show in cycle 0, and its threads.
-- It counts only where no check of the process fails.
use Rattle.std.specs.Prelude.{ℕ, ◌+◌, Bool, true, false, if◌then◌else◌, List, [], ◌∷◌, ◌++◌, Option, Some, None, map, bytes_eq, length}
use Rattle.anvil_tree.specs.declared.file.Endpoint.{Endpoint}
use Rattle.anvil_tree.specs.declared.file.Register.{Register}
use Rattle.anvil_tree.specs.declared.file.LiteralText.{LiteralText}
use Rattle.anvil_tree.specs.declared.file.Side.{Side}
use Rattle.anvil_tree.specs.declared.file.Side.TheVariants.{Left, Right}
use Rattle.anvil_tree.specs.Tree as tree
use Rattle.anvil_tree.specs.Tree.{Name}
use Rattle.core_term.specs.Numbering.{size}
use Rattle.core_term.specs.Process as core
use Rattle.core_term.specs.ProcessView.{widths_of}
use Rattle.channel_classes.specs.declared.message.ClassLife.{ClassLife}
use Rattle.channel_classes.specs.declared.message.ClassLife.TheVariants as life
use Rattle.channel_classes.specs.declared.message.ClassMessage.{ClassMessage}
use Rattle.channel_classes.specs.Classes.{Class}
use Rattle.core_file.specs.Scope.{Scope}
use Rattle.core_file.specs.CoreTerm.{core_term}

-- the messages of the class of the name
abbrev pub messages_in : List Class → Name → List ClassMessage
messages_in [] name = []
messages_in (class ∷ classes) name = if bytes_eq name class.name then class.messages else messages_in classes name

-- the holder of a side receives what travels toward it
abbrev pub is_toward : Side → Side → Bool
is_toward Left Left = true
is_toward Right Right = true
is_toward toward side = false

-- an ending message is a port too: the endpoint's ports begin with the number `base`
abbrev pub life_of : ℕ → ClassLife → core.LifeEnd
life_of base (life.Cycles count) = core.Cycles count
life_of base (life.Until message) = core.Until (base + message)

abbrev pub port_of : Endpoint → ℕ → ClassMessage → core.Port
port_of endpoint base message = record {
  endpoint = endpoint.name;
  message = message.name;
  received = is_toward message.toward endpoint.side;
  width = message.width;
  life = life_of base message.life ∷ [];
}

-- the ports of the endpoints, from the number `base` on
abbrev pub ports_of : List Class → ℕ → List Endpoint → List core.Port
ports_of classes base [] = []
ports_of classes base (endpoint ∷ endpoints) =
    map (port_of endpoint base) (messages_in classes endpoint.class)
    ++ ports_of classes (base + length (messages_in classes endpoint.class)) endpoints

-- a register without a literal resets to 0
abbrev pub reset_of : Option LiteralText → ℕ
reset_of None = 0
reset_of (Some literal) = literal.value

abbrev pub register_of : Register → core.Register
register_of register = record { name = register.name; width = register.width; reset = reset_of register.reset }

-- what is known where a thread begins
abbrev pub scope_of : List Class → tree.Process → Scope
scope_of classes written = record {
  endpoints = map (λ (endpoint : Endpoint). endpoint.name) written.endpoints;
  ports = ports_of classes 0 written.endpoints;
  registers = map (λ (register : Register). register.name) written.registers;
  variables = [];
  widths = widths_of (ports_of classes 0 written.endpoints) (map register_of written.registers);
}

-- a thread in a scope
abbrev pub thread_from : Scope → tree.Term → core.Thread
thread_from scope thread = record { body = core_term scope 0 thread; count = size (core_term scope 0 thread) }

abbrev pub core_process : List Class → tree.Process → core.Process
core_process classes written = record {
  name = written.name;
  ports = ports_of classes 0 written.endpoints;
  registers = map register_of written.registers;
  threads = map (thread_from (scope_of classes written)) written.threads;
}
