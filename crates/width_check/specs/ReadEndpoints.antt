-- The endpoints of a process that were read: no check of them fails, and their names and ports are those of the definition. Or why they
-- were not read.
use Rattle.std.specs.Prelude.{◌≡◌, ◌⊎◌, ◌≤◌, ◌++◌, ⊤, ℕ, false, [], None, Some, List, length, map}
use Rattle.anvil_tree.specs.declared.file.Endpoint.{Endpoint}
use Rattle.anvil_tree.specs.Tree.{Name}
use Rattle.core_term.specs.declared.process.CorePort.{CorePort}
use Rattle.core_term.specs.Limits.{most_ports}
use Rattle.core_term.specs.ProcessView as core
use Rattle.first_check.specs.Check.{first_refusal}
use Rattle.channel_classes.specs.Classes.{Class}
use Rattle.channel_classes.specs.declared.message.ClassLife.{ClassLife}
use Rattle.channel_classes.specs.declared.message.ClassLife.TheVariants as life
use Rattle.channel_classes.specs.declared.message.ClassMessage.{ClassMessage}
use Rattle.core_file.specs.Scope.{is_among}
use Rattle.core_file.specs.CoreProcess.{messages_in, port_of, ports_of}
use Rattle.core_file.specs.ProcessChecks.{endpoint_checks, endpoints_checks}
use Rattle.core_file.specs.declared.error.NameErr.{NameErr}
use Rattle.core_file.specs.declared.error.NameErr.TheVariants.{NoMemory}

-- an ending message has a small number
abbrev pub LifeWithin : ClassLife → Type 0
LifeWithin (life.Cycles count) = ⊤
LifeWithin (life.Until number) = number ≤ most_ports

abbrev pub EndsWithin : ClassMessage → Type 0
EndsWithin message = LifeWithin message.life

-- an endpoint behind those of the names, with its ports behind the earlier ones
pub record EndpointRead (classes : List Class) (names : List Name) (ports : List CorePort) (written : Endpoint) (more : List CorePort) : Type 0 where
  pub passes : first_refusal (endpoint_checks classes names (length ports) written) ≡ None
  pub fresh : is_among names written.name ≡ false
  pub same : map core.port_of more ≡ map core.port_of ports ++ map (port_of written (length ports)) (messages_in classes written.class)

pub record EndpointFails (classes : List Class) (names : List Name) (base : ℕ) (written : Endpoint) (fault : NameErr) : Type 0 where
  pub why : (fault ≡ NoMemory) ⊎ (first_refusal (endpoint_checks classes names base written) ≡ Some fault)

pub record EndpointsRead (classes : List Class) (written : List Endpoint) (names : List Name) (ports : List CorePort) : Type 0 where
  pub passes : first_refusal (endpoints_checks classes [] 0 written) ≡ None
  pub named : names ≡ map (λ (endpoint : Endpoint). endpoint.name) written
  pub same : map core.port_of ports ≡ ports_of classes 0 written

pub record EndpointsFail (classes : List Class) (written : List Endpoint) (fault : NameErr) : Type 0 where
  pub why : (fault ≡ NoMemory) ⊎ (first_refusal (endpoints_checks classes [] 0 written) ≡ Some fault)
