-- What the checks of a process say where none fails, as facts on its endpoints and registers; and that its ports are
-- within the limits.
use Rattle.std.proofs.Common.{◌≡◌, ℕ, ◌+◌, ◌^◌, ◌==◌, nat_lt, nat_le, true, false, List, [], ◌∷◌, ◌++◌, Option, Some, None, length}
use Rattle.std.specs.Prelude.{⊤}
use Rattle.anvil_lexer.specs.GoodName.{is_good_name}
use Rattle.anvil_tree.specs.declared.file.Endpoint.{Endpoint}
use Rattle.anvil_tree.specs.declared.file.Register.{Register}
use Rattle.anvil_tree.specs.declared.file.LiteralText.{LiteralText}
use Rattle.anvil_tree.specs.Tree as tree
use Rattle.anvil_tree.specs.Tree.{Name, File, class, process}
use Rattle.core_term.specs.Limits.{most_ports}
use Rattle.first_check.specs.Check.{AllHold}
use Rattle.first_check.proofs.Walks.{left_hold, right_hold}
use Rattle.channel_classes.specs.Classes.{Class}
use Rattle.core_file.specs.Scope.{is_among}
use Rattle.core_file.specs.CoreProcess.{messages_in, scope_of}
use Rattle.core_file.specs.Refused.{is_width}
use Rattle.core_file.specs.ThreadChecks.{none_taken}
use Rattle.core_file.specs.ProcessChecks.{is_known_class, endpoints_checks, reset_checks, registers_checks, process_checks, items_checks}
use Rattle.core_file.proofs.Apart.{not_false}
use Rattle.core_file.proofs.Held.{ThreadsHeld, threads_held}

-- the endpoints after those of the names, which have `base` ports
abbrev pub EndpointsHeld : List Class → List Name → ℕ → List Endpoint → Type 0
EndpointsHeld classes before base [] = ⊤
EndpointsHeld classes before base (endpoint ∷ endpoints) =
    (is_good_name endpoint.name ≡ true) × (is_among before endpoint.name ≡ false) × (is_known_class classes endpoint.class ≡ true)
    × (nat_le (base + length (messages_in classes endpoint.class)) most_ports ≡ true)
    × EndpointsHeld classes (before ++ (endpoint.name ∷ [])) (base + length (messages_in classes endpoint.class)) endpoints

abbrev pub ResetHeld : ℕ → Option LiteralText → Type 0
ResetHeld width None = ⊤
ResetHeld width (Some literal) = (is_width literal.width ≡ true) × (nat_lt literal.value (2 ^ literal.width) ≡ true)
    × ((width == literal.width) ≡ true)

abbrev pub RegistersHeld : List Name → List Register → Type 0
RegistersHeld before [] = ⊤
RegistersHeld before (register ∷ registers) =
    (is_good_name register.name ≡ true) × (is_among before register.name ≡ false) × (is_width register.width ≡ true)
    × ResetHeld register.width register.reset × RegistersHeld (before ++ (register.name ∷ [])) registers

pub record ProcessHeld (classes : List Class) (before : List Name) (written : tree.Process) : Type 0 where
  pub good : is_good_name written.name ≡ true
  pub new : is_among before written.name ≡ false
  pub endpoints : EndpointsHeld classes [] 0 written.endpoints
  pub registers : RegistersHeld [] written.registers
  pub threads : ThreadsHeld (scope_of classes written) none_taken written.threads

endpoints_held : (classes : List Class) (before : List Name) (base : ℕ) (endpoints : List Endpoint)
    → AllHold (endpoints_checks classes before base endpoints)
    → EndpointsHeld classes before base endpoints
endpoints_held classes before base [] hold = tt
endpoints_held classes before base (endpoint ∷ endpoints) hold = (
  hold.0,
  not_false _ hold.1.0,
  hold.1.1.0,
  hold.1.1.1.0,
  endpoints_held classes (before
      ++ (endpoint.name ∷ [])) (base + length (messages_in classes endpoint.class)) endpoints hold.1.1.1.1,
)

reset_held : (width : ℕ) (reset : Option LiteralText) → AllHold (reset_checks width reset) → ResetHeld width reset
reset_held width None hold = tt
reset_held width (Some literal) hold = (hold.0, hold.1.0, hold.1.1.0)

registers_held : (before : List Name) (registers : List Register) → AllHold (registers_checks before registers)
    → RegistersHeld before registers
registers_held before [] hold = tt
registers_held before (register ∷ registers) hold =
    let behind = hold.1.1.1 in (
      hold.0,
      not_false _ hold.1.0,
      hold.1.1.0,
      reset_held register.width register.reset (left_hold (reset_checks register.width register.reset) _ behind),
      registers_held (before
          ++ (register.name ∷ [])) registers (right_hold (reset_checks register.width register.reset) _ behind),
    )

pub process_held : (classes : List Class) (before : List Name) (written : tree.Process)
    → AllHold (process_checks classes before written) → ProcessHeld classes before written
process_held classes before written hold =
    let parts = hold.1.1 in
    let behind = right_hold (endpoints_checks classes [] 0 written.endpoints) _ parts in
    record {
      good = hold.0;
      new = not_false _ hold.1.0;
      endpoints =
          endpoints_held classes [] 0 written.endpoints (left_hold (endpoints_checks classes [] 0 written.endpoints) _ parts);
      registers = registers_held [] written.registers (left_hold (registers_checks [] written.registers) _ behind);
      threads = threads_held (scope_of classes written) none_taken written.threads (right_hold (registers_checks [] written.registers) _ behind);
    }

-- the processes of a file
abbrev pub FileHeld : List Class → List Name → File → Type 0
FileHeld classes before [] = ⊤
FileHeld classes before (class c ∷ items) = FileHeld classes before items
FileHeld classes before (process written ∷ items) = ProcessHeld classes before written
    × FileHeld classes (before ++ (written.name ∷ [])) items

pub file_held : (classes : List Class) (before : List Name) (file : File) → AllHold (items_checks classes before file)
    → FileHeld classes before file
file_held classes before [] hold = tt
file_held classes before (class c ∷ items) hold = file_held classes before items hold
file_held classes before (process written ∷ items) hold = (
  process_held classes before written (left_hold (process_checks classes before written) _ hold),
  file_held classes (before ++ (written.name ∷ [])) items (right_hold (process_checks classes before written) _ hold),
)
