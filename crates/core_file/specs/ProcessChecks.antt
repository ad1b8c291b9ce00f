-- The checks of the processes of a file, in the order of the text: the name of each process, its endpoints, its
-- registers and its threads. The classes are those of the file.
use Rattle.std.specs.Prelude.{ℕ, ◌+◌, nat_le, Bool, not, List, [], ◌∷◌, ◌++◌, Option, Some, None, length}
use Rattle.std.specs.List.{list_any}
use Rattle.anvil_lexer.specs.GoodName.{is_good_name}
use Rattle.anvil_tree.specs.declared.file.Endpoint.{Endpoint}
use Rattle.anvil_tree.specs.declared.file.Register.{Register}
use Rattle.anvil_tree.specs.declared.file.LiteralText.{LiteralText}
use Rattle.anvil_tree.specs.Tree as tree
use Rattle.anvil_tree.specs.Tree.{Name, File, class, process}
use Rattle.core_term.specs.Limits.{most_ports}
use Rattle.first_check.specs.Check.{must}
use Rattle.channel_classes.specs.Classes.{Class, has_name}
use Rattle.core_file.specs.declared.error.NameErr.TheVariants.{BadName, Twice, Unknown, TooManyPorts, BadWidth}
use Rattle.core_file.specs.Scope.{is_among}
use Rattle.core_file.specs.CoreProcess.{messages_in, scope_of}
use Rattle.core_file.specs.Refused.{Checks, is_width, are_equal, literal_checks}
use Rattle.core_file.specs.ThreadChecks.{none_taken, threads_checks}

-- a name at a place, after others of its kind
abbrev pub name_checks : List Name → ℕ → Name → Checks
name_checks before at name = must (is_good_name name) (BadName at) ∷ must (not (is_among before name)) (Twice at) ∷ []

abbrev pub is_known_class : List Class → Name → Bool
is_known_class classes name = list_any (has_name name) classes

-- an endpoint, after those of the names, which have `base` ports
abbrev pub endpoint_checks : List Class → List Name → ℕ → Endpoint → Checks
endpoint_checks classes before base endpoint =
    name_checks before endpoint.at endpoint.name
    ++ (must (is_known_class classes endpoint.class) (Unknown endpoint.class_at)
    ∷ must (nat_le (base + length (messages_in classes endpoint.class)) most_ports) (TooManyPorts endpoint.at) ∷ [])

abbrev pub endpoints_checks : List Class → List Name → ℕ → List Endpoint → Checks
endpoints_checks classes before base [] = []
endpoints_checks classes before base (endpoint ∷ endpoints) =
    endpoint_checks classes before base endpoint
    ++ endpoints_checks classes (before ++ (endpoint.name ∷ []))
    (base + length (messages_in classes endpoint.class)) endpoints

-- the literal of a register of a width
abbrev pub reset_checks : ℕ → Option LiteralText → Checks
reset_checks width None = []
reset_checks width (Some literal) =
    literal_checks literal.at literal.width literal.value ++ (are_equal literal.at width literal.width ∷ [])

-- a register, after those of the names
abbrev pub register_checks : List Name → Register → Checks
register_checks before register =
    name_checks before register.at register.name
    ++ (must (is_width register.width) (BadWidth register.width_at) ∷ reset_checks register.width register.reset)

abbrev pub registers_checks : List Name → List Register → Checks
registers_checks before [] = []
registers_checks before (register ∷ registers) =
    register_checks before register ++ registers_checks (before ++ (register.name ∷ [])) registers

-- a process, after those of the names
abbrev pub process_checks : List Class → List Name → tree.Process → Checks
process_checks classes before written =
    name_checks before written.at written.name
    ++ (endpoints_checks classes [] 0 written.endpoints
    ++ (registers_checks [] written.registers
    ++ threads_checks (scope_of classes written) none_taken written.threads))

-- the items of a file, after processes of the names
abbrev pub items_checks : List Class → List Name → File → Checks
items_checks classes before [] = []
items_checks classes before (class c ∷ items) = items_checks classes before items
items_checks classes before (process written ∷ items) =
    process_checks classes before written ++ items_checks classes (before ++ (written.name ∷ [])) items

abbrev pub checks_of_processes : List Class → File → Checks
checks_of_processes classes file = items_checks classes [] file
