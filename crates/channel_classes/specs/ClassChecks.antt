-- The checks of the classes of a file, in the order of the text: the name of each class, and then each of its messages: its name, its
-- width and its life. Each check has the place of what it looks at.
use Rattle.std.specs.Prelude.{ℕ, Bool, not, ◌&&◌, nat_le, List, [], ◌∷◌, ◌++◌, bytes_eq}
use Rattle.std.specs.List.{list_any}
use Rattle.anvil_bits.specs.Number.{widest}
use Rattle.anvil_lexer.specs.GoodName.{is_good_name}
use Rattle.anvil_tree.specs.declared.file.Message.{Message}
use Rattle.anvil_tree.specs.declared.file.LifeText.{LifeText}
use Rattle.anvil_tree.specs.declared.file.LifeText.TheVariants.{Cycles, Until}
use Rattle.anvil_tree.specs.Tree.{Name, Class, File, class, process}
use Rattle.first_check.specs.Check.{Check, must}
use Rattle.channel_classes.specs.declared.error.ClassErr.{ClassErr}
use Rattle.channel_classes.specs.declared.error.ClassErr.TheVariants.{BadName, Twice, BadWidth, BadCount, OwnLife, NoSuchLife}
use Rattle.channel_classes.specs.Classes.{is_named}

abbrev pub Checks : Type 0
Checks = List (Check ClassErr)

-- the longest life that has a number, in cycles
abbrev pub longest_life : ℕ
longest_life = 65535

abbrev pub is_width : ℕ → Bool
is_width width = nat_le 1 width && nat_le width widest

abbrev pub is_count : ℕ → Bool
is_count count = nat_le 1 count && nat_le count longest_life

-- the life of the message of the name `own`, in a class with those messages
abbrev pub life_checks : List Message → Name → ℕ → LifeText → Checks
life_checks messages own at (Cycles count) = must (is_count count) (BadCount at) ∷ []
life_checks messages own at (Until name) =
    must (not (bytes_eq name own)) (OwnLife at)
    ∷ must (list_any (is_named name) messages) (NoSuchLife at) ∷ []

-- a message of a class with those messages, of which some stand before it
abbrev pub message_checks : List Message → List Message → Message → Checks
message_checks messages before message =
    must (is_good_name message.name) (BadName message.at)
    ∷ must (not (list_any (is_named message.name) before)) (Twice message.at)
    ∷ must (is_width message.width) (BadWidth message.width_at)
    ∷ life_checks messages message.name message.life_at message.life

abbrev pub messages_checks : List Message → List Message → List Message → Checks
messages_checks all before [] = []
messages_checks all before (message ∷ later) = message_checks all before message ++ messages_checks all (before ++ (message ∷ [])) later

-- a class, after those of the names
abbrev pub class_checks : List Name → Class → Checks
class_checks before c =
    must (is_good_name c.name) (BadName c.at)
    ∷ must (not (list_any (bytes_eq c.name) before)) (Twice c.at)
    ∷ messages_checks c.messages [] c.messages

-- the items of a file, after classes of the names
abbrev pub items_checks : List Name → File → Checks
items_checks before [] = []
items_checks before (class c ∷ items) = class_checks before c ++ items_checks (before ++ (c.name ∷ [])) items
items_checks before (process p ∷ items) = items_checks before items

abbrev pub checks_of_classes : File → Checks
checks_of_classes file = items_checks [] file
