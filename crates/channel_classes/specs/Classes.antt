-- The classes of a file: its `chan` items in order, with the side, the width and the life of each message.
--
-- A life that ends with another message has the number of that message in its class. Where the class has none of the name, or where the
-- width or the number of cycles is past its limit, the class is refused (`ClassChecks`), and what stands here for it counts for nothing.
use Rattle.std.specs.Prelude.{Bool, List, [], ◌∷◌, map, bytes_eq}
use Rattle.std.specs.List.{position_or_len}
use Rattle.anvil_tree.specs.declared.file.Message.{Message}
use Rattle.anvil_tree.specs.declared.file.LifeText.{LifeText}
use Rattle.anvil_tree.specs.declared.file.LifeText.TheVariants as text
use Rattle.anvil_tree.specs.Tree as tree
use Rattle.anvil_tree.specs.Tree.{Name, File, class, process}
use Rattle.channel_classes.specs.declared.message.ClassLife.{ClassLife}
use Rattle.channel_classes.specs.declared.message.ClassLife.TheVariants as life
use Rattle.channel_classes.specs.declared.message.ClassMessage.{ClassMessage}

-- a class: its name, and its messages in the order of the text
pub record Class : Type 0 where
  pub name : Name
  pub messages : List ClassMessage

-- the message has the name
abbrev pub is_named : Name → Message → Bool
is_named name message = bytes_eq name message.name

-- the class has the name
abbrev pub has_name : Name → Class → Bool
has_name name known = bytes_eq name known.name

-- in a class with those messages
abbrev pub life_of : List Message → LifeText → ClassLife
life_of messages (text.Cycles count) = life.Cycles count
life_of messages (text.Until name) = life.Until (position_or_len (is_named name) messages)

-- a message of a class with those messages
abbrev pub message_of : List Message → Message → ClassMessage
message_of messages message = record {
  name = message.name;
  toward = message.toward;
  width = message.width;
  life = life_of messages message.life;
}

abbrev pub messages_of : List Message → List ClassMessage
messages_of messages = map (message_of messages) messages

abbrev pub known_class : tree.Class → Class
known_class c = record { name = c.name; messages = messages_of c.messages }

abbrev pub classes_of : File → List Class
classes_of [] = []
classes_of (class c ∷ items) = known_class c ∷ classes_of items
classes_of (process p ∷ items) = classes_of items

-- the names of classes
abbrev pub names_of : List Class → List Name
names_of classes = map (λ (known : Class). known.name) classes
