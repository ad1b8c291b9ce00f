-- What the classes of a file are where no check of the classes fails: each message has a good name, a width and a
-- life within the limits, a life that ends with a message ends with another one of the class, and no two messages of
-- a class have one name.
use Rattle.std.proofs.Common.{◌≡◌, ◌∙◌, ℕ, ◌+◌, ◌<◌, arith, refl, sym, ap, subst, Bool, true, false, cond, not, if◌then◌else◌, List, [], ◌∷◌, ◌++◌, length, map, bytes_eq}
use Rattle.std.proofs.lemmas.List.{append_assoc, length-append, length-map}
use Rattle.std.specs.Prelude.{⊤}
use Rattle.std.specs.List.{position_or_len}
use Rattle.anvil_lexer.specs.GoodName.{is_good_name}
use Rattle.anvil_tree.specs.declared.file.Message.{Message}
use Rattle.anvil_tree.specs.declared.file.LifeText.{LifeText}
use Rattle.anvil_tree.specs.declared.file.LifeText.TheVariants as text
use Rattle.anvil_tree.specs.Tree.{Name, File, class, process}
use Rattle.first_check.specs.Check.{AllHold}
use Rattle.first_check.proofs.Walks.{left_hold, right_hold}
use Rattle.channel_classes.specs.declared.message.ClassLife.{ClassLife}
use Rattle.channel_classes.specs.declared.message.ClassLife.TheVariants as life
use Rattle.channel_classes.specs.declared.message.ClassMessage.{ClassMessage}
use Rattle.channel_classes.specs.Classes.{Class, is_named, life_of, message_of, classes_of}
use Rattle.channel_classes.specs.ClassChecks.{life_checks, messages_checks, items_checks}
use Rattle.core_file.specs.Refused.{is_width, is_count}
use Rattle.core_file.specs.CoreProcess.{messages_in}
use Rattle.core_file.proofs.Apart.{not_false, true_is_not_false, names_turned, AllApart, AllNew, new_apart, apart_map, found}

-- the life of the message of the number `index`, in a class of so many
abbrev pub LifeFits : ℕ → ℕ → ClassLife → Type 0
LifeFits count index (life.Cycles cycles) = is_count cycles ≡ true
LifeFits count index (life.Until message) = (message < count) × (message ≡ index → ⊥)

abbrev pub MessageFits : ℕ → ℕ → ClassMessage → Type 0
MessageFits count index message = (is_good_name message.name ≡ true) × (is_width message.width ≡ true)
    × LifeFits count index message.life

-- the messages from the number `index` on
abbrev pub MessagesFit : ℕ → ℕ → List ClassMessage → Type 0
MessagesFit count index [] = ⊤
MessagesFit count index (message ∷ messages) = MessageFits count index message × MessagesFit count (index + 1) messages

abbrev pub is_same_message : ClassMessage → ClassMessage → Bool
is_same_message one other = bytes_eq one.name other.name

-- the messages of a class
pub record AreFit (messages : List ClassMessage) : Type 0 where
  pub each : MessagesFit (length messages) 0 messages
  pub apart : AllApart is_same_message messages

abbrev pub ClassesFit : List Class → Type 0
ClassesFit [] = ⊤
ClassesFit (known ∷ classes) = AreFit known.messages × ClassesFit classes

-- An ending message is another one.

passes_by : {X : Type 0} (test : X → Bool) (item : X) (here : Bool) (more : ℕ) → test item ≡ here
    → cond (not here) (1 + more) 0 ≡ 0 → test item ≡ true
passes_by test item true more is place = is
passes_by test item false more is place = absurd (omega arith)

further_by : (here : Bool) (more count : ℕ) → cond (not here) (1 + more) 0 ≡ 1 + count → more ≡ count
further_by true more count place = absurd (omega arith)
further_by false more count place = omega arith

-- where the first that passes has the number of an item, the item passes
passes_there : {X : Type 0} (test : X → Bool) (before : List X) (item : X) (later : List X)
    → position_or_len test (before ++ (item ∷ later)) ≡ length before → test item ≡ true
passes_there test [] item later place = passes_by test item (test item) (position_or_len test later) refl place
passes_there test (first ∷ before) item later place =
    passes_there test before item later (further_by (test first) (position_or_len test (before
    ++ (item ∷ later))) (length before) (place ∙ omega arith))

life_fits : (all before : List Message) (message : Message) (later : List Message) (at : ℕ) (written : LifeText)
    → all ≡ before ++ (message ∷ later)
    → AllHold (life_checks all message.name at written) → LifeFits (length all) (length before) (life_of all written)
life_fits all before message later at (text.Cycles count) joined hold = hold.0
life_fits all before message later at (text.Until name) joined hold = (
  found (is_named name) all hold.1.0,
  λ place. true_is_not_false (bytes_eq name message.name)
      (passes_there (is_named name) before message later (ap (position_or_len (is_named name)) (sym joined) ∙ place))
      (not_false (bytes_eq name message.name) hold.0),
)

messages_fit : (all before messages : List Message) → all ≡ before ++ messages → AllHold (messages_checks all before messages)
    → MessagesFit (length all) (length before) (map (message_of all) messages)
messages_fit all before [] joined hold = tt
messages_fit all before (message ∷ later) joined hold =
    let with_this = before ++ (message ∷ []) in
    let counted : length with_this ≡ length before + 1 = length-append before (message ∷ []) in
    let joined_too : all ≡ with_this ++ later = joined ∙ sym (append_assoc before (message ∷ []) later) in
    let checks = life_checks all message.name message.life_at message.life in (
      (
        hold.0,
        hold.1.1.0,
        life_fits all before message later message.life_at message.life joined (left_hold checks _ hold.1.1.1),
      ),
      subst (λ index. MessagesFit (length all) index (map (message_of all) later)) counted (messages_fit all with_this later joined_too (right_hold checks _ hold.1.1.1)),
    )

is_same_written : Message → Message → Bool
is_same_written one other = bytes_eq one.name other.name

messages_new : (all before messages : List Message) → AllHold (messages_checks all before messages)
    → AllNew is_same_written before messages
unfolding is_same_written
messages_new all before [] hold = tt
messages_new all before (message ∷ later) hold =
    let checks = life_checks all message.name message.life_at message.life in
    (not_false _ hold.1.0, messages_new all (before ++ (message ∷ [])) later (right_hold checks _ hold.1.1.1))

class_fits : (all : List Message) → AllHold (messages_checks all [] all) → AreFit (map (message_of all) all)
unfolding is_same_written
class_fits all hold = record {
  each = subst (λ count. MessagesFit count 0 (map (message_of all) all)) (sym (length-map all (message_of all))) (messages_fit all [] all refl hold);
  apart = apart_map (message_of all) is_same_written is_same_message all (λ one other apart. apart)
      (new_apart is_same_written (λ one other. names_turned one.name other.name) [] all (messages_new all [] all hold));
}

pub classes_fit : (before : List Name) (file : File) → AllHold (items_checks before file) → ClassesFit (classes_of file)
classes_fit before [] hold = tt
classes_fit before (class c ∷ items) hold =
    let checks = messages_checks c.messages [] c.messages in (
      class_fits c.messages (left_hold checks _ hold.1.1),
      classes_fit (before
          ++ (c.name ∷ [])) items (right_hold checks _ hold.1.1),
    )
classes_fit before (process p ∷ items) hold = classes_fit before items hold

fit_by : (here : Bool) (messages others : List ClassMessage) → AreFit messages → AreFit others
    → AreFit (if here then messages else others)
fit_by true messages others fit also = fit
fit_by false messages others fit also = also

-- the messages of the class of a name
pub messages_in_fit : (classes : List Class) (name : Name) → ClassesFit classes → AreFit (messages_in classes name)
messages_in_fit [] name fit = record { each = tt; apart = tt }
messages_in_fit (known ∷ classes) name fit =
    fit_by (bytes_eq name known.name) known.messages (messages_in classes name) fit.0 (messages_in_fit classes name fit.1)
