-- What clap reads of the operands of a command.
--
-- The claim: words that may stand for operands are refused exactly where they are not one for each part, and else each part has
-- its word, whatever it asks for. The argument: the walk gives each word to the next part (`Walks`), so once the number of words is known, all that is
-- read and refused computes, whatever the words say.
use Rattle.std.proofs.Common.{◌≡◌, ◌∙◌, ◌&&◌, Bool, true, false, List, [], ◌∷◌, Option, Some, refl, ap}
use Rattle.std.specs.Prelude.{map}
use Rattle.std.specs.List.{list_all}
use Rattle.clap.specs.Walk.{Text, Walk, finished, nothing_held, rows_after, settled, walk_from}
use Rattle.clap.specs.Simple.{Shape, filled_from, new_app}
use Rattle.clap.specs.Kinds.{Kinds, or_else}
use Rattle.clap.specs.Faults.{check_fault, defaults_fault, level_fault, settle_fault}
use Rattle.clap.specs.declared.error.kind.ErrorKind.{ErrorKind}
use Rattle.clap.proofs.WalkLemmas.{both}
use Rattle.command_words.specs.Form.{Command, Part, check, compile, fill, gen, is_operand, parts_of, run, runsv, suits, word_of}
use Rattle.command_words.specs.Matched.{operand_rule, operands_in, suited}
use Rattle.command_words.proofs.Walks.{IsOpen, is_single, reached, refused, refuses, walks}

-- a subcommand as clap has built it
abbrev pub leaf : Text → List Part → Shape
leaf name parts = record (new_app name).top {
  rules = filled_from 1 (map (λ part. operand_rule part.label) parts);
  no_binary_name = true;
  disable_help_flag = true;
  disable_help_subcommand = true;
  disable_version_flag = true;
  is_built = true;
}

-- The words for the parts of a command: what is refused, and what is read.

pub data Reads (parts : List Part) (words : List Text) (faults : Kinds) (operands : Option (List Text)) : Type 0 where
  fits : fill parts words ≡ suited parts words → faults ≡ [] → operands ≡ Some words → Reads parts words faults operands
  fails : (kind : ErrorKind) (kinds : Kinds) → fill parts words ≡ false → faults ≡ kind ∷ kinds → Reads parts words faults operands

-- as many
abbrev same_count : List Part → List Text → Bool
same_count [] [] = true
same_count [] (word ∷ words) = false
same_count (part ∷ parts) [] = false
same_count (part ∷ parts) (word ∷ words) = same_count parts words

one_more : (here count rest : Bool) → here && (count && rest) ≡ count && (here && rest)
one_more true count rest = refl
one_more false true rest = refl
one_more false false rest = refl

filled : (parts : List Part) (words : List Text) → list_all is_operand words ≡ true → fill parts words ≡ same_count parts words && suited parts words
filled [] [] operands = refl
filled [] (word ∷ words) operands = refl
filled (part ∷ parts) [] operands = refl
filled (part ∷ parts) (word ∷ words) operands =
    let split = both (is_operand word) (list_all is_operand words) operands in
    rw (split.0) (ap (λ rest. suits part.kind word && rest) (filled parts words split.1)
    ∙ one_more (suits part.kind word) (same_count parts words) (suited parts words))

-- The walk over them.

abbrev first_walk : Walk
first_walk = walk_from nothing_held

opens : IsOpen first_walk
opens = record { waiting = refl; not_trailing = refl; not_stopped = refl }

-- what is refused once it is over
abbrev faults_after : Shape → Walk → Kinds → Kinds
faults_after s w faults = or_else faults
    (or_else (settle_fault s.rules s.args_override_self w.held)
    (or_else (defaults_fault (settled s.rules w.held).rows s.rules) (check_fault s (finished s.rules w.held) false)))

faults_are : (s : Shape) (words : List Text) → list_all is_single s.rules ≡ true → list_all is_operand words ≡ true
    → level_fault s [] nothing_held words false [] ≡ faults_after s (reached s.rules first_walk words) (refused s first_walk words)
faults_are s words single operands = rw (walks s.rules first_walk words single opens operands, refuses s first_walk words single opens operands) refl

rows_are : (s : Shape) (words : List Text) → list_all is_single s.rules ≡ true → list_all is_operand words ≡ true
    → rows_after s.rules [] words ≡ finished s.rules (reached s.rules first_walk words).held
rows_are s words single operands = rw (walks s.rules first_walk words single opens operands) refl

abbrev ReadsWith : Text → List Part → List Text → Type 0
ReadsWith name parts words =
    Reads parts words (faults_after (leaf name parts) (reached (leaf name parts).rules first_walk words) (refused (leaf name parts) first_walk words))
    (operands_in parts (finished (leaf name parts).rules (reached (leaf name parts).rules first_walk words).held))

one_part : (name : Text) (words : List Text) → list_all is_operand words ≡ true → ReadsWith name (parts_of check) words
unfolding defaults_fault
one_part name [] operands = fails _ _ refl refl
one_part name (file ∷ []) operands = fits (filled (parts_of check) (file ∷ []) operands) refl refl
one_part name (file ∷ other ∷ words) operands = fails _ _ (filled (parts_of check) (file ∷ other ∷ words) operands) refl

one_number : (name : Text) (words : List Text) → list_all is_operand words ≡ true → ReadsWith name (parts_of gen) words
unfolding defaults_fault
one_number name [] operands = fails _ _ refl refl
one_number name (number ∷ []) operands = fits (filled (parts_of gen) (number ∷ []) operands) refl refl
one_number name (number ∷ other ∷ words) operands = fails _ _ (filled (parts_of gen) (number ∷ other ∷ words) operands) refl

three_parts : (name : Text) (words : List Text) → list_all is_operand words ≡ true → ReadsWith name (parts_of run) words
unfolding defaults_fault
three_parts name [] operands = fails _ _ refl refl
three_parts name (file ∷ []) operands = fails _ _ (filled (parts_of run) (file ∷ []) operands) refl
three_parts name (file ∷ process ∷ []) operands = fails _ _ (filled (parts_of run) (file ∷ process ∷ []) operands) refl
three_parts name (file ∷ process ∷ stimulus ∷ []) operands = fits (filled (parts_of run) (file ∷ process ∷ stimulus ∷ []) operands) refl refl
three_parts name (file ∷ process ∷ stimulus ∷ other ∷ words) operands =
    fails _ _ (filled (parts_of run) (file ∷ process ∷ stimulus ∷ other ∷ words) operands) refl

four_parts : (name : Text) (words : List Text) → list_all is_operand words ≡ true → ReadsWith name (parts_of runsv) words
unfolding defaults_fault
four_parts name [] operands = fails _ _ refl refl
four_parts name (file ∷ []) operands = fails _ _ (filled (parts_of runsv) (file ∷ []) operands) refl
four_parts name (file ∷ text ∷ []) operands = fails _ _ (filled (parts_of runsv) (file ∷ text ∷ []) operands) refl
four_parts name (file ∷ text ∷ process ∷ []) operands = fails _ _ (filled (parts_of runsv) (file ∷ text ∷ process ∷ []) operands) refl
four_parts name (file ∷ text ∷ process ∷ stimulus ∷ []) operands = fits (filled (parts_of runsv) (file ∷ text ∷ process ∷ stimulus ∷ []) operands) refl refl
four_parts name (file ∷ text ∷ process ∷ stimulus ∷ other ∷ words) operands =
    fails _ _ (filled (parts_of runsv) (file ∷ text ∷ process ∷ stimulus ∷ other ∷ words) operands) refl

-- Of each command.

with_parts : (command : Command) (words : List Text) → list_all is_operand words ≡ true → ReadsWith (word_of command) (parts_of command) words
with_parts check words operands = one_part (word_of check) words operands
with_parts compile words operands = one_part (word_of compile) words operands
with_parts run words operands = three_parts (word_of run) words operands
with_parts runsv words operands = four_parts (word_of runsv) words operands
with_parts gen words operands = one_number (word_of gen) words operands

single : (command : Command) → list_all is_single (leaf (word_of command) (parts_of command)).rules ≡ true
single check = refl
single compile = refl
single run = refl
single runsv = refl
single gen = refl

pub reads : (command : Command) (words : List Text) → list_all is_operand words ≡ true
    → Reads (parts_of command) words (level_fault (leaf (word_of command) (parts_of command)) [] nothing_held words false [])
    (operands_in (parts_of command) (rows_after (leaf (word_of command) (parts_of command)).rules [] words))
reads command words operands =
    rw (
      faults_are (leaf (word_of command) (parts_of command)) words (single command) operands,
      rows_are (leaf (word_of command) (parts_of command)) words (single command) operands,
    )
    (with_parts command words operands)
