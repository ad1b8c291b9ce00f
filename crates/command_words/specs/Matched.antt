-- The command that clap matches words with, made from the forms, and the form that its matches stand for.
--
-- No public clause cites these: they stand between the words and the code that reads them.
use Rattle.std.specs.Prelude.{ℕ, ◌&&◌, Bool, true, false, if◌then◌else◌, List, [], ◌∷◌, codes, bytes_eq, map, Option, Some, None, option_map, option_and_then}
use Rattle.clap.specs.Words.{App, Row, Rule, Shape, Text, first_of, new_app, new_rule}
use Rattle.command_words.specs.Form.{Command, Form, Part, commands, parts_of, suits, word_of}

-- The command.

-- the argument that stands for a part: it has to be there
abbrev pub operand_rule : List ℕ → Rule
operand_rule label = record (new_rule label) { required = true }

-- a subcommand with an argument for each label
abbrev pub with_labels : Text → List Text → Shape
with_labels name labels = record (new_app name).top { rules = map operand_rule labels }

-- a subcommand with an argument for each part
abbrev pub with_parts : Text → List Part → Shape
with_parts name parts = with_labels name (map (λ part. part.label) parts)

-- that of a command: its word, and its parts
abbrev pub subcommand_shape : Command → Shape
subcommand_shape command = with_parts (word_of command) (parts_of command)

-- one subcommand for each command, of which one has to be there; no flag, and no subcommand for help
abbrev pub tool : App
tool = record {
  top = record (new_app (codes "anvil")).top {
    is_leaf = false;
    no_binary_name = true;
    disable_help_flag = true;
    disable_help_subcommand = true;
    disable_version_flag = true;
    subcommand_required = true;
  };
  subs = map subcommand_shape commands;
}

-- The form.

-- a value for each part, in order
abbrev pub operands_in : List Part → List Row → Option (List Text)
operands_in [] rows = Some []
operands_in (part ∷ parts) rows =
    option_and_then (λ operand. option_map (λ operands. operand ∷ operands) (operands_in parts rows))
    (first_of part.label rows)

-- each word is what its part asks for
abbrev pub suited : List Part → List Text → Bool
suited [] words = true
suited (part ∷ parts) [] = true
suited (part ∷ parts) (word ∷ words) = suits part.kind word && suited parts words

abbrev pub form_suited : Command → List Text → Option Form
form_suited command operands =
    if suited (parts_of command) operands then Some (record { command = command; operands = operands }) else None

abbrev pub form_in : Command → List Row → Option Form
form_in command rows = option_and_then (form_suited command) (operands_in (parts_of command) rows)

abbrev pub form_matched_among : List Command → Text → List Row → Option Form
form_matched_among [] name rows = None
form_matched_among (command ∷ commands) name rows =
    if bytes_eq name (word_of command) then form_in command rows else form_matched_among commands name rows

-- of the subcommand that was entered, and its rows
abbrev pub form_matched : Option (Text × List Row) → Option Form
form_matched None = None
form_matched (Some entered) = form_matched_among commands entered.0 entered.1
