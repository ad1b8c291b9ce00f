-- What clap reads of words is the form that they have.
--
-- The claim: of words that may all stand for operands, clap refuses exactly those without a form, and what it finds of the others is
-- their form. The argument: it refuses the empty list, and a first word that is no command's; behind a command's word all words go to
-- that command, of which `Operands` says what is read and refused.
use Rattle.std.proofs.Common.{◌≡◌, ◌≢◌, ◌∙◌, inl, inr, subst, Bool, true, false, List, [], ◌∷◌, Some, None, refl, sym, ap, ap₂, is_some}
use Rattle.std.specs.Prelude.{bytes_eq, if◌then◌else◌, option_and_then}
use Rattle.std.specs.List.{list_all}
use Rattle.std.proofs.lemmas.Bool.Decides.{same_from_decides}
use Rattle.std.proofs.lemmas.Slice.Eq.{bytes_eq-Decides}
use Rattle.clap.specs.Walk.{Text, Walk, finished, nothing_held, rows_after, settled, walk, walk_from, walked}
use Rattle.clap.specs.Simple.{App, HasMatchesOf, Shape, built, entered, is_simple, names_of, subcommand_of, subcommand_rows_of}
use Rattle.clap.specs.Values.{kind_of}
use Rattle.clap.specs.declared.error.Error.{Error}
use Rattle.clap.specs.declared.parser.matches.ArgMatches.{ArgMatches}
use Rattle.clap.specs.Kinds.{HasKind, IsAmong, Kinds, or_else}
use Rattle.clap.specs.Faults.{check_fault, defaults_fault, entered_fault, fault_of, is_simple_and_free, level_fault, settle_fault, walk_fault}
use Rattle.clap.specs.declared.error.kind.ErrorKind.{ErrorKind}
use Rattle.clap.specs.declared.error.kind.ErrorKind.TheVariants.{InvalidSubcommand, OutOfMemory, UnknownArgument}
use Rattle.clap.proofs.WalkLemmas.{both}
use Rattle.command_words.specs.Form.{Command, check, compile, fill, form_of, gen, is_operand, parts_of, run, runsv, word_of}
use Rattle.command_words.specs.Matched.{form_matched, form_suited, operands_in, tool}
use Rattle.command_words.proofs.Walks.{IsPlainWord, collects, plain_word, refuses_nothing, stopped_at}
use Rattle.command_words.proofs.Operands.{Reads, fails, fits, leaf, reads}

-- Which command a word names.

pub data Names (word : Text) : Type 0 where
  names : (command : Command) → word ≡ word_of command → Names word
  names_none : ((command : Command) → (bytes_eq word (word_of command) ≡ false) × (bytes_eq (word_of command) word ≡ false)) → Names word

same_backwards : (one other : Text) → bytes_eq one other ≡ bytes_eq other one
same_backwards one other =
    let there = bytes_eq-Decides other one in
    same_from_decides (bytes_eq one other) (bytes_eq other one) (bytes_eq-Decides one other)
    (λ same. sym (there.0 same), λ is. there.1 (sym is))

data Is (one other : Text) : Type 0 where
  same : one ≡ other → Is one other
  differs : bytes_eq one other ≡ false → Is one other

compared_by : (one other : Text) (test : Bool) → bytes_eq one other ≡ test → Is one other
compared_by one other true is = same ((bytes_eq-Decides one other).0 is)
compared_by one other false is = differs is

names_by : (word : Text) → Is word (word_of check) → Is word (word_of compile) → Is word (word_of run) → Is word (word_of runsv) → Is word (word_of gen) → Names word
names_by word (same is) _ _ _ _ = names check is
names_by word (differs _) (same is) _ _ _ = names compile is
names_by word (differs _) (differs _) (same is) _ _ = names run is
names_by word (differs _) (differs _) (differs _) (same is) _ = names runsv is
names_by word (differs _) (differs _) (differs _) (differs _) (same is) = names gen is
names_by word (differs first) (differs second) (differs third) (differs fourth) (differs fifth) = names_none each
  where
    each : (command : Command) → (bytes_eq word (word_of command) ≡ false) × (bytes_eq (word_of command) word ≡ false)
    each check = (first, same_backwards (word_of check) word ∙ first)
    each compile = (second, same_backwards (word_of compile) word ∙ second)
    each run = (third, same_backwards (word_of run) word ∙ third)
    each runsv = (fourth, same_backwards (word_of runsv) word ∙ fourth)
    each gen = (fifth, same_backwards (word_of gen) word ∙ fifth)

named : (word : Text) → Names word
named word = names_by word (compared_by word (word_of check) _ refl) (compared_by word (word_of compile) _ refl)
    (compared_by word (word_of run) _ refl) (compared_by word (word_of runsv) _ refl) (compared_by word (word_of gen) _ refl)

-- What is read of words.

pub data Agrees (words : List Text) : Type 0 where
  has_form : fault_of tool words ≡ [] → form_matched (subcommand_of tool words) ≡ form_of words → Agrees words
  has_none : (kind : ErrorKind) (kinds : Kinds) → fault_of tool words ≡ kind ∷ kinds → form_of words ≡ None → Agrees words

-- no words
no_words : Agrees []
unfolding walk_fault defaults_fault
no_words = has_none _ _ refl refl

-- a first word that is no command's
other_word : (word : Text) (words : List Text) → IsPlainWord word
    → ((command : Command) → (bytes_eq word (word_of command) ≡ false) × (bytes_eq (word_of command) word ≡ false)) → Agrees (word ∷ words)
unfolding walk_fault defaults_fault
other_word word words plain none =
    has_none UnknownArgument (InvalidSubcommand ∷ [])
    (rw ((none check).1, (none compile).1, (none run).1, (none runsv).1, (none gen).1, plain.no_dashes, plain.not_long, plain.not_short) refl)
    (rw ((none check).0, (none compile).0, (none run).0, (none runsv).0, (none gen).0) refl)

-- A command's word: what is refused, and what is entered.

abbrev whole : App
whole = built tool

-- where the walk over all words ends so
abbrev faults_at : Walk → Kinds → Kinds
faults_at end faults = or_else faults
    (or_else (entered_fault whole end.stopped)
    (or_else (settle_fault whole.top.rules whole.top.args_override_self end.held)
    (or_else (defaults_fault (settled whole.top.rules end.held).rows whole.top.rules)
    (check_fault whole.top (finished whole.top.rules end.held) (is_some (entered whole end.stopped))))))

walk_to : (command : Command) (words : List Text) → walk whole.top.rules (names_of whole) nothing_held (word_of command ∷ words)
    ≡ stopped_at (walk_from nothing_held) (word_of command) words
unfolding walked
walk_to check words = collects whole.top.rules (names_of whole) (walk_from nothing_held) (word_of check) [] words
walk_to compile words = collects whole.top.rules (names_of whole) (walk_from nothing_held) (word_of compile) [] words
walk_to run words = collects whole.top.rules (names_of whole) (walk_from nothing_held) (word_of run) [] words
walk_to runsv words = collects whole.top.rules (names_of whole) (walk_from nothing_held) (word_of runsv) [] words
walk_to gen words = collects whole.top.rules (names_of whole) (walk_from nothing_held) (word_of gen) [] words

not_refused : (command : Command) (words : List Text) → walk_fault whole.top (names_of whole) (walk_from nothing_held) (word_of command ∷ words) ≡ []
unfolding walk_fault walked
not_refused check words = refuses_nothing whole.top (names_of whole) (walk_from nothing_held) (word_of check) [] words
not_refused compile words = refuses_nothing whole.top (names_of whole) (walk_from nothing_held) (word_of compile) [] words
not_refused run words = refuses_nothing whole.top (names_of whole) (walk_from nothing_held) (word_of run) [] words
not_refused runsv words = refuses_nothing whole.top (names_of whole) (walk_from nothing_held) (word_of runsv) [] words
not_refused gen words = refuses_nothing whole.top (names_of whole) (walk_from nothing_held) (word_of gen) [] words

abbrev built_for : Command → Shape
built_for command = leaf (word_of command) (parts_of command)

faults_below : (command : Command) (words : List Text) → faults_at (stopped_at (walk_from nothing_held) (word_of command) words) []
    ≡ or_else (level_fault (built_for command) [] nothing_held words false []) []
unfolding defaults_fault
faults_below check words = refl
faults_below compile words = refl
faults_below run words = refl
faults_below runsv words = refl
faults_below gen words = refl

faults_are : (command : Command) (words : List Text) → fault_of tool (word_of command ∷ words)
    ≡ or_else (level_fault (built_for command) [] nothing_held words false []) []
faults_are command words = ap₂ faults_at (walk_to command words) (not_refused command words) ∙ faults_below command words

matched_is : (command : Command) (words : List Text) → form_matched (subcommand_of tool (word_of command ∷ words))
    ≡ option_and_then (form_suited command) (operands_in (parts_of command) (rows_after (built_for command).rules [] words))
matched_is check words = ap (λ (w : Walk). form_matched (entered whole w.stopped)) (walk_to check words)
matched_is compile words = ap (λ (w : Walk). form_matched (entered whole w.stopped)) (walk_to compile words)
matched_is run words = ap (λ (w : Walk). form_matched (entered whole w.stopped)) (walk_to run words)
matched_is runsv words = ap (λ (w : Walk). form_matched (entered whole w.stopped)) (walk_to runsv words)
matched_is gen words = ap (λ (w : Walk). form_matched (entered whole w.stopped)) (walk_to gen words)

-- the form that the words have
form_is : (command : Command) (words : List Text) → form_of (word_of command ∷ words)
    ≡ (if fill (parts_of command) words then Some (record { command = command; operands = words }) else None)
form_is check words = refl
form_is compile words = refl
form_is run words = refl
form_is runsv words = refl
form_is gen words = refl

command_word_by : (command : Command) (words : List Text)
    → Reads (parts_of command) words (level_fault (built_for command) [] nothing_held words false [])
    (operands_in (parts_of command) (rows_after (built_for command).rules [] words))
    → Agrees (word_of command ∷ words)
command_word_by command words (fits filled none operands) =
    has_form (faults_are command words ∙ rw none refl) (rw (matched_is command words, form_is command words, operands, filled) refl)
command_word_by command words (fails kind kinds filled some) =
    has_none kind kinds (faults_are command words ∙ rw some refl) (form_is command words ∙ rw filled refl)

command_word : (command : Command) (words : List Text) → list_all is_operand words ≡ true → Agrees (word_of command ∷ words)
command_word command words operands = command_word_by command words (reads command words operands)

agrees_by : (word : Text) (words : List Text) → is_operand word ≡ true → list_all is_operand words ≡ true → Names word → Agrees (word ∷ words)
agrees_by word words operand operands (names command is) = rw is (command_word command words operands)
agrees_by word words operand operands (names_none none) = other_word word words (plain_word word operand) none

pub agrees : (words : List Text) → list_all is_operand words ≡ true → Agrees words
agrees [] operands = no_words
agrees (word ∷ words) operands =
    let split = both (is_operand word) (list_all is_operand words) operands in
    agrees_by word words split.0 split.1 (named word)

-- The same of a command that is this one, as the code knows it.

is_simple_tool : is_simple tool ≡ true
is_simple_tool = refl

pub is_free : (made : App) → made ≡ tool → is_simple_and_free made ≡ true
is_free made is = ap is_simple_and_free is ∙ refl

-- the words were taken
taken_by : (words : List Text) (matches : ArgMatches) → fault_of tool words ≡ [] → HasMatchesOf tool words matches → Agrees words
    → form_matched (subcommand_rows_of matches) ≡ form_of words
taken_by words matches taken found (has_form none is) = ap form_matched ((found is_simple_tool).1) ∙ is
taken_by words matches taken found (has_none kind kinds some is) = absurd cc

pub taken : (made : App) (words : List Text) (matches : ArgMatches) → made ≡ tool → list_all is_operand words ≡ true → fault_of made words ≡ []
    → HasMatchesOf made words matches → form_matched (subcommand_rows_of matches) ≡ form_of words
taken made words matches is operands none found =
    taken_by words matches (subst (λ (a : App). fault_of a words ≡ []) is none) (subst (λ (a : App). HasMatchesOf a words matches) is found) (agrees words operands)

-- they were not, and not for want of memory
not_taken_by : (words : List Text) (error : Error) → HasKind (fault_of tool words) error → kind_of error ≢ OutOfMemory → Agrees words → None ≡ form_of words
not_taken_by words error (inl memory) other agreement = absurd (other memory)
not_taken_by words error (inr among) other (has_form none is) = absurd (subst (IsAmong (kind_of error)) none among)
not_taken_by words error (inr among) other (has_none kind kinds some is) = sym is

pub not_taken : (made : App) (words : List Text) (error : Error) → made ≡ tool → list_all is_operand words ≡ true → HasKind (fault_of made words) error
    → kind_of error ≢ OutOfMemory → None ≡ form_of words
not_taken made words error is operands kinds other =
    not_taken_by words error (subst (λ (a : App). HasKind (fault_of a words) error) is kinds) other (agrees words operands)
