-- How clap walks over operands: words that are not empty and do not begin with `-`.
--
-- The claim: where no word can be a flag and no subcommand is wanted, each word goes to the positional that is next, whatever the
-- word says. So the walk, and what it refuses, follow from the number of words alone, and compute once that is known.
use Rattle.std.proofs.Common.{◌≡◌, ◌∙◌, ◌&&◌, ℕ, Bool, true, false, cond, not, List, [], ◌∷◌, ◌++◌, Option, Some, None, refl, sym, ap, ap₂}
use Rattle.std.specs.Prelude.{◌==◌, fold, bytes_eq}
use Rattle.std.specs.List.{list_all}
use Rattle.std.specs.Option.{option_map_or}
use Rattle.clap.specs.Lexer.{long_of, short_of}
use Rattle.clap.specs.Walk.{Names, Rule, Text, Walk, idle, value, arg_by_index, is_multiple, to_positional, walked}
use Rattle.clap.specs.Simple.{Shape}
use Rattle.std.proofs.lemmas.List.{append-nil, append_assoc}
use Rattle.clap.proofs.SimpleLemmas.{is_false}
use Rattle.clap.proofs.WalkLemmas.{both}
use Rattle.clap.specs.Kinds.{Kinds, or_else}
use Rattle.clap.specs.Faults.{step_fault, turn_fault, walk_fault}
use Rattle.command_words.specs.Form.{is_operand}

-- a word that is no flag
pub record IsPlainWord (word : Text) : Type 0 where
  pub no_dashes : bytes_eq word (45 ∷ 45 ∷ []) ≡ false
  pub not_long : long_of word ≡ None
  pub not_short : short_of word ≡ None

plain_from : (byte : ℕ) (rest : Text) (dash : Bool) → (byte == 45) ≡ dash → not dash ≡ true → IsPlainWord (byte ∷ rest)
plain_from byte rest true is not_dash = absurd cc
plain_from byte rest false is not_dash = record { no_dashes = rw is refl; not_long = rw is refl; not_short = rw is refl }

pub plain_word : (word : Text) → is_operand word ≡ true → IsPlainWord word
plain_word [] operand = absurd cc
plain_word (byte ∷ rest) operand = plain_from byte rest (byte == 45) refl operand

-- A walk over plain words.

-- what the walk stands at is no flag that waits for a value, and no positional that takes several
pub record IsOpen (w : Walk) : Type 0 where
  pub waiting : w.waiting ≡ idle
  pub not_trailing : w.is_trailing ≡ false
  pub not_stopped : w.stopped ≡ None

-- the walk after one more word that goes to the next positional
abbrev pub advanced : List Rule → Walk → Text → Walk
advanced rules w word = to_positional rules (arg_by_index rules w.position) word w w.held

-- the walk after some
abbrev pub reached : List Rule → Walk → List Text → Walk
reached rules w [] = w
reached rules w (word ∷ words) = reached rules (advanced rules w word) words

-- what it refuses
abbrev pub refused : Shape → Walk → List Text → Kinds
refused s w [] = []
refused s w (word ∷ words) = or_else (step_fault s w.position w.held value) (refused s (advanced s.rules w word) words)

pub walked_open : (rules : List Rule) (w : Walk) (word : Text) → IsOpen w → IsPlainWord word → walked rules [] w word ≡ advanced rules w word
unfolding walked
walked_open rules w word at plain = rw (at.not_stopped, at.not_trailing, at.waiting, plain.no_dashes, plain.not_long, plain.not_short) refl

pub turn_open : (s : Shape) (w : Walk) (word : Text) → IsOpen w → IsPlainWord word → turn_fault s [] w word ≡ step_fault s w.position w.held value
turn_open s w word at plain = rw (at.not_stopped, at.not_trailing, at.waiting, plain.no_dashes, plain.not_long, plain.not_short) refl

-- rules of positionals that take one value each

abbrev pub is_single : Rule → Bool
is_single a = not (is_multiple a) && not a.trailing_var_arg

advanced_by : (rules : List Rule) (found : Option Rule) (w : Walk) (word : Text) → option_map_or is_single found true ≡ true → IsOpen w
    → IsOpen (to_positional rules found word w w.held)
advanced_by rules None w word single at = record { waiting = at.waiting; not_trailing = at.not_trailing; not_stopped = at.not_stopped }
advanced_by rules (Some a) w word single at =
    let parts = both _ _ single in
    record {
      waiting = rw (is_false (is_multiple a) parts.0) refl;
      not_trailing = rw (at.not_trailing, is_false a.trailing_var_arg parts.1) refl;
      not_stopped = refl;
    }

found_by : (here : Bool) (a : Rule) (later : Option Rule) → is_single a ≡ true → option_map_or is_single later true ≡ true
    → option_map_or is_single (cond here (Some a) later) true ≡ true
found_by true a later single others = single
found_by false a later single others = others

found_single : (rules : List Rule) (position : ℕ) → list_all is_single rules ≡ true → option_map_or is_single (arg_by_index rules position) true ≡ true
found_single [] position all = refl
found_single (a ∷ rules) position all =
    let parts = both _ _ all in
    found_by (option_map_or (λ k. k == position) a.index false) a (arg_by_index rules position) parts.0 (found_single rules position parts.1)

advanced_open : (rules : List Rule) (w : Walk) (word : Text) → list_all is_single rules ≡ true → IsOpen w → IsOpen (advanced rules w word)
advanced_open rules w word single at = advanced_by rules (arg_by_index rules w.position) w word (found_single rules w.position single) at

-- the whole walk

pub walks : (rules : List Rule) (w : Walk) (words : List Text) → list_all is_single rules ≡ true → IsOpen w → list_all is_operand words ≡ true
    → fold (walked rules []) w words ≡ reached rules w words
walks rules w [] single at operands = refl
walks rules w (word ∷ words) single at operands =
    let parts = both _ _ operands in
    ap (λ v. fold (walked rules []) v words) (walked_open rules w word at (plain_word word parts.0))
    ∙ walks rules (advanced rules w word) words single (advanced_open rules w word single at) parts.1

pub refuses : (s : Shape) (w : Walk) (words : List Text) → list_all is_single s.rules ≡ true → IsOpen w → list_all is_operand words ≡ true
    → walk_fault s [] w words ≡ refused s w words
unfolding walk_fault
refuses s w [] single at operands = refl
refuses s w (word ∷ words) single at operands =
    let parts = both _ _ operands in
    ap₂ or_else (turn_open s w word at (plain_word word parts.0))
    (ap (λ v. walk_fault s [] v words) (walked_open s.rules w word at (plain_word word parts.0))
    ∙ refuses s (advanced s.rules w word) words single (advanced_open s.rules w word single at) parts.1)

-- The words after a subcommand.

abbrev pub stopped_at : Walk → Text → List Text → Walk
stopped_at w name words = record w { stopped = Some (name, words) }

-- a walk that stopped keeps what follows, and does nothing else

pub collects : (rules : List Rule) (names : Names) (w : Walk) (name : Text) (before words : List Text)
    → fold (walked rules names) (stopped_at w name before) words ≡ stopped_at w name (before ++ words)
unfolding walked
collects rules names w name before [] = ap (stopped_at w name) (sym (append-nil before))
collects rules names w name before (word ∷ words) =
    collects rules names w name (before ++ (word ∷ [])) words ∙ ap (stopped_at w name) (append_assoc before (word ∷ []) words)

-- and refuses nothing of it
pub refuses_nothing : (s : Shape) (names : Names) (w : Walk) (name : Text) (before words : List Text)
    → walk_fault s names (stopped_at w name before) words ≡ []
unfolding walk_fault walked
refuses_nothing s names w name before [] = refl
refuses_nothing s names w name before (word ∷ words) = refuses_nothing s names w name (before ++ (word ∷ [])) words
