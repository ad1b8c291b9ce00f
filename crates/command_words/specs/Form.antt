-- The commands that are built, and their forms: which words ask for which command, and what it loads.
--
-- A form is a command's word, and then one word for each of its parts. Under the word of a part a file is loaded, of
-- at most so many bytes, or the word is a number, or it is taken as it is.
use Rattle.std.specs.Prelude.{ℕ, zero, suc, ◌+◌, ◌==◌, ◌&&◌, not, Bool, true, false, if◌then◌else◌, List, [], ◌∷◌, ◌++◌, codes, bytes_eq, map, String, string_bytes, Option, Some, None, is_some}
use Rattle.std.specs.Fmt.{decimal}
use Rattle.std.specs.List.{AllByRecursion, flat_map}
use Rattle.std.specs.declared.alloc.Global.{Global}

-- the commands
pub data Command : Type 0 where
  check : Command
  compile : Command
  run : Command
  runsv : Command
  gen : Command

-- what a word for a part is: the name of a file of at most so many bytes, which is loaded, a number, or any word
pub data Kind : Type 0 where
  File : (limit : ℕ) → Kind
  Number : Kind
  Word : Kind

-- a part of a form: its name in the usage line, and what its word is
pub record Part : Type 0 where
  pub label : List ℕ
  pub kind : Kind

-- the most bytes of a source file
abbrev pub longest_file : ℕ
longest_file = 1048576

-- of a text of modules
abbrev pub longest_text : ℕ
longest_text = 16777216

-- and of a stimulus
abbrev pub longest_stimulus : ℕ
longest_stimulus = 16777216

-- a command's own word
abbrev pub word_of : Command → List ℕ
word_of check = codes "check"
word_of compile = codes "compile"
word_of run = codes "run"
word_of runsv = codes "runsv"
word_of gen = codes "gen"

-- a command's parts, in order
abbrev pub parts_of : Command → List Part
parts_of check = (record { label = codes "FILE"; kind = File longest_file }) ∷ []
parts_of compile = (record { label = codes "FILE"; kind = File longest_file }) ∷ []
parts_of run =
    (record { label = codes "FILE"; kind = File longest_file }) ∷ (record { label = codes "PROC"; kind = Word })
    ∷ (record { label = codes "STIM"; kind = File longest_stimulus }) ∷ []
parts_of runsv =
    (record { label = codes "FILE"; kind = File longest_file })
    ∷ (record { label = codes "SV"; kind = File longest_text }) ∷ (record { label = codes "PROC"; kind = Word })
    ∷ (record { label = codes "STIM"; kind = File longest_stimulus }) ∷ []
parts_of gen = (record { label = codes "NUMBER"; kind = Number }) ∷ []

-- all commands, in the order of the usage line
abbrev pub commands : List Command
commands = check ∷ compile ∷ run ∷ runsv ∷ gen ∷ []

-- The usage line.

-- a form as the usage line has it: `compile FILE`
abbrev pub form_text : Command → List ℕ
form_text command = word_of command ++ flat_map (λ part. codes " " ++ part.label) (parts_of command)

-- forms with a bar between two
abbrev pub forms_text : List Command → List ℕ
forms_text [] = []
forms_text (command ∷ []) = form_text command
forms_text (command ∷ other ∷ commands) = form_text command ++ (codes " | " ++ forms_text (other ∷ commands))

abbrev pub usage_line : List ℕ
usage_line = codes "usage: anvil " ++ (forms_text commands ++ codes "\n")

-- The form that words have.

-- the words of the command line, without the program's own name
abbrev pub words_of : List (String Global) → List (List ℕ)
words_of words = map string_bytes words

-- a command, and the words that stand for its parts
pub record Form : Type 0 where
  pub command : Command
  pub operands : List (List ℕ)

-- a word that may stand for a part: it is not empty and does not begin with `-`
abbrev pub is_operand : List ℕ → Bool
is_operand [] = false
is_operand (byte ∷ rest) = not (byte == 45)

-- the first of n numbers, from `first` on, that the word is in decimal without leading zeros
abbrev pub number_among : (first n : ℕ) → List ℕ → Option ℕ
number_among first zero word = None
number_among first (suc n) word =
    if bytes_eq word (decimal first) then Some first else number_among (first + 1) n word

-- the greatest number of a form; the least is 1
abbrev pub most_number : ℕ
most_number = 64

unfoldable pub number_of : List ℕ → Option ℕ
number_of = number_among 1 most_number

-- the word is what a part asks for
abbrev pub suits : Kind → List ℕ → Bool
suits (File limit) word = true
suits Number word = is_some (number_of word)
suits Word word = true

-- one such word for each part
abbrev pub fill : List Part → List (List ℕ) → Bool
fill [] [] = true
fill [] (word ∷ words) = false
fill (part ∷ parts) [] = false
fill (part ∷ parts) (word ∷ words) = is_operand word && (suits part.kind word && fill parts words)

-- the first of the commands whose form the words have
abbrev pub form_among : List Command → List ℕ → List (List ℕ) → Option Form
form_among [] word operands = None
form_among (command ∷ commands) word operands =
    if bytes_eq word (word_of command) && fill (parts_of command) operands
    then Some (record { command = command; operands = operands }) else form_among commands word operands

abbrev pub form_of : List (List ℕ) → Option Form
form_of [] = None
form_of (word ∷ operands) = form_among commands word operands

-- What a form loads.

-- a file to load: its name, and the most bytes of it
pub record Load : Type 0 where
  pub name : List ℕ
  pub limit : ℕ

abbrev pub load_before : Kind → List ℕ → List Load → List Load
load_before (File limit) name later = (record { name = name; limit = limit }) ∷ later
load_before Number name later = later
load_before Word name later = later

abbrev pub loads_under : List Part → List (List ℕ) → List Load
loads_under [] operands = []
loads_under (part ∷ parts) [] = []
loads_under (part ∷ parts) (operand ∷ operands) = load_before part.kind operand (loads_under parts operands)

-- the files that a form loads, in order
abbrev pub loads_of : Form → List Load
loads_of form = loads_under (parts_of form.command) form.operands

-- each name under which a form loads may be asked for
abbrev pub MayLoad : (List ℕ → Type 0) → Form → Type 0
MayLoad may_ask form = AllByRecursion (λ load. may_ask load.name) (loads_of form)

-- The form of each command, of its operands.

-- `check FILE`
abbrev pub check_form : List ℕ → Form
check_form file = record { command = check; operands = file ∷ [] }

-- `compile FILE`
abbrev pub compile_form : List ℕ → Form
compile_form file = record { command = compile; operands = file ∷ [] }

-- `run FILE PROC STIM`
abbrev pub run_form : List ℕ → List ℕ → List ℕ → Form
run_form file name stimulus = record { command = run; operands = file ∷ name ∷ stimulus ∷ [] }

-- `runsv FILE SV PROC STIM`
abbrev pub runsv_form : List ℕ → List ℕ → List ℕ → List ℕ → Form
runsv_form file text name stimulus = record { command = runsv; operands = file ∷ text ∷ name ∷ stimulus ∷ [] }

-- `gen NUMBER`
abbrev pub gen_form : ℕ → Form
gen_form count = record { command = gen; operands = decimal count ∷ [] }

-- the load of a file, of a text of modules, and of a stimulus
abbrev pub file_load : List ℕ → Load
file_load file = record { name = file; limit = longest_file }

abbrev pub text_load : List ℕ → Load
text_load text = record { name = text; limit = longest_text }

abbrev pub stimulus_load : List ℕ → Load
stimulus_load stimulus = record { name = stimulus; limit = longest_stimulus }
