-- Why bytes spell no file, and why a file does not pass its checks.
use Rattle.std.specs.Prelude.{◌≡◌, ℕ, List, Some, None}
use Rattle.anvil_lexer.specs.declared.token.Token.{Token}
use Rattle.anvil_lexer.specs.declared.error.LexErr.{LexErr}
use Rattle.anvil_lexer.specs.declared.error.LexErr.TheVariants as lexer
use Rattle.anvil_lexer.specs.TokenText.{IsTokenText, IsLexRefusal}
use Rattle.anvil_tree.specs.Tree.{File}
use Rattle.anvil_grammar.specs.declared.error.ParseErr.{ParseErr}
use Rattle.anvil_grammar.specs.declared.error.ParseErr.TheVariants as parser
use Rattle.anvil_grammar.specs.Refusal.{IsFirstRefusal}
use Rattle.first_check.specs.Check.{first_refusal}
use Rattle.channel_classes.specs.declared.error.ClassErr.{ClassErr}
use Rattle.channel_classes.specs.declared.error.ClassErr.TheVariants as class
use Rattle.channel_classes.specs.Classes.{classes_of}
use Rattle.channel_classes.specs.ClassChecks.{checks_of_classes}
use Rattle.core_file.specs.declared.error.NameErr.{NameErr}
use Rattle.core_file.specs.declared.error.NameErr.TheVariants as name
use Rattle.core_file.specs.ProcessChecks.{checks_of_processes}
use Rattle.core_term.specs.declared.rules.Rule.{Rule}
use Rattle.core_term.specs.declared.rules.Rule.TheVariants as rule
use Rattle.tool_answers.specs.declared.refusal.Code.{Code}
use Rattle.tool_answers.specs.declared.refusal.Code.TheVariants as code
use Rattle.tool_answers.specs.declared.refusal.Refusal.{Refusal}
use Rattle.tool_answers.specs.declared.refusal.Refusal.TheVariants.{Placed, NoMemory}
use Rattle.checked_files.specs.FileText.{IsFileText}

-- a fault of the lexer
abbrev pub of_lexer : LexErr → Refusal
of_lexer (lexer.NotUtf8 at) = Placed code.NotUtf8 at
of_lexer (lexer.BadChar at) = Placed code.BadChar at
of_lexer (lexer.BadNumber at) = Placed code.BadNumber at
of_lexer (lexer.LongName at) = Placed code.LongName at
of_lexer lexer.NoMemory = NoMemory

-- a refusal of the parser: what there is too many of is not told
abbrev pub of_parser : ParseErr → Refusal
of_parser (parser.Unexpected at) = Placed code.Unexpected at
of_parser (parser.TooDeep at) = Placed code.TooDeep at
of_parser (parser.TooMany kind at) = Placed code.TooMany at
of_parser parser.NoMemory = NoMemory

-- a check of the classes
abbrev pub of_classes : ClassErr → Refusal
of_classes (class.BadName at) = Placed code.BadName at
of_classes (class.Twice at) = Placed code.Twice at
of_classes (class.BadWidth at) = Placed code.BadWidth at
of_classes (class.BadCount at) = Placed code.BadCount at
of_classes (class.OwnLife at) = Placed code.OwnLife at
of_classes (class.NoSuchLife at) = Placed code.NoSuchLife at
of_classes class.NoMemory = NoMemory

-- a check of the processes: widths are not told
abbrev pub of_processes : NameErr → Refusal
of_processes (name.BadName at) = Placed code.BadName at
of_processes (name.Twice at) = Placed code.Twice at
of_processes (name.Unknown at) = Placed code.Unknown at
of_processes (name.TooManyPorts at) = Placed code.TooManyPorts at
of_processes (name.BadWidth at) = Placed code.BadWidth at
of_processes (name.BadCount at) = Placed code.BadCount at
of_processes (name.LiteralTooLarge at) = Placed code.LiteralTooLarge at
of_processes (name.WidthDiffers at left right) = Placed code.WidthDiffers at
of_processes (name.UnitUsed at) = Placed code.UnitUsed at
of_processes (name.WrongSide at) = Placed code.WrongSide at
of_processes (name.EndpointShared at) = Placed code.EndpointShared at
of_processes (name.RegisterShared at) = Placed code.RegisterShared at
of_processes (name.NotTail at) = Placed code.NotTail at
of_processes name.NoMemory = NoMemory

-- a timing rule
abbrev pub code_of : Rule → Code
code_of rule.V2 = code.V2
code_of rule.V3 = code.V3
code_of rule.V4 = code.V4
code_of rule.V5 = code.V5
code_of rule.V6 = code.V6
code_of rule.V7 = code.V7
code_of rule.V8 = code.V8

-- Bytes spell no file: they are refused by the lexer, or else by the parser.
pub data IsUnread (bytes : List ℕ) : Refusal → Type 0 where
  by_lexer : (fault : LexErr) → IsLexRefusal bytes fault → IsUnread bytes (of_lexer fault)
  by_parser : (tokens : List Token) (fault : ParseErr) → IsTokenText bytes tokens → IsFirstRefusal tokens fault
      → IsUnread bytes (of_parser fault)

-- A file does not pass: the first check of its classes that fails refuses it, or else the first of its processes.
pub data IsUnchecked (file : File) : Refusal → Type 0 where
  by_classes : (fault : ClassErr) → first_refusal (checks_of_classes file) ≡ Some fault
      → IsUnchecked file (of_classes fault)
  by_processes : (fault : NameErr) → first_refusal (checks_of_classes file) ≡ None
      → first_refusal (checks_of_processes (classes_of file) file) ≡ Some fault
      → IsUnchecked file (of_processes fault)

-- Bytes are refused by every command that loads a file: they spell none, or one that does not pass.
pub data IsFileRefused (bytes : List ℕ) : Refusal → Type 0 where
  unread : (refusal : Refusal) → IsUnread bytes refusal → IsFileRefused bytes refusal
  unchecked : (file : File) (refusal : Refusal) → IsFileText bytes file → IsUnchecked file refusal
      → IsFileRefused bytes refusal
