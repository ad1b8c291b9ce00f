-- Bytes that spell a file, and whether the file passes the checks of its names and widths.
use Rattle.std.specs.Prelude.{◌≡◌, ℕ, List, None}
use Rattle.anvil_lexer.specs.declared.token.Token.{Token}
use Rattle.anvil_lexer.specs.TokenText.{IsTokenText}
use Rattle.anvil_tree.specs.Tree.{File}
use Rattle.anvil_grammar.specs.Refusal.{IsAccepted}
use Rattle.first_check.specs.Check.{first_refusal}
use Rattle.channel_classes.specs.Classes.{classes_of}
use Rattle.channel_classes.specs.ClassChecks.{checks_of_classes}
use Rattle.core_file.specs.ProcessChecks.{checks_of_processes}

-- bytes that spell the file: by their tokens, which are that file and within all limits
pub record IsFileText (bytes : List ℕ) (file : File) : Type 0 where
  pub tokens : List Token
  pub spelled : IsTokenText bytes tokens
  pub accepted : IsAccepted tokens file

-- no check of the classes of the file fails, and none of its processes
pub record IsChecked (file : File) : Type 0 where
  pub classes : first_refusal (checks_of_classes file) ≡ None
  pub processes : first_refusal (checks_of_processes (classes_of file) file) ≡ None

-- bytes that spell such a file
pub record IsCheckedText (bytes : List ℕ) (file : File) : Type 0 where
  pub spelled : IsFileText bytes file
  pub checked : IsChecked file
