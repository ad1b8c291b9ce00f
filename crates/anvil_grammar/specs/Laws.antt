-- The laws over the grammar that functions of the crate carry as contracts.
use Rattle.std.specs.Prelude.{◌≡◌, List}
use Rattle.anvil_lexer.specs.declared.token.Token.{Token}
use Rattle.anvil_lexer.specs.TokenText.{ArePlacesRising}
use Rattle.anvil_tree.specs.Tree.{File}
use Rattle.anvil_grammar.specs.Grammar.{IsFile}
use Rattle.anvil_grammar.specs.declared.error.ParseErr.{ParseErr}
use Rattle.anvil_tree.specs.Few.{IsFew}
use Rattle.anvil_tree.specs.Order.{places_of_file, NeverFall, ActsNeverFall}
use Rattle.anvil_grammar.specs.Refusal.{IsAccepted, IsRefusal, IsFirstRefusal, IsSameRefusal}

-- a list of tokens is one file at most
abbrev pub EachHasOneTree : Type 0
EachHasOneTree = (tokens : List Token) (one other : File) → IsFile tokens one → IsFile tokens other → one ≡ other

-- the places of the tree never fall where those of the tokens rise
abbrev pub TreesAreInOrder : Type 0
TreesAreInOrder =
    (tokens : List Token) (file : File) → ArePlacesRising tokens → IsFile tokens file → NeverFall (places_of_file file)

-- nor do the acts of a thread, each before the acts inside it
abbrev pub ActsAreInOrder : Type 0
ActsAreInOrder = (tokens : List Token) (file : File) → ArePlacesRising tokens → IsFile tokens file → ActsNeverFall file

-- what is within all limits as it begins in the text is within them by its tree
abbrev pub AcceptedIsFew : Type 0
AcceptedIsFew = (tokens : List Token) (file : File) → IsAccepted tokens file → IsFew file

-- tokens that are a file within all limits have no refusal
abbrev pub AcceptedHasNoRefusal : Type 0
AcceptedHasNoRefusal =
    (tokens : List Token) (file : File) (refusal : ParseErr) → IsAccepted tokens file → IsRefusal tokens refusal → ⊥

-- first refusals of one list of tokens are of one code, at one place
abbrev pub FirstRefusalsAreSame : Type 0
FirstRefusalsAreSame =
    (tokens : List Token) (one other : ParseErr) → IsFirstRefusal tokens one → IsFirstRefusal tokens other
    → IsSameRefusal one other
