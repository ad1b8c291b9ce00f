-- What the grammar calls a file is walked to its end: the reading comes to the file's tree, and the things that begin are those
-- of the way in which the tokens are the file, in the order of the text.
use Rattle.std.proofs.Common.{◌≡◌, List, [], ◌∷◌, ◌++◌, refl, append_assoc, append-nil}
use Rattle.anvil_lexer.specs.declared.token.Token.{Token}
use Rattle.anvil_tree.specs.Tree as tree
use Rattle.anvil_tree.specs.Tree.{File}
use Rattle.anvil_grammar.specs.Grammar.{IsFile, ended, class_next, process_next}
use Rattle.anvil_grammar.specs.Limits.{begun_in}
use Rattle.anvil_grammar.specs.State as states
use Rattle.anvil_grammar.specs.State.{between, start}
use Rattle.anvil_grammar.specs.Step.{stands, walk}
use Rattle.anvil_grammar.proofs.Walked.Class.{class_walked}
use Rattle.anvil_grammar.proofs.Walked.Process.{process_walked}

-- behind the items that are read
items_walked : {tokens : List Token} {file : File} (items : File) (is : IsFile tokens file)
    → walk (between items) tokens ≡ record { begun = begun_in is; stop = stands (states.ended (items ++ file)) }
items_walked items (ended is) = rw is (rw (append-nil items) refl)
items_walked items (class_next {class = class} {items = others} one is) =
    rw ((class_walked items one).same) (rw (items_walked (items ++ (tree.class class ∷ [])) is) (rw (append_assoc items (tree.class class ∷ []) others) refl))
items_walked items (process_next {process = process} {items = others} one is) =
    rw ((process_walked items one).same) (rw (items_walked (items ++ (tree.process process ∷ [])) is) (rw (append_assoc items (tree.process process ∷ []) others) refl))

pub file_walked : {tokens : List Token} {file : File} (is : IsFile tokens file) → walk start tokens ≡ record { begun = begun_in is; stop = stands (states.ended file) }
file_walked is = items_walked [] is
