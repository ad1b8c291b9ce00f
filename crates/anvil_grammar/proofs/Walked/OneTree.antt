-- What the grammar calls a file is walked to its end, and a list of tokens has one walk; so it is one file at most.
use Rattle.std.proofs.Common.{◌≡◌, List, ap, sym, ◌∙◌}
use Rattle.anvil_lexer.specs.declared.token.Token.{Token}
use Rattle.anvil_tree.specs.Tree.{File}
use Rattle.anvil_grammar.specs.Grammar.{IsFile}
use Rattle.anvil_grammar.specs.State.{ended}
use Rattle.anvil_grammar.specs.Step.{stands, Walk}
use Rattle.anvil_grammar.proofs.Walked.File.{file_walked}

same_end : (one other : File) → stands (ended one) ≡ stands (ended other) → one ≡ other
same_end one other same = cc

pub one_tree : (tokens : List Token) (one other : File) → IsFile tokens one → IsFile tokens other → one ≡ other
one_tree tokens one other is also = same_end one other (ap (λ (walked : Walk). walked.stop) (sym (file_walked is) ∙ file_walked also))
