-- Where a term or an act ends, what the stack said before holds of what it comes to. `Good` says so of a step: the next
-- state is again one that the tokens read, or the thread's term is whole before its `}`. Each case of the step puts the part
-- into its frame, by one case of the grammar.
use Rattle.std.proofs.Common.{ℕ, List, ◌∷◌, Some, None}
use Rattle.std.specs.Prelude.{⊤}
use Rattle.anvil_lexer.specs.declared.token.Token.{Token}
use Rattle.anvil_lexer.specs.declared.token.TokenKind.{TokenKind}
use Rattle.anvil_lexer.specs.declared.token.TokenKind.TheVariants.{Key, Mark}
use Rattle.anvil_lexer.specs.declared.token.Keyword.TheVariants as key
use Rattle.anvil_lexer.specs.declared.token.Mark.TheVariants as mark
use Rattle.anvil_tree.specs.Tree as tree
use Rattle.anvil_tree.specs.Tree.{Expr, Term, Act}
use Rattle.anvil_grammar.specs.Words.{Is}
use Rattle.anvil_grammar.specs.Grammar.{IsTerm, single, follow, beside, follow_bound, beside_bound, IsAct, when, either, block}
use Rattle.anvil_grammar.specs.State as states
use Rattle.anvil_grammar.specs.State.{Frame, ThreadState, ThreadReading}
use Rattle.anvil_grammar.specs.Step.{unexpected, onward, finished, Threaded, term_ends, act_step, else_step}
use Rattle.anvil_grammar.proofs.Kept.Waiting.{WantsTerm, at_first, chained, parted, chained_bound, parted_bound, in_first_side, in_second_side, in_block, WantsAct, unbound, bound, Reads, at_term, act_read, first_read, else_read}

-- the tokens from `first` are the term, behind which its `}` stands
pub record IsWhole (first : List Token) (term : Term) (rest : List Token) : Type 0 where
  pub closing : Token
  pub is : IsTerm first term (closing ∷ rest)
  pub is_closing : Is (Mark mark.CloseBrace) closing

abbrev pub Good : List Token → Threaded → List Token → Type 0
Good first unexpected now = ⊤
Good first (onward begun reading) now = Reads first reading.stack reading.state now
Good first (finished term) now = IsWhole first term now

module _ {first : List Token} {closing : Token} {now : List Token} (is_closing : Is (Mark mark.CloseBrace) closing) where
  pub term_good : {stack : List Frame} {from : List Token} → WantsTerm first stack from → (term : Term) → IsTerm from term (closing ∷ now)
      → Good first (term_ends stack term) now
  term_good at_first term is = record { closing = closing; is = is; is_closing = is_closing }
  term_good (chained {act = act} wants is_act is_sign) term is = term_good wants (tree.follow None act term) (follow is_act is_sign is)
  term_good (parted {act = act} wants is_act is_sign) term is = term_good wants (tree.beside None act term) (beside is_act is_sign is)
  term_good (chained_bound {name = name} {act = act} wants is_let is_word is_equals is_act is_sign) term is =
      term_good wants (tree.follow (Some name) act term) (follow_bound is_let is_word is_equals is_act is_sign is)
  term_good (parted_bound {name = name} {act = act} wants is_let is_word is_equals is_act is_sign) term is =
      term_good wants (tree.beside (Some name) act term) (beside_bound is_let is_word is_equals is_act is_sign is)
  term_good (in_first_side wants is_if is_condition is_opening) term is = first_read wants is_if is_condition is_opening is is_closing
  term_good (in_second_side wants is_if is_condition is_opening is_first is_end is_else is_start) term is =
      act_read wants (either is_if is_condition is_opening is_first is_end is_else is_start is is_closing)
  term_good (in_block wants is_opening) term is = act_read wants (block is_opening is is_closing)

module _ {first : List Token} {token : Token} {from now : List Token} (act : Act) (is_act : IsAct from act (token ∷ now)) where
  -- where no `let` stands before the act
  plain_good : (stack : List Frame) → WantsTerm first stack from → (kind : TokenKind) → Is kind token → Good first (act_step stack act kind) now
  plain_good (states.binding name ∷ stack) wants kind is = elim wants [ ]
  plain_good stack wants (Mark mark.Chain) is = at_term (chained wants is_act is)
  plain_good stack wants (Mark mark.Semicolon) is = at_term (parted wants is_act is)
  plain_good stack wants (Mark mark.CloseBrace) is = term_good is wants (tree.single act) (single is_act)
  plain_good stack wants kind is = tt

  pub act_good : {stack : List Frame} → WantsAct first stack from → (kind : TokenKind) → Is kind token → Good first (act_step stack act kind) now
  act_good {stack = stack} (unbound wants) kind is = plain_good stack wants kind is
  act_good (bound wants is_let is_word is_equals) (Mark mark.Chain) is = at_term (chained_bound wants is_let is_word is_equals is_act is)
  act_good (bound wants is_let is_word is_equals) (Mark mark.Semicolon) is = at_term (parted_bound wants is_let is_word is_equals is_act is)
  act_good (bound wants is_let is_word is_equals) kind is = tt

-- behind the first side of an `if`
module _ {first : List Token} {token : Token} {now : List Token} where
  when_good : {stack : List Frame} {at : ℕ} {condition : Expr} {term : Term} → Reads first stack (states.after_first at condition term) (token ∷ now)
      → (kind : TokenKind) → Is kind token → Good first (act_step stack (tree.when at condition term) kind) now
  when_good (first_read {word = word} {condition = condition} {term = term} wants is_if is_condition is_opening is_term is_closing) kind is =
      act_good (tree.when word.at condition term) (when is_if is_condition is_opening is_term is_closing) wants kind is

  pub else_good : {stack : List Frame} {at : ℕ} {condition : Expr} {term : Term} → Reads first stack (states.after_first at condition term) (token ∷ now)
      → (kind : TokenKind) → Is kind token → Good first (else_step stack at condition term kind) now
  else_good reads (Key key.Else) is = else_read reads is
  else_good reads kind is = when_good reads kind is
