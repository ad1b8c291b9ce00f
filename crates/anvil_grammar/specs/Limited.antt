-- The reading of a file token by token within the limits: it stops at the first token that is unexpected, opens one
-- bracket too many or begins one thing too many.
use Rattle.std.specs.Prelude.{ℕ, ◌+◌, nat_le, ◌&&◌, Bool, true, false, List, [], ◌∷◌, if◌then◌else◌}
use Rattle.anvil_lexer.specs.declared.token.Token.{Token}
use Rattle.anvil_lexer.specs.declared.token.TokenKind.{TokenKind}
use Rattle.anvil_lexer.specs.declared.token.TokenKind.TheVariants.{Mark}
use Rattle.anvil_lexer.specs.declared.token.Mark.TheVariants as mark
use Rattle.anvil_tree.specs.Tree.{File}
use Rattle.anvil_grammar.specs.declared.error.Counted.{Counted}
use Rattle.anvil_grammar.specs.declared.error.Counted.TheVariants as counted
use Rattle.anvil_grammar.specs.declared.error.ParseErr.{ParseErr}
use Rattle.anvil_grammar.specs.declared.error.ParseErr.TheVariants.{Unexpected, TooDeep, TooMany}
use Rattle.anvil_grammar.specs.Begun.{Begin, most}
use Rattle.anvil_grammar.specs.Limits.{most_open, open_after}
use Rattle.anvil_grammar.specs.State.{State, start}
use Rattle.anvil_grammar.specs.Step.{Step, unexpected, onward, finished, step}

-- how many brackets are open, and how many things of each kind their present owner has
pub record Tally : Type 0 where
  pub open_brackets : ℕ
  pub classes : ℕ
  pub messages : ℕ
  pub processes : ℕ
  pub endpoints : ℕ
  pub registers : ℕ
  pub threads : ℕ
  pub acts : ℕ
  pub nodes : ℕ

abbrev pub empty_tally : Tally
empty_tally =
    record {
      open_brackets = 0;
      classes = 0;
      messages = 0;
      processes = 0;
      endpoints = 0;
      registers = 0;
      threads = 0;
      acts = 0;
      nodes = 0;
    }

abbrev pub count_of : Counted → Tally → ℕ
count_of counted.Class tally = tally.classes
count_of counted.Message tally = tally.messages
count_of counted.Process tally = tally.processes
count_of counted.Endpoint tally = tally.endpoints
count_of counted.Register tally = tally.registers
count_of counted.Thread tally = tally.threads
count_of counted.Act tally = tally.acts
count_of counted.Expr tally = tally.nodes

abbrev pub with_open : ℕ → Tally → Tally
with_open many tally = record tally { open_brackets = many }

-- after one more thing of the kind, which sets back the numbers of what it owns
abbrev pub with_one : Counted → Tally → Tally
with_one counted.Class tally = record tally { classes = tally.classes + 1; messages = 0 }
with_one counted.Message tally = record tally { messages = tally.messages + 1 }
with_one counted.Process tally =
    record tally { processes = tally.processes + 1; endpoints = 0; registers = 0; threads = 0 }
with_one counted.Endpoint tally = record tally { endpoints = tally.endpoints + 1 }
with_one counted.Register tally = record tally { registers = tally.registers + 1 }
with_one counted.Thread tally = record tally { threads = tally.threads + 1; acts = 0 }
with_one counted.Act tally = record tally { acts = tally.acts + 1; nodes = 0 }
with_one counted.Expr tally = record tally { nodes = tally.nodes + 1 }

-- whether counts stay within their limits
pub data Admitted : Type 0 where
  within_limits : Tally → Admitted
  past_limit : ParseErr → Admitted

-- the things, one after the other
abbrev pub admitted : Tally → List Begin → Admitted
admitted tally [] = within_limits tally
admitted tally (begin ∷ begun) =
    if nat_le (most begin.kind) (count_of begin.kind tally)
    then past_limit (TooMany begin.kind begin.at)
    else admitted (with_one begin.kind tally) begun

abbrev pub is_opening : TokenKind → Bool
is_opening (Mark mark.OpenBrace) = true
is_opening (Mark mark.OpenParen) = true
is_opening (Mark mark.OpenBracket) = true
is_opening kind = false

-- a token, which may open or close a bracket
abbrev pub opened : Tally → Token → Admitted
opened tally token =
    if is_opening token.kind && nat_le most_open tally.open_brackets
    then past_limit (TooDeep token.at)
    else within_limits (with_open (open_after tally.open_brackets token.kind) tally)

abbrev pub admitted_with : Admitted → List Begin → Admitted
admitted_with (within_limits tally) begun = admitted tally begun
admitted_with (past_limit refusal) begun = past_limit refusal

-- what reading within the limits comes to
pub data Verdict : Type 0 where
  goes_on : State → Tally → Verdict
  refused : ParseErr → Verdict

abbrev pub verdict_at : State → Admitted → Verdict
verdict_at state (within_limits tally) = goes_on state tally
verdict_at state (past_limit refusal) = refused refusal

abbrev pub verdict_of : Tally → Token → Step State File → Verdict
verdict_of tally token unexpected = refused (Unexpected token.at)
verdict_of tally token (onward begun state) = verdict_at state (admitted_with (opened tally token) begun)
verdict_of tally token (finished items) = refused (Unexpected token.at)

abbrev pub take_token : State → Tally → Token → Verdict
take_token state tally token = verdict_of tally token (step state token)

abbrev pub read_on : (State → Tally → Verdict) → Verdict → Verdict
read_on next (goes_on state tally) = next state tally
read_on next (refused refusal) = refused refusal

abbrev pub read : State → Tally → List Token → Verdict
read state tally [] = goes_on state tally
read state tally (token ∷ rest) = read_on (λ next many. read next many rest) (take_token state tally token)

abbrev pub verdict : List Token → Verdict
verdict tokens = read start empty_tally tokens
