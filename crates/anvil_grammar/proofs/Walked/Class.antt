-- What the grammar calls a class is walked: its messages come to the draft one by one. Behind the last message the reading stands in
-- one of two ways, with a comma read or not, and `}` ends the class in both; so messages are walked together with what `}` does.
use Rattle.std.proofs.Common.{◌≡◌, ℕ, List, [], ◌∷◌, ◌++◌, Some, refl, ap, append_assoc}
use Rattle.anvil_lexer.specs.declared.token.Token.{Token}
use Rattle.anvil_lexer.specs.declared.token.TokenKind.{TokenKind}
use Rattle.anvil_lexer.specs.declared.token.TokenKind.TheVariants.{Key, Mark}
use Rattle.anvil_lexer.specs.declared.token.Mark.TheVariants as mark
use Rattle.anvil_tree.specs.declared.file.Side.{Side}
use Rattle.anvil_tree.specs.declared.file.Message.{Message}
use Rattle.anvil_tree.specs.declared.file.LifeText.{LifeText}
use Rattle.anvil_tree.specs.Tree as tree
use Rattle.anvil_tree.specs.Tree.{Class, File}
use Rattle.anvil_grammar.specs.declared.error.Counted.TheVariants as counted
use Rattle.anvil_grammar.specs.Words.{Is, side_of}
use Rattle.anvil_grammar.specs.Grammar.{IsLife, cycles, until, IsWidth, bits, IsMessage, travelling, AreMessages, last, last_with_comma, more, IsClass, of_messages}
use Rattle.anvil_grammar.specs.Begun.{Begin}
use Rattle.anvil_grammar.specs.Limits.{first_begins, begun_in_messages, begun_in_class}
use Rattle.anvil_grammar.specs.State.{Label, Width, logic_wanted, message_name, message_width, message_at, message_life, message_closing, ClassDraft, ClassState, first_message, in_message, after_message, after_comma, between, in_class, start}
use Rattle.anvil_grammar.specs.Step.{begins, labelled, message_of, class_of_draft, with_message, class_step, class_step_by, Walk, walk}
use Rattle.anvil_grammar.proofs.Walked.ExprNodes.{begin}
use Rattle.anvil_grammar.proofs.Walked.Reading.{Comes, stays, on, step_to, move_to, on_to, as_begun}

-- where a message may begin
abbrev TakesMessage : ClassDraft → ClassState → Type 0
TakesMessage draft state =
    (token : Token) (side : Side) → side_of token.kind ≡ Some side → class_step state token ≡ begins counted.Message token (in_message draft (message_name side))

comma_takes_by : (draft : ClassDraft) (token : Token) (kind : TokenKind) (side : Side) → side_of kind ≡ Some side
    → class_step_by (after_comma draft) token kind ≡ begins counted.Message token (in_message draft (message_name side))
comma_takes_by draft token (Key word) side is = rw is refl
comma_takes_by draft token kind side is = absurd cc

comma_takes : (draft : ClassDraft) → TakesMessage draft (after_comma draft)
comma_takes draft token side is = comma_takes_by draft token token.kind side is

first_takes : (draft : ClassDraft) → TakesMessage draft (first_message draft)
first_takes draft token side is = rw is refl

-- the messages behind those of the draft
abbrev with_messages : ClassDraft → List Message → ClassDraft
with_messages draft messages = record { label = draft.label; messages = draft.messages ++ messages }

with_more : (draft : ClassDraft) (message : Message) (messages : List Message)
    → with_messages (with_message draft message) messages ≡ with_messages draft (message ∷ messages)
with_more draft message messages = rw (append_assoc draft.messages (message ∷ []) messages) refl

-- a message begins by its first token
side_first : {from rest : List Token} {message : Message} → IsMessage from message rest → (others : List Begin)
    → first_begins counted.Message from [] ++ others ≡ first_begins counted.Message from others
side_first (travelling a b c d e f g h) others = refl

-- the class ends
abbrev EndsClass : List Token → Type 0
EndsClass [] = ⊥
EndsClass (token ∷ rest) = Is (Mark mark.CloseBrace) token

module _ (items : File) where
  abbrev reads : ClassState → List Token → Walk
  reads state tokens = walk (in_class items state) tokens

  width_walked : {from rest : List Token} {width width_at : ℕ} (draft : ClassDraft) (side : Side) (label : Label) → IsWidth from width width_at rest
      → reads (in_message draft (message_width side label logic_wanted)) from
      ≡ reads (in_message draft (message_at side label (record { width = width; width_at = width_at }))) rest
  width_walked draft side label (bits a b c d) = rw a (rw b (rw c (rw d refl)))

  life_walked : {from rest : List Token} {life : LifeText} {life_at : ℕ} (draft : ClassDraft) (side : Side) (label : Label) (width : Width) → IsLife from life life_at rest
      → reads (in_message draft (message_life side label width)) from ≡ reads (in_message draft (message_closing (message_of side label width life life_at))) rest
  life_walked draft side label width (cycles a b) = rw a (rw b refl)
  life_walked draft side label width (until a) = rw a refl

  message_walked : {from rest : List Token} {message : Message} (draft : ClassDraft) (state : ClassState) → TakesMessage draft state → IsMessage from message rest
      → Comes (reads state from) (first_begins counted.Message from []) (reads (after_message (with_message draft message)) rest)
  message_walked draft state takes (travelling {way = way} {word = word} {from = from} {middle = middle} {toward = toward} {name = name} {width = width} {width_at = width_at} is_way is_word is_colon is_opening is_width is_at is_life is_closing) =
      let label = labelled name word in
      let wide : Width = record { width = width; width_at = width_at } in
      step_to (begin counted.Message way.at ∷ []) (reads (in_message draft (message_width toward label logic_wanted)) from) (rw (takes way toward is_way) (rw is_word (rw is_colon (rw is_opening refl))))
      (on_to (stays (width_walked draft toward label is_width))
      (rw is_at (rw (life_walked draft toward label wide is_life) (rw is_closing refl))))

  -- what the token behind the messages does; there is one, so the first case is any walk
  abbrev behind_class : ClassDraft → List Token → Walk
  behind_class draft [] = walk start []
  behind_class draft (closing ∷ rest) = walk (between (items ++ (tree.class (class_of_draft draft) ∷ []))) rest

  class_ends : (draft : ClassDraft) (rest : List Token) → EndsClass rest → reads (after_message draft) rest ≡ behind_class draft rest
  class_ends draft [] ends = absurd ends
  class_ends draft (closing ∷ rest) ends = rw ends refl

  class_ends_with_comma : (draft : ClassDraft) (rest : List Token) → EndsClass rest → reads (after_comma draft) rest ≡ behind_class draft rest
  class_ends_with_comma draft [] ends = absurd ends
  class_ends_with_comma draft (closing ∷ rest) ends = rw ends refl

  messages_walked : {from rest : List Token} {messages : List Message} (draft : ClassDraft) (state : ClassState) → TakesMessage draft state
      → (are : AreMessages from messages rest) → EndsClass rest → Comes (reads state from) (begun_in_messages are) (behind_class (with_messages draft messages) rest)
  messages_walked {rest = rest} draft state takes (last {message = message} is) ends =
      on_to (message_walked draft state takes is) (class_ends (with_message draft message) rest ends)
  messages_walked {rest = rest} draft state takes (last_with_comma {message = message} is is_comma) ends =
      on_to (message_walked draft state takes is) (rw is_comma (class_ends_with_comma (with_message draft message) rest ends))
  messages_walked {rest = rest} draft state takes (more {middle = middle} {message = message} {messages = messages} is is_comma others) ends =
      let after = with_message draft message in
      on_to
      (as_begun (on (message_walked draft state takes is) (move_to (reads (after_comma after) middle) (rw is_comma refl) (messages_walked after (after_comma after) (comma_takes after) others ends)))
      (side_first is (begun_in_messages others)))
      (ap (λ these. behind_class these rest) (with_more draft message messages))

  pub class_walked : {from rest : List Token} {class : Class} (is : IsClass from class rest)
      → Comes (walk (between items) from) (begun_in_class is) (walk (between (items ++ (tree.class class ∷ []))) rest)
  class_walked (of_messages {chan = chan} {word = word} {from = from} {name = name} is_chan is_word is_opening are is_closing) =
      let draft : ClassDraft = record { label = labelled name word; messages = [] } in
      step_to (begin counted.Class chan.at ∷ []) (reads (first_message draft) from) (rw is_chan (rw is_word (rw is_opening refl)))
      (messages_walked draft (first_message draft) (first_takes draft) are is_closing)
