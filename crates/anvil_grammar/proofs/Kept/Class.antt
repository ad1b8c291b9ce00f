-- A class, message by message. `from` are the tokens from `chan` on. Where a message is wanted, any list of messages that the
-- next tokens are gives the whole class, with the messages before them.
use Rattle.std.proofs.Common.{◌≡◌, List, [], ◌∷◌, ◌++◌, Option, Some, None, refl, ap, append_assoc}
use Rattle.anvil_lexer.specs.declared.token.Token.{Token}
use Rattle.anvil_lexer.specs.declared.token.TokenKind.{TokenKind}
use Rattle.anvil_lexer.specs.declared.token.TokenKind.TheVariants.{Key, Word, Mark}
use Rattle.anvil_lexer.specs.declared.token.Keyword.TheVariants as key
use Rattle.anvil_lexer.specs.declared.token.Mark.TheVariants as mark
use Rattle.anvil_tree.specs.declared.file.Side.{Side}
use Rattle.anvil_tree.specs.declared.file.Message.{Message}
use Rattle.anvil_tree.specs.Tree.{Name}
use Rattle.anvil_grammar.specs.Words.{Is, side_of}
use Rattle.anvil_grammar.specs.Grammar.{IsMessage, AreMessages, last, last_with_comma, more, IsClass, of_messages}
use Rattle.anvil_grammar.specs.State as states
use Rattle.anvil_grammar.specs.State.{Label, MessageState, ClassDraft, ClassState}
use Rattle.anvil_grammar.specs.Step.{labelled, class_of_draft, with_message, side_step, message_step, class_step_by, class_step}
use Rattle.anvil_grammar.proofs.Kept.Parts.{GoodStep, within_good, MessageReads, way_read, message_good}

abbrev pub WantsMessages : List Token → ClassDraft → List Token → Type 0
WantsMessages from draft now = (others : List Message) (closing : Token) (rest : List Token) → AreMessages now others (closing ∷ rest)
    → Is (Mark mark.CloseBrace) closing → IsClass from (record { name = draft.label.name; at = draft.label.at; messages = draft.messages ++ others }) rest

pub data ClassReads : List Token → ClassState → List Token → Type 0 where
  chan_read : {chan : Token} {now : List Token} → Is (Key key.Chan) chan → ClassReads (chan ∷ now) states.class_name now
  class_named : {word : Token} {from now : List Token} {name : Name} → ClassReads from states.class_name (word ∷ now) → Is (Word name) word
      → ClassReads from (states.class_opening (labelled name word)) now
  class_opened : {opening : Token} {from now : List Token} {label : Label} → ClassReads from (states.class_opening label) (opening ∷ now)
      → Is (Mark mark.OpenBrace) opening → ClassReads from (states.first_message (record { label = label; messages = [] })) now
  in_message : {from middle now : List Token} {draft : ClassDraft} {state : MessageState} → WantsMessages from draft middle → MessageReads middle state now
      → ClassReads from (states.in_message draft state) now
  message_read : {from middle now : List Token} (draft : ClassDraft) (message : Message) → WantsMessages from draft middle → IsMessage middle message now
      → ClassReads from (states.after_message (with_message draft message)) now
  comma_read : {comma : Token} {from now : List Token} {draft : ClassDraft} → ClassReads from (states.after_message draft) (comma ∷ now)
      → Is (Mark mark.Comma) comma → ClassReads from (states.after_comma draft) now

wants_first : {from now : List Token} {draft : ClassDraft} → ClassReads from (states.first_message draft) now → WantsMessages from draft now
wants_first (class_opened (class_named (chan_read is_chan) is_word) is_opening) others closing rest are is = of_messages is_chan is_word is_opening are is

wants_more : {from now : List Token} {draft : ClassDraft} → ClassReads from (states.after_comma draft) now → WantsMessages from draft now
wants_more (comma_read (message_read draft message wants is_message) is_comma) others closing rest are is =
    rw (append_assoc draft.messages (message ∷ []) others) (wants (message ∷ others) closing rest (more is_message is_comma are) is)

module _ {token : Token} {now : List Token} where
  last_ends : {from : List Token} {draft : ClassDraft} → ClassReads from (states.after_message draft) (token ∷ now) → Is (Mark mark.CloseBrace) token
      → IsClass from (class_of_draft draft) now
  last_ends (message_read draft message wants is_message) is = wants (message ∷ []) token now (last is_message) is

  comma_ends : {from : List Token} {draft : ClassDraft} → ClassReads from (states.after_comma draft) (token ∷ now) → Is (Mark mark.CloseBrace) token
      → IsClass from (class_of_draft draft) now
  comma_ends (comma_read (message_read draft message wants is_message) is_comma) is = wants (message ∷ []) token now (last_with_comma is_message is_comma) is

  side_good : {from : List Token} (draft : ClassDraft) → WantsMessages from draft (token ∷ now) → (found : Option Side) → side_of token.kind ≡ found
      → GoodStep (ClassReads from) (IsClass from) (side_step draft token found) now
  side_good draft wants (Some side) is = in_message wants (way_read is)
  side_good draft wants None is = tt

  message_part_good : {from : List Token} {draft : ClassDraft} {state : MessageState} → ClassReads from (states.in_message draft state) (token ∷ now)
      → (kind : TokenKind) → GoodStep (ClassReads from) (IsClass from) (class_step_by (states.in_message draft state) token kind) now
  message_part_good {from = from} (in_message {middle = middle} {draft = draft} {state = state} wants reads) kind =
      within_good _ _ (MessageReads middle) (IsMessage middle) (ClassReads from) (IsClass from) now (message_step state token) (message_good state reads)
      (λ next is. in_message wants is) (λ message is. message_read draft message wants is)

  class_good_by : {from : List Token} (state : ClassState) → ClassReads from state (token ∷ now) → (kind : TokenKind) → Is kind token
      → GoodStep (ClassReads from) (IsClass from) (class_step_by state token kind) now
  class_good_by states.class_name reads (Word name) is = class_named reads is
  class_good_by (states.class_opening label) reads (Mark mark.OpenBrace) is = class_opened reads is
  class_good_by (states.first_message draft) reads kind is = side_good draft (wants_first reads) (side_of kind) (ap side_of is)
  class_good_by (states.in_message draft state) reads kind is = message_part_good reads kind
  class_good_by (states.after_message draft) reads (Mark mark.Comma) is = comma_read reads is
  class_good_by (states.after_message draft) reads (Mark mark.CloseBrace) is = last_ends reads is
  class_good_by (states.after_comma draft) reads (Mark mark.CloseBrace) is = comma_ends reads is
  class_good_by (states.after_comma draft) reads kind is = side_good draft (wants_more reads) (side_of kind) (ap side_of is)
  class_good_by state reads kind is = tt

  pub class_good : {from : List Token} (state : ClassState) → ClassReads from state (token ∷ now)
      → GoodStep (ClassReads from) (IsClass from) (class_step state token) now
  class_good state reads = class_good_by state reads token.kind refl
