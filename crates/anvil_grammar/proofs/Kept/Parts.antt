-- The straight parts of a file: widths, messages, endpoints and registers. `from` are the tokens from the part on, and `now`
-- those that are left at the state. Each case of what a state says adds one token to what the state before it says,
-- and at the last token the cases together are the part by the grammar.
use Rattle.std.proofs.Common.{◌≡◌, ℕ, List, ◌∷◌, Option, Some, None, refl, ap}
use Rattle.std.specs.Prelude.{⊤}
use Rattle.anvil_lexer.specs.declared.token.Token.{Token}
use Rattle.anvil_lexer.specs.declared.token.TokenKind.{TokenKind}
use Rattle.anvil_lexer.specs.declared.token.TokenKind.TheVariants.{Key, Word, Number, Literal, Mark}
use Rattle.anvil_lexer.specs.declared.token.Keyword.TheVariants as key
use Rattle.anvil_lexer.specs.declared.token.Mark.TheVariants as mark
use Rattle.anvil_tree.specs.declared.file.Side.{Side}
use Rattle.anvil_tree.specs.declared.file.Message.{Message}
use Rattle.anvil_tree.specs.declared.file.Register.{Register}
use Rattle.anvil_tree.specs.declared.file.LifeText.{LifeText}
use Rattle.anvil_tree.specs.declared.file.LifeText.TheVariants.{Cycles}
use Rattle.anvil_tree.specs.declared.file.LiteralText.{LiteralText}
use Rattle.anvil_tree.specs.Tree.{Name}
use Rattle.anvil_grammar.specs.Words.{Is, side_of}
use Rattle.anvil_grammar.specs.Grammar.{IsWidth, bits, IsLife, cycles, until, IsMessage, travelling, IsEndpoint, held, IsReset, unsaid, said, IsRegister, kept}
use Rattle.anvil_grammar.specs.State as states
use Rattle.anvil_grammar.specs.State.{Label, Width, WidthState, MessageState, EndpointState, RegisterState}
use Rattle.anvil_grammar.specs.Step.{Step, unexpected, onward, finished, within, labelled, width_step_by, message_of, message_step_by, message_step, endpoint_of, endpoint_side_step, endpoint_step_by, endpoint_step, register_of, register_step_by, register_step}

-- a step comes to a state that the tokens read, or to a part that they are
abbrev pub GoodStep : {P R : Type 0} → (P → List Token → Type 0) → (R → List Token → Type 0) → Step P R → List Token → Type 0
GoodStep reads whole unexpected now = ⊤
GoodStep reads whole (onward begun state) now = reads state now
GoodStep reads whole (finished part) now = whole part now

pub within_good : {P R Q S : Type 0} (inside : P → Q) (outside : R → Step Q S) (reads : P → List Token → Type 0) (whole : R → List Token → Type 0)
    (reads_outer : Q → List Token → Type 0) (whole_outer : S → List Token → Type 0) (now : List Token) (step : Step P R) → GoodStep reads whole step now
    → ((state : P) → reads state now → reads_outer (inside state) now)
    → ((part : R) → whole part now → GoodStep reads_outer whole_outer (outside part) now)
    → GoodStep reads_outer whole_outer (within inside outside step) now
within_good inside outside reads whole reads_outer whole_outer now unexpected good on ends = tt
within_good inside outside reads whole reads_outer whole_outer now (onward begun state) good on ends = on state good
within_good inside outside reads whole reads_outer whole_outer now (finished part) good on ends = ends part good

-- Widths.

pub data WidthReads : List Token → WidthState → List Token → Type 0 where
  width_begins : {now : List Token} → WidthReads now states.logic_wanted now
  logic_read : {word : Token} {now : List Token} → Is (Key key.Logic) word → WidthReads (word ∷ now) states.width_opening now
  width_opened : {opening : Token} {from now : List Token} → WidthReads from states.width_opening (opening ∷ now) → Is (Mark mark.OpenBracket) opening
      → WidthReads from states.width_number now
  width_numbered : {number : Token} {from now : List Token} {width : ℕ} → WidthReads from states.width_number (number ∷ now) → Is (Number width) number
      → WidthReads from (states.width_closing (record { width = width; width_at = number.at })) now

abbrev pub WholeWidth : List Token → Width → List Token → Type 0
WholeWidth from width rest = IsWidth from width.width width.width_at rest

module _ {token : Token} {now : List Token} where
  logic_on : {from : List Token} → WidthReads from states.logic_wanted (token ∷ now) → Is (Key key.Logic) token → WidthReads from states.width_opening now
  logic_on width_begins is = logic_read is

  width_ends : {from : List Token} {width : Width} → WidthReads from (states.width_closing width) (token ∷ now) → Is (Mark mark.CloseBracket) token
      → WholeWidth from width now
  width_ends (width_numbered (width_opened (logic_read is_word) is_opening) is_number) is = bits is_word is_opening is_number is

  pub width_good : {from : List Token} (state : WidthState) → WidthReads from state (token ∷ now) → (kind : TokenKind) → Is kind token
      → GoodStep (WidthReads from) (WholeWidth from) (width_step_by state token kind) now
  width_good states.logic_wanted reads (Key key.Logic) is = logic_on reads is
  width_good states.width_opening reads (Mark mark.OpenBracket) is = width_opened reads is
  width_good states.width_number reads (Number width) is = width_numbered reads is
  width_good (states.width_closing width) reads (Mark mark.CloseBracket) is = width_ends reads is
  width_good state reads kind is = tt

-- Messages.

pub data MessageReads : List Token → MessageState → List Token → Type 0 where
  way_read : {way : Token} {now : List Token} {side : Side} → side_of way.kind ≡ Some side → MessageReads (way ∷ now) (states.message_name side) now
  message_named : {word : Token} {from now : List Token} {side : Side} {name : Name} → MessageReads from (states.message_name side) (word ∷ now)
      → Is (Word name) word → MessageReads from (states.message_colon side (labelled name word)) now
  message_parted : {colon : Token} {from now : List Token} {side : Side} {label : Label} → MessageReads from (states.message_colon side label) (colon ∷ now)
      → Is (Mark mark.Colon) colon → MessageReads from (states.message_opening side label) now
  message_sizes : {opening : Token} {from middle now : List Token} {side : Side} {label : Label} {state : WidthState}
      → MessageReads from (states.message_opening side label) (opening ∷ middle) → Is (Mark mark.OpenParen) opening → WidthReads middle state now
      → MessageReads from (states.message_width side label state) now
  message_sized : {opening : Token} {from middle now : List Token} {side : Side} {label : Label} {width : Width}
      → MessageReads from (states.message_opening side label) (opening ∷ middle) → Is (Mark mark.OpenParen) opening → WholeWidth middle width now
      → MessageReads from (states.message_at side label width) now
  message_lives : {at : Token} {from now : List Token} {side : Side} {label : Label} {width : Width}
      → MessageReads from (states.message_at side label width) (at ∷ now) → Is (Mark mark.At) at → MessageReads from (states.message_life side label width) now
  message_counts : {hash : Token} {from now : List Token} {side : Side} {label : Label} {width : Width}
      → MessageReads from (states.message_life side label width) (hash ∷ now) → Is (Mark mark.Hash) hash
      → MessageReads from (states.message_count side label width) now
  message_lived : {from middle now : List Token} {side : Side} {label : Label} {width : Width} {life : LifeText} {life_at : ℕ}
      → MessageReads from (states.message_life side label width) middle → IsLife middle life life_at now
      → MessageReads from (states.message_closing (message_of side label width life life_at)) now

module _ {token : Token} {now : List Token} where
  message_width_good : {from : List Token} {side : Side} {label : Label} {state : WidthState}
      → MessageReads from (states.message_width side label state) (token ∷ now) → (kind : TokenKind) → Is kind token
      → GoodStep (MessageReads from) (IsMessage from) (message_step_by (states.message_width side label state) token kind) now
  message_width_good {from = from} (message_sizes {middle = middle} {state = state} reads is_opening inner) kind is =
      within_good _ _ (WidthReads middle) (WholeWidth middle) (MessageReads from) (IsMessage from) now _ (width_good state inner kind is)
      (λ next is. message_sizes reads is_opening is) (λ width is. message_sized reads is_opening is)

  count_ends : {from : List Token} {side : Side} {label : Label} {width : Width} {count : ℕ} → MessageReads from (states.message_count side label width) (token ∷ now)
      → Is (Number count) token → MessageReads from (states.message_closing (message_of side label width (Cycles count) token.at)) now
  count_ends (message_counts reads is_hash) is = message_lived reads (cycles is_hash is)

  message_ends : {from : List Token} {message : Message} → MessageReads from (states.message_closing message) (token ∷ now) → Is (Mark mark.CloseParen) token
      → IsMessage from message now
  message_ends (message_lived (message_lives (message_sized (message_parted (message_named (way_read is_way) is_word) is_colon) is_opening is_width) is_at) is_life) is =
      travelling is_way is_word is_colon is_opening is_width is_at is_life is

  message_good_by : {from : List Token} (state : MessageState) → MessageReads from state (token ∷ now) → (kind : TokenKind) → Is kind token
      → GoodStep (MessageReads from) (IsMessage from) (message_step_by state token kind) now
  message_good_by (states.message_name side) reads (Word name) is = message_named reads is
  message_good_by (states.message_colon side label) reads (Mark mark.Colon) is = message_parted reads is
  message_good_by (states.message_opening side label) reads (Mark mark.OpenParen) is = message_sizes reads is width_begins
  message_good_by (states.message_width side label state) reads kind is = message_width_good reads kind is
  message_good_by (states.message_at side label width) reads (Mark mark.At) is = message_lives reads is
  message_good_by (states.message_life side label width) reads (Mark mark.Hash) is = message_counts reads is
  message_good_by (states.message_life side label width) reads (Word name) is = message_lived reads (until is)
  message_good_by (states.message_count side label width) reads (Number count) is = count_ends reads is
  message_good_by (states.message_closing message) reads (Mark mark.CloseParen) is = message_ends reads is
  message_good_by state reads kind is = tt

  pub message_good : {from : List Token} (state : MessageState) → MessageReads from state (token ∷ now)
      → GoodStep (MessageReads from) (IsMessage from) (message_step state token) now
  message_good state reads = message_good_by state reads token.kind refl

-- Endpoints.

pub data EndpointReads : List Token → EndpointState → List Token → Type 0 where
  endpoint_named : {word : Token} {now : List Token} {name : Name} → Is (Word name) word
      → EndpointReads (word ∷ now) (states.endpoint_colon (labelled name word)) now
  endpoint_parted : {colon : Token} {from now : List Token} {label : Label} → EndpointReads from (states.endpoint_colon label) (colon ∷ now)
      → Is (Mark mark.Colon) colon → EndpointReads from (states.endpoint_side label) now
  endpoint_sided : {way : Token} {from now : List Token} {label : Label} {side : Side} → EndpointReads from (states.endpoint_side label) (way ∷ now)
      → side_of way.kind ≡ Some side → EndpointReads from (states.endpoint_class label side) now

module _ {token : Token} {now : List Token} where
  endpoint_ends : {from : List Token} {label : Label} {side : Side} {name : Name} → EndpointReads from (states.endpoint_class label side) (token ∷ now)
      → Is (Word name) token → IsEndpoint from (endpoint_of label side (labelled name token)) now
  endpoint_ends (endpoint_sided (endpoint_parted (endpoint_named is_word) is_colon) is_side) is = held is_word is_colon is_side is

  side_good : {from : List Token} {label : Label} → EndpointReads from (states.endpoint_side label) (token ∷ now) → (found : Option Side)
      → side_of token.kind ≡ found → GoodStep (EndpointReads from) (IsEndpoint from) (endpoint_side_step label found) now
  side_good reads (Some side) is = endpoint_sided reads is
  side_good reads None is = tt

  endpoint_good_by : {from : List Token} (state : EndpointState) → EndpointReads from state (token ∷ now) → (kind : TokenKind) → Is kind token
      → GoodStep (EndpointReads from) (IsEndpoint from) (endpoint_step_by state token kind) now
  endpoint_good_by (states.endpoint_colon label) reads (Mark mark.Colon) is = endpoint_parted reads is
  endpoint_good_by (states.endpoint_side label) reads kind is = side_good reads (side_of kind) (ap side_of is)
  endpoint_good_by (states.endpoint_class label side) reads (Word name) is = endpoint_ends reads is
  endpoint_good_by state reads kind is = tt

  pub endpoint_good : {from : List Token} (state : EndpointState) → EndpointReads from state (token ∷ now)
      → GoodStep (EndpointReads from) (IsEndpoint from) (endpoint_step state token) now
  endpoint_good state reads = endpoint_good_by state reads token.kind refl

-- Registers.

pub data RegisterReads : List Token → RegisterState → List Token → Type 0 where
  reg_read : {reg : Token} {now : List Token} → Is (Key key.Reg) reg → RegisterReads (reg ∷ now) states.register_name now
  register_named : {word : Token} {from now : List Token} {name : Name} → RegisterReads from states.register_name (word ∷ now) → Is (Word name) word
      → RegisterReads from (states.register_colon (labelled name word)) now
  register_sizes : {colon : Token} {from middle now : List Token} {label : Label} {state : WidthState}
      → RegisterReads from (states.register_colon label) (colon ∷ middle) → Is (Mark mark.Colon) colon → WidthReads middle state now
      → RegisterReads from (states.register_width label state) now
  register_sized : {colon : Token} {from middle now : List Token} {label : Label} {width : Width}
      → RegisterReads from (states.register_colon label) (colon ∷ middle) → Is (Mark mark.Colon) colon → WholeWidth middle width now
      → RegisterReads from (states.register_reset label width) now
  register_resets : {equals : Token} {from now : List Token} {label : Label} {width : Width} → RegisterReads from (states.register_reset label width) (equals ∷ now)
      → Is (Mark mark.Equals) equals → RegisterReads from (states.register_literal label width) now
  register_reset : {from middle now : List Token} {label : Label} {width : Width} {reset : Option LiteralText}
      → RegisterReads from (states.register_reset label width) middle → IsReset middle reset now
      → RegisterReads from (states.register_end (register_of label width reset)) now

module _ {token : Token} {now : List Token} where
  register_width_good : {from : List Token} {label : Label} {state : WidthState} → RegisterReads from (states.register_width label state) (token ∷ now)
      → (kind : TokenKind) → Is kind token → GoodStep (RegisterReads from) (IsRegister from) (register_step_by (states.register_width label state) token kind) now
  register_width_good {from = from} (register_sizes {middle = middle} {state = state} reads is_colon inner) kind is =
      within_good _ _ (WidthReads middle) (WholeWidth middle) (RegisterReads from) (IsRegister from) now _ (width_good state inner kind is)
      (λ next is. register_sizes reads is_colon is) (λ width is. register_sized reads is_colon is)

  literal_ends : {from : List Token} {label : Label} {width : Width} {wide value : ℕ} → RegisterReads from (states.register_literal label width) (token ∷ now)
      → Is (Literal wide value) token
      → RegisterReads from (states.register_end (register_of label width (Some (record { width = wide; value = value; at = token.at })))) now
  literal_ends (register_resets reads is_equals) is = register_reset reads (said is_equals is)

  kept_of : {from middle : List Token} {label : Label} {width : Width} {reset : Option LiteralText} → RegisterReads from (states.register_reset label width) middle
      → IsReset middle reset (token ∷ now) → Is (Mark mark.Semicolon) token → IsRegister from (register_of label width reset) now
  kept_of (register_sized (register_named (reg_read is_reg) is_word) is_colon is_width) is_reset is = kept is_reg is_word is_colon is_width is_reset is

  register_ends : {from : List Token} {register : Register} → RegisterReads from (states.register_end register) (token ∷ now)
      → Is (Mark mark.Semicolon) token → IsRegister from register now
  register_ends (register_reset reads is_reset) is = kept_of reads is_reset is

  register_good_by : {from : List Token} (state : RegisterState) → RegisterReads from state (token ∷ now) → (kind : TokenKind) → Is kind token
      → GoodStep (RegisterReads from) (IsRegister from) (register_step_by state token kind) now
  register_good_by states.register_name reads (Word name) is = register_named reads is
  register_good_by (states.register_colon label) reads (Mark mark.Colon) is = register_sizes reads is width_begins
  register_good_by (states.register_width label state) reads kind is = register_width_good reads kind is
  register_good_by (states.register_reset label width) reads (Mark mark.Equals) is = register_resets reads is
  register_good_by (states.register_reset label width) reads (Mark mark.Semicolon) is = kept_of reads unsaid is
  register_good_by (states.register_literal label width) reads (Literal wide value) is = literal_ends reads is
  register_good_by (states.register_end register) reads (Mark mark.Semicolon) is = register_ends reads is
  register_good_by state reads kind is = tt

  pub register_good : {from : List Token} (state : RegisterState) → RegisterReads from state (token ∷ now)
      → GoodStep (RegisterReads from) (IsRegister from) (register_step state token) now
  register_good state reads = register_good_by state reads token.kind refl
