-- Outside of threads each state can be walked to the end of a file: some tokens are named that finish each part. A word is
-- the empty one, and a number is one; a state ends where the token that is named comes to one that ends.
use Rattle.std.proofs.Common.{◌≡◌, ℕ, List, [], ◌∷◌, refl}
use Rattle.std.specs.List.{AllByRecursion}
use Rattle.anvil_lexer.specs.declared.token.Token.{Token}
use Rattle.anvil_lexer.specs.declared.token.TokenKind.{TokenKind}
use Rattle.anvil_lexer.specs.declared.token.TokenKind.TheVariants.{Key, Word, Number, Literal, Mark, End}
use Rattle.anvil_lexer.specs.declared.token.Keyword.TheVariants as key
use Rattle.anvil_lexer.specs.declared.token.Mark.TheVariants as mark
use Rattle.anvil_tree.specs.declared.file.Side.{Side}
use Rattle.anvil_tree.specs.declared.file.Side.TheVariants as side
use Rattle.anvil_tree.specs.declared.file.Message.{Message}
use Rattle.anvil_tree.specs.declared.file.Register.{Register}
use Rattle.anvil_tree.specs.Tree.{File}
use Rattle.anvil_grammar.specs.State as states
use Rattle.anvil_grammar.specs.State.{Label, Width, WidthState, MessageState, ClassDraft, ClassState, EndpointState, RegisterState, ThreadReading, ProcessDraft, ProcessState, State}
use Rattle.anvil_grammar.specs.Step.{Step, unexpected, onward, finished, step, stands, walk}
use Rattle.anvil_grammar.proofs.Kept.Waiting.{at_first, Reads, at_term}
use Rattle.anvil_grammar.proofs.Kept.Process.{ProcessReads, in_thread}

module _ (spot : ℕ) where
  -- a token of the kind, at the place that is asked for
  abbrev pub of_kind : TokenKind → Token
  of_kind kind = record { kind = kind; at = spot; len = 0 }

  -- some tokens bring the state to the end of a file
  pub record Ends (state : State) : Type 0 where
    pub more : List Token
    pub file : File
    pub is : (walk state more).stop ≡ stands (states.ended file)
    pub placed : AllByRecursion (λ (token : Token). token.at ≡ spot) more

  abbrev pub EndsStep : Step State File → Type 0
  EndsStep unexpected = ⊥
  EndsStep (onward begun state) = Ends state
  EndsStep (finished file) = ⊥

  by_step : (state : State) (kind : TokenKind) (found : Step State File) → step state (of_kind kind) ≡ found → EndsStep found → Ends state
  by_step state kind unexpected same ends = absurd ends
  by_step state kind (onward begun next) same ends =
      record { more = of_kind kind ∷ ends.more; file = ends.file; is = rw same ends.is; placed = (refl, ends.placed) }
  by_step state kind (finished file) same ends = absurd ends

  pub by_token : (state : State) (kind : TokenKind) → EndsStep (step state (of_kind kind)) → Ends state
  by_token state kind ends = by_step state kind (step state (of_kind kind)) refl ends

  pub file_ends : (items : File) → Ends (states.ended items)
  file_ends items = record { more = []; file = items; is = refl; placed = tt }

  pub items_end : (items : File) → Ends (states.between items)
  items_end items = by_token _ End (file_ends _)

  module _ (items : File) where
    -- classes
    after_message_ends : (draft : ClassDraft) → Ends (states.in_class items (states.after_message draft))
    after_message_ends draft = by_token _ (Mark mark.CloseBrace) (items_end _)

    message_closing_ends : (draft : ClassDraft) (message : Message) → Ends (states.in_class items (states.in_message draft (states.message_closing message)))
    message_closing_ends draft message = by_token _ (Mark mark.CloseParen) (after_message_ends _)

    module _ (draft : ClassDraft) (side : Side) (label : Label) where
      message_life_ends : (width : Width) → Ends (states.in_class items (states.in_message draft (states.message_life side label width)))
      message_life_ends width = by_token _ ((Word [])) (message_closing_ends draft _)

      message_at_ends : (width : Width) → Ends (states.in_class items (states.in_message draft (states.message_at side label width)))
      message_at_ends width = by_token _ (Mark mark.At) (message_life_ends width)

      message_bits_end : (width : Width) → Ends (states.in_class items (states.in_message draft (states.message_width side label (states.width_closing width))))
      message_bits_end width = by_token _ (Mark mark.CloseBracket) (message_at_ends width)

      message_number_ends : Ends (states.in_class items (states.in_message draft (states.message_width side label states.width_number)))
      message_number_ends = by_token _ ((Number 1)) (message_bits_end _)

      message_bracket_ends : Ends (states.in_class items (states.in_message draft (states.message_width side label states.width_opening)))
      message_bracket_ends = by_token _ (Mark mark.OpenBracket) message_number_ends

      message_logic_ends : Ends (states.in_class items (states.in_message draft (states.message_width side label states.logic_wanted)))
      message_logic_ends = by_token _ ((Key key.Logic)) message_bracket_ends

      message_opening_ends : Ends (states.in_class items (states.in_message draft (states.message_opening side label)))
      message_opening_ends = by_token _ (Mark mark.OpenParen) message_logic_ends

      message_colon_ends : Ends (states.in_class items (states.in_message draft (states.message_colon side label)))
      message_colon_ends = by_token _ (Mark mark.Colon) message_opening_ends

    message_name_ends : (draft : ClassDraft) (side : Side) → Ends (states.in_class items (states.in_message draft (states.message_name side)))
    message_name_ends draft side = by_token _ ((Word [])) (message_colon_ends draft side _)

    message_ends : (draft : ClassDraft) (state : MessageState) → Ends (states.in_class items (states.in_message draft state))
    message_ends draft (states.message_name side) = message_name_ends draft side
    message_ends draft (states.message_colon side label) = message_colon_ends draft side label
    message_ends draft (states.message_opening side label) = message_opening_ends draft side label
    message_ends draft (states.message_width side label states.logic_wanted) = message_logic_ends draft side label
    message_ends draft (states.message_width side label states.width_opening) = message_bracket_ends draft side label
    message_ends draft (states.message_width side label states.width_number) = message_number_ends draft side label
    message_ends draft (states.message_width side label (states.width_closing width)) = message_bits_end draft side label width
    message_ends draft (states.message_at side label width) = message_at_ends draft side label width
    message_ends draft (states.message_life side label width) = message_life_ends draft side label width
    message_ends draft (states.message_count side label width) = by_token _ ((Number 1)) (message_closing_ends draft _)
    message_ends draft (states.message_closing message) = message_closing_ends draft message

    first_message_ends : (draft : ClassDraft) → Ends (states.in_class items (states.first_message draft))
    first_message_ends draft = by_token _ ((Key key.Left)) (message_name_ends draft side.Left)

    class_opening_ends : (label : Label) → Ends (states.in_class items (states.class_opening label))
    class_opening_ends label = by_token _ (Mark mark.OpenBrace) (first_message_ends _)

    pub class_ends : (state : ClassState) → Ends (states.in_class items state)
    class_ends states.class_name = by_token _ ((Word [])) (class_opening_ends _)
    class_ends (states.class_opening label) = class_opening_ends label
    class_ends (states.first_message draft) = first_message_ends draft
    class_ends (states.in_message draft state) = message_ends draft state
    class_ends (states.after_message draft) = after_message_ends draft
    class_ends (states.after_comma draft) = by_token _ (Mark mark.CloseBrace) (items_end _)

    -- processes
    pub threads_end : (draft : ProcessDraft) → Ends (states.in_process items (states.threads_wanted draft))
    threads_end draft = by_token _ (Mark mark.CloseBrace) (items_end _)

    registers_end : (draft : ProcessDraft) → Ends (states.in_process items (states.registers_wanted draft))
    registers_end draft = by_token _ (Mark mark.CloseBrace) (items_end _)

    body_ends : (draft : ProcessDraft) → Ends (states.in_process items (states.body_opening draft))
    body_ends draft = by_token _ (Mark mark.OpenBrace) (registers_end draft)

    after_endpoint_ends : (draft : ProcessDraft) → Ends (states.in_process items (states.after_endpoint draft))
    after_endpoint_ends draft = by_token _ (Mark mark.CloseParen) (body_ends draft)

    endpoint_class_ends : (draft : ProcessDraft) (label : Label) (side : Side) → Ends (states.in_process items (states.in_endpoint draft (states.endpoint_class label side)))
    endpoint_class_ends draft label side = by_token _ ((Word [])) (after_endpoint_ends _)

    endpoint_side_ends : (draft : ProcessDraft) (label : Label) → Ends (states.in_process items (states.in_endpoint draft (states.endpoint_side label)))
    endpoint_side_ends draft label = by_token _ ((Key key.Left)) (endpoint_class_ends draft label side.Left)

    endpoint_ends : (draft : ProcessDraft) (state : EndpointState) → Ends (states.in_process items (states.in_endpoint draft state))
    endpoint_ends draft (states.endpoint_colon label) = by_token _ (Mark mark.Colon) (endpoint_side_ends draft label)
    endpoint_ends draft (states.endpoint_side label) = endpoint_side_ends draft label
    endpoint_ends draft (states.endpoint_class label side) = endpoint_class_ends draft label side

    register_last_ends : (draft : ProcessDraft) (register : Register) → Ends (states.in_process items (states.in_register draft (states.register_end register)))
    register_last_ends draft register = by_token _ (Mark mark.Semicolon) (registers_end _)

    module _ (draft : ProcessDraft) (label : Label) where
      register_reset_ends : (width : Width) → Ends (states.in_process items (states.in_register draft (states.register_reset label width)))
      register_reset_ends width = by_token _ (Mark mark.Semicolon) (registers_end _)

      register_bits_end : (width : Width) → Ends (states.in_process items (states.in_register draft (states.register_width label (states.width_closing width))))
      register_bits_end width = by_token _ (Mark mark.CloseBracket) (register_reset_ends width)

      register_number_ends : Ends (states.in_process items (states.in_register draft (states.register_width label states.width_number)))
      register_number_ends = by_token _ ((Number 1)) (register_bits_end _)

      register_bracket_ends : Ends (states.in_process items (states.in_register draft (states.register_width label states.width_opening)))
      register_bracket_ends = by_token _ (Mark mark.OpenBracket) register_number_ends

      register_logic_ends : Ends (states.in_process items (states.in_register draft (states.register_width label states.logic_wanted)))
      register_logic_ends = by_token _ ((Key key.Logic)) register_bracket_ends

      register_colon_ends : Ends (states.in_process items (states.in_register draft (states.register_colon label)))
      register_colon_ends = by_token _ (Mark mark.Colon) register_logic_ends

    register_ends : (draft : ProcessDraft) (state : RegisterState) → Ends (states.in_process items (states.in_register draft state))
    register_ends draft states.register_name = by_token _ ((Word [])) (register_colon_ends draft _)
    register_ends draft (states.register_colon label) = register_colon_ends draft label
    register_ends draft (states.register_width label states.logic_wanted) = register_logic_ends draft label
    register_ends draft (states.register_width label states.width_opening) = register_bracket_ends draft label
    register_ends draft (states.register_width label states.width_number) = register_number_ends draft label
    register_ends draft (states.register_width label (states.width_closing width)) = register_bits_end draft label width
    register_ends draft (states.register_reset label width) = register_reset_ends draft label width
    register_ends draft (states.register_literal label width) = by_token _ ((Literal 1 0)) (register_last_ends draft _)
    register_ends draft (states.register_end register) = register_last_ends draft register

    first_endpoint_ends : (draft : ProcessDraft) → Ends (states.in_process items (states.first_endpoint draft))
    first_endpoint_ends draft = by_token _ (Mark mark.CloseParen) (body_ends draft)

    process_opening_ends : (label : Label) → Ends (states.in_process items (states.process_opening label))
    process_opening_ends label = by_token _ (Mark mark.OpenParen) (first_endpoint_ends _)

    -- given that threads end
    module _ (threads : (draft : ProcessDraft) (reading : ThreadReading) (first now : List Token) → Reads first reading.stack reading.state now
        → Ends (states.in_process items (states.in_thread draft reading))) where
      thread_ends : {from now : List Token} {draft : ProcessDraft} {reading : ThreadReading} → ProcessReads from (states.in_thread draft reading) now
          → Ends (states.in_process items (states.in_thread draft reading))
      thread_ends {now = now} {draft = draft} {reading = reading} (in_thread {first = first} takes is_loop is_opening reads) = threads draft reading first now reads

      pub process_ends : {from now : List Token} (state : ProcessState) → ProcessReads from state now → Ends (states.in_process items state)
      process_ends states.process_name reads = by_token _ ((Word [])) (process_opening_ends _)
      process_ends (states.process_opening label) reads = process_opening_ends label
      process_ends (states.first_endpoint draft) reads = first_endpoint_ends draft
      process_ends (states.next_endpoint draft) reads = by_token _ ((Word [])) (endpoint_ends draft (states.endpoint_colon _))
      process_ends (states.in_endpoint draft state) reads = endpoint_ends draft state
      process_ends (states.after_endpoint draft) reads = after_endpoint_ends draft
      process_ends (states.body_opening draft) reads = body_ends draft
      process_ends (states.registers_wanted draft) reads = registers_end draft
      process_ends (states.in_register draft state) reads = register_ends draft state
      process_ends (states.threads_wanted draft) reads = threads_end draft
      process_ends (states.thread_opening draft) reads =
          by_token _ (Mark mark.OpenBrace) (threads draft (record { stack = []; state = states.term_wanted }) [] [] (at_term at_first))
      process_ends (states.in_thread draft reading) reads = thread_ends reads
