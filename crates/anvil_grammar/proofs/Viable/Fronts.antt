-- Each front that is walked begins a file: the state that it comes to can be walked on to the end of a file, and what is
-- walked to its end is a file. In a thread, the stack of each state is one that the tokens read, and a straight part is
-- finished by tokens of its own.
use Rattle.std.proofs.Common.{◌≡◌, ℕ, List, [], ◌∷◌, ◌++◌, inl, ap, ◌∙◌}
use Rattle.std.specs.List.{AllByRecursion}
use Rattle.anvil_lexer.specs.declared.token.Token.{Token}
use Rattle.anvil_lexer.specs.declared.token.TokenKind.TheVariants.{Word, Number, Mark}
use Rattle.anvil_lexer.specs.declared.token.Mark.TheVariants as mark
use Rattle.anvil_tree.specs.Tree as tree
use Rattle.anvil_tree.specs.Tree.{Name, Expr, Term, Act, File}
use Rattle.anvil_grammar.specs.Grammar.{IsFile}
use Rattle.anvil_grammar.specs.Begun.{Begin}
use Rattle.anvil_grammar.specs.State as states
use Rattle.anvil_grammar.specs.State.{Label, Frame, ThreadState, ThreadReading, ProcessDraft, State, start}
use Rattle.anvil_grammar.specs.Step.{stands, labelled, walk}
use Rattle.anvil_grammar.proofs.Kept.Waiting.{unbound, Reads, at_term, let_read, let_named, at_act, cycle_read, set_read, set_named, send_read, send_held, send_dotted, send_named, receive_read, receive_held, receive_dotted, act_read, first_read, else_read, at_operand, star_read, parenthesis_read, function_read, word_read, slice_opened, slice_topped, slice_parted, slice_bottomed, operand_read}
use Rattle.anvil_grammar.proofs.Walk.Joined.{stop_of, walk_from}
use Rattle.anvil_grammar.proofs.Kept.File.{FileReads, at_item, in_class, in_process, at_end, reached, file_sound}
use Rattle.anvil_grammar.proofs.Viable.Ends.{Ends, file_ends, items_end, class_ends, process_ends}
use Rattle.anvil_grammar.proofs.Viable.ThreadEnds.{EndsThread, Acts, Terms, Operands, by_thread, act_ends, cycle_ends, term_wanted_ends, act_wanted_ends, after_first_ends, operand_end, operand_wanted_ends, binding_on, second_side_on, setting_on, sending_on, calling_on, terms_of, acts_of, operands_of}

module _ (spot : ℕ) (items : File) (draft : ProcessDraft) where
  module _ (stack : List Frame) (acts : Acts spot items draft stack) where
    set_assign_ends : (at : ℕ) (register : Label) → EndsThread spot items draft stack (states.set_assign at register)
    set_assign_ends at register = by_thread spot items draft _ _ (Mark mark.Assign) (operand_wanted_ends spot items draft _ (setting_on spot items draft stack acts at register))

    send_opening_ends : (at : ℕ) (endpoint message : Label) → EndsThread spot items draft stack (states.send_opening at endpoint message)
    send_opening_ends at endpoint message =
        by_thread spot items draft _ _ (Mark mark.OpenParen) (operand_wanted_ends spot items draft _ (sending_on spot items draft stack acts at endpoint message))

    send_message_ends : (at : ℕ) (endpoint : Label) → EndsThread spot items draft stack (states.send_message at endpoint)
    send_message_ends at endpoint = by_thread spot items draft _ _ (Word []) (send_opening_ends at endpoint _)

    send_dot_ends : (at : ℕ) (endpoint : Label) → EndsThread spot items draft stack (states.send_dot at endpoint)
    send_dot_ends at endpoint = by_thread spot items draft _ _ (Mark mark.Dot) (send_message_ends at endpoint)

    receive_message_ends : (at : ℕ) (endpoint : Label) → EndsThread spot items draft stack (states.receive_message at endpoint)
    receive_message_ends at endpoint = by_thread spot items draft _ _ (Word []) (act_ends spot items draft stack acts _)

    receive_dot_ends : (at : ℕ) (endpoint : Label) → EndsThread spot items draft stack (states.receive_dot at endpoint)
    receive_dot_ends at endpoint = by_thread spot items draft _ _ (Mark mark.Dot) (receive_message_ends at endpoint)

    else_opening_ends : (at : ℕ) (condition : Expr) (term : Term) → EndsThread spot items draft stack (states.else_opening at condition term)
    else_opening_ends at condition term =
        by_thread spot items draft _ _ (Mark mark.OpenBrace)
        (term_wanted_ends spot items draft (states.second_side at condition term ∷ stack) (λ act. inl (second_side_on spot items draft stack acts at condition term (tree.single act))))

  let_equals_ends : (stack : List Frame) → Terms spot items draft stack → (name : Name) → EndsThread spot items draft stack (states.let_equals name)
  let_equals_ends stack terms name = by_thread spot items draft _ _ (Mark mark.Equals) (act_wanted_ends spot items draft _ (binding_on spot items draft stack terms name))

  module _ (stack : List Frame) (operands : Operands spot items draft stack) where
    slice_closing_ends : (at : ℕ) (name : Name) (high low : ℕ) → EndsThread spot items draft stack (states.slice_closing at name high low)
    slice_closing_ends at name high low = by_thread spot items draft _ _ (Mark mark.CloseBracket) (operand_end spot items draft stack operands _)

    slice_low_ends : (at : ℕ) (name : Name) (high : ℕ) → EndsThread spot items draft stack (states.slice_low at name high)
    slice_low_ends at name high = by_thread spot items draft _ _ (Number 0) (slice_closing_ends at name high 0)

    slice_colon_ends : (at : ℕ) (name : Name) (high : ℕ) → EndsThread spot items draft stack (states.slice_colon at name high)
    slice_colon_ends at name high = by_thread spot items draft _ _ (Mark mark.Colon) (slice_low_ends at name high)

    slice_high_ends : (at : ℕ) (name : Name) → EndsThread spot items draft stack (states.slice_high at name)
    slice_high_ends at name = by_thread spot items draft _ _ (Number 0) (slice_colon_ends at name 0)

    after_word_ends : (at : ℕ) (name : Name) → EndsThread spot items draft stack (states.after_word at name)
    after_word_ends at name = by_thread spot items draft _ _ (Mark mark.OpenBracket) (slice_high_ends at name)

  thread_ends : {first now : List Token} {stack : List Frame} {state : ThreadState} → Reads first stack state now → EndsThread spot items draft stack state
  thread_ends (at_term wants) = term_wanted_ends spot items draft _ (acts_of spot items draft (unbound wants))
  thread_ends {stack = stack} (let_read wants is) = by_thread spot items draft _ _ (Word []) (let_equals_ends stack (terms_of spot items draft wants) [])
  thread_ends {stack = stack} (let_named {name = name} (let_read wants is_let) is_word) = let_equals_ends stack (terms_of spot items draft wants) name
  thread_ends (at_act wants) = act_wanted_ends spot items draft _ (acts_of spot items draft wants)
  thread_ends (cycle_read {word = word} wants is) = cycle_ends spot items draft _ (acts_of spot items draft wants) word.at
  thread_ends (set_read {word = word} wants is) = by_thread spot items draft _ _ (Word []) (set_assign_ends _ (acts_of spot items draft wants) word.at _)
  thread_ends (set_named {target = target} {name = name} (set_read {word = word} wants is_word) is) =
      set_assign_ends _ (acts_of spot items draft wants) word.at (labelled name target)
  thread_ends (send_read {word = word} wants is) = by_thread spot items draft _ _ (Word []) (send_dot_ends _ (acts_of spot items draft wants) word.at _)
  thread_ends (send_held {holder = holder} {name = name} (send_read {word = word} wants is_word) is) =
      send_dot_ends _ (acts_of spot items draft wants) word.at (labelled name holder)
  thread_ends (send_dotted {endpoint = endpoint} (send_held (send_read {word = word} wants is_word) is_holder) is) =
      send_message_ends _ (acts_of spot items draft wants) word.at _
  thread_ends (send_named (send_dotted (send_held (send_read {word = word} wants is_word) is_holder) is_dot) is) =
      send_opening_ends _ (acts_of spot items draft wants) word.at _ _
  thread_ends (receive_read {word = word} wants is) = by_thread spot items draft _ _ (Word []) (receive_dot_ends _ (acts_of spot items draft wants) word.at _)
  thread_ends (receive_held (receive_read {word = word} wants is_word) is) = receive_dot_ends _ (acts_of spot items draft wants) word.at _
  thread_ends (receive_dotted (receive_held (receive_read {word = word} wants is_word) is_holder) is) =
      receive_message_ends _ (acts_of spot items draft wants) word.at _
  thread_ends (act_read {act = act} wants is) = act_ends spot items draft _ (acts_of spot items draft wants) act
  thread_ends (first_read {word = word} {condition = condition} {term = term} wants is_if is_condition is_opening is_term is_closing) =
      after_first_ends spot items draft _ word.at condition term (acts_of spot items draft wants _)
  thread_ends (else_read (first_read {word = word} {condition = condition} {term = term} wants is_if is_condition is_opening is_term is_closing) is) =
      else_opening_ends _ (acts_of spot items draft wants) word.at condition term
  thread_ends (at_operand wants) = operand_wanted_ends spot items draft _ (operands_of spot items draft wants)
  thread_ends (star_read {star = star} wants is) = by_thread spot items draft _ _ (Word []) (operand_end spot items draft _ (operands_of spot items draft wants) _)
  thread_ends (parenthesis_read {opening = opening} wants is) =
      by_thread spot items draft _ _ (Mark mark.CloseParen) (operand_end spot items draft _ (operands_of spot items draft wants) _)
  thread_ends (function_read {stack = stack} {word = word} {operator = operator} wants is) =
      by_thread spot items draft _ _ (Mark mark.OpenParen) (operand_wanted_ends spot items draft _ (calling_on spot items draft stack (operands_of spot items draft wants) operator word.at))
  thread_ends (word_read {word = word} {name = name} wants is) = after_word_ends _ (operands_of spot items draft wants) word.at name
  thread_ends (slice_opened (word_read {word = word} {name = name} wants is_word) is) = slice_high_ends _ (operands_of spot items draft wants) word.at name
  thread_ends (slice_topped {high = high} (slice_opened (word_read {word = word} {name = name} wants is_word) is_opening) is) =
      slice_colon_ends _ (operands_of spot items draft wants) word.at name high
  thread_ends (slice_parted {high = high} (slice_topped (slice_opened (word_read {word = word} {name = name} wants is_word) is_opening) is_top) is) =
      slice_low_ends _ (operands_of spot items draft wants) word.at name high
  thread_ends (slice_bottomed {high = high} {low = low} (slice_parted (slice_topped (slice_opened (word_read {word = word} {name = name} wants is_word) is_opening) is_top) is_colon) is) =
      slice_closing_ends _ (operands_of spot items draft wants) word.at name high low
  thread_ends (operand_read {operand = operand} wants is) = operand_end spot items draft _ (operands_of spot items draft wants) operand

state_ends : (spot : ℕ) {all now : List Token} {state : State} → FileReads all state now → Ends spot state
state_ends spot (at_item takes) = items_end spot _
state_ends spot (in_class {items = items} {state = state} takes reads) = class_ends spot items state
state_ends spot (in_process {items = items} {state = state} takes reads) =
    process_ends spot items (λ draft reading first now is. thread_ends spot items draft is) state reads
state_ends spot (at_end {items = items} takes is) = file_ends spot items

-- the tokens that finish the file may all be given one place
pub viable_at : (spot : ℕ) (front : List Token) (begun : List Begin) (state : State) → walk start front ≡ record { begun = begun; stop = stands state }
    → (more : List Token) × AllByRecursion (λ (token : Token). token.at ≡ spot) more × (file : File) × IsFile (front ++ more) file
viable_at spot front begun state same =
    let ends = state_ends spot (reached front state (stop_of same)) in
    let joined = walk_from front ends.more start state begun same in
    let last = walk state ends.more in
    let whole : walk start (front ++ ends.more) ≡ record { begun = begun ++ last.begun; stop = stands (states.ended ends.file) } =
    joined ∙ ap (λ stop. record { begun = begun ++ last.begun; stop = stop }) ends.is in
    (ends.more, ends.placed, ends.file, file_sound (front ++ ends.more) (begun ++ last.begun) ends.file whole)
