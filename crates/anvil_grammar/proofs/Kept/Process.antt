-- A process, part by part. `from` are the tokens from `proc` on. Where endpoints, registers or threads are wanted, any that the
-- next tokens are give the whole process, with what follows them and with the parts before them.
use Rattle.std.proofs.Common.{List, [], ◌∷◌, ◌++◌, refl, append_assoc}
use Rattle.std.proofs.lemmas.List.{append-nil}
use Rattle.anvil_lexer.specs.declared.token.Token.{Token}
use Rattle.anvil_lexer.specs.declared.token.TokenKind.{TokenKind}
use Rattle.anvil_lexer.specs.declared.token.TokenKind.TheVariants.{Key, Word, Mark}
use Rattle.anvil_lexer.specs.declared.token.Keyword.TheVariants as key
use Rattle.anvil_lexer.specs.declared.token.Mark.TheVariants as mark
use Rattle.anvil_tree.specs.declared.file.Endpoint.{Endpoint}
use Rattle.anvil_tree.specs.declared.file.Register.{Register}
use Rattle.anvil_tree.specs.Tree.{Name, Term}
use Rattle.anvil_grammar.specs.Words.{Is}
use Rattle.anvil_grammar.specs.Grammar as grammar
use Rattle.anvil_grammar.specs.Grammar.{IsEndpoint, AreEndpoints, ArePorts, without, some, IsRegister, AreRegisters, AreThreads, IsProcess, of_parts}
use Rattle.anvil_grammar.specs.State as states
use Rattle.anvil_grammar.specs.State.{Label, EndpointState, RegisterState, ThreadReading, ProcessDraft, ProcessState}
use Rattle.anvil_grammar.specs.Step.{unexpected, onward, finished, Threaded, labelled, process_of_draft, empty_draft, with_endpoint, endpoint_step, register_step, thread_step, process_step_by, process_step}
use Rattle.anvil_grammar.proofs.Kept.Waiting.{at_first, Reads, at_term}
use Rattle.anvil_grammar.proofs.Kept.Term.{IsWhole, Good}
use Rattle.anvil_grammar.proofs.Kept.Thread.{thread_good}
use Rattle.anvil_grammar.proofs.Kept.Parts.{GoodStep, within_good, EndpointReads, endpoint_named, endpoint_good, RegisterReads, reg_read, register_good}

abbrev pub TakesThreads : List Token → ProcessDraft → List Token → Type 0
TakesThreads from draft now = (others : List Term) (closing : Token) (rest : List Token) → AreThreads now others (closing ∷ rest)
    → Is (Mark mark.CloseBrace) closing
    → IsProcess from (record { name = draft.label.name; at = draft.label.at; endpoints = draft.endpoints; registers = draft.registers; threads = draft.threads ++ others }) rest

abbrev pub TakesRegisters : List Token → ProcessDraft → List Token → Type 0
TakesRegisters from draft now = (others : List Register) (threads : List Term) (after : List Token) (closing : Token) (rest : List Token)
    → AreRegisters now others after → AreThreads after threads (closing ∷ rest) → Is (Mark mark.CloseBrace) closing
    → IsProcess from (record { name = draft.label.name; at = draft.label.at; endpoints = draft.endpoints; registers = draft.registers ++ others; threads = draft.threads ++ threads }) rest

-- with the endpoints that are still wanted
abbrev TakesOthers : List Token → ProcessDraft → List Endpoint → List Token → Type 0
TakesOthers from draft others now =
    TakesRegisters from (record { label = draft.label; endpoints = draft.endpoints ++ others; registers = draft.registers; threads = draft.threads }) now

abbrev pub TakesPorts : List Token → ProcessDraft → List Token → Type 0
TakesPorts from draft now = (others : List Endpoint) (closing opening : Token) (middle : List Token) → ArePorts now others (closing ∷ opening ∷ middle)
    → Is (Mark mark.CloseParen) closing → Is (Mark mark.OpenBrace) opening → TakesOthers from draft others middle

abbrev pub TakesEndpoints : List Token → ProcessDraft → List Token → Type 0
TakesEndpoints from draft now = (others : List Endpoint) (closing opening : Token) (middle : List Token) → AreEndpoints now others (closing ∷ opening ∷ middle)
    → Is (Mark mark.CloseParen) closing → Is (Mark mark.OpenBrace) opening → TakesOthers from draft others middle

pub data ProcessReads : List Token → ProcessState → List Token → Type 0 where
  proc_read : {proc : Token} {now : List Token} → Is (Key key.Proc) proc → ProcessReads (proc ∷ now) states.process_name now
  process_named : {word : Token} {from now : List Token} {name : Name} → ProcessReads from states.process_name (word ∷ now) → Is (Word name) word
      → ProcessReads from (states.process_opening (labelled name word)) now
  process_opened : {opening : Token} {from now : List Token} {label : Label} → ProcessReads from (states.process_opening label) (opening ∷ now)
      → Is (Mark mark.OpenParen) opening → ProcessReads from (states.first_endpoint (empty_draft label)) now
  in_endpoint : {from middle now : List Token} {draft : ProcessDraft} {state : EndpointState} → TakesEndpoints from draft middle
      → EndpointReads middle state now → ProcessReads from (states.in_endpoint draft state) now
  endpoint_read : {from middle now : List Token} (draft : ProcessDraft) (endpoint : Endpoint) → TakesEndpoints from draft middle
      → IsEndpoint middle endpoint now → ProcessReads from (states.after_endpoint (with_endpoint draft endpoint)) now
  comma_read : {comma : Token} {from now : List Token} {draft : ProcessDraft} → ProcessReads from (states.after_endpoint draft) (comma ∷ now)
      → Is (Mark mark.Comma) comma → ProcessReads from (states.next_endpoint draft) now
  none_closed : {closing : Token} {from now : List Token} {draft : ProcessDraft} → ProcessReads from (states.first_endpoint draft) (closing ∷ now)
      → Is (Mark mark.CloseParen) closing → ProcessReads from (states.body_opening draft) now
  some_closed : {closing : Token} {from now : List Token} {draft : ProcessDraft} → ProcessReads from (states.after_endpoint draft) (closing ∷ now)
      → Is (Mark mark.CloseParen) closing → ProcessReads from (states.body_opening draft) now
  at_registers : {from now : List Token} {draft : ProcessDraft} → TakesRegisters from draft now → ProcessReads from (states.registers_wanted draft) now
  in_register : {from middle now : List Token} {draft : ProcessDraft} {state : RegisterState} → TakesRegisters from draft middle
      → RegisterReads middle state now → ProcessReads from (states.in_register draft state) now
  at_threads : {from now : List Token} {draft : ProcessDraft} → TakesThreads from draft now → ProcessReads from (states.threads_wanted draft) now
  loop_read : {loop : Token} {from now : List Token} {draft : ProcessDraft} → TakesThreads from draft (loop ∷ now) → Is (Key key.Loop) loop
      → ProcessReads from (states.thread_opening draft) now
  in_thread : {loop opening : Token} {from first now : List Token} {draft : ProcessDraft} {reading : ThreadReading} → TakesThreads from draft (loop ∷ opening ∷ first)
      → Is (Key key.Loop) loop → Is (Mark mark.OpenBrace) opening → Reads first reading.stack reading.state now
      → ProcessReads from (states.in_thread draft reading) now

takes_ports : {from now : List Token} {draft : ProcessDraft} → ProcessReads from (states.first_endpoint draft) now → TakesPorts from draft now
takes_ports (process_opened (process_named (proc_read is_proc) is_word) is_opening) others closing opening middle are is_closing is_brace
    registers threads after end rest are_registers are_threads is_end =
    of_parts is_proc is_word is_opening are is_closing is_brace are_registers are_threads is_end

takes_first : {from now : List Token} {draft : ProcessDraft} → ProcessReads from (states.first_endpoint draft) now → TakesEndpoints from draft now
takes_first reads others closing opening middle are is_closing is_brace = takes_ports reads others closing opening middle (some are) is_closing is_brace

takes_more : {from now : List Token} {draft : ProcessDraft} → ProcessReads from (states.next_endpoint draft) now → TakesEndpoints from draft now
takes_more (comma_read (endpoint_read draft endpoint takes is_endpoint) is_comma) others closing opening middle are is_closing is_brace
    registers threads after end rest are_registers are_threads is_end =
    rw (append_assoc draft.endpoints (endpoint ∷ []) others)
    (takes (endpoint ∷ others) closing opening middle (grammar.more is_endpoint is_comma are) is_closing is_brace
    registers threads after end rest are_registers are_threads is_end)

-- without more registers
takes_threads : {from now : List Token} (draft : ProcessDraft) → TakesRegisters from draft now → TakesThreads from draft now
takes_threads {now = now} draft takes others closing rest are is =
    rw (append-nil draft.registers) at (takes [] others now closing rest grammar.ended are is)

-- without more threads
all_threads : {from now : List Token} (draft : ProcessDraft) (closing : Token) → TakesThreads from draft (closing ∷ now) → Is (Mark mark.CloseBrace) closing
    → IsProcess from (process_of_draft draft) now
all_threads {now = now} draft closing takes is = rw (append-nil draft.threads) at (takes [] closing now grammar.ended is)

registers_on : {from now : List Token} (draft : ProcessDraft) → ProcessReads from (states.registers_wanted draft) now → TakesRegisters from draft now
registers_on draft (at_registers takes) = takes

threads_on : {from now : List Token} (draft : ProcessDraft) → ProcessReads from (states.threads_wanted draft) now → TakesThreads from draft now
threads_on draft (at_threads takes) = takes

-- a thread as a part
as_step : (first now : List Token) (step : Threaded) → Good first step now
    → GoodStep (λ reading rest. Reads first reading.stack reading.state rest) (IsWhole first) step now
as_step first now unexpected good = good
as_step first now (onward begun reading) good = good
as_step first now (finished term) good = good

module _ {token : Token} {now : List Token} where
  -- the body opens
  none_ends : {from : List Token} (draft : ProcessDraft) (closing : Token) → TakesPorts from draft (closing ∷ token ∷ now) → Is (Mark mark.CloseParen) closing
      → Is (Mark mark.OpenBrace) token → TakesRegisters from draft now
  none_ends draft closing takes is_closing is others threads after end rest are_registers are_threads is_end =
      rw (append-nil draft.endpoints) at (takes [] closing token now without is_closing is others threads after end rest are_registers are_threads is_end)

  body_on : {from : List Token} (draft : ProcessDraft) → ProcessReads from (states.body_opening draft) (token ∷ now) → Is (Mark mark.OpenBrace) token
      → TakesRegisters from draft now
  body_on draft (none_closed {closing = closing} reads is_closing) is = none_ends draft closing (takes_ports reads) is_closing is
  body_on draft (some_closed {closing = closing} (endpoint_read before endpoint takes is_endpoint) is_closing) is =
      takes (endpoint ∷ []) closing token now (grammar.last is_endpoint) is_closing is

  endpoint_part_good : {from : List Token} {draft : ProcessDraft} {state : EndpointState} → ProcessReads from (states.in_endpoint draft state) (token ∷ now)
      → (kind : TokenKind) → GoodStep (ProcessReads from) (IsProcess from) (process_step_by (states.in_endpoint draft state) token kind) now
  endpoint_part_good {from = from} (in_endpoint {middle = middle} {draft = draft} {state = state} takes reads) kind =
      within_good _ _ (EndpointReads middle) (IsEndpoint middle) (ProcessReads from) (IsProcess from) now (endpoint_step state token) (endpoint_good state reads)
      (λ next is. in_endpoint takes is) (λ endpoint is. endpoint_read draft endpoint takes is)

  register_part_good : {from : List Token} {draft : ProcessDraft} {state : RegisterState} → ProcessReads from (states.in_register draft state) (token ∷ now)
      → (kind : TokenKind) → GoodStep (ProcessReads from) (IsProcess from) (process_step_by (states.in_register draft state) token kind) now
  register_part_good {from = from} (in_register {middle = middle} {draft = draft} {state = state} takes reads) kind =
      within_good _ _ (RegisterReads middle) (IsRegister middle) (ProcessReads from) (IsProcess from) now (register_step state token) (register_good state reads)
      (λ next is. in_register takes is)
      (λ register is. at_registers (λ others threads after closing rest are_registers are_threads is_end.
      rw (append_assoc draft.registers (register ∷ []) others)
      (takes (register ∷ others) threads after closing rest (grammar.more is are_registers) are_threads is_end)))

  thread_opened : {from : List Token} {draft : ProcessDraft} → ProcessReads from (states.thread_opening draft) (token ∷ now) → Is (Mark mark.OpenBrace) token
      → ProcessReads from (states.in_thread draft (record { stack = []; state = states.term_wanted })) now
  thread_opened (loop_read takes is_loop) is = in_thread takes is_loop is (at_term at_first)

  thread_part_good : {from : List Token} {draft : ProcessDraft} {reading : ThreadReading} → ProcessReads from (states.in_thread draft reading) (token ∷ now)
      → (kind : TokenKind) → GoodStep (ProcessReads from) (IsProcess from) (process_step_by (states.in_thread draft reading) token kind) now
  thread_part_good {from = from} (in_thread {first = first} {draft = draft} {reading = reading} takes is_loop is_opening reads) kind =
      within_good _ _ (λ (now' : ThreadReading) rest. Reads first now'.stack now'.state rest) (IsWhole first) (ProcessReads from) (IsProcess from) now
      (thread_step reading token)
      (as_step first now (thread_step reading token) (thread_good reads))
      (λ next is. in_thread takes is_loop is_opening is)
      (λ term whole. at_threads (λ others closing rest are is.
      rw (append_assoc draft.threads (term ∷ []) others)
      (takes (term ∷ others) closing rest (grammar.more is_loop is_opening whole.is whole.is_closing are) is)))

  process_good_by : {from : List Token} (state : ProcessState) → ProcessReads from state (token ∷ now) → (kind : TokenKind) → Is kind token
      → GoodStep (ProcessReads from) (IsProcess from) (process_step_by state token kind) now
  process_good_by states.process_name reads (Word name) is = process_named reads is
  process_good_by (states.process_opening label) reads (Mark mark.OpenParen) is = process_opened reads is
  process_good_by (states.first_endpoint draft) reads (Word name) is = in_endpoint (takes_first reads) (endpoint_named is)
  process_good_by (states.first_endpoint draft) reads (Mark mark.CloseParen) is = none_closed reads is
  process_good_by (states.next_endpoint draft) reads (Word name) is = in_endpoint (takes_more reads) (endpoint_named is)
  process_good_by (states.in_endpoint draft state) reads kind is = endpoint_part_good reads kind
  process_good_by (states.after_endpoint draft) reads (Mark mark.Comma) is = comma_read reads is
  process_good_by (states.after_endpoint draft) reads (Mark mark.CloseParen) is = some_closed reads is
  process_good_by (states.body_opening draft) reads (Mark mark.OpenBrace) is = at_registers (body_on draft reads is)
  process_good_by (states.registers_wanted draft) reads (Key key.Reg) is = in_register (registers_on draft reads) (reg_read is)
  process_good_by (states.registers_wanted draft) reads (Key key.Loop) is = loop_read (takes_threads draft (registers_on draft reads)) is
  process_good_by (states.registers_wanted draft) reads (Mark mark.CloseBrace) is = all_threads draft token (takes_threads draft (registers_on draft reads)) is
  process_good_by (states.in_register draft state) reads kind is = register_part_good reads kind
  process_good_by (states.threads_wanted draft) reads (Key key.Loop) is = loop_read (threads_on draft reads) is
  process_good_by (states.threads_wanted draft) reads (Mark mark.CloseBrace) is = all_threads draft token (threads_on draft reads) is
  process_good_by (states.thread_opening draft) reads (Mark mark.OpenBrace) is = thread_opened reads is
  process_good_by (states.in_thread draft reading) reads kind is = thread_part_good reads kind
  process_good_by state reads kind is = tt

  pub process_good : {from : List Token} (state : ProcessState) → ProcessReads from state (token ∷ now)
      → GoodStep (ProcessReads from) (IsProcess from) (process_step state token) now
  process_good state reads = process_good_by state reads token.kind refl
