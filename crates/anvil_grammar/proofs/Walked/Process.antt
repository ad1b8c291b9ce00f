-- What the grammar calls a process is walked: its endpoints, registers and threads come to the draft one by one. The endpoints, a
-- register and the threads end in one of two ways, which the next token brings together; so they are walked with what it does.
use Rattle.std.proofs.Common.{◌≡◌, ℕ, List, [], ◌∷◌, ◌++◌, Option, Some, None, refl, ap, ◌∙◌, append_assoc, append-nil}
use Rattle.anvil_lexer.specs.declared.token.Token.{Token}
use Rattle.anvil_lexer.specs.declared.token.TokenKind.TheVariants.{Key, Word, Mark}
use Rattle.anvil_lexer.specs.declared.token.Keyword.TheVariants as key
use Rattle.anvil_lexer.specs.declared.token.Mark.TheVariants as mark
use Rattle.anvil_tree.specs.declared.file.Endpoint.{Endpoint}
use Rattle.anvil_tree.specs.declared.file.Register.{Register}
use Rattle.anvil_tree.specs.declared.file.LiteralText.{LiteralText}
use Rattle.anvil_tree.specs.Tree as tree
use Rattle.anvil_tree.specs.Tree.{Name, Term, Process, File}
use Rattle.anvil_grammar.specs.declared.error.Counted.TheVariants as counted
use Rattle.anvil_grammar.specs.Words.{Is}
use Rattle.anvil_grammar.specs.Grammar.{IsWidth, bits, IsEndpoint, held, AreEndpoints, last, more, ArePorts, without, some, IsReset, unsaid, said, IsRegister, kept, AreRegisters, ended, AreThreads, IsProcess, of_parts}
use Rattle.anvil_grammar.specs.Begun.{Begin}
use Rattle.anvil_grammar.specs.Limits.{first_begins, begun_in_endpoints, begun_in_ports, begun_in_registers, begun_in_threads, begun_in_process}
use Rattle.anvil_grammar.specs.State.{Label, Width, logic_wanted, register_width, register_reset, register_end, ProcessDraft, ProcessState, first_endpoint, next_endpoint, after_endpoint, body_opening, registers_wanted, in_register, threads_wanted, thread_opening, in_thread, term_wanted, between, in_process, start}
use Rattle.anvil_grammar.specs.Step.{finished, begins, labelled, register_of, process_of_draft, empty_draft, with_endpoint, with_register, with_thread, begins_endpoint, process_step, at_state, Walk, walk}
use Rattle.anvil_grammar.proofs.Walked.ExprNodes.{begin}
use Rattle.anvil_grammar.proofs.Walked.Reading.{Comes, stays, on, step_to, move_to, on_to, as_begun}
use Rattle.anvil_grammar.proofs.Walked.Term.{term_walked}

-- the parts behind those of the draft
abbrev with_endpoints : ProcessDraft → List Endpoint → ProcessDraft
with_endpoints draft endpoints = record { label = draft.label; endpoints = draft.endpoints ++ endpoints; registers = draft.registers; threads = draft.threads }

abbrev with_registers : ProcessDraft → List Register → ProcessDraft
with_registers draft registers = record { label = draft.label; endpoints = draft.endpoints; registers = draft.registers ++ registers; threads = draft.threads }

abbrev with_threads : ProcessDraft → List Term → ProcessDraft
with_threads draft threads = record { label = draft.label; endpoints = draft.endpoints; registers = draft.registers; threads = draft.threads ++ threads }

with_more_endpoints : (draft : ProcessDraft) (endpoint : Endpoint) (endpoints : List Endpoint)
    → with_endpoints (with_endpoint draft endpoint) endpoints ≡ with_endpoints draft (endpoint ∷ endpoints)
with_more_endpoints draft endpoint endpoints = rw (append_assoc draft.endpoints (endpoint ∷ []) endpoints) refl

with_more_registers : (draft : ProcessDraft) (register : Register) (registers : List Register)
    → with_registers (with_register draft register) registers ≡ with_registers draft (register ∷ registers)
with_more_registers draft register registers = rw (append_assoc draft.registers (register ∷ []) registers) refl

with_more_threads : (draft : ProcessDraft) (thread : Term) (threads : List Term)
    → with_threads (with_thread draft thread) threads ≡ with_threads draft (thread ∷ threads)
with_more_threads draft thread threads = rw (append_assoc draft.threads (thread ∷ []) threads) refl

with_no_registers : (draft : ProcessDraft) → draft ≡ with_registers draft []
with_no_registers draft = rw (append-nil draft.registers) refl

with_no_threads : (draft : ProcessDraft) → draft ≡ with_threads draft []
with_no_threads draft = rw (append-nil draft.threads) refl

-- an endpoint or a register begins by its first token
endpoint_first : {from rest : List Token} {endpoint : Endpoint} → IsEndpoint from endpoint rest → (others : List Begin)
    → first_begins counted.Endpoint from [] ++ others ≡ first_begins counted.Endpoint from others
endpoint_first (held a b c d) others = refl

register_first : {from rest : List Token} {register : Register} → IsRegister from register rest → (others : List Begin)
    → first_begins counted.Register from [] ++ others ≡ first_begins counted.Register from others
register_first (kept a b c d e f) others = refl

-- where an endpoint may begin
abbrev TakesEndpoint : ProcessDraft → ProcessState → Type 0
TakesEndpoint draft state = (token : Token) (name : Name) → Is (Word name) token → process_step state token ≡ begins_endpoint draft token name

-- where a thread may begin, and the process may end
record TakesThread (draft : ProcessDraft) (state : ProcessState) : Type 0 where
  begins_it : (token : Token) → Is (Key key.Loop) token → process_step state token ≡ begins counted.Thread token (thread_opening draft)
  ends_it : (token : Token) → Is (Mark mark.CloseBrace) token → process_step state token ≡ finished (process_of_draft draft)

registers_take : (draft : ProcessDraft) → TakesThread draft (registers_wanted draft)
registers_take draft = record { begins_it = λ token is. rw is refl; ends_it = λ token is. rw is refl }

threads_take : (draft : ProcessDraft) → TakesThread draft (threads_wanted draft)
threads_take draft = record { begins_it = λ token is. rw is refl; ends_it = λ token is. rw is refl }

-- the ports or the process end
abbrev EndsPorts : List Token → Type 0
EndsPorts [] = ⊥
EndsPorts (token ∷ rest) = Is (Mark mark.CloseParen) token

abbrev EndsProcess : List Token → Type 0
EndsProcess [] = ⊥
EndsProcess (token ∷ rest) = Is (Mark mark.CloseBrace) token

abbrev EndsRegister : List Token → Type 0
EndsRegister [] = ⊥
EndsRegister (token ∷ rest) = Is (Mark mark.Semicolon) token

module _ (items : File) where
  abbrev reads : ProcessState → List Token → Walk
  reads state tokens = walk (in_process items state) tokens

  -- Endpoints.

  endpoint_walked : {from rest : List Token} {endpoint : Endpoint} (draft : ProcessDraft) (state : ProcessState) → TakesEndpoint draft state
      → IsEndpoint from endpoint rest → Comes (reads state from) (first_begins counted.Endpoint from []) (reads (after_endpoint (with_endpoint draft endpoint)) rest)
  endpoint_walked draft state takes (held {word = word} {name = name} is_word is_colon is_way is_class) =
      record { same = rw (takes word name is_word) (rw is_colon (rw is_way (rw is_class refl))) }

  endpoints_walked : {from rest : List Token} {endpoints : List Endpoint} (draft : ProcessDraft) (state : ProcessState) → TakesEndpoint draft state
      → (are : AreEndpoints from endpoints rest) → Comes (reads state from) (begun_in_endpoints are) (reads (after_endpoint (with_endpoints draft endpoints)) rest)
  endpoints_walked draft state takes (last is) = endpoint_walked draft state takes is
  endpoints_walked {rest = rest} draft state takes (more {middle = middle} {endpoint = endpoint} {endpoints = endpoints} is is_comma others) =
      let after = with_endpoint draft endpoint in
      on_to
      (as_begun (on (endpoint_walked draft state takes is) (move_to (reads (next_endpoint after) middle) (rw is_comma refl) (endpoints_walked after (next_endpoint after) (λ token name is. rw is refl) others)))
      (endpoint_first is (begun_in_endpoints others)))
      (ap (λ these. reads (after_endpoint these) rest) (with_more_endpoints draft endpoint endpoints))

  -- what the token behind the endpoints does; there is one, so the first case is any walk
  abbrev behind_ports : ProcessDraft → List Token → Walk
  behind_ports draft [] = walk start []
  behind_ports draft (closing ∷ rest) = reads (body_opening draft) rest

  no_ports : (label : Label) (rest : List Token) → EndsPorts rest → reads (first_endpoint (empty_draft label)) rest ≡ behind_ports (empty_draft label) rest
  no_ports label [] ends = absurd ends
  no_ports label (closing ∷ rest) ends = rw ends refl

  ports_end : (draft : ProcessDraft) (rest : List Token) → EndsPorts rest → reads (after_endpoint draft) rest ≡ behind_ports draft rest
  ports_end draft [] ends = absurd ends
  ports_end draft (closing ∷ rest) ends = rw ends refl

  ports_walked : {from rest : List Token} {endpoints : List Endpoint} (label : Label) (are : ArePorts from endpoints rest) → EndsPorts rest
      → Comes (reads (first_endpoint (empty_draft label)) from) (begun_in_ports are) (behind_ports (with_endpoints (empty_draft label) endpoints) rest)
  ports_walked {rest = rest} label without ends = stays (no_ports label rest ends)
  ports_walked {rest = rest} {endpoints = endpoints} label (some are) ends =
      let draft = empty_draft label in
      on_to (endpoints_walked draft (first_endpoint draft) (λ token name is. rw is refl) are) (ports_end (with_endpoints draft endpoints) rest ends)

  -- Registers.

  width_walked : {from rest : List Token} {width width_at : ℕ} (draft : ProcessDraft) (label : Label) → IsWidth from width width_at rest
      → reads (in_register draft (register_width label logic_wanted)) from
      ≡ reads (in_register draft (register_reset label (record { width = width; width_at = width_at }))) rest
  width_walked draft label (bits a b c d) = rw a (rw b (rw c (rw d refl)))

  -- what the token behind a register does
  abbrev behind_register : ProcessDraft → Register → List Token → Walk
  behind_register draft register [] = walk start []
  behind_register draft register (semicolon ∷ rest) = reads (registers_wanted (with_register draft register)) rest

  unsaid_walked : (draft : ProcessDraft) (label : Label) (width : Width) (rest : List Token) → EndsRegister rest
      → reads (in_register draft (register_reset label width)) rest ≡ behind_register draft (register_of label width None) rest
  unsaid_walked draft label width [] ends = absurd ends
  unsaid_walked draft label width (semicolon ∷ rest) ends = rw ends refl

  said_walked : (draft : ProcessDraft) (register : Register) (rest : List Token) → EndsRegister rest
      → reads (in_register draft (register_end register)) rest ≡ behind_register draft register rest
  said_walked draft register [] ends = absurd ends
  said_walked draft register (semicolon ∷ rest) ends = rw ends refl

  reset_walked : {from rest : List Token} {reset : Option LiteralText} (draft : ProcessDraft) (label : Label) (width : Width) → IsReset from reset rest → EndsRegister rest
      → reads (in_register draft (register_reset label width)) from ≡ behind_register draft (register_of label width reset) rest
  reset_walked {rest = rest} draft label width unsaid ends = unsaid_walked draft label width rest ends
  reset_walked {rest = rest} draft label width (said {number = number} {width = width_said} {value = value} a b) ends =
      rw a (rw b (said_walked draft (register_of label width (Some (record { width = width_said; value = value; at = number.at }))) rest ends))

  register_walked : {from rest : List Token} {register : Register} (draft : ProcessDraft) → IsRegister from register rest
      → Comes (reads (registers_wanted draft) from) (first_begins counted.Register from []) (reads (registers_wanted (with_register draft register)) rest)
  register_walked draft (kept {reg = reg} {word = word} {from = from} {name = name} {width = width} {width_at = width_at} is_reg is_word is_colon is_width is_reset is_semicolon) =
      let label = labelled name word in
      let wide : Width = record { width = width; width_at = width_at } in
      step_to (begin counted.Register reg.at ∷ []) (reads (in_register draft (register_width label logic_wanted)) from) (rw is_reg (rw is_word (rw is_colon refl)))
      (on_to (stays (width_walked draft label is_width)) (reset_walked draft label wide is_reset is_semicolon))

  registers_walked : {from rest : List Token} {registers : List Register} (draft : ProcessDraft) (are : AreRegisters from registers rest)
      → Comes (reads (registers_wanted draft) from) (begun_in_registers are) (reads (registers_wanted (with_registers draft registers)) rest)
  registers_walked {rest = rest} draft ended = stays (ap (λ these. reads (registers_wanted these) rest) (with_no_registers draft))
  registers_walked {rest = rest} draft (more {register = register} {registers = registers} is others) =
      let one = register_walked draft is in
      let two = registers_walked (with_register draft register) others in
      on_to (as_begun (on one two) (register_first is (begun_in_registers others)))
      (ap (λ these. reads (registers_wanted these) rest) (with_more_registers draft register registers))

  -- Threads.

  -- what the token behind the threads does
  abbrev behind_process : ProcessDraft → List Token → Walk
  behind_process draft [] = walk start []
  behind_process draft (closing ∷ rest) = walk (between (items ++ (tree.process (process_of_draft draft) ∷ []))) rest

  process_ends : (draft : ProcessDraft) (state : ProcessState) (rest : List Token) → TakesThread draft state → EndsProcess rest
      → reads state rest ≡ behind_process draft rest
  process_ends draft state [] takes ends = absurd ends
  process_ends draft state (closing ∷ rest) takes ends = rw (takes.ends_it closing ends) refl

  threads_walked : {from rest : List Token} {threads : List Term} (draft : ProcessDraft) (state : ProcessState) → TakesThread draft state
      → (are : AreThreads from threads rest) → EndsProcess rest → Comes (reads state from) (begun_in_threads are) (behind_process (with_threads draft threads) rest)
  threads_walked {rest = rest} draft state takes ended ends =
      stays (process_ends draft state rest takes ends ∙ ap (λ these. behind_process these rest) (with_no_threads draft))
  threads_walked {rest = rest} draft state takes (more {loop = loop} {from = from} {term = term} {terms = terms} is_loop is_opening is is_closing others) ends =
      let after = with_thread draft term in
      on_to
      (step_to (begin counted.Thread loop.at ∷ []) (reads (in_thread draft (at_state [] term_wanted)) from) (rw (takes.begins_it loop is_loop) (rw is_opening refl))
      (on (term_walked items draft [] is is_closing tt) (threads_walked after (threads_wanted after) (threads_take after) others ends)))
      (ap (λ these. behind_process these rest) (with_more_threads draft term terms))

  pub process_walked : {from rest : List Token} {process : Process} (is : IsProcess from process rest)
      → Comes (walk (between items) from) (begun_in_process is) (walk (between (items ++ (tree.process process ∷ []))) rest)
  process_walked (of_parts {proc = proc} {word = word} {from = from} {middle = middle} {name = name} {endpoints = endpoints} {registers = registers} is_proc is_word is_opening are_ports is_closing is_body are_registers are_threads is_end) =
      let label = labelled name word in
      let draft = with_endpoints (empty_draft label) endpoints in
      let full = with_registers draft registers in
      step_to (begin counted.Process proc.at ∷ []) (reads (first_endpoint (empty_draft label)) from) (rw is_proc (rw is_word (rw is_opening refl)))
      (on (ports_walked label are_ports is_closing)
      (move_to (reads (registers_wanted draft) middle) (rw is_body refl)
      (on (registers_walked draft are_registers) (threads_walked full (registers_wanted full) (registers_take full) are_threads is_end))))
