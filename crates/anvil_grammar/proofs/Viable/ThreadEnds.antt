-- In a thread each state that the tokens read can be walked to the end of a file. It goes by the stack: where each act that
-- ends over a stack can be followed by tokens to the end, so can each over the stack with one more frame; likewise for terms and
-- operands. An act is followed by `}`, or by `>>` where a `let` stands before it; an operand by what the frame below waits for.
use Rattle.std.proofs.Common.{◌≡◌, ◌⊎◌, ℕ, List, [], ◌∷◌, ◌++◌, Option, Some, None, true, refl, sym, subst, inl, inr}
use Rattle.std.specs.Prelude.{⊤}
use Rattle.anvil_lexer.specs.declared.token.Token.{Token}
use Rattle.anvil_lexer.specs.declared.token.TokenKind.{TokenKind}
use Rattle.anvil_lexer.specs.declared.token.TokenKind.TheVariants.{Key, Number, Literal, Mark}
use Rattle.anvil_lexer.specs.declared.token.Keyword.TheVariants as key
use Rattle.anvil_lexer.specs.declared.token.Mark.TheVariants as mark
use Rattle.anvil_tree.specs.declared.expr.BinOp.{BinOp}
use Rattle.anvil_tree.specs.declared.expr.BinOp.TheVariants as sign
use Rattle.anvil_tree.specs.Tree as tree
use Rattle.anvil_tree.specs.Tree.{Name, Expr, Term, Act, Process, File}
use Rattle.anvil_tree.specs.Places.{place_of_expr}
use Rattle.anvil_grammar.specs.State as states
use Rattle.anvil_grammar.specs.State.{Label, Frame, ThreadState, ThreadReading, ProcessDraft}
use Rattle.anvil_grammar.specs.Step.{unexpected, onward, finished, within, quietly, Threaded, labelled, with_thread, strength, takes_first, settled, settled_step, term_ends, act_step, operand_ends, thread_step_at}
use Rattle.anvil_grammar.proofs.Kept.Waiting.{WantsTerm, at_first, chained, parted, chained_bound, parted_bound, in_first_side, in_second_side, in_block, WantsAct, unbound, bound, WantsOperand, inverted, operated, grouped, called, called_second, chosen, chosen_second, setting, sending, deciding, evaluating}
use Rattle.anvil_grammar.proofs.Viable.Ends.{of_kind, Ends, EndsStep, by_token, threads_end}

takes_all : (operator : BinOp) → takes_first operator 0 ≡ true
takes_all sign.Mul = refl
takes_all operator = refl

-- a token that is no operator leaves the operand to all frames that take one first
module _ {strong : ℕ} where
  operating_passed : (operator : BinOp) (at : ℕ) (left : Expr) (stack : List Frame) (operand : Expr) → strong ≡ 0
      → settled strong (states.operating operator at left ∷ stack) operand ≡ settled strong stack (tree.binary at operator left operand)
  operating_passed operator at left stack operand weak =
      subst (λ s. settled s (states.operating operator at left ∷ stack) operand ≡ settled s stack (tree.binary at operator left operand)) (sym weak)
      (rw (takes_all operator) refl)

  choosing_passed : (at : ℕ) (condition first : Expr) (stack : List Frame) (operand : Expr) → strong ≡ 0
      → settled strong (states.choosing_second at condition first ∷ stack) operand ≡ settled strong stack (tree.choice at condition first operand)
  choosing_passed at condition first stack operand weak =
      subst (λ s. settled s (states.choosing_second at condition first ∷ stack) operand ≡ settled s stack (tree.choice at condition first operand)) (sym weak) refl

module _ (spot : ℕ) (items : File) (draft : ProcessDraft) where
  abbrev pub EndsThread : List Frame → ThreadState → Type 0
  EndsThread stack state = Ends spot (states.in_process items (states.in_thread draft (record { stack = stack; state = state })))

  abbrev pub EndsThreaded : Threaded → Type 0
  EndsThreaded unexpected = ⊥
  EndsThreaded (onward begun reading) = EndsThread reading.stack reading.state
  EndsThreaded (finished term) = ⊤

  outside : (found : Threaded) → EndsThreaded found
      → EndsStep spot (within (states.in_process items) (λ (process : Process). quietly (states.between (items ++ (tree.process process ∷ []))))
      (within (states.in_thread draft) (λ term. quietly (states.threads_wanted (with_thread draft term))) found))
  outside unexpected ends = absurd ends
  outside (onward begun reading) ends = ends
  outside (finished term) ends = threads_end spot items (with_thread draft term)

  pub by_thread : (stack : List Frame) (state : ThreadState) (kind : TokenKind) → EndsThreaded (thread_step_at stack state (of_kind spot kind)) → EndsThread stack state
  by_thread stack state kind ends = by_token spot _ kind (outside (thread_step_at stack state (of_kind spot kind)) ends)

  -- an act is followed by the end of its term, or by a chain
  abbrev pub EndsAct : List Frame → Act → Type 0
  EndsAct stack act = EndsThreaded (act_step stack act (Mark mark.CloseBrace)) ⊎ EndsThreaded (act_step stack act (Mark mark.Chain))

  abbrev pub Terms : List Frame → Type 0
  Terms stack = (term : Term) → EndsThreaded (term_ends stack term)

  abbrev pub Acts : List Frame → Type 0
  Acts stack = (act : Act) → EndsAct stack act

  -- an operand is followed by a token that is no operator
  pub record EndsOperand (stack : List Frame) (operand : Expr) : Type 0 where
    pub kind : TokenKind
    pub weak : strength kind ≡ 0
    pub ends : EndsThreaded (operand_ends stack operand (of_kind spot kind))

  abbrev pub Operands : List Frame → Type 0
  Operands stack = (operand : Expr) → EndsOperand stack operand

  -- States by their stack.

  after_act_ends : (stack : List Frame) (act : Act) → EndsAct stack act → EndsThread stack (states.after_act act)
  after_act_ends stack act (inl ends) = by_thread _ _ (Mark mark.CloseBrace) ends
  after_act_ends stack act (inr ends) = by_thread _ _ (Mark mark.Chain) ends

  pub after_first_ends : (stack : List Frame) (at : ℕ) (condition : Expr) (term : Term) → EndsAct stack (tree.when at condition term)
      → EndsThread stack (states.after_first at condition term)
  after_first_ends stack at condition term (inl ends) = by_thread _ _ (Mark mark.CloseBrace) ends
  after_first_ends stack at condition term (inr ends) = by_thread _ _ (Mark mark.Chain) ends

  after_operand_ends : (stack : List Frame) (operand : Expr) → EndsOperand stack operand → EndsThread stack (states.after_operand operand)
  after_operand_ends stack operand ends = by_thread _ _ ends.kind ends.ends

  module _ (stack : List Frame) (acts : Acts stack) where
    pub act_ends : (act : Act) → EndsThread stack (states.after_act act)
    act_ends act = after_act_ends stack act (acts act)

    pub cycle_ends : (at : ℕ) → EndsThread stack (states.cycle_count at)
    cycle_ends at = by_thread _ _ (Number 1) (act_ends _)

    pub term_wanted_ends : EndsThread stack states.term_wanted
    term_wanted_ends = by_thread _ _ (Key key.Cycle) (cycle_ends spot)

    pub act_wanted_ends : EndsThread stack states.act_wanted
    act_wanted_ends = by_thread _ _ (Key key.Cycle) (cycle_ends spot)

  module _ (stack : List Frame) (operands : Operands stack) where
    pub operand_end : (operand : Expr) → EndsThread stack (states.after_operand operand)
    operand_end operand = after_operand_ends stack operand (operands operand)

    pub operand_wanted_ends : EndsThread stack states.operand_wanted
    operand_wanted_ends = by_thread _ _ (Literal 1 0) (operand_end _)

  -- Frames.

  module _ (stack : List Frame) (terms : Terms stack) where
    following_on : (bound' : Option Name) (act : Act) → Terms (states.following bound' act ∷ stack)
    following_on bound' act term = terms (tree.follow bound' act term)

    besides_on : (bound' : Option Name) (act : Act) → Terms (states.besides bound' act ∷ stack)
    besides_on bound' act term = terms (tree.beside bound' act term)

    pub binding_on : (name : Name) → Acts (states.binding name ∷ stack)
    binding_on name act =
        inr (term_wanted_ends (states.following (Some name) act ∷ stack) (λ next. inl (following_on (Some name) act (tree.single next))))

  module _ (stack : List Frame) (acts : Acts stack) where
    first_side_on : (at : ℕ) (condition : Expr) → Terms (states.first_side at condition ∷ stack)
    first_side_on at condition term = after_first_ends stack at condition term (acts _)

    pub second_side_on : (at : ℕ) (condition : Expr) (first : Term) → Terms (states.second_side at condition first ∷ stack)
    second_side_on at condition first term = act_ends stack acts _

    blocking_on : (at : ℕ) → Terms (states.blocking at ∷ stack)
    blocking_on at term = act_ends stack acts _

    -- an operand that is an act's value is followed by what follows the act
    value_on : (frame : Frame) (operand : Expr) (act : Act)
        → (EndsThreaded (act_step stack act (Mark mark.CloseBrace)) → EndsThreaded (operand_ends (frame ∷ stack) operand (of_kind spot (Mark mark.CloseBrace))))
        → (EndsThreaded (act_step stack act (Mark mark.Chain)) → EndsThreaded (operand_ends (frame ∷ stack) operand (of_kind spot (Mark mark.Chain))))
        → EndsAct stack act → EndsOperand (frame ∷ stack) operand
    value_on frame operand act closed chained' (inl ends) = record { kind = Mark mark.CloseBrace; weak = refl; ends = closed ends }
    value_on frame operand act closed chained' (inr ends) = record { kind = Mark mark.Chain; weak = refl; ends = chained' ends }

    pub setting_on : (at : ℕ) (register : Label) → Operands (states.setting at register ∷ stack)
    setting_on at register operand = value_on (states.setting at register) operand (tree.set at register.name register.at operand) (λ e. e) (λ e. e) (acts _)

    evaluating_on : Operands (states.evaluating ∷ stack)
    evaluating_on operand = value_on states.evaluating operand (tree.pure (place_of_expr operand) operand) (λ e. e) (λ e. e) (acts _)

    pub sending_on : (at : ℕ) (endpoint message : Label) → Operands (states.sending at endpoint message ∷ stack)
    sending_on at endpoint message operand = record { kind = Mark mark.CloseParen; weak = refl; ends = act_ends stack acts _ }

    deciding_on : (at : ℕ) → Operands (states.deciding at ∷ stack)
    deciding_on at operand = record {
      kind = Mark mark.OpenBrace;
      weak = refl;
      ends = term_wanted_ends (states.first_side at operand ∷ stack) (λ act. inl (first_side_on at operand (tree.single act)));
    }

  module _ (stack : List Frame) (operands : Operands stack) where
    grouping_on : Operands (states.grouping ∷ stack)
    grouping_on operand = record { kind = Mark mark.CloseParen; weak = refl; ends = operand_end stack operands operand }

    inverting_on : (at : ℕ) → Operands (states.inverting at ∷ stack)
    inverting_on at operand = let below = operands (tree.inverse at operand) in record { kind = below.kind; weak = below.weak; ends = below.ends }

    operating_on : (operator : BinOp) (at : ℕ) (left : Expr) → Operands (states.operating operator at left ∷ stack)
    operating_on operator at left operand =
        let below = operands (tree.binary at operator left operand) in
        let same = sym (operating_passed operator at left stack operand below.weak) in
        record { kind = below.kind; weak = below.weak; ends = subst (λ now. EndsThreaded (settled_step now (of_kind spot below.kind))) same below.ends }

    calling_second_on : (operator : BinOp) (at : ℕ) (first : Expr) → Operands (states.calling_second operator at first ∷ stack)
    calling_second_on operator at first operand = record { kind = Mark mark.CloseParen; weak = refl; ends = operand_end stack operands _ }

    choosing_second_on : (at : ℕ) (condition first : Expr) → Operands (states.choosing_second at condition first ∷ stack)
    choosing_second_on at condition first operand =
        let below = operands (tree.choice at condition first operand) in
        let same = sym (choosing_passed at condition first stack operand below.weak) in
        record { kind = below.kind; weak = below.weak; ends = subst (λ now. EndsThreaded (settled_step now (of_kind spot below.kind))) same below.ends }

    pub calling_on : (operator : BinOp) (at : ℕ) → Operands (states.calling operator at ∷ stack)
    calling_on operator at first = record {
      kind = Mark mark.Comma;
      weak = refl;
      ends = operand_wanted_ends (states.calling_second operator at first ∷ stack) (calling_second_on operator at first);
    }

    choosing_on : (at : ℕ) (condition : Expr) → Operands (states.choosing at condition ∷ stack)
    choosing_on at condition first = record {
      kind = Mark mark.Colon;
      weak = refl;
      ends = operand_wanted_ends (states.choosing_second at condition first ∷ stack) (choosing_second_on at condition first);
    }

  -- Stacks.

  plain_on : {first now : List Token} (stack : List Frame) → WantsTerm first stack now → Terms stack → Acts stack
  plain_on (states.binding name ∷ stack) wants terms act = elim wants [ ]
  plain_on stack wants terms act = inl (terms (tree.single act))

  mutual
    pub terms_of : {first : List Token} {stack : List Frame} {now : List Token} → WantsTerm first stack now → Terms stack
    terms_of at_first = λ term. tt
    terms_of (chained {stack = stack} {act = act} wants is_act is_sign) = following_on stack (terms_of wants) None act
    terms_of (parted {stack = stack} {act = act} wants is_act is_sign) = besides_on stack (terms_of wants) None act
    terms_of (chained_bound {stack = stack} {name = name} {act = act} wants is_let is_word is_equals is_act is_sign) =
        following_on stack (terms_of wants) (Some name) act
    terms_of (parted_bound {stack = stack} {name = name} {act = act} wants is_let is_word is_equals is_act is_sign) =
        besides_on stack (terms_of wants) (Some name) act
    terms_of (in_first_side {stack = stack} {word = word} {condition = condition} wants is_if is_condition is_opening) =
        first_side_on stack (acts_of wants) word.at condition
    terms_of (in_second_side {stack = stack} {word = word} {condition = condition} {term = term} wants is_if is_condition is_opening is_term is_closing is_else is_start) =
        second_side_on stack (acts_of wants) word.at condition term
    terms_of (in_block {stack = stack} {opening = opening} wants is_opening) = blocking_on stack (acts_of wants) opening.at

    pub acts_of : {first : List Token} {stack : List Frame} {now : List Token} → WantsAct first stack now → Acts stack
    acts_of {stack = stack} (unbound wants) = plain_on stack wants (terms_of wants)
    acts_of (bound {stack = stack} {name = name} wants is_let is_word is_equals) = binding_on stack (terms_of wants) name

  pub operands_of : {first : List Token} {stack : List Frame} {now : List Token} → WantsOperand first stack now → Operands stack
  operands_of (inverted {stack = stack} {tilde = tilde} wants is) = inverting_on stack (operands_of wants) tilde.at
  operands_of (operated {stack = stack} {sign = sign} {left = left} {operator = operator} joining wants asks is_left is_sign) =
      operating_on stack (operands_of wants) operator sign.at left
  operands_of (grouped {stack = stack} wants is) = grouping_on stack (operands_of wants)
  operands_of (called {stack = stack} {word = word} {operator = operator} wants is_word is_opening) = calling_on stack (operands_of wants) operator word.at
  operands_of (called_second {stack = stack} {word = word} {operator = operator} {one = one} wants is_word is_opening is_one is_comma) =
      calling_second_on stack (operands_of wants) operator word.at one
  operands_of (chosen {stack = stack} {question = question} {condition = condition} wants asks is_condition is_question) =
      choosing_on stack (operands_of wants) question.at condition
  operands_of (chosen_second {stack = stack} {question = question} {condition = condition} {one = one} wants asks is_condition is_question is_one is_colon) =
      choosing_second_on stack (operands_of wants) question.at condition one
  operands_of (setting {stack = stack} {word = word} {target = target} {name = name} wants is_word is_target is_assign) =
      setting_on stack (acts_of wants) word.at (labelled name target)
  operands_of (sending {stack = stack} {word = word} {holder = holder} {sent = sent} {endpoint = endpoint} {message = message} wants is_word is_holder is_dot is_sent is_opening) =
      sending_on stack (acts_of wants) word.at (labelled endpoint holder) (labelled message sent)
  operands_of (deciding {stack = stack} {word = word} wants is) = deciding_on stack (acts_of wants) word.at
  operands_of (evaluating {stack = stack} wants) = evaluating_on stack (acts_of wants)
