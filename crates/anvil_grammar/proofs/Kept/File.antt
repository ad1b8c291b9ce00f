-- What is walked to its end is a file. The tokens of the whole file stand in `all`. Each state that the walk comes to says of
-- them what the grammar says of the parts so far, and each step keeps it; at the end of the items any further items give the
-- whole file, and behind the end there are none.
use Rattle.std.proofs.Common.{◌≡◌, List, [], ◌∷◌, ◌++◌, refl, ap, subst, append_assoc}
use Rattle.std.proofs.lemmas.List.{append-nil}
use Rattle.anvil_lexer.specs.declared.token.Token.{Token}
use Rattle.anvil_lexer.specs.declared.token.TokenKind.{TokenKind}
use Rattle.anvil_lexer.specs.declared.token.TokenKind.TheVariants.{Key, End}
use Rattle.anvil_lexer.specs.declared.token.Keyword.TheVariants as key
use Rattle.anvil_tree.specs.Tree as tree
use Rattle.anvil_tree.specs.Tree.{Class, Process, File}
use Rattle.anvil_grammar.specs.Words.{Is}
use Rattle.anvil_grammar.specs.Grammar as grammar
use Rattle.anvil_grammar.specs.Grammar.{IsClass, IsProcess, IsFile, class_next, process_next}
use Rattle.anvil_grammar.specs.Begun.{Begin}
use Rattle.anvil_grammar.specs.State as states
use Rattle.anvil_grammar.specs.State.{ClassState, ProcessState, State, start}
use Rattle.anvil_grammar.specs.Step.{Step, unexpected, onward, finished, class_step, process_step, item_step, step, stands, Walk, walk_on, walk}
use Rattle.anvil_grammar.proofs.Kept.Parts.{GoodStep, within_good}
use Rattle.anvil_grammar.proofs.Kept.Class.{ClassReads, chan_read, class_good}
use Rattle.anvil_grammar.proofs.Kept.Process.{ProcessReads, proc_read, process_good}

abbrev pub TakesItems : List Token → File → List Token → Type 0
TakesItems all items now = (others : File) → IsFile now others → IsFile all (items ++ others)

pub data FileReads (all : List Token) : State → List Token → Type 0 where
  at_item : {now : List Token} {items : File} → TakesItems all items now → FileReads all (states.between items) now
  in_class : {from now : List Token} {items : File} {state : ClassState} → TakesItems all items from → ClassReads from state now
      → FileReads all (states.in_class items state) now
  in_process : {from now : List Token} {items : File} {state : ProcessState} → TakesItems all items from → ProcessReads from state now
      → FileReads all (states.in_process items state) now
  at_end : {end : Token} {now : List Token} {items : File} → TakesItems all items (end ∷ now) → Is End end → FileReads all (states.ended items) now

module _ {all : List Token} where
  class_taken : {from now : List Token} (items : File) (class : Class) → TakesItems all items from → IsClass from class now
      → TakesItems all (items ++ (tree.class class ∷ [])) now
  class_taken items class takes is others are = rw (append_assoc items (tree.class class ∷ []) others) (takes (tree.class class ∷ others) (class_next is are))

  process_taken : {from now : List Token} (items : File) (process : Process) → TakesItems all items from → IsProcess from process now
      → TakesItems all (items ++ (tree.process process ∷ [])) now
  process_taken items process takes is others are =
      rw (append_assoc items (tree.process process ∷ []) others) (takes (tree.process process ∷ others) (process_next is are))

  items_end : {items : File} → FileReads all (states.ended items) [] → IsFile all items
  items_end {items = items} (at_end takes is) = rw (append-nil items) at (takes [] (grammar.ended is))

module _ {all : List Token} {token : Token} {now : List Token} where
  item_good : (items : File) → TakesItems all items (token ∷ now) → (kind : TokenKind) → Is kind token
      → GoodStep (FileReads all) (λ file rest. ⊥) (item_step items token kind) now
  item_good items takes (Key key.Chan) is = in_class takes (chan_read is)
  item_good items takes (Key key.Proc) is = in_process takes (proc_read is)
  item_good items takes End is = at_end takes is
  item_good items takes kind is = tt

  file_good : {state : State} → FileReads all state (token ∷ now) → GoodStep (FileReads all) (λ file rest. ⊥) (step state token) now
  file_good (at_item {items = items} takes) = item_good items takes token.kind refl
  file_good (in_class {from = from} {items = items} {state = state} takes reads) =
      within_good _ _ (ClassReads from) (IsClass from) (FileReads all) (λ file rest. ⊥) now (class_step state token) (class_good state reads)
      (λ next is. in_class takes is) (λ class is. at_item (class_taken items class takes is))
  file_good (in_process {from = from} {items = items} {state = state} takes reads) =
      within_good _ _ (ProcessReads from) (IsProcess from) (FileReads all) (λ file rest. ⊥) now (process_step state token) (process_good state reads)
      (λ next is. in_process takes is) (λ process is. at_item (process_taken items process takes is))
  file_good (at_end takes is) = tt

-- where the walk stands, the tokens read the state
walk_on_reads : (all rest : List Token) (token : Token) (end : State) (found : Step State File)
    → ((state : State) → FileReads all state rest → (walk state rest).stop ≡ stands end → FileReads all end [])
    → GoodStep (FileReads all) (λ file rest. ⊥) found rest → (walk_on (λ next. walk next rest) token found).stop ≡ stands end → FileReads all end []
walk_on_reads all rest token end unexpected later good same = absurd cc
walk_on_reads all rest token end (onward begun state) later good same = later state good same
walk_on_reads all rest token end (finished file) later good same = absurd cc

walk_reads : (all tokens : List Token) (end state : State) → FileReads all state tokens → (walk state tokens).stop ≡ stands end → FileReads all end []
walk_reads all [] end state reads same = let is : state ≡ end = cc in subst (λ p. FileReads all p []) is reads
walk_reads all (token ∷ rest) end state reads same =
    walk_on_reads all rest token end (step state token) (walk_reads all rest end) (file_good reads) same

-- the tokens before a state that is reached
pub reached : (front : List Token) (state : State) → (walk start front).stop ≡ stands state → FileReads front state []
reached front state same = walk_reads front front state start (at_item (λ others is. is)) same

pub file_sound : (tokens : List Token) (begun : List Begin) (file : File)
    → walk start tokens ≡ record { begun = begun; stop = stands (states.ended file) } → IsFile tokens file
file_sound tokens begun file same = items_end (reached tokens (states.ended file) (ap (λ (found : Walk). found.stop) same))
