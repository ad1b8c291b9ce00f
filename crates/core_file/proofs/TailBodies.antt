-- Where no check of a thread fails, its body is tail-stepped, and each of its cycles takes time.
--
-- The one hard case is `a ; t`: nothing in t may name a. The chain has no `let`, so a is not among the variables in
-- scope of t. So t is numbered also over the acts in scope without a, and then each variable in t is the site of one
-- of these, which are before a, or of an act of t, which is after a.
use Rattle.std.proofs.Common.{◌≡◌, ℕ, ◌+◌, ◌<◌, ◌≤◌, ◌⊎◌, inl, inr, arith, refl, sym, subst, Bool, true, false, ◌&&◌, nat_le, List, ◌∷◌, Some, None}
use Rattle.std.proofs.lemmas.Bool.Decides.{nat_tests}
use Rattle.anvil_tree.specs.Tree as tree
use Rattle.anvil_tree.specs.Tree.{Name, literal, variable, shown, inverse, binary, slice, choice, unit, single, follow, beside, cycle, set, send, receive, when, either, block, pure}
use Rattle.anvil_tree.specs.Few.{act_count, act_count_in}
use Rattle.core_term.specs.Limits.{longest_delay}
use Rattle.core_term.specs.Term.{Term, One, Then, Both, Act, Cycle, Set, Send, Recv, If, When, Block, Wait, Pure, Nothing, site}
use Rattle.core_term.specs.Numbering.{size, act_size, OneOf, Numbered, NumberedAct}
use Rattle.core_term.specs.Tail.{Names, NamesIn, IsTail, IsTailAct, CyclesTakeTime, CyclesTakeTimeIn}
use Rattle.core_file.specs.Scope.{Scope, after}
use Rattle.core_file.specs.CoreTerm.{core_pure, core_term, core_act}
use Rattle.core_file.specs.Refused.{is_count}
use Rattle.core_file.specs.TermChecks.{Taken}
use Rattle.core_file.proofs.Held.{TermHeld, ActHeld, TailHeld, TailHeldIn}
use Rattle.core_file.proofs.Sizes.{first_site, some_act}
use Rattle.core_file.proofs.NumberedBodies.{Covers, covers_later, covers_bound, numbered}

-- What a numbered term names: acts in scope and its own.

site_low : (acts : List Act) (low : ℕ) (act : Act) → NumberedAct acts low act → site act ≡ low
site_low acts low (Cycle place count) is = is
site_low acts low (Set place register value) is = is.0
site_low acts low (Send place port value) is = is.0
site_low acts low (Recv place port) is = is
site_low acts low (If place condition first second worded) is = is.0
site_low acts low (When place condition first) is = is.0
site_low acts low (Block place body) is = is.0
site_low acts low (Wait place word) is = is.0
site_low acts low (Pure place value) is = is.0
site_low acts low (Nothing place) is = is

abbrev EarlierOr : List Act → ℕ → ℕ → Type 0
EarlierOr acts low number = OneOf acts number ⊎ (low ≤ number)

later_still : (acts : List Act) (low more number : ℕ) → EarlierOr acts (low + more) number → EarlierOr acts low number
later_still acts low more number (inl one) = inl one
later_still acts low more number (inr later) = inr (omega arith)

of_chain : (acts : List Act) (act : Act) (low more number : ℕ) → site act ≡ low → EarlierOr (act ∷ acts) (low + more) number
    → EarlierOr acts low number
of_chain acts act low more number at (inl (inl here)) = inr (omega arith)
of_chain acts act low more number at (inl (inr one)) = inl one
of_chain acts act low more number at (inr later) = inr (omega arith)

mutual
  named : (acts : List Act) (low : ℕ) (term : Term) → Numbered acts low term → (number : ℕ) → Names term number
      → EarlierOr acts low number
  named acts low (One act) is number names = named_in acts low act is number names
  named acts low (Then act rest) is number (inl names) = named_in acts low act is.0 number names
  named acts low (Then act rest) is number (inr names) =
      of_chain acts act low (act_size act) number (site_low acts low act is.0) (named (act ∷ acts) (low + act_size act) rest is.1 number names)
  named acts low (Both act rest) is number (inl names) = named_in acts low act is.0 number names
  named acts low (Both act rest) is number (inr names) =
      of_chain acts act low (act_size act) number (site_low acts low act is.0) (named (act ∷ acts) (low + act_size act) rest is.1 number names)

  named_in : (acts : List Act) (low : ℕ) (act : Act) → NumberedAct acts low act → (number : ℕ) → NamesIn act number
      → EarlierOr acts low number
  named_in acts low (Cycle place count) is number names = elim names [ ]
  named_in acts low (Set place register value) is number names = inl (is.1 number names)
  named_in acts low (Send place port value) is number names = inl (is.1 number names)
  named_in acts low (Recv place port) is number names = elim names [ ]
  named_in acts low (If place condition first second worded) is number (inl names) = inl (is.3 number names)
  named_in acts low (If place condition first second worded) is number (inr (inl names)) =
      later_still acts low 1 number (named acts (low + 1) first is.1 number names)
  named_in acts low (If place condition first second worded) is number (inr (inr names)) =
      later_still acts low (1 + size first) number (named acts (low + (1 + size first)) second is.2 number names)
  named_in acts low (When place condition first) is number (inl names) = inl (is.2 number names)
  named_in acts low (When place condition first) is number (inr names) =
      later_still acts low 1 number (named acts (low + 1) first is.1 number names)
  named_in acts low (Block place body) is number names =
      later_still acts low 1 number (named acts (low + 1) body is.1 number names)
  named_in acts low (Wait place word) is number names = inl (subst (OneOf acts) (sym names) is.1)
  named_in acts low (Pure place value) is number names = inl (is.1 number names)
  named_in acts low (Nothing place) is number names = elim names [ ]

-- Counts.

first_true : (one other : Bool) → (one && other) ≡ true → one ≡ true
first_true true other both = refl
first_true false other both = both

count_takes_time : (count : ℕ) → is_count count ≡ true → 0 < count
count_takes_time count is = let some = first_true (nat_le 1 count) (nat_le count longest_delay) is in grind (arith, nat_tests)

pure_takes_time : (scope : Scope) (low : ℕ) (expr : tree.Expr) → CyclesTakeTimeIn (core_pure scope low expr)
pure_takes_time scope low (literal at width value) = tt
pure_takes_time scope low (variable at name) = tt
pure_takes_time scope low (shown at register) = tt
pure_takes_time scope low (inverse at operand) = tt
pure_takes_time scope low (binary at operator first second) = tt
pure_takes_time scope low (slice at name high index) = tt
pure_takes_time scope low (choice at condition first second) = tt
pure_takes_time scope low (unit at) = tt

mutual
  pub cycles_take_time : (scope : Scope) (taken : Taken) (low : ℕ) (term : tree.Term) → TermHeld scope taken low term
      → CyclesTakeTime (core_term scope low term)
  cycles_take_time scope taken low (single act) held = cycles_take_time_in scope taken low act held
  cycles_take_time scope taken low (follow bound act rest) held = (
    cycles_take_time_in scope taken low act held.0,
    cycles_take_time (after scope bound low (core_act scope low act)) taken (low + act_count_in act) rest held.1,
  )
  cycles_take_time scope taken low (beside bound act rest) held = (
    cycles_take_time_in scope taken low act held.0,
    cycles_take_time (after scope bound low (core_act scope low act)) taken (low + act_count_in act) rest held.1,
  )

  cycles_take_time_in : (scope : Scope) (taken : Taken) (low : ℕ) (act : tree.Act) → ActHeld scope taken low act
      → CyclesTakeTimeIn (core_act scope low act)
  cycles_take_time_in scope taken low (cycle at count count_at) held = count_takes_time count held
  cycles_take_time_in scope taken low (set at register register_at value) held = tt
  cycles_take_time_in scope taken low (send at endpoint endpoint_at message message_at value) held = tt
  cycles_take_time_in scope taken low (receive at endpoint endpoint_at message message_at) held = tt
  cycles_take_time_in scope taken low (when at condition first) held = cycles_take_time scope taken (low + 1) first held.2
  cycles_take_time_in scope taken low (either at condition first second) held = (
    cycles_take_time scope taken (low + 1) first held.2,
    cycles_take_time scope taken (low + (1 + act_count first)) second held.3,
  )
  cycles_take_time_in scope taken low (block at body) held = cycles_take_time scope taken (low + 1) body held
  cycles_take_time_in scope taken low (pure at expr) held = pure_takes_time scope low expr

-- Tails.

-- an act before all that is named is not named
not_named : (low next number : ℕ) (acts : List Act) → low < next → ((number : ℕ) → OneOf acts number → number < low)
    → EarlierOr acts next number → number ≡ low → ⊥
not_named low next number acts later below (inl one) here = let early = below number one in absurd (omega arith)
not_named low next number acts later below (inr behind) here = absurd (omega arith)

mutual
  pub tailed : (scope : Scope) (taken : Taken) (acts : List Act) (low : ℕ) (term : tree.Term)
      → Covers scope.variables acts low → TermHeld scope taken low term → TailHeld term
      → IsTail (core_term scope low term)
  tailed scope taken acts low (single act) covers held tail = tailed_in scope taken acts low act covers held tail
  tailed scope taken acts low (follow bound act rest) covers held tail =
      let made = core_act scope low act in
      let some = some_act act in
      let next = covers_bound bound scope.variables made acts low (low + act_count_in act) (first_site scope low act) (omega arith) covers in
      tailed (after scope bound low made) taken (made ∷ acts) (low + act_count_in act) rest next held.1 tail
  tailed scope taken acts low (beside None act rest) covers held tail =
      let made = core_act scope low act in
      let some = some_act act in
      let behind = low + act_count_in act in
      let inner = after scope None low made in
      let next = covers_later scope.variables acts low behind (omega arith) covers in
      let apart = numbered inner taken acts behind rest next held.1 in (
        tailed_in scope taken acts low act covers held.0 tail.0,
        tailed inner taken acts behind rest next held.1 tail.1,
        λ names. not_named low behind (site made) acts (omega arith) covers.below (named acts behind (core_term inner behind rest) apart (site made) names) (first_site scope low act),
      )
  tailed scope taken acts low (beside (Some name) act rest) covers held tail = elim tail [ ]

  tailed_in : (scope : Scope) (taken : Taken) (acts : List Act) (low : ℕ) (act : tree.Act) → Covers scope.variables acts low
      → ActHeld scope taken low act → TailHeldIn act
      → IsTailAct (core_act scope low act)
  tailed_in scope taken acts low (cycle at count count_at) covers held tail = count_takes_time count held
  tailed_in scope taken acts low (set at register register_at value) covers held tail = tt
  tailed_in scope taken acts low (either at condition first second) covers held tail =
      let behind = low + (1 + act_count first) in (
        tailed scope taken acts (low + 1) first (covers_later scope.variables acts low (low + 1) (omega arith) covers) held.2 tail.0,
        tailed scope taken acts behind second (covers_later scope.variables acts low behind (omega arith) covers) held.3 tail.1,
      )
  tailed_in scope taken acts low (block at body) covers held tail =
      tailed scope taken acts (low + 1) body (covers_later scope.variables acts low (low + 1) (omega arith) covers) held tail
  tailed_in scope taken acts low (send at endpoint endpoint_at message message_at value) covers held tail = elim tail [ ]
  tailed_in scope taken acts low (receive at endpoint endpoint_at message message_at) covers held tail = elim tail [ ]
  tailed_in scope taken acts low (when at condition first) covers held tail = elim tail [ ]
  tailed_in scope taken acts low (pure at expr) covers held tail = elim tail [ ]
