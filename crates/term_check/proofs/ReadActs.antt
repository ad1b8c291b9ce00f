-- How an act is read from what was read of its parts, and where it fails.
use Rattle.std.proofs.Common.{◌≡◌, ◌∙◌, ◌⊎◌, ◌+◌, ℕ, nat_lt, Bool, true, false, ◌&&◌, [], ◌∷◌, ◌++◌, Option, None, Some, refl, ap, sym, subst, inl, inr, arith}
use Rattle.std.specs.Prelude.{if◌then◌else◌, ◌==◌, unwrap_or}
use Rattle.std.proofs.lemmas.Bool.{eq-eqb}
use Rattle.std.proofs.lemmas.Bool.Decides.{eqb_tells}
use Rattle.anvil_tree.specs.View.{if_at}
use Rattle.std.proofs.lemmas.List.{append-nil}
use Rattle.anvil_tree.specs.Tree as tree
use Rattle.anvil_tree.specs.Tree.{Name}
use Rattle.anvil_tree.specs.Few.{act_count}
use Rattle.anvil_tree.specs.Order.{acts_of_term}
use Rattle.core_term.specs.declared.term.CoreExpr.{CoreExpr}
use Rattle.core_term.specs.declared.term.CoreTerm.{CoreTerm}
use Rattle.core_term.specs.declared.term.CoreKind.{CoreKind, Cycle, Set, Send, Recv, If', Block', None', Some'}
use Rattle.core_term.specs.Term as term
use Rattle.core_term.specs.View.{expr_of, term_of, act_of, if_of, places_of, places_in}
use Rattle.core_term.specs.Sized.{words_fit, words_fit_in, words_fit_else}
use Rattle.core_term.specs.Widths.{Widths, term_width, act_width}
use Rattle.first_check.specs.Check.{first_refusal}
use Rattle.first_check.proofs.Walks.{passes, stops}
use Rattle.core_file.specs.Refused.{Checks, are_equal}
use Rattle.core_file.specs.Scope.{Scope, number_among, port_number}
use Rattle.core_file.specs.CoreTerm.{core_term, core_pure, core_expr, width_of}
use Rattle.core_file.specs.ExprChecks.{expr_checks}
use Rattle.core_file.specs.TermChecks.{Taken, term_checks, act_checks, port_checks, pure_checks, side_checks}
use Rattle.core_file.specs.declared.error.NameErr.{NameErr}
use Rattle.core_file.specs.declared.error.NameErr.TheVariants.{NoMemory, WidthDiffers}
use Rattle.term_check.specs.Read.{TermRead, ActRead, TermFails, ActFails}
use Rattle.term_check.specs.Words.{word_of}

-- Acts without acts inside them.

pub act_memory : (scope : Scope) (taken : Taken) (low : ℕ) (written : tree.Act) (fault : NameErr) → fault ≡ NoMemory → ActFails scope taken low written fault
act_memory scope taken low written fault none = record { why = inl none }

pub act_fails : (scope : Scope) (taken : Taken) (low : ℕ) (written : tree.Act) (fault : NameErr) → first_refusal (act_checks scope taken low written) ≡ Some fault
    → ActFails scope taken low written fault
act_fails scope taken low written fault some = record { why = inr some }

pub act_why : (scope : Scope) (taken : Taken) (low : ℕ) (written : tree.Act) (fault : NameErr) → (fault ≡ NoMemory) ⊎ (first_refusal (act_checks scope taken low written) ≡ Some fault)
    → ActFails scope taken low written fault
act_why scope taken low written fault why = record { why = why }

-- Acts around terms.

-- the condition of an `if`
pub record ConditionRead (scope : Scope) (condition : tree.Expr) (read : CoreExpr) : Type 0 where
  pub passes : first_refusal (expr_checks scope condition) ≡ None
  pub same : expr_of scope.widths read ≡ core_expr scope condition
  pub one : width_of scope condition ≡ 1

condition_passes : (scope : Scope) (at : ℕ) (condition : tree.Expr) (read : CoreExpr) (others : Checks) → ConditionRead scope condition read
    → first_refusal (expr_checks scope condition ++ (are_equal at 1 (width_of scope condition) ∷ others)) ≡ first_refusal others
condition_passes scope at condition read others holds =
    passes (expr_checks scope condition) (are_equal at 1 (width_of scope condition) ∷ others) holds.passes
    ∙ ap (λ w. first_refusal (are_equal at 1 w ∷ others)) holds.one

pub condition_stops : (scope : Scope) (at : ℕ) (condition : tree.Expr) (others : Checks) (fault : NameErr) → first_refusal (expr_checks scope condition) ≡ Some fault
    → first_refusal (expr_checks scope condition ++ (are_equal at 1 (width_of scope condition) ∷ others)) ≡ Some fault
condition_stops scope at condition others fault some = stops (expr_checks scope condition) (are_equal at 1 (width_of scope condition) ∷ others) fault some

differs_by : (at width : ℕ) (others : Checks) (is : Bool) → (1 == width) ≡ is → is ≡ false → first_refusal (are_equal at 1 width ∷ others) ≡ Some (WidthDiffers at 1 width)
differs_by at width others is test fails = rw (test ∙ fails) refl

pub condition_differs : (scope : Scope) (at : ℕ) (condition : tree.Expr) (others : Checks) (width : ℕ) → first_refusal (expr_checks scope condition) ≡ None
    → width ≡ width_of scope condition → (1 == width) ≡ false
    → first_refusal (expr_checks scope condition ++ (are_equal at 1 (width_of scope condition) ∷ others)) ≡ Some (WidthDiffers at 1 width)
condition_differs scope at condition others width none is fails =
    passes (expr_checks scope condition) (are_equal at 1 (width_of scope condition) ∷ others) none
    ∙ ap (λ w. first_refusal (are_equal at 1 w ∷ others)) (sym is) ∙ differs_by at width others false fails refl

pub when_read : (scope : Scope) (taken : Taken) (low at : ℕ) (condition : tree.Expr) (first : tree.Term) (read : CoreExpr) (core : CoreTerm) (width next : ℕ) (pointer : _)
    → ConditionRead scope condition read → TermRead scope taken (low + 1) first core width next
    → ActRead scope taken low (tree.when at condition first) at (If' read pointer core None' None) 0 next
when_read scope taken low at condition first read core width next pointer holds side = record {
  passes = condition_passes scope at condition read (term_checks scope taken (low + 1) first) holds ∙ side.passes;
  same = ap (λ e. term.When low e (term_of scope.widths core)) holds.same ∙ ap (λ t. term.When low (core_expr scope condition) t) side.same;
  wide = refl;
  words = rw (side.words) refl;
  places = ap (λ l. at ∷ l) (append-nil (places_of core) ∙ side.places);
  counted = let counted = side.counted in omega arith;
}

-- the second side begins behind the first
second_side : (scope : Scope) (taken : Taken) (low : ℕ) (first second : tree.Term) (core other : CoreTerm) (left right middle next : ℕ)
    → TermRead scope taken (low + 1) first core left middle → TermRead scope taken middle second other right next
    → TermRead scope taken (low + (1 + act_count first)) second other right next
second_side scope taken low first second core other left right middle next one two =
    let counted = one.counted in
    let same : middle ≡ low + (1 + act_count first) = omega arith in
    subst (λ n. TermRead scope taken n second other right next) same two

worded_if : (both : Bool) (low : ℕ) (condition : term.Expr) (first second : term.Term) (left : ℕ)
    → if_of low condition first (Some second) (if both then Some left else None) ≡ term.If low condition first second both
worded_if true low condition first second left = refl
worded_if false low condition first second left = refl

worded_width : (both : Bool) (widths : Widths) (low : ℕ) (condition : term.Expr) (first second : term.Term) (left : ℕ) → left ≡ term_width widths first
    → unwrap_or (if both then Some left else None) 0 ≡ act_width widths (term.If low condition first second both)
worded_width true widths low condition first second left is = is
worded_width false widths low condition first second left is = refl

words_else : (both : Bool) (widths : Widths) (left width : ℕ) (pointer : _) (other : CoreTerm) → left ≡ width → words_fit widths other ≡ true
    → words_fit_else widths width (if both then Some left else None) (Some' pointer other) ≡ true
words_else true widths left width pointer other is words =
    let same : (left == width) ≡ true = eq-eqb left width is in
    rw (same, words) refl
words_else false widths left width pointer other is words = words

pub either_read : (scope : Scope) (taken : Taken) (low at : ℕ) (condition : tree.Expr) (first second : tree.Term) (read : CoreExpr) (core other : CoreTerm) (left right middle next : ℕ)
    (word : Option ℕ) (pointer pointer' : _) → ConditionRead scope condition read → TermRead scope taken (low + 1) first core left middle → TermRead scope taken middle second other right next
    → first_refusal (side_checks at left right) ≡ None → word ≡ word_of left right
    → ActRead scope taken low (tree.either at condition first second) at (If' read pointer core (Some' pointer' other) word) (unwrap_or word 0) next
either_read scope taken low at condition first second read core other left right middle next word pointer pointer' holds one behind sides is =
    let two = second_side scope taken low first second core other left right middle next one behind in
    let both = nat_lt 0 left && nat_lt 0 right in
    let widths = scope.widths in
    let one_core = core_term scope (low + 1) first in
    let two_core = core_term scope (low + (1 + act_count first)) second in
    record {
      passes =
          condition_passes scope at condition read _ holds
          ∙ passes (term_checks scope taken (low + 1) first) _ one.passes
          ∙ passes (term_checks scope taken (low + (1 + act_count first)) second) _ two.passes
          ∙ ap (λ w. first_refusal (side_checks at w (term_width widths two_core))) (sym one.wide)
          ∙ ap (λ w. first_refusal (side_checks at left w)) (sym two.wide) ∙ sides;
      same =
          ap (λ e. if_of low e (term_of widths core) (Some (term_of widths other)) word) holds.same
          ∙ ap (λ t. if_of low (core_expr scope condition) t (Some (term_of widths other)) word) one.same
          ∙ ap (λ t. if_of low (core_expr scope condition) one_core (Some t) word) two.same
          ∙ ap (λ w. if_of low (core_expr scope condition) one_core (Some two_core) w) is
          ∙ worded_if both low (core_expr scope condition) one_core two_core left
          ∙ ap (λ w. term.If low (core_expr scope condition) one_core two_core (nat_lt 0 w && nat_lt 0 right)) one.wide
          ∙ ap (λ w. term.If low (core_expr scope condition) one_core two_core (nat_lt 0 (term_width widths one_core) && nat_lt 0 w)) two.wide;
      wide =
          ap (λ w. unwrap_or w 0) is ∙ worded_width both widths low (core_expr scope condition) one_core two_core left one.wide
          ∙ ap (λ w. act_width widths (term.If low (core_expr scope condition) one_core two_core (nat_lt 0 w && nat_lt 0 right))) one.wide
          ∙ ap (λ w. act_width widths (term.If low (core_expr scope condition) one_core two_core (nat_lt 0 (term_width widths one_core) && nat_lt 0 w))) two.wide;
      words = rw (one.words) (ap (λ w. words_fit_else widths (term_width widths (term_of widths core)) w (Some' pointer' other)) is
          ∙ words_else both widths left (term_width widths (term_of widths core)) pointer' other (one.wide ∙ ap (term_width widths) (sym one.same)) two.words);
      places = ap (λ l. at ∷ l) (ap (λ l. l ++ places_of other) one.places ∙ ap (λ l. acts_of_term first ++ l) two.places);
      counted = let counted = two.counted in omega arith;
    }

pub block_read : (scope : Scope) (taken : Taken) (low at : ℕ) (body : tree.Term) (core : CoreTerm) (width next : ℕ) (pointer : _)
    → TermRead scope taken (low + 1) body core width next → ActRead scope taken low (tree.block at body) at (Block' pointer core) width next
block_read scope taken low at body core width next pointer read = record {
  passes = read.passes;
  same = ap (term.Block low) read.same;
  wide = read.wide;
  words = read.words;
  places = ap (λ l. at ∷ l) read.places;
  counted = let counted = read.counted in omega arith;
}

-- Where they fail.

pub block_fails : (scope : Scope) (taken : Taken) (low at : ℕ) (body : tree.Term) (fault : NameErr) → TermFails scope taken (low + 1) body fault
    → ActFails scope taken low (tree.block at body) fault
block_fails scope taken low at body fault fails = record { why = fails.why }

pub when_fails : (scope : Scope) (taken : Taken) (low at : ℕ) (condition : tree.Expr) (first : tree.Term) (read : CoreExpr) (fault : NameErr)
    → ConditionRead scope condition read → TermFails scope taken (low + 1) first fault → ActFails scope taken low (tree.when at condition first) fault
when_fails scope taken low at condition first read fault holds fails = record {
  why = elim (fails.why) [ inl none ↦ inl none | inr some ↦ inr (condition_passes scope at condition read (term_checks scope taken (low + 1) first) holds ∙ some) ];
}

pub first_fails : (scope : Scope) (taken : Taken) (low at : ℕ) (condition : tree.Expr) (first second : tree.Term) (read : CoreExpr) (fault : NameErr)
    → ConditionRead scope condition read → TermFails scope taken (low + 1) first fault → ActFails scope taken low (tree.either at condition first second) fault
first_fails scope taken low at condition first second read fault holds fails = record {
  why = elim (fails.why) [ inl none ↦ inl none | inr some ↦ inr (condition_passes scope at condition read _ holds ∙ stops (term_checks scope taken (low + 1) first) _ fault some) ];
}

pub second_fails : (scope : Scope) (taken : Taken) (low at : ℕ) (condition : tree.Expr) (first second : tree.Term) (read : CoreExpr) (core : CoreTerm) (left middle : ℕ) (fault : NameErr)
    → ConditionRead scope condition read → TermRead scope taken (low + 1) first core left middle → TermFails scope taken middle second fault
    → ActFails scope taken low (tree.either at condition first second) fault
second_fails scope taken low at condition first second read core left middle fault holds one fails =
    let counted = one.counted in
    let same : middle ≡ low + (1 + act_count first) = omega arith in
    let there = subst (λ n. TermFails scope taken n second fault) same fails in
    record {
      why = elim (there.why) [
        | inl none ↦ inl none
        | inr some ↦ inr (condition_passes scope at condition read _ holds ∙ passes (term_checks scope taken (low + 1) first) _ one.passes
            ∙ stops (term_checks scope taken (low + (1 + act_count first)) second) _ fault some)
      ];
    }

pub sides_fail : (scope : Scope) (taken : Taken) (low at : ℕ) (condition : tree.Expr) (first second : tree.Term) (read : CoreExpr) (core other : CoreTerm) (left right middle next : ℕ)
    (fault : NameErr) → ConditionRead scope condition read → TermRead scope taken (low + 1) first core left middle → TermRead scope taken middle second other right next
    → first_refusal (side_checks at left right) ≡ Some fault → ActFails scope taken low (tree.either at condition first second) fault
sides_fail scope taken low at condition first second read core other left right middle next fault holds one behind some =
    let two = second_side scope taken low first second core other left right middle next one behind in
    record {
      why =
          inr (condition_passes scope at condition read _ holds
          ∙ passes (term_checks scope taken (low + 1) first) _ one.passes
          ∙ passes (term_checks scope taken (low + (1 + act_count first)) second) _ two.passes
          ∙ ap (λ w. first_refusal (side_checks at w (term_width scope.widths (core_term scope (low + (1 + act_count first)) second)))) (sym one.wide)
          ∙ ap (λ w. first_refusal (side_checks at left w)) (sym two.wide) ∙ some);
    }

-- Acts of expressions.

pub cycle_read : (scope : Scope) (taken : Taken) (low at count count_at : ℕ) → first_refusal (act_checks scope taken low (tree.cycle at count count_at)) ≡ None
    → ActRead scope taken low (tree.cycle at count count_at) at (Cycle count) 0 (low + 1)
cycle_read scope taken low at count count_at none = record { passes = none; same = refl; wide = refl; words = refl; places = refl; counted = refl }

pub set_read : (scope : Scope) (taken : Taken) (low at : ℕ) (register : Name) (register_at : ℕ) (value : tree.Expr) (number : ℕ) (read : CoreExpr)
    → first_refusal (act_checks scope taken low (tree.set at register register_at value)) ≡ None → number ≡ number_among scope.registers register
    → expr_of scope.widths read ≡ core_expr scope value
    → ActRead scope taken low (tree.set at register register_at value) at (Set number read) 0 (low + 1)
set_read scope taken low at register register_at value number read none is same = record {
  passes = none;
  same = ap (λ n. term.Set low n (expr_of scope.widths read)) is ∙ ap (λ e. term.Set low (number_among scope.registers register) e) same;
  wide = refl;
  words = refl;
  places = refl;
  counted = refl;
}

pub send_read : (scope : Scope) (taken : Taken) (low at : ℕ) (endpoint : Name) (endpoint_at : ℕ) (message : Name) (message_at : ℕ) (value : tree.Expr) (number : ℕ) (read : CoreExpr)
    → first_refusal (act_checks scope taken low (tree.send at endpoint endpoint_at message message_at value)) ≡ None → number ≡ port_number scope endpoint message
    → expr_of scope.widths read ≡ core_expr scope value
    → ActRead scope taken low (tree.send at endpoint endpoint_at message message_at value) at (Send number read) 0 (low + 1)
send_read scope taken low at endpoint endpoint_at message message_at value number read none is same = record {
  passes = none;
  same = ap (λ n. term.Send low n (expr_of scope.widths read)) is ∙ ap (λ e. term.Send low (port_number scope endpoint message) e) same;
  wide = refl;
  words = refl;
  places = refl;
  counted = refl;
}

pub receive_read : (scope : Scope) (taken : Taken) (low at : ℕ) (endpoint : Name) (endpoint_at : ℕ) (message : Name) (message_at : ℕ) (number width : ℕ)
    → first_refusal (port_checks scope taken true at endpoint endpoint_at message message_at) ≡ None → number ≡ port_number scope endpoint message
    → width ≡ scope.widths.ports (port_number scope endpoint message)
    → ActRead scope taken low (tree.receive at endpoint endpoint_at message message_at) at (Recv number) width (low + 1)
receive_read scope taken low at endpoint endpoint_at message message_at number width none is wide = record {
  passes = none;
  same = ap (term.Recv low) is;
  wide = wide;
  words = refl;
  places = refl;
  counted = refl;
}

pub pure_read : (scope : Scope) (taken : Taken) (low at : ℕ) (expr : tree.Expr) (kind : CoreKind) (width : ℕ)
    → first_refusal (pure_checks scope expr) ≡ None → act_of scope.widths low kind ≡ core_pure scope low expr → width ≡ act_width scope.widths (core_pure scope low expr)
    → words_fit_in scope.widths kind ≡ true → places_in kind ≡ []
    → ActRead scope taken low (tree.pure at expr) at kind width (low + 1)
pure_read scope taken low at expr kind width none same wide words places = record {
  passes = none;
  same = same;
  wide = wide;
  words = words;
  places = ap (λ l. at ∷ l) places;
  counted = refl;
}

-- An `if` whose else may be missing.

pub if_fails : (scope : Scope) (taken : Taken) (low at : ℕ) (condition : tree.Expr) (first : tree.Term) (second : Option tree.Term) (fault : NameErr)
    → (fault ≡ NoMemory) ⊎ (first_refusal (expr_checks scope condition) ≡ Some fault) → ActFails scope taken low (if_at at condition first second) fault
if_fails scope taken low at condition first None fault why = record {
  why = elim why [ inl none ↦ inl none | inr some ↦ inr (condition_stops scope at condition _ fault some) ];
}
if_fails scope taken low at condition first (Some second) fault why = record {
  why = elim why [ inl none ↦ inl none | inr some ↦ inr (condition_stops scope at condition _ fault some) ];
}

not_one : (width : ℕ) → (width ≡ 1 → ⊥) → (1 == width) ≡ false
not_one width differ = elim (eqb_tells 1 width) [ inl equal ↦ absurd (differ (sym equal.1)) | inr other ↦ other.0 ]

pub if_differs : (scope : Scope) (taken : Taken) (low at : ℕ) (condition : tree.Expr) (first : tree.Term) (second : Option tree.Term) (width : ℕ) (fault : NameErr)
    → first_refusal (expr_checks scope condition) ≡ None → width ≡ width_of scope condition → (width ≡ 1 → ⊥) → fault ≡ WidthDiffers at 1 width
    → ActFails scope taken low (if_at at condition first second) fault
if_differs scope taken low at condition first None width fault none is differ says =
    record { why = inr (condition_differs scope at condition _ width none is (not_one width differ) ∙ ap Some (sym says)) }
if_differs scope taken low at condition first (Some second) width fault none is differ says =
    record { why = inr (condition_differs scope at condition _ width none is (not_one width differ) ∙ ap Some (sym says)) }

pub if_first_fails : (scope : Scope) (taken : Taken) (low at : ℕ) (condition : tree.Expr) (first : tree.Term) (second : Option tree.Term) (read : CoreExpr) (fault : NameErr)
    → ConditionRead scope condition read → TermFails scope taken (low + 1) first fault → ActFails scope taken low (if_at at condition first second) fault
if_first_fails scope taken low at condition first None read fault holds fails = when_fails scope taken low at condition first read fault holds fails
if_first_fails scope taken low at condition first (Some second) read fault holds fails = first_fails scope taken low at condition first second read fault holds fails

pub condition_read : (scope : Scope) (condition : tree.Expr) (read : CoreExpr) (width : ℕ) → first_refusal (expr_checks scope condition) ≡ None
    → expr_of scope.widths read ≡ core_expr scope condition → width ≡ width_of scope condition → width ≡ 1 → ConditionRead scope condition read
condition_read scope condition read width none same is one = record { passes = none; same = same; one = sym is ∙ one }
