-- How a term is read from what was read of its parts, and where it fails.
use Rattle.std.proofs.Common.{◌≡◌, ◌∙◌, ◌+◌, ℕ, ◌++◌, Option, refl, ap, sym, subst, inl, inr, arith}
use Rattle.anvil_tree.specs.Tree as tree
use Rattle.anvil_tree.specs.Tree.{Name}
use Rattle.anvil_tree.specs.Few.{act_count_in}
use Rattle.anvil_tree.specs.Order.{acts_of_act}
use Rattle.core_term.specs.declared.term.CoreTerm.{CoreTerm, One', Then', Both'}
use Rattle.core_term.specs.declared.term.CoreKind.{CoreKind}
use Rattle.core_term.specs.Term as term
use Rattle.core_term.specs.View.{term_of, after_act, places_of}
use Rattle.core_term.specs.Sized.{words_fit}
use Rattle.core_term.specs.Widths.{bind_width, act_width}
use Rattle.first_check.proofs.Walks.{passes, stops}
use Rattle.core_file.specs.Scope.{Scope, after, bind}
use Rattle.core_file.specs.CoreTerm.{core_act, core_pure}
use Rattle.core_file.specs.TermChecks.{Taken, term_checks, act_checks}
use Rattle.core_file.specs.declared.error.NameErr.{NameErr}
use Rattle.core_file.specs.declared.error.NameErr.TheVariants.{NoMemory}
use Rattle.term_check.specs.Read.{TermRead, ActRead, TermFails, ActFails}

-- The site of an act.

core_pure_site : (scope : Scope) (low : ℕ) (expr : tree.Expr) → term.site (core_pure scope low expr) ≡ low
core_pure_site scope low (tree.literal at width value) = refl
core_pure_site scope low (tree.variable at name) = refl
core_pure_site scope low (tree.shown at register) = refl
core_pure_site scope low (tree.inverse at operand) = refl
core_pure_site scope low (tree.binary at operator first second) = refl
core_pure_site scope low (tree.slice at name high bottom) = refl
core_pure_site scope low (tree.choice at condition first second) = refl
core_pure_site scope low (tree.unit at) = refl

site_is : (scope : Scope) (low : ℕ) (act : tree.Act) → term.site (core_act scope low act) ≡ low
site_is scope low (tree.cycle at count count_at) = refl
site_is scope low (tree.set at register register_at value) = refl
site_is scope low (tree.send at endpoint endpoint_at message message_at value) = refl
site_is scope low (tree.receive at endpoint endpoint_at message message_at) = refl
site_is scope low (tree.when at condition first) = refl
site_is scope low (tree.either at condition first second) = refl
site_is scope low (tree.block at body) = refl
site_is scope low (tree.pure at expr) = core_pure_site scope low expr

-- Chains: in the rest, the act is made.

abbrev made_with : (scope : Scope) → Option Name → ℕ → ℕ → ℕ → Scope
made_with scope name low site width = record {
  endpoints = scope.endpoints;
  ports = scope.ports;
  registers = scope.registers;
  variables = bind name low scope.variables;
  widths = bind_width scope.widths site width;
}

-- the scope in which an act of the site and the width is made
abbrev pub made_scope : (scope : Scope) → Option Name → ℕ → ℕ → Scope
made_scope scope name site width = made_with scope name site site width

made_is : (scope : Scope) (bound : Option Name) (low : ℕ) (act : tree.Act) (width : ℕ) → width ≡ act_width scope.widths (core_act scope low act)
    → made_scope scope bound low width ≡ after scope bound low (core_act scope low act)
made_is scope bound low act width wide =
    ap (λ site. made_with scope bound low site width) (sym (site_is scope low act))
    ∙ ap (λ w. made_with scope bound low (term.site (core_act scope low act)) w) wide

-- what was read of the rest is of the rest in the scope of the definition
rest_of : (scope : Scope) (taken : Taken) (low : ℕ) (bound : Option Name) (act : tree.Act) (rest : tree.Term) (place : ℕ) (kind : CoreKind) (width behind : ℕ)
    (core : CoreTerm) (last next : ℕ)
    → ActRead scope taken low act place kind width behind → TermRead (made_scope scope bound low width) taken behind rest core last next
    → TermRead (after scope bound low (core_act scope low act)) taken (low + act_count_in act) rest core last next
rest_of scope taken low bound act rest place kind width behind core last next first later =
    subst (λ n. TermRead (after scope bound low (core_act scope low act)) taken n rest core last next) first.counted
    (subst (λ inner. TermRead inner taken behind rest core last next) (made_is scope bound low act width first.wide) later)

pub single_read : (scope : Scope) (taken : Taken) (low : ℕ) (act : tree.Act) (place : ℕ) (kind : CoreKind) (width next : ℕ)
    → ActRead scope taken low act place kind width next → TermRead scope taken low (tree.single act) (One' low place kind) width next
single_read scope taken low act place kind width next read = record {
  passes = read.passes;
  same = ap term.One read.same;
  wide = read.wide;
  words = read.words;
  places = read.places;
  counted = read.counted;
}

pub follow_read : (scope : Scope) (taken : Taken) (low : ℕ) (bound : Option Name) (act : tree.Act) (rest : tree.Term) (place : ℕ) (kind : CoreKind) (width behind : ℕ)
    (core : CoreTerm) (last next : ℕ) (pointer : _)
    → ActRead scope taken low act place kind width behind → TermRead (made_scope scope bound low width) taken behind rest core last next
    → TermRead scope taken low (tree.follow bound act rest) (Then' low place kind pointer core) last next
follow_read scope taken low bound act rest place kind width behind core last next pointer first later =
    let read = rest_of scope taken low bound act rest place kind width behind core last next first later in
    record {
      passes = passes (act_checks scope taken low act) (term_checks (after scope bound low (core_act scope low act)) taken (low + act_count_in act) rest) first.passes ∙ read.passes;
      same = ap (λ a. term.Then a (term_of (after_act scope.widths a) core)) first.same ∙ ap (λ t. term.Then (core_act scope low act) t) read.same;
      wide = read.wide;
      words = rw (first.words) (ap (λ a. words_fit (after_act scope.widths a) core) first.same ∙ read.words);
      places = ap (λ l. l ++ places_of core) first.places ∙ ap (λ l. acts_of_act act ++ l) read.places;
      counted = let counted = read.counted in omega arith;
    }

pub beside_read : (scope : Scope) (taken : Taken) (low : ℕ) (bound : Option Name) (act : tree.Act) (rest : tree.Term) (place : ℕ) (kind : CoreKind) (width behind : ℕ)
    (core : CoreTerm) (last next : ℕ) (pointer : _)
    → ActRead scope taken low act place kind width behind → TermRead (made_scope scope bound low width) taken behind rest core last next
    → TermRead scope taken low (tree.beside bound act rest) (Both' low place kind pointer core) last next
beside_read scope taken low bound act rest place kind width behind core last next pointer first later =
    let read = rest_of scope taken low bound act rest place kind width behind core last next first later in
    record {
      passes = passes (act_checks scope taken low act) (term_checks (after scope bound low (core_act scope low act)) taken (low + act_count_in act) rest) first.passes ∙ read.passes;
      same = ap (λ a. term.Both a (term_of (after_act scope.widths a) core)) first.same ∙ ap (λ t. term.Both (core_act scope low act) t) read.same;
      wide = read.wide;
      words = rw (first.words) (ap (λ a. words_fit (after_act scope.widths a) core) first.same ∙ read.words);
      places = ap (λ l. l ++ places_of core) first.places ∙ ap (λ l. acts_of_act act ++ l) read.places;
      counted = let counted = read.counted in omega arith;
    }

-- Where a term fails.

pub term_memory : (scope : Scope) (taken : Taken) (low : ℕ) (written : tree.Term) (fault : NameErr) → fault ≡ NoMemory → TermFails scope taken low written fault
term_memory scope taken low written fault none = record { why = inl none }

pub single_fails : (scope : Scope) (taken : Taken) (low : ℕ) (act : tree.Act) (fault : NameErr) → ActFails scope taken low act fault → TermFails scope taken low (tree.single act) fault
single_fails scope taken low act fault fails = record { why = fails.why }

pub follow_first_fails : (scope : Scope) (taken : Taken) (low : ℕ) (bound : Option Name) (act : tree.Act) (rest : tree.Term) (fault : NameErr)
    → ActFails scope taken low act fault → TermFails scope taken low (tree.follow bound act rest) fault
follow_first_fails scope taken low bound act rest fault fails = record {
  why = elim (fails.why) [ inl none ↦ inl none | inr some ↦ inr (stops (act_checks scope taken low act) _ fault some) ];
}

pub beside_first_fails : (scope : Scope) (taken : Taken) (low : ℕ) (bound : Option Name) (act : tree.Act) (rest : tree.Term) (fault : NameErr)
    → ActFails scope taken low act fault → TermFails scope taken low (tree.beside bound act rest) fault
beside_first_fails scope taken low bound act rest fault fails = record {
  why = elim (fails.why) [ inl none ↦ inl none | inr some ↦ inr (stops (act_checks scope taken low act) _ fault some) ];
}

rest_fails : (scope : Scope) (taken : Taken) (low : ℕ) (bound : Option Name) (act : tree.Act) (rest : tree.Term) (place : ℕ) (kind : CoreKind) (width behind : ℕ) (fault : NameErr)
    → ActRead scope taken low act place kind width behind → TermFails (made_scope scope bound low width) taken behind rest fault
    → TermFails (after scope bound low (core_act scope low act)) taken (low + act_count_in act) rest fault
rest_fails scope taken low bound act rest place kind width behind fault first fails =
    subst (λ n. TermFails (after scope bound low (core_act scope low act)) taken n rest fault) first.counted
    (subst (λ inner. TermFails inner taken behind rest fault) (made_is scope bound low act width first.wide) fails)

pub follow_fails : (scope : Scope) (taken : Taken) (low : ℕ) (bound : Option Name) (act : tree.Act) (rest : tree.Term) (place : ℕ) (kind : CoreKind) (width behind : ℕ) (fault : NameErr)
    → ActRead scope taken low act place kind width behind → TermFails (made_scope scope bound low width) taken behind rest fault
    → TermFails scope taken low (tree.follow bound act rest) fault
follow_fails scope taken low bound act rest place kind width behind fault first fails =
    let later = rest_fails scope taken low bound act rest place kind width behind fault first fails in
    record { why = elim (later.why) [ inl none ↦ inl none | inr some ↦ inr (passes (act_checks scope taken low act) _ first.passes ∙ some) ] }

pub beside_fails : (scope : Scope) (taken : Taken) (low : ℕ) (bound : Option Name) (act : tree.Act) (rest : tree.Term) (place : ℕ) (kind : CoreKind) (width behind : ℕ) (fault : NameErr)
    → ActRead scope taken low act place kind width behind → TermFails (made_scope scope bound low width) taken behind rest fault
    → TermFails scope taken low (tree.beside bound act rest) fault
beside_fails scope taken low bound act rest place kind width behind fault first fails =
    let later = rest_fails scope taken low bound act rest place kind width behind fault first fails in
    record { why = elim (later.why) [ inl none ↦ inl none | inr some ↦ inr (passes (act_checks scope taken low act) _ first.passes ∙ some) ] }
