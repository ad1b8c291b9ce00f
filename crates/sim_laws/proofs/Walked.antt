-- The walk over the code of a body that fits its process finds the widths of its sites, and each is one that a number may have.
--
-- By induction over the terms of the code. In the walk the width of each variable in scope stands in the list so far, since its
-- site is before; and the width of a site is at the end of that list.
use Rattle.std.proofs.Common.{◌≡◌, ℕ, ◌+◌, ◌-◌, ◌<◌, ◌≤◌, ◌⊎◌, inl, inr, arith, refl, sym, ◌∙◌, ap, subst, List, [], ◌∷◌, ◌++◌, length, map, Bool, true, false, ◌&&◌, if◌then◌else◌, ◌==◌, nat_lt, nat_le, zero, suc, Option, Some, None}
use Rattle.std.proofs.Common.{append_assoc}
use Rattle.std.specs.Prelude.{All, slice_set, min, not}
use Rattle.std.specs.List.{slice_get}
use Rattle.std.proofs.lemmas.Bool.Decides.{nat_tests}
use Rattle.std.proofs.lemmas.List.Elements.{All-nil, All-cons, All-append}
use Rattle.core_term.specs.declared.operators.BinOp.{BinOp}
use Rattle.core_term.specs.declared.operators.BinOp.TheVariants as op
use Rattle.core_term.specs.declared.process.CorePort.{CorePort}
use Rattle.core_term.specs.declared.process.CoreReg.{CoreReg}
use Rattle.core_term.specs.declared.term.CoreExpr.{CoreExpr, Lit, Var, Reg, Not', Bin', Slice, Choose'}
use Rattle.core_term.specs.declared.term.CoreTerm.{CoreTerm, One', Then', Both'}
use Rattle.core_term.specs.declared.term.CoreKind.{CoreKind, Cycle, Set, Send, Recv, If', Block', Wait, Pure, Unit, None', Some'}
use Rattle.core_term.specs.Term as term
use Rattle.core_term.specs.Term.{Expr, Term, Act, site}
use Rattle.core_term.specs.Numbering.{size, act_size, OneOf, InScope, Numbered, NumberedAct}
use Rattle.core_term.specs.Process.{Process, nth_port, nth_register, is_received}
use Rattle.core_term.specs.Sized.{is_width, operands_fit, parts_fit, expr_fits, term_fits, act_fits, words_fit, words_fit_in, words_fit_else}
use Rattle.core_term.specs.View.{expr_of, after_act, term_of, act_of}
use Rattle.core_term.specs.Widths.{Widths, result_width, expr_width, term_width, act_width}
use Rattle.run_laws.proofs.source_runs.Offers.{and_first, and_second}
use Rattle.core_term.proofs.code_tables.FirstSites.{act_site, act_size_positive}
use Rattle.sim_laws.specs.SiteWidths.{site_widths, inner_widths}
use Rattle.sim_laws.specs.WidthsFound.{or_zero, register_width, port_width, result_found, expr_found, Found, with_width, block_found, walk, walk_act, walk_else}
use Rattle.sim_laws.proofs.Bridge.{widths_long, inner_long}
use Rattle.sim_laws.proofs.Touched.{Below, below_more}

-- Lists.

get_left : (xs ys : List ℕ) (k : ℕ) → k < length xs → slice_get (xs ++ ys) k ≡ slice_get xs k
get_left [] ys k less = absurd (omega arith)
get_left (x ∷ xs) ys zero less = refl
get_left (x ∷ xs) ys (suc k) less = get_left xs ys k (omega arith)

get_here : (xs ys : List ℕ) (x k : ℕ) → k ≡ length xs → slice_get (xs ++ x ∷ ys) k ≡ Some x
get_here [] ys x k here = rw here refl
get_here (first ∷ xs) ys x zero here = absurd (omega arith)
get_here (first ∷ xs) ys x (suc k) here = get_here xs ys x k (omega arith)

set_here : (xs ys : List ℕ) (x y k : ℕ) → k ≡ length xs → slice_set (xs ++ x ∷ ys) k y ≡ xs ++ y ∷ ys
set_here [] ys x y k here = rw here refl
set_here (first ∷ xs) ys x y zero here = absurd (omega arith)
set_here (first ∷ xs) ys x y (suc k) here = ap (λ rest. first ∷ rest) (set_here xs ys x y k (omega arith))

length-more : (xs ys : List ℕ) → length (xs ++ ys) ≡ length xs + length ys
length-more [] ys = omega arith
length-more (x ∷ xs) ys = let rest = length-more xs ys in omega arith

-- What is known of the view of the code where a term stands.

pub record Narrow (p : Process) (view : Widths) : Type 0 where
  pub registers : (r : ℕ) → r < length p.registers → view.registers r ≤ 64
  pub ports : (m : ℕ) → m < length p.ports → view.ports m ≤ 64
  pub variables : (y : ℕ) → view.variables y ≤ 64

pub record Sees (p : Process) (ports : List CorePort) (registers : List CoreReg) (view : Widths) (scope : List Act) (widths : List ℕ) : Type 0 where
  pub registers_are : (r : ℕ) → r < length p.registers → register_width (slice_get registers r) ≡ view.registers r
  pub ports_are : (m : ℕ) → m < length p.ports → port_width (slice_get ports m) ≡ view.ports m
  pub variables : (y : ℕ) → OneOf scope y → or_zero (slice_get widths y) ≡ view.variables y

module _ (p : Process) (ports : List CorePort) (registers : List CoreReg) where
  -- Expressions.

  result_is : (o : BinOp) (w v : ℕ) → operands_fit o w v ≡ true → result_found o w v ≡ result_width o w v
  result_is op.Add w v fit = refl
  result_is op.Sub w v fit = refl
  result_is op.Mul w v fit = refl
  result_is op.And w v fit = refl
  result_is op.Or w v fit = refl
  result_is op.Xor w v fit = refl
  result_is op.Eq w v fit = refl
  result_is op.Ne w v fit = refl
  result_is op.Lt w v fit = refl
  result_is op.Le w v fit = refl
  result_is op.Gt w v fit = refl
  result_is op.Ge w v fit = refl
  result_is op.Shl w v fit = refl
  result_is op.Shr w v fit = refl
  result_is op.Cat w v fit = let few : w + v ≤ 64 = grind (arith, nat_tests) in omega arith

  result_narrow : (o : BinOp) (w v : ℕ) → operands_fit o w v ≡ true → w ≤ 64 → result_width o w v ≤ 64
  result_narrow op.Add w v fit few = few
  result_narrow op.Sub w v fit few = few
  result_narrow op.Mul w v fit few = few
  result_narrow op.And w v fit few = few
  result_narrow op.Or w v fit few = few
  result_narrow op.Xor w v fit few = few
  result_narrow op.Eq w v fit few = omega arith
  result_narrow op.Ne w v fit few = omega arith
  result_narrow op.Lt w v fit few = omega arith
  result_narrow op.Le w v fit few = omega arith
  result_narrow op.Gt w v fit few = omega arith
  result_narrow op.Ge w v fit few = omega arith
  result_narrow op.Shl w v fit few = few
  result_narrow op.Shr w v fit few = few
  result_narrow op.Cat w v fit few = grind (arith, nat_tests)

  module _ (view : Widths) (narrow : Narrow p view) where
    expr_narrow : (e : CoreExpr) → parts_fit (length p.registers) view (expr_of view e) ≡ true → expr_width view (expr_of view e) ≤ 64
    expr_narrow (Lit number) fits = let width = and_second (nat_le 1 number.width) _ (and_first (is_width number.width) _ fits) in grind (arith, nat_tests)
    expr_narrow (Var y) fits = narrow.variables y
    expr_narrow (Reg r) fits = narrow.registers r (grind (arith, nat_tests))
    expr_narrow (Not' q e) fits = expr_narrow e fits
    expr_narrow (Bin' o q a r b) fits =
        let rest = and_second (parts_fit (length p.registers) view (expr_of view a)) _ fits in
        result_narrow o (expr_width view (expr_of view a)) (expr_width view (expr_of view b)) (and_second (parts_fit (length p.registers) view (expr_of view b)) _ rest) (expr_narrow a (and_first _ _ fits))
    expr_narrow (Slice y high low) fits =
        let within = and_second (nat_le low high) _ fits in
        let below : high < view.variables y = grind (arith, nat_tests) in
        let few : view.variables y ≤ 64 = narrow.variables y in
        omega arith
    expr_narrow (Choose' q c r a s b) fits = expr_narrow a (and_first _ _ (and_second (parts_fit (length p.registers) view (expr_of view c)) _ fits))

    expr_is : (scope : List Act) (widths : List ℕ) → Sees p ports registers view scope widths → (e : CoreExpr) → InScope scope (expr_of view e) → parts_fit (length p.registers) view (expr_of view e) ≡ true
        → expr_found registers widths e ≡ expr_width view (expr_of view e)
    expr_is scope widths sees (Lit number) inside fits = refl
    expr_is scope widths sees (Var y) inside fits = sees.variables y (inside y refl)
    expr_is scope widths sees (Reg r) inside fits = sees.registers_are r (grind (arith, nat_tests))
    expr_is scope widths sees (Not' q e) inside fits = expr_is scope widths sees e inside fits
    expr_is scope widths sees (Bin' o q a r b) inside fits =
        let rest = and_second (parts_fit (length p.registers) view (expr_of view a)) _ fits in
        let left = expr_is scope widths sees a (λ y mentioned. inside y (inl mentioned)) (and_first _ _ fits) in
        let right = expr_is scope widths sees b (λ y mentioned. inside y (inr mentioned)) (and_first _ _ rest) in
        rw (left, right) (result_is o (expr_width view (expr_of view a)) (expr_width view (expr_of view b)) (and_second (parts_fit (length p.registers) view (expr_of view b)) _ rest))
    expr_is scope widths sees (Slice y high low) inside fits =
        let within = and_second (nat_le low high) _ fits in
        let below : high < view.variables y = grind (arith, nat_tests) in
        let few : view.variables y ≤ 64 = narrow.variables y in
        omega arith
    expr_is scope widths sees (Choose' q c r a s b) inside fits =
        expr_is scope widths sees a (λ y mentioned. inside y (inr (inl mentioned))) (and_first _ _ (and_second (parts_fit (length p.registers) view (expr_of view c)) _ fits))

  -- Terms.

  sees_left : (view : Widths) (scope : List Act) (widths more : List ℕ) → Below scope (length widths) → Sees p ports registers view scope widths → Sees p ports registers view scope (widths ++ more)
  sees_left view scope widths more below sees = record {
    registers_are = sees.registers_are;
    ports_are = sees.ports_are;
    variables = λ y one. ap or_zero (get_left widths more y (below y one)) ∙ sees.variables y one;
  }

  -- an act in scope more, whose width stands behind those so far
  sees_act : (view : Widths) (scope : List Act) (widths more : List ℕ) (a : Act) → site a ≡ length widths → Below scope (length widths) → Sees p ports registers view scope widths
      → Sees p ports registers (after_act view a) (a ∷ scope) (widths ++ act_width view a ∷ more)
  sees_act view scope widths more a here below sees = record { registers_are = sees.registers_are; ports_are = sees.ports_are; variables = each }
    where
      each : (y : ℕ) → (y ≡ site a) ⊎ OneOf scope y → or_zero (slice_get (widths ++ act_width view a ∷ more) y) ≡ (if y == site a then act_width view a else view.variables y)
      each y (inl same) = let test : (y == site a) ≡ true = grind (arith, nat_tests) in rw test (ap or_zero (get_here widths more (act_width view a) y (same ∙ here)))
      each y (inr one) =
          let less : y < length widths = below y one in
          let test : (y == site a) ≡ false = grind (arith, nat_tests) in
          rw test (ap or_zero (get_left widths (act_width view a ∷ more) y less) ∙ sees.variables y one)

  narrow_act : (view : Widths) (a : Act) → act_width view a ≤ 64 → Narrow p view → Narrow p (after_act view a)
  narrow_act view a few narrow = record { registers = narrow.registers; ports = narrow.ports; variables = each }
    where
      each : (y : ℕ) → (if y == site a then act_width view a else view.variables y) ≤ 64
      each y = by_case (y == site a)
        where
          by_case : (b : Bool) → (if b then act_width view a else view.variables y) ≤ 64
          by_case true = few
          by_case false = narrow.variables y

  -- what the walk over a term comes to
  pub record Walked (view : Widths) (t : CoreTerm) (widths : List ℕ) : Type 0 where
    pub found : walk ports registers t widths ≡ record { width = term_width view (term_of view t); widths = widths ++ site_widths view (term_of view t) }
    pub few : term_width view (term_of view t) ≤ 64
    pub all_few : All (λ w. w ≤ 64) (site_widths view (term_of view t))

  pub record WalkedAct (view : Widths) (s : ℕ) (k : CoreKind) (widths : List ℕ) : Type 0 where
    pub found : walk_act ports registers k widths ≡ record { width = act_width view (act_of view s k); widths = widths ++ (act_width view (act_of view s k) ∷ inner_widths view (act_of view s k)) }
    pub few : act_width view (act_of view s k) ≤ 64
    pub all_few : All (λ w. w ≤ 64) (inner_widths view (act_of view s k))

  -- an act of no parts
  leaf : (view : Widths) (s : ℕ) (k : CoreKind) (widths : List ℕ) (w : ℕ) → walk_act ports registers k widths ≡ with_width widths w → w ≡ act_width view (act_of view s k) → inner_widths view (act_of view s k) ≡ [] → w ≤ 64 → WalkedAct view s k widths
  leaf view s k widths w found same none few = record {
    found = found ∙ rw (same, none) refl;
    few = subst (λ n. n ≤ 64) same few;
    all_few = rw none (All-nil (λ w. w ≤ 64));
  }

  -- What is known behind an act, and inside one.

  count_behind : (view : Widths) (s : ℕ) (k : CoreKind) (widths : List ℕ) → length (widths ++ (act_width view (act_of view s k) ∷ inner_widths view (act_of view s k))) ≡ length widths + act_size (act_of view s k)
  count_behind view s k widths =
      let long : length (inner_widths view (act_of view s k)) + 1 ≡ act_size (act_of view s k) = inner_long view (act_of view s k) in
      length-more widths (act_width view (act_of view s k) ∷ inner_widths view (act_of view s k)) ∙ omega arith

  below_behind : (view : Widths) (scope : List Act) (s : ℕ) (k : CoreKind) (widths : List ℕ) → Below scope (length widths) → NumberedAct scope (length widths) (act_of view s k)
      → Below (act_of view s k ∷ scope) (length (widths ++ (act_width view (act_of view s k) ∷ inner_widths view (act_of view s k))))
  below_behind view scope s k widths below numbered =
      let count = count_behind view s k widths in
      let first : site (act_of view s k) ≡ length widths = act_site scope (length widths) (act_of view s k) numbered in
      let positive : 0 < act_size (act_of view s k) = act_size_positive (act_of view s k) in
      below_more scope (length widths) (length (widths ++ (act_width view (act_of view s k) ∷ inner_widths view (act_of view s k)))) (act_of view s k) (omega arith) (omega arith) below

  below_inside : (scope : List Act) (widths : List ℕ) (w : ℕ) (more : List ℕ) → Below scope (length widths) → Below scope (length (widths ++ w ∷ more))
  below_inside scope widths w more below y one =
      let count = length-more widths (w ∷ more) in
      let less : y < length widths = below y one in
      omega arith

  numbered_inside : (view : Widths) (scope : List Act) (widths : List ℕ) (w : ℕ) (t : CoreTerm) → Numbered scope (length widths + 1) (term_of view t) → Numbered scope (length (widths ++ w ∷ [])) (term_of view t)
  numbered_inside view scope widths w t numbered =
      let count : length (widths ++ w ∷ []) ≡ length widths + 1 = length-more widths (w ∷ []) in
      subst (λ n. Numbered scope n (term_of view t)) (sym count) numbered

  -- Parts put together.

  chained : (view : Widths) (s : ℕ) (k : CoreKind) (t : CoreTerm) (widths : List ℕ) → WalkedAct view s k widths
      → Walked (after_act view (act_of view s k)) t (widths ++ (act_width view (act_of view s k) ∷ inner_widths view (act_of view s k)))
      → walk ports registers t (walk_act ports registers k widths).widths
      ≡ record {
        width = term_width (after_act view (act_of view s k)) (term_of (after_act view (act_of view s k)) t);
        widths = widths ++ (act_width view (act_of view s k) ∷ (inner_widths view (act_of view s k) ++ site_widths (after_act view (act_of view s k)) (term_of (after_act view (act_of view s k)) t)));
      }
  chained view s k t widths here rest =
      ap (λ (f : Found). walk ports registers t f.widths) here.found
      ∙ (rest.found
      ∙ ap (λ ws. let f : Found = record { width = term_width (after_act view (act_of view s k)) (term_of (after_act view (act_of view s k)) t); widths = ws } in f)
      (append_assoc widths (act_width view (act_of view s k) ∷ inner_widths view (act_of view s k)) (site_widths (after_act view (act_of view s k)) (term_of (after_act view (act_of view s k)) t))))

  all_chained : (view : Widths) (s : ℕ) (k : CoreKind) (t : CoreTerm) (widths : List ℕ) → WalkedAct view s k widths
      → Walked (after_act view (act_of view s k)) t (widths ++ (act_width view (act_of view s k) ∷ inner_widths view (act_of view s k)))
      → All (λ w. w ≤ 64) (act_width view (act_of view s k) ∷ (inner_widths view (act_of view s k) ++ site_widths (after_act view (act_of view s k)) (term_of (after_act view (act_of view s k)) t)))
  all_chained view s k t widths here rest =
      All-cons (λ w. w ≤ 64) _ _ here.few (All-append (λ w. w ≤ 64) (inner_widths view (act_of view s k)) (site_widths (after_act view (act_of view s k)) (term_of (after_act view (act_of view s k)) t)) here.all_few rest.all_few)

  blocked : (view : Widths) (t : CoreTerm) (widths : List ℕ) → Walked view t (widths ++ 0 ∷ [])
      → block_found (length widths) (walk ports registers t (widths ++ 0 ∷ [])) ≡ record { width = term_width view (term_of view t); widths = widths ++ (term_width view (term_of view t) ∷ site_widths view (term_of view t)) }
  blocked view t widths inside =
      ap (block_found (length widths)) inside.found
      ∙ ap (λ ws. let f : Found = record { width = term_width view (term_of view t); widths = ws } in f)
      (ap (λ ws. slice_set ws (length widths) (term_width view (term_of view t))) (append_assoc widths (0 ∷ []) (site_widths view (term_of view t)))
      ∙ set_here widths (site_widths view (term_of view t)) 0 (term_width view (term_of view t)) (length widths) refl)

  -- the second of two sides stands behind the first
  second_seen : (view : Widths) (scope : List Act) (widths : List ℕ) (w : ℕ) (t : CoreTerm) → Below scope (length widths) → Sees p ports registers view scope widths → Sees p ports registers view scope ((widths ++ w ∷ []) ++ site_widths view (term_of view t))
  second_seen view scope widths w t below sees =
      subst (Sees p ports registers view scope) (sym (append_assoc widths (w ∷ []) (site_widths view (term_of view t)))) (sees_left view scope widths (w ∷ site_widths view (term_of view t)) below sees)

  second_count : (view : Widths) (widths : List ℕ) (w : ℕ) (t : CoreTerm) → length ((widths ++ w ∷ []) ++ site_widths view (term_of view t)) ≡ length widths + (1 + size (term_of view t))
  second_count view widths w t =
      let long : length (site_widths view (term_of view t)) ≡ size (term_of view t) = widths_long view (term_of view t) in
      let before : length (widths ++ w ∷ []) ≡ length widths + 1 = length-more widths (w ∷ []) in
      length-more (widths ++ w ∷ []) (site_widths view (term_of view t)) ∙ omega arith

  second_below : (view : Widths) (scope : List Act) (widths : List ℕ) (w : ℕ) (t : CoreTerm) → Below scope (length widths) → Below scope (length ((widths ++ w ∷ []) ++ site_widths view (term_of view t)))
  second_below view scope widths w t below y one =
      let count = second_count view widths w t in
      let less : y < length widths = below y one in
      omega arith

  sides_found : (view : Widths) (widths : List ℕ) (w : ℕ) (t u : CoreTerm) → Walked view t (widths ++ w ∷ []) → Walked view u ((widths ++ w ∷ []) ++ site_widths view (term_of view t))
      → (walk ports registers u (walk ports registers t (widths ++ w ∷ [])).widths).widths ≡ widths ++ (w ∷ (site_widths view (term_of view t) ++ site_widths view (term_of view u)))
  sides_found view widths w t u one two =
      ap (λ (f : Found). (walk ports registers u f.widths).widths) one.found
      ∙ (ap (λ (f : Found). f.widths) two.found
      ∙ (append_assoc (widths ++ w ∷ []) (site_widths view (term_of view t)) (site_widths view (term_of view u)) ∙ append_assoc widths (w ∷ []) (site_widths view (term_of view t) ++ site_widths view (term_of view u))))

  mutual
    pub walked : (view : Widths) (scope : List Act) (widths : List ℕ) (t : CoreTerm) → Sees p ports registers view scope widths → Narrow p view → Below scope (length widths) → Numbered scope (length widths) (term_of view t)
        → term_fits p view (term_of view t) ≡ true → words_fit view t ≡ true → Walked view t widths
    walked view scope widths (One' s at k) sees narrow below numbered fits words =
        let here = walked_act view scope widths s k sees narrow below numbered fits words in
        record { found = here.found; few = here.few; all_few = All-cons (λ w. w ≤ 64) _ _ here.few here.all_few }
    walked view scope widths (Then' s at k q t) sees narrow below numbered fits words =
        let here = walked_act view scope widths s k sees narrow below numbered.0 (and_first _ _ fits) (and_first _ _ words) in
        let first : site (act_of view s k) ≡ length widths = act_site scope (length widths) (act_of view s k) numbered.0 in
        let rest =
        walked (after_act view (act_of view s k)) (act_of view s k ∷ scope) (widths ++ (act_width view (act_of view s k) ∷ inner_widths view (act_of view s k))) t (sees_act view scope widths (inner_widths view (act_of view s k)) (act_of view s k) first below sees)
        (narrow_act view (act_of view s k) here.few narrow) (below_behind view scope s k widths below numbered.0)
        (subst (λ n. Numbered (act_of view s k ∷ scope) n (term_of (after_act view (act_of view s k)) t)) (sym (count_behind view s k widths)) numbered.1) (and_second (act_fits p view (act_of view s k)) _ fits) (and_second (words_fit_in view k) _ words) in
        record { found = chained view s k t widths here rest; few = rest.few; all_few = all_chained view s k t widths here rest }
    walked view scope widths (Both' s at k q t) sees narrow below numbered fits words =
        let here = walked_act view scope widths s k sees narrow below numbered.0 (and_first _ _ fits) (and_first _ _ words) in
        let first : site (act_of view s k) ≡ length widths = act_site scope (length widths) (act_of view s k) numbered.0 in
        let rest =
        walked (after_act view (act_of view s k)) (act_of view s k ∷ scope) (widths ++ (act_width view (act_of view s k) ∷ inner_widths view (act_of view s k))) t (sees_act view scope widths (inner_widths view (act_of view s k)) (act_of view s k) first below sees)
        (narrow_act view (act_of view s k) here.few narrow) (below_behind view scope s k widths below numbered.0)
        (subst (λ n. Numbered (act_of view s k ∷ scope) n (term_of (after_act view (act_of view s k)) t)) (sym (count_behind view s k widths)) numbered.1) (and_second (act_fits p view (act_of view s k)) _ fits) (and_second (words_fit_in view k) _ words) in
        record { found = chained view s k t widths here rest; few = rest.few; all_few = all_chained view s k t widths here rest }

    walked_act : (view : Widths) (scope : List Act) (widths : List ℕ) (s : ℕ) (k : CoreKind) → Sees p ports registers view scope widths → Narrow p view → Below scope (length widths) → NumberedAct scope (length widths) (act_of view s k)
        → act_fits p view (act_of view s k) ≡ true → words_fit_in view k ≡ true → WalkedAct view s k widths
    walked_act view scope widths s (Cycle n) sees narrow below numbered fits words = leaf view s (Cycle n) widths 0 refl refl refl (omega arith)
    walked_act view scope widths s (Set r e) sees narrow below numbered fits words = leaf view s (Set r e) widths 0 refl refl refl (omega arith)
    walked_act view scope widths s (Send m e) sees narrow below numbered fits words = leaf view s (Send m e) widths 0 refl refl refl (omega arith)
    walked_act view scope widths s Unit sees narrow below numbered fits words = leaf view s Unit widths 0 refl refl refl (omega arith)
    walked_act view scope widths s (Recv m) sees narrow below numbered fits words =
        let test = and_first (nat_lt m (length p.ports)) _ fits in
        let within : m < length p.ports = grind (arith, nat_tests) in
        let same = sees.ports_are m within in
        leaf view s (Recv m) widths (port_width (slice_get ports m)) refl same refl (subst (λ w. w ≤ 64) (sym same) (narrow.ports m within))
    walked_act view scope widths s (Wait y) sees narrow below numbered fits words =
        let same = sees.variables y numbered.1 in
        leaf view s (Wait y) widths (or_zero (slice_get widths y)) refl same refl (subst (λ w. w ≤ 64) (sym same) (narrow.variables y))
    walked_act view scope widths s (Pure e) sees narrow below numbered fits words =
        let parts = and_first (parts_fit (length p.registers) view (expr_of view e)) _ fits in
        let same = expr_is view narrow scope widths sees e numbered.1 parts in
        leaf view s (Pure e) widths (expr_found registers widths e) refl same refl (subst (λ w. w ≤ 64) (sym same) (expr_narrow view narrow e parts))
    walked_act view scope widths s (Block' q t) sees narrow below numbered fits words =
        let inside =
        walked view scope (widths ++ 0 ∷ []) t (sees_left view scope widths (0 ∷ []) below sees) narrow (below_inside scope widths 0 [] below) (numbered_inside view scope widths 0 t numbered.1) fits words in
        record { found = blocked view t widths inside; few = inside.few; all_few = inside.all_few }
    walked_act view scope widths s (If' e q t None' (Some n)) sees narrow below numbered fits words = let never = and_second (words_fit view t) _ words in absurd cc
    walked_act view scope widths s (If' e q t None' None) sees narrow below numbered fits words =
        let inside =
        walked view scope (widths ++ 0 ∷ []) t (sees_left view scope widths (0 ∷ []) below sees) narrow (below_inside scope widths 0 [] below) (numbered_inside view scope widths 0 t numbered.1)
        (and_second (expr_fits p view 1 (expr_of view e)) _ fits) (and_first _ _ words) in
        record {
          found = ap (λ (f : Found). let g : Found = record { width = 0; widths = f.widths } in g) inside.found ∙ ap (λ ws. let f : Found = record { width = 0; widths = ws } in f) (append_assoc widths (0 ∷ []) (site_widths view (term_of view t)));
          few = omega arith;
          all_few = inside.all_few;
        }
    walked_act view scope widths s (If' e q t (Some' r u) None) sees narrow below numbered fits words =
        let rest = and_second (expr_fits p view 1 (expr_of view e)) _ fits in
        let one =
        walked view scope (widths ++ 0 ∷ []) t (sees_left view scope widths (0 ∷ []) below sees) narrow (below_inside scope widths 0 [] below) (numbered_inside view scope widths 0 t numbered.1) (and_first _ _ rest) (and_first _ _ words) in
        let two =
        walked view scope ((widths ++ 0 ∷ []) ++ site_widths view (term_of view t)) u (second_seen view scope widths 0 t below sees) narrow (second_below view scope widths 0 t below)
        (subst (λ n. Numbered scope n (term_of view u)) (sym (second_count view widths 0 t)) numbered.2) (and_first _ _ (and_second (term_fits p view (term_of view t)) _ rest)) (and_second (words_fit view t) _ words) in
        record {
          found = ap (λ ws. let f : Found = record { width = 0; widths = ws } in f) (sides_found view widths 0 t u one two);
          few = omega arith;
          all_few = All-append (λ n. n ≤ 64) (site_widths view (term_of view t)) (site_widths view (term_of view u)) one.all_few two.all_few;
        }
    walked_act view scope widths s (If' e q t (Some' r u) (Some n)) sees narrow below numbered fits words =
        let rest = and_second (expr_fits p view 1 (expr_of view e)) _ fits in
        let behind_words = and_second (words_fit view t) _ words in
        let one =
        walked view scope (widths ++ n ∷ []) t (sees_left view scope widths (n ∷ []) below sees) narrow (below_inside scope widths n [] below) (numbered_inside view scope widths n t numbered.1) (and_first _ _ rest) (and_first _ _ words) in
        let two =
        walked view scope ((widths ++ n ∷ []) ++ site_widths view (term_of view t)) u (second_seen view scope widths n t below sees) narrow (second_below view scope widths n t below)
        (subst (λ n. Numbered scope n (term_of view u)) (sym (second_count view widths n t)) numbered.2) (and_first _ _ (and_second (term_fits p view (term_of view t)) _ rest)) (and_second (n == term_width view (term_of view t)) _ behind_words) in
        let test = and_first (n == term_width view (term_of view t)) _ behind_words in
        let same : n ≡ term_width view (term_of view t) = grind (arith, nat_tests) in
        record {
          found = ap (λ ws. let f : Found = record { width = n; widths = ws } in f) (sides_found view widths n t u one two)
              ∙ ap (λ w. let f : Found = record { width = w; widths = widths ++ (w ∷ (site_widths view (term_of view t) ++ site_widths view (term_of view u))) } in f) same;
          few = one.few;
          all_few = All-append (λ n. n ≤ 64) (site_widths view (term_of view t)) (site_widths view (term_of view u)) one.all_few two.all_few;
        }
