-- A body that fits its process is typed by the one list of its widths, and read off the code with that list it is the same term.
--
-- The view of the code binds the width of each variable where its act stands; since a site has one act, the list of all widths
-- tells the same of every variable in scope. By induction over the terms of the code.
use Rattle.std.proofs.Common.{◌≡◌, ℕ, ◌+◌, ◌<◌, ◌≤◌, ◌⊎◌, inl, inr, arith, refl, sym, ◌∙◌, ap, subst, List, [], ◌∷◌, ◌++◌, length, true, false, ◌&&◌, if◌then◌else◌, ◌==◌, nat_lt, nat_le, Some, None}
use Rattle.std.specs.Prelude.{not}
use Rattle.std.proofs.lemmas.Bool.Decides.{nat_tests}
use Rattle.core_term.specs.declared.operators.BinOp.{BinOp}
use Rattle.core_term.specs.declared.operators.BinOp.TheVariants as op
use Rattle.core_term.specs.declared.term.CoreExpr.{CoreExpr, Lit, Var, Reg, Not', Bin', Slice, Choose'}
use Rattle.core_term.specs.declared.term.CoreTerm.{CoreTerm, One', Then', Both'}
use Rattle.core_term.specs.declared.term.CoreKind.{CoreKind, Cycle, Set, Send, Recv, If', Block', Wait, Pure, Unit, None', Some'}
use Rattle.core_term.specs.Term as term
use Rattle.core_term.specs.Term.{Expr, Term, Act, site}
use Rattle.core_term.specs.Numbering.{size, act_size, OneOf, InScope, Numbered, NumberedAct}
use Rattle.core_term.specs.Process.{Process, nth_port, nth_register, is_received}
use Rattle.core_term.specs.Sized.{is_width, parts_fit, expr_fits, term_fits, act_fits}
use Rattle.core_term.specs.View.{expr_of, after_act, term_of, act_of}
use Rattle.core_term.specs.Widths.{Widths, result_width, expr_width, term_width, act_width}
use Rattle.run_laws.proofs.source_runs.Offers.{and_first, and_second}
use Rattle.core_term.proofs.code_tables.FirstSites.{act_site, act_size_positive}
use Rattle.sim_laws.specs.SiteWidths.{site_widths, inner_widths}
use Rattle.sim_laws.specs.Typed.{term_in, act_in, last_width, Fits, Typed, TypedAct}
use Rattle.sim_laws.proofs.Touched.{Below, below_more}

-- the widths that the view has in scope are those of the one list
pub record Agrees (view widths : Widths) (vs : List Act) : Type 0 where
  pub registers : (r : ℕ) → view.registers r ≡ widths.registers r
  pub ports : (m : ℕ) → view.ports m ≡ widths.ports m
  pub variables : (y : ℕ) → OneOf vs y → view.variables y ≡ widths.variables y

-- the list has these widths from the site low on
abbrev pub Lists : Widths → ℕ → List ℕ → Type 0
Lists widths low [] = 0 < 1
Lists widths low (w ∷ rest) = (widths.variables low ≡ w) × Lists widths (low + 1) rest

lists_left : (widths : Widths) (low : ℕ) (xs ys : List ℕ) → Lists widths low (xs ++ ys) → Lists widths low xs
lists_left widths low [] ys k = omega arith
lists_left widths low (x ∷ xs) ys k = (k.0, lists_left widths (low + 1) xs ys k.1)

lists_right : (widths : Widths) (low mid : ℕ) (xs ys : List ℕ) → mid ≡ low + length xs → Lists widths low (xs ++ ys) → Lists widths mid ys
lists_right widths low mid [] ys e k = subst (λ n. Lists widths n ys) (omega arith) k
lists_right widths low mid (x ∷ xs) ys e k = lists_right widths (low + 1) mid xs ys (omega arith) k.1

long_append : (xs ys : List ℕ) → length (xs ++ ys) ≡ length xs + length ys
long_append [] ys = omega arith
long_append (x ∷ xs) ys = let z = long_append xs ys in omega arith

mutual
  pub widths_long : (widths : Widths) (t : Term) → length (site_widths widths t) ≡ size t
  widths_long widths (term.One a) = let z : length (inner_widths widths a) + 1 ≡ act_size a = inner_long widths a in omega arith
  widths_long widths (term.Then a t) =
      let z : length (inner_widths widths a) + 1 ≡ act_size a = inner_long widths a in
      let y : length (site_widths (after_act widths a) t) ≡ size t = widths_long (after_act widths a) t in
      let x = long_append (inner_widths widths a) (site_widths (after_act widths a) t) in
      omega arith
  widths_long widths (term.Both a t) =
      let z : length (inner_widths widths a) + 1 ≡ act_size a = inner_long widths a in
      let y : length (site_widths (after_act widths a) t) ≡ size t = widths_long (after_act widths a) t in
      let x = long_append (inner_widths widths a) (site_widths (after_act widths a) t) in
      omega arith

  pub inner_long : (widths : Widths) (a : Act) → length (inner_widths widths a) + 1 ≡ act_size a
  inner_long widths (term.If p e t u w) =
      let z : length (site_widths widths t) ≡ size t = widths_long widths t in
      let y : length (site_widths widths u) ≡ size u = widths_long widths u in
      let x = long_append (site_widths widths t) (site_widths widths u) in
      omega arith
  inner_long widths (term.When p e t) = let z : length (site_widths widths t) ≡ size t = widths_long widths t in omega arith
  inner_long widths (term.Block p t) = let z : length (site_widths widths t) ≡ size t = widths_long widths t in omega arith
  inner_long widths (term.Cycle p n) = omega arith
  inner_long widths (term.Set p r e) = omega arith
  inner_long widths (term.Send p m e) = omega arith
  inner_long widths (term.Recv p m) = omega arith
  inner_long widths (term.Wait p y) = omega arith
  inner_long widths (term.Pure p e) = omega arith
  inner_long widths (term.Nothing p) = omega arith

-- Expressions.

module _ (view widths : Widths) (vs : List Act) (agrees : Agrees view widths vs) where
  width_same : (e : Expr) → InScope vs e → expr_width view e ≡ expr_width widths e
  width_same (term.Lit w n) k = refl
  width_same (term.Var y) k = agrees.variables y (k y refl)
  width_same (term.Reg r) k = agrees.registers r
  width_same (term.Not w e) k = refl
  width_same (term.Bin o w v a b) k = refl
  width_same (term.Slice y high low) k = refl
  width_same (term.Choose c a b) k = width_same a (λ y i. k y (inr (inl i)))

  fit_same : (count : ℕ) (e : Expr) → InScope vs e → parts_fit count view e ≡ parts_fit count widths e
  fit_same count (term.Lit w n) k = refl
  fit_same count (term.Var y) k = ap (nat_lt 0) (agrees.variables y (k y refl))
  fit_same count (term.Reg r) k = refl
  fit_same count (term.Not w e) k = fit_same count e k
  fit_same count (term.Bin o w v a b) k =
      rw (fit_same count a (λ y i. k y (inl i)), fit_same count b (λ y i. k y (inr i)), width_same a (λ y i. k y (inl i)), width_same b (λ y i. k y (inr i))) refl
  fit_same count (term.Slice y high low) k = ap (λ w. nat_le low high && nat_lt high w) (agrees.variables y (k y refl))
  fit_same count (term.Choose c a b) k =
      rw (
        fit_same count c (λ y i. k y (inl i)),
        fit_same count a (λ y i. k y (inr (inl i))),
        fit_same count b (λ y i. k y (inr (inr i))),
        width_same c (λ y i. k y (inl i)),
        width_same a (λ y i. k y (inr (inl i))),
        width_same b (λ y i. k y (inr (inr i))),
      ) refl

  expr_same : (e : CoreExpr) → InScope vs (expr_of view e) → expr_of view e ≡ expr_of widths e
  expr_same (Lit b) k = refl
  expr_same (Var y) k = refl
  expr_same (Reg r) k = refl
  expr_same (Not' p e) k = let z = expr_same e k in ap (λ w. term.Not w (expr_of view e)) (width_same (expr_of view e) k) ∙ ap (λ x. term.Not (expr_width widths x) x) z
  expr_same (Bin' o p a q b) k =
      let z = expr_same a (λ y i. k y (inl i)) in
      let x = expr_same b (λ y i. k y (inr i)) in
      let w = width_same (expr_of view a) (λ y i. k y (inl i)) in
      let v = width_same (expr_of view b) (λ y i. k y (inr i)) in
      ap (λ n. term.Bin o (result_width o n (expr_width view (expr_of view b))) (expr_width view (expr_of view b)) (expr_of view a) (expr_of view b)) w
      ∙ (ap (λ n. term.Bin o (result_width o (expr_width widths (expr_of view a)) n) n (expr_of view a) (expr_of view b)) v
      ∙ (ap (λ c. term.Bin o (result_width o (expr_width widths c) (expr_width widths (expr_of view b))) (expr_width widths (expr_of view b)) c (expr_of view b)) z
      ∙ ap (λ c. term.Bin o (result_width o (expr_width widths (expr_of widths a)) (expr_width widths c)) (expr_width widths c) (expr_of widths a) c) x))
  expr_same (Slice y h l) k = refl
  expr_same (Choose' p c q a r b) k =
      ap (λ x. term.Choose x (expr_of view a) (expr_of view b)) (expr_same c (λ y i. k y (inl i)))
      ∙ (ap (λ x. term.Choose (expr_of widths c) x (expr_of view b)) (expr_same a (λ y i. k y (inr (inl i))))
      ∙ ap (λ x. term.Choose (expr_of widths c) (expr_of widths a) x) (expr_same b (λ y i. k y (inr (inr i)))))

-- an operator's result has a width
result_positive : (o : BinOp) (w v : ℕ) → 0 < w → 0 < result_width o w v
result_positive op.Add w v l = l
result_positive op.Sub w v l = l
result_positive op.Mul w v l = l
result_positive op.And w v l = l
result_positive op.Or w v l = l
result_positive op.Xor w v l = l
result_positive op.Eq w v l = omega arith
result_positive op.Ne w v l = omega arith
result_positive op.Lt w v l = omega arith
result_positive op.Le w v l = omega arith
result_positive op.Gt w v l = omega arith
result_positive op.Ge w v l = omega arith
result_positive op.Shl w v l = l
result_positive op.Shr w v l = l
result_positive op.Cat w v l = omega arith

-- an expression that fits has a width
expr_positive : (count : ℕ) (view : Widths) → ((r : ℕ) → r < count → 0 < view.registers r) → (e : CoreExpr) → parts_fit count view (expr_of view e) ≡ true → 0 < expr_width view (expr_of view e)
expr_positive count view regs (Lit b) k = let z = and_first (nat_le 1 b.width) _ (and_first (is_width b.width) _ k) in grind (arith, nat_tests)
expr_positive count view regs (Var y) k = grind (arith, nat_tests)
expr_positive count view regs (Reg r) k = regs r (grind (arith, nat_tests))
expr_positive count view regs (Not' p e) k = expr_positive count view regs e k
expr_positive count view regs (Bin' o p a q b) k = result_positive o (expr_width view (expr_of view a)) (expr_width view (expr_of view b)) (expr_positive count view regs a (and_first _ _ k))
expr_positive count view regs (Slice y h l) k = let z = and_first (nat_le l h) _ k in let y : l ≤ h = grind (arith, nat_tests) in omega arith
expr_positive count view regs (Choose' p c q a r b) k = expr_positive count view regs a (and_first _ _ (and_second (parts_fit count view (expr_of view c)) _ k))

-- Terms.

eq_of : (a b : ℕ) → (a == b) ≡ true → a ≡ b
eq_of a b k = grind (arith, nat_tests)

lt_of : (a b : ℕ) → nat_lt a b ≡ true → a < b
lt_of a b k = grind (arith, nat_tests)

after_agrees : (view widths : Widths) (vs : List Act) (a : Act) → Agrees view widths vs → Below vs (site a) → widths.variables (site a) ≡ act_width view a → Agrees (after_act view a) widths (a ∷ vs)
after_agrees view widths vs a agrees below e = record { registers = agrees.registers; ports = agrees.ports; variables = go }
  where
    go : (y : ℕ) → (y ≡ site a) ⊎ OneOf vs y → (if y == site a then act_width view a else view.variables y) ≡ widths.variables y
    go y (inl i) = let z : (y == site a) ≡ true = grind (arith, nat_tests) in rw z (sym e ∙ ap widths.variables (sym i))
    go y (inr i) = let l : y < site a = below y i in let z : (y == site a) ≡ false = grind (arith, nat_tests) in rw z (agrees.variables y i)

module _ (p : Process) (widths : Widths) (sites : ℕ)
    (register_widths : (r : ℕ) → (nth_register p.registers r).width ≡ widths.registers r) (port_widths : (m : ℕ) → (nth_port p.ports m).width ≡ widths.ports m)
    (registers_wide : (r : ℕ) → r < length p.registers → 0 < widths.registers r) (ports_wide : (m : ℕ) → m < length p.ports → 0 < widths.ports m) where
  -- what a term of the code comes to
  pub record Bridged (view : Widths) (t : CoreTerm) : Type 0 where
    pub same : term_of view t ≡ term_in widths t
    pub typed : Typed sites (length p.registers) p.ports widths (term_of view t)
    pub last : last_width widths (term_of view t) ≡ term_width view (term_of view t)

  pub record BridgedAct (view : Widths) (s : ℕ) (k : CoreKind) : Type 0 where
    pub same : act_of view s k ≡ act_in widths s k
    pub typed : TypedAct sites (length p.registers) p.ports widths (act_of view s k)

  used : (view : Widths) (vs : List Act) (agrees : Agrees view widths vs) (w : ℕ) (e : Expr) → InScope vs e → expr_fits p view w e ≡ true → Fits (length p.registers) widths e × (expr_width widths e ≡ w)
  used view vs agrees w e inside k =
      let z = and_first (parts_fit (length p.registers) view e) _ k in
      let y = eq_of _ _ (and_first (expr_width view e == w) _ (and_second (parts_fit (length p.registers) view e) _ k)) in
      (sym (fit_same view widths vs agrees (length p.registers) e inside) ∙ z, sym (width_same view widths vs agrees e inside) ∙ y)

  mutual
    pub bridge : (view : Widths) (vs : List Act) (low : ℕ) (t : CoreTerm) → Agrees view widths vs → Below vs low → Numbered vs low (term_of view t) → Lists widths low (site_widths view (term_of view t)) → low + size (term_of view t) ≤ sites
        → term_fits p view (term_of view t) ≡ true → Bridged view t
    bridge view vs low (One' s at k) agrees below n lists room fits =
        let l : site (act_of view s k) ≡ low = act_site vs low (act_of view s k) n in
        let here : widths.variables (site (act_of view s k)) ≡ act_width view (act_of view s k) = ap widths.variables l ∙ lists.0 in
        let z = bridge_act view vs low s k agrees below n lists.1 here room fits in
        record { same = ap term.One z.same; typed = z.typed; last = here }
    bridge view vs low (Then' s at k q t) agrees below n lists room fits =
        let a : Act = act_of view s k in
        let l : site (act_of view s k) ≡ low = act_site vs low (act_of view s k) n.0 in
        let positive : 0 < act_size (act_of view s k) = act_size_positive (act_of view s k) in
        let long : length (inner_widths view (act_of view s k)) + 1 ≡ act_size (act_of view s k) = inner_long view (act_of view s k) in
        let here : widths.variables (site (act_of view s k)) ≡ act_width view (act_of view s k) = ap widths.variables l ∙ lists.0 in
        let z = bridge_act view vs low s k agrees below n.0 (lists_left widths (low + 1) (inner_widths view (act_of view s k)) _ lists.1) here (omega arith) (and_first (act_fits p view (act_of view s k)) _ fits) in
        let y =
        bridge (after_act view (act_of view s k)) (act_of view s k ∷ vs) (low + act_size (act_of view s k)) t
        (after_agrees view widths vs (act_of view s k) agrees (λ y i. let m : y < low = below y i in omega arith) here) (below_more vs low (low + act_size (act_of view s k)) (act_of view s k) (omega arith) (omega arith) below) n.1
        (lists_right widths (low + 1) (low + act_size (act_of view s k)) (inner_widths view (act_of view s k)) _ (omega arith) lists.1) (omega arith) (and_second (act_fits p view (act_of view s k)) _ fits) in
        record {
          same = ap (λ b. term.Then b (term_of (after_act view (act_of view s k)) t)) z.same ∙ ap (term.Then (act_in widths s k)) y.same;
          typed = (z.typed, y.typed);
          last = y.last;
        }
    bridge view vs low (Both' s at k q t) agrees below n lists room fits =
        let l : site (act_of view s k) ≡ low = act_site vs low (act_of view s k) n.0 in
        let positive : 0 < act_size (act_of view s k) = act_size_positive (act_of view s k) in
        let long : length (inner_widths view (act_of view s k)) + 1 ≡ act_size (act_of view s k) = inner_long view (act_of view s k) in
        let here : widths.variables (site (act_of view s k)) ≡ act_width view (act_of view s k) = ap widths.variables l ∙ lists.0 in
        let z = bridge_act view vs low s k agrees below n.0 (lists_left widths (low + 1) (inner_widths view (act_of view s k)) _ lists.1) here (omega arith) (and_first (act_fits p view (act_of view s k)) _ fits) in
        let y =
        bridge (after_act view (act_of view s k)) (act_of view s k ∷ vs) (low + act_size (act_of view s k)) t
        (after_agrees view widths vs (act_of view s k) agrees (λ y i. let m : y < low = below y i in omega arith) here) (below_more vs low (low + act_size (act_of view s k)) (act_of view s k) (omega arith) (omega arith) below) n.1
        (lists_right widths (low + 1) (low + act_size (act_of view s k)) (inner_widths view (act_of view s k)) _ (omega arith) lists.1) (omega arith) (and_second (act_fits p view (act_of view s k)) _ fits) in
        record {
          same = ap (λ b. term.Both b (term_of (after_act view (act_of view s k)) t)) z.same ∙ ap (term.Both (act_in widths s k)) y.same;
          typed = (z.typed, y.typed);
          last = y.last;
        }

    bridge_act : (view : Widths) (vs : List Act) (low s : ℕ) (k : CoreKind) → Agrees view widths vs → Below vs low → NumberedAct vs low (act_of view s k) → Lists widths (low + 1) (inner_widths view (act_of view s k))
        → widths.variables (site (act_of view s k)) ≡ act_width view (act_of view s k) → low + act_size (act_of view s k) ≤ sites → act_fits p view (act_of view s k) ≡ true → BridgedAct view s k
    bridge_act view vs low s (Cycle c) agrees below n lists here room fits = record { same = refl; typed = omega (arith, n) }
    bridge_act view vs low s (Set r e) agrees below n lists here room fits =
        let z = used view vs agrees (nth_register p.registers r).width (expr_of view e) n.1 (and_second (nat_lt r (length p.registers)) _ fits) in
        record { same = ap (term.Set s r) (expr_same view widths vs agrees e n.1); typed = (omega (arith, n.0), z.0, lt_of r _ (and_first (nat_lt r (length p.registers)) _ fits), z.1 ∙ register_widths r) }
    bridge_act view vs low s (Send m e) agrees below n lists here room fits =
        let z = used view vs agrees (nth_port p.ports m).width (expr_of view e) n.1 (and_second (not (is_received p m)) _ (and_second (nat_lt m (length p.ports)) _ fits)) in
        record { same = ap (term.Send s m) (expr_same view widths vs agrees e n.1); typed = (omega (arith, n.0), z.0, lt_of m _ (and_first (nat_lt m (length p.ports)) _ fits), z.1 ∙ port_widths m) }
    bridge_act view vs low s (Recv m) agrees below n lists here room fits =
        let l = lt_of m _ (and_first (nat_lt m (length p.ports)) _ fits) in
        record { same = refl; typed = (omega (arith, n), l, and_second (nat_lt m (length p.ports)) _ fits, sym (agrees.ports m) ∙ sym here, ports_wide m l) }
    bridge_act view vs low s (If' e q t None' w) agrees below n lists here room fits =
        let z = used view vs agrees 1 (expr_of view e) n.2 (and_first (expr_fits p view 1 (expr_of view e)) _ fits) in
        let y = bridge view vs (low + 1) t agrees (λ y i. let m : y < low = below y i in omega arith) n.1 lists (omega arith) (and_second (expr_fits p view 1 (expr_of view e)) _ fits) in
        record {
          same = ap (λ x. term.When s x (term_of view t)) (expr_same view widths vs agrees e n.2) ∙ ap (term.When s (expr_of widths e)) y.same;
          typed = (omega (arith, n.0), z.0, y.typed);
        }
    bridge_act view vs low s (If' e q t (Some' r u) None) agrees below n lists here room fits =
        let z = used view vs agrees 1 (expr_of view e) n.3 (and_first (expr_fits p view 1 (expr_of view e)) _ fits) in
        let rest = and_second (expr_fits p view 1 (expr_of view e)) _ fits in
        let long : length (site_widths view (term_of view t)) ≡ size (term_of view t) = widths_long view (term_of view t) in
        let y = bridge view vs (low + 1) t agrees (λ y i. let m : y < low = below y i in omega arith) n.1 (lists_left widths (low + 1) (site_widths view (term_of view t)) _ lists) (omega arith) (and_first (term_fits p view (term_of view t)) _ rest) in
        let x =
        bridge view vs (low + (1 + size (term_of view t))) u agrees (λ y i. let m : y < low = below y i in omega arith) n.2
        (lists_right widths (low + 1) (low + (1 + size (term_of view t))) (site_widths view (term_of view t)) _ (omega arith) lists) (omega arith) (and_first (term_fits p view (term_of view u)) _ (and_second (term_fits p view (term_of view t)) _ rest)) in
        record {
          same = ap (λ x. term.If s x (term_of view t) (term_of view u) false) (expr_same view widths vs agrees e n.3) ∙ (ap (λ x. term.If s (expr_of widths e) x (term_of view u) false) y.same ∙ ap (λ x. term.If s (expr_of widths e) (term_in widths t) x false) x.same);
          typed = (omega (arith, n.0), z.0, y.typed, x.typed);
        }
    bridge_act view vs low s (If' e q t (Some' r u) (Some w)) agrees below n lists here room fits =
        let z = used view vs agrees 1 (expr_of view e) n.3 (and_first (expr_fits p view 1 (expr_of view e)) _ fits) in
        let rest = and_second (expr_fits p view 1 (expr_of view e)) _ fits in
        let words = and_second (term_fits p view (term_of view u)) _ (and_second (term_fits p view (term_of view t)) _ rest) in
        let one : term_width view (term_of view t) ≡ term_width view (term_of view u) = eq_of _ _ (and_second (nat_lt 0 (term_width view (term_of view t))) _ words) in
        let long : length (site_widths view (term_of view t)) ≡ size (term_of view t) = widths_long view (term_of view t) in
        let y = bridge view vs (low + 1) t agrees (λ y i. let m : y < low = below y i in omega arith) n.1 (lists_left widths (low + 1) (site_widths view (term_of view t)) _ lists) (omega arith) (and_first (term_fits p view (term_of view t)) _ rest) in
        let x =
        bridge view vs (low + (1 + size (term_of view t))) u agrees (λ y i. let m : y < low = below y i in omega arith) n.2
        (lists_right widths (low + 1) (low + (1 + size (term_of view t))) (site_widths view (term_of view t)) _ (omega arith) lists) (omega arith) (and_first (term_fits p view (term_of view u)) _ (and_second (term_fits p view (term_of view t)) _ rest)) in
        record {
          same = ap (λ x. term.If s x (term_of view t) (term_of view u) true) (expr_same view widths vs agrees e n.3) ∙ (ap (λ x. term.If s (expr_of widths e) x (term_of view u) true) y.same ∙ ap (λ x. term.If s (expr_of widths e) (term_in widths t) x true) x.same);
          typed = (omega (arith, n.0), z.0, y.typed, x.typed, y.last ∙ sym here, x.last ∙ (sym one ∙ sym here));
        }
    bridge_act view vs low s (Block' q t) agrees below n lists here room fits =
        let y = bridge view vs (low + 1) t agrees (λ y i. let m : y < low = below y i in omega arith) n.1 lists (omega arith) fits in
        record { same = ap (term.Block s) y.same; typed = (omega (arith, n.0), y.typed, y.last ∙ sym here) }
    bridge_act view vs low s (Wait y) agrees below n lists here room fits =
        let l : y < low = below y n.1 in
        record { same = refl; typed = (omega (arith, n.0), omega arith, sym (agrees.variables y n.1) ∙ sym here) }
    bridge_act view vs low s (Pure e) agrees below n lists here room fits =
        let z = used view vs agrees (expr_width view (expr_of view e)) (expr_of view e) n.1 fits in
        let positive : 0 < expr_width view (expr_of view e) =
        expr_positive (length p.registers) view (λ r l. subst (λ w. 0 < w) (sym (agrees.registers r)) (registers_wide r l)) e (and_first (parts_fit (length p.registers) view (expr_of view e)) _ fits) in
        record { same = ap (term.Pure s) (expr_same view widths vs agrees e n.1); typed = (omega (arith, n.0), z.0, z.1 ∙ sym here, subst (λ w. 0 < w) (sym here) positive) }
    bridge_act view vs low s Unit agrees below n lists here room fits = record { same = refl; typed = omega (arith, n) }
