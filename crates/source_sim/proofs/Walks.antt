-- What the walk of the code needs of its terms, over plain variables.
use Rattle.std.proofs.Common.{◌≡◌, ℕ, ◌<◌, ◌≤◌, arith, refl, sym, ◌∙◌, ap, subst, List, [], ◌∷◌, length, map, get_or, true, false, if◌then◌else◌, IsTrue, zero, suc, Option, Some, None}
use Rattle.std.specs.Prelude.{slice_set, slice_index_or, nat_lt, nat_le, Bool}
use Rattle.std.proofs.lemmas.List.{get_or_past}
use Rattle.std.proofs.lemmas.Bool.Decides.{nat_tests}
use Rattle.anvil_bits.specs.Number.{Number}
use Rattle.core_term.specs.declared.rows.InCell.{InCell}
use Rattle.core_term.specs.declared.process.CorePort.{CorePort}
use Rattle.core_term.specs.declared.term.CoreExpr as code
use Rattle.core_term.specs.declared.term.CoreExpr.{CoreExpr}
use Rattle.core_term.specs.declared.term.CoreKind.{CoreKind, Cycle, Set, Send, Recv, If', Block', Wait, Pure, Unit, None', Some'}
use Rattle.core_term.specs.ProcessView.{port_of}
use Rattle.core_term.specs.Rows.{nth_cell, cells_fit}
use Rattle.core_term.specs.Term as term
use Rattle.core_term.specs.Term.{Expr, Term, Act, site}
use Rattle.core_term.specs.Widths.{Widths, expr_width}
use Rattle.run_laws.proofs.source_runs.Offers.{and_second}
use Rattle.sim_laws.specs.declared.act_state.ActState.{ActState}
use Rattle.sim_laws.specs.Advance.{Advanced, zero_bit, state_at, evaluate, visit_state, visit, go_on_state, begin_state, close_with, close}
use Rattle.sim_laws.specs.Passes.{cleared}
use Rattle.sim_laws.specs.Typed.{act_in, AreWide}
use Rattle.sim_laws.proofs.Counts.{fit_long}
use Rattle.sim_laws.proofs.Turn.{cleared_long, cleared_waits}
use Rattle.sim_laws.proofs.Wide.{WideNow, site_typed, act_wide, visited_wide, advance_wide, evaluate_wide}
use Rattle.source_sim.specs.declared.now.Now.{Now}
use Rattle.source_sim.specs.NowSeen.{widths_in, ports_in, expr_now, ActFits, TermFits, ExprFits, IsSeen, advance_now, advance_act_now, inside_now}

pub act_site_in : (widths : Widths) (s : ℕ) (k : CoreKind) → site (act_in widths s k) ≡ s
act_site_in widths s (Cycle n) = refl
act_site_in widths s (Set r e) = refl
act_site_in widths s (Send m e) = refl
act_site_in widths s (Recv m) = refl
act_site_in widths s (If' e p t None' w) = refl
act_site_in widths s (If' e p t (Some' q u) None) = refl
act_site_in widths s (If' e p t (Some' q u) (Some n)) = refl
act_site_in widths s (Block' p t) = refl
act_site_in widths s (Wait y) = refl
act_site_in widths s (Pure e) = refl
act_site_in widths s Unit = refl

map_long : (ports : List CorePort) → length (map port_of ports) ≡ length ports
map_long [] = refl
map_long (port ∷ ports) = ap suc (map_long ports)

pub cell_within : (ports : List CorePort) (cells : List InCell) (m : ℕ) → IsTrue (cells_fit (map port_of ports) cells) → m < length ports → m < length cells
cell_within ports cells m k l =
    let a : length cells ≡ length (map port_of ports) = fit_long (map port_of ports) cells k in
    let b : length (map port_of ports) ≡ length ports = map_long ports in
    omega arith

pub nth_cell_at : (cells : List InCell) (k : ℕ) (d cell : InCell) → k < length cells → cell ≡ get_or cells k d → nth_cell cells k ≡ Some cell
nth_cell_at [] k d cell l e = absurd (omega arith)
nth_cell_at (first ∷ cells) zero d cell l e = ap Some (sym e)
nth_cell_at (first ∷ cells) (suc k) d cell l e = nth_cell_at cells k d cell (omega arith) e

-- acts that were set back keep their widths
pub cleared_wide : (list : List ℕ) (widths : Widths) (acts : List ActState) → AreWide list widths acts → AreWide list widths (cleared acts)
cleared_wide list widths acts k = record {
  long = cleared_long acts ∙ k.long;
  made = λ y l. made_same acts y ∙ k.made y l;
  takes = λ y b. let z : false ≡ true = sym (cleared_waits acts y) ∙ b in absurd cc;
}
  where
    made_same : (acts : List ActState) (y : ℕ) → (state_at (cleared acts) y).made.width ≡ (state_at acts y).made.width
    made_same [] y = refl
    made_same (m ∷ acts) zero = refl
    made_same (m ∷ acts) (suc y) = made_same acts y

pub cleared_wide_as : (list : List ℕ) (widths : Widths) (acts acts' : List ActState) → acts' ≡ cleared acts → AreWide list widths acts → AreWide list widths acts'
cleared_wide_as list widths acts acts' e k = subst (AreWide list widths) (sym e) (cleared_wide list widths acts k)

-- the state of an act that was read
pub state_here : (acts : List ActState) (p : ℕ) (m : ActState) → p < length acts → m ≡ get_or acts p m → state_at acts p ≡ m
state_here [] p m l e = absurd (omega arith)
state_here (first ∷ acts) zero m l e = sym e
state_here (first ∷ acts) (suc p) m l e = state_here acts p m (omega arith) e

module _ (now : Now) where
  wide_now : (acts : List ActState) → IsSeen now acts → WideNow now.cells.now now.registers.now (ports_in now) (widths_in now) now.widths.now
  wide_now acts seen = let r = seen.registers in record { registers = λ y l. sym (r.wide y l); ports_are = λ m. refl; variables = λ y. refl; fits = seen.cells }

  pub site_within : (s : ℕ) (k : CoreKind) (acts : List ActState) → ActFits now (act_in (widths_in now) s k) → IsSeen now acts → s < length acts
  site_within s k acts fits seen =
      let a : site (act_in (widths_in now) s k) < length now.widths.now = site_typed now.cells.now now.registers.now (ports_in now) (widths_in now) now.widths.now (wide_now acts seen) (act_in (widths_in now) s k) fits in
      let b : site (act_in (widths_in now) s k) ≡ s = act_site_in (widths_in now) s k in
      let w = seen.wide in
      let c = w.long in
      omega arith

  -- the acts are seen after a step as well
  with_wide : (acts acts' : List ActState) → IsSeen now acts → AreWide now.widths.now (widths_in now) acts' → IsSeen now acts'
  with_wide acts acts' seen wide = record { wide = wide; registers = seen.registers; cells = seen.cells }

  pub visited_seen : (a : Act) (acts acts' : List ActState) → acts' ≡ visit now.registers.now a acts → ActFits now a → IsSeen now acts → IsSeen now acts'
  visited_seen a acts acts' e fits seen =
      with_wide acts acts' seen (visited_wide now.cells.now now.registers.now (ports_in now) (widths_in now) now.widths.now (wide_now acts seen) a acts acts' e fits seen.wide)

  pub act_seen : (a : Act) (acts acts' : List ActState) (made : Option Number) → advance_act_now now a acts ≡ record { made = made; acts = acts' } → ActFits now a → IsSeen now acts → IsSeen now acts'
  act_seen a acts acts' made e fits seen =
      with_wide acts acts' seen (act_wide now.cells.now now.registers.now (ports_in now) (widths_in now) now.widths.now (wide_now acts seen) a acts acts' (sym (ap (λ (r : Advanced). r.acts) e)) fits seen.wide)

  pub term_seen : (t : Term) (acts acts' : List ActState) (made : Option Number) → advance_now now t acts ≡ record { made = made; acts = acts' } → TermFits now t → IsSeen now acts → IsSeen now acts'
  term_seen t acts acts' made e fits seen =
      let wide = (advance_wide now.cells.now now.registers.now (ports_in now) (widths_in now) now.widths.now (wide_now acts seen) t acts fits seen.wide).0 in
      with_wide acts acts' seen (subst (AreWide now.widths.now (widths_in now)) (ap (λ (r : Advanced). r.acts) e) wide)

  pub cleared_seen : (acts acts' : List ActState) → acts' ≡ cleared acts → IsSeen now acts → IsSeen now acts'
  cleared_seen acts acts' e seen = with_wide acts acts' seen (cleared_wide_as now.widths.now (widths_in now) acts acts' e seen.wide)

  -- an act is reached, for the first time or again
  pub reached : (s : ℕ) (k : CoreKind) (acts : List ActState) (old next : ActState) → s < length acts → old ≡ get_or acts s old → next ≡ visit_state now.registers.now acts (act_in (widths_in now) s k) old
      → slice_set acts s next ≡ visit now.registers.now (act_in (widths_in now) s k) acts
  reached s k acts old next l e next_is =
      let a = act_in (widths_in now) s k in
      ap (slice_set acts s) next_is
      ∙ (ap (λ m. slice_set acts s (visit_state now.registers.now acts a m)) (sym (state_here acts s old l e)) ∙ ap (λ p. slice_set acts p (visit_state now.registers.now acts a (state_at acts p))) (sym (act_site_in (widths_in now) s k)))

  pub again : (a : Act) (acts : List ActState) (old next : ActState) → old.begun ≡ true → next ≡ go_on_state old → next ≡ visit_state now.registers.now acts a old
  again a acts old next begun e = e ∙ sym (ap (λ b. if b then go_on_state old else begin_state now.registers.now acts a old) begun)

  pub first : (a : Act) (acts : List ActState) (old next : ActState) → old.begun ≡ false → next ≡ begin_state now.registers.now acts a old → next ≡ visit_state now.registers.now acts a old
  first a acts old next begun e = e ∙ sym (ap (λ b. if b then go_on_state old else begin_state now.registers.now acts a old) begun)

  -- an act is reached, what stands inside it goes on, and it ends where it has made its value
  pub act_advanced : (s : ℕ) (k : CoreKind) (acts reached acts' closed : List ActState) (made result : Option Number) → reached ≡ visit now.registers.now (act_in (widths_in now) s k) acts
      → inside_now now (act_in (widths_in now) s k) reached ≡ record { made = made; acts = acts' } → close_with s made acts' ≡ record { made = result; acts = closed }
      → advance_act_now now (act_in (widths_in now) s k) acts ≡ record { made = result; acts = closed }
  act_advanced s k acts reached acts' closed made result e f g =
      let a = act_in (widths_in now) s k in
      let within : inside_now now a (visit now.registers.now a acts) ≡ record { made = made; acts = acts' } = ap (inside_now now a) (sym e) ∙ f in
      ap (close (site a)) within ∙ (ap (λ p. close_with p made acts') (act_site_in (widths_in now) s k) ∙ g)

  -- expressions
  named : (y : ℕ) → nat_lt 0 (slice_index_or now.widths.now y 0) ≡ true → y < length now.widths.now
  named y e = go (nat_lt y (length now.widths.now)) refl
    where
      l : 0 < slice_index_or now.widths.now y 0
      l = grind (arith, nat_tests)

      go : (b : Bool) → nat_lt y (length now.widths.now) ≡ b → y < length now.widths.now
      go true f = grind (arith, nat_tests)
      go false f = let z : length now.widths.now ≤ y = grind (arith, nat_tests) in let out = get_or_past now.widths.now y 0 z in absurd (omega (arith, l, out))

  value_wide : (acts : List ActState) (v : Number) (e : Expr) → v ≡ evaluate now.registers.now acts e → ExprFits now e → IsSeen now acts → v.width ≡ expr_width (widths_in now) e
  value_wide acts v e v_is fits seen =
      ap (λ (n : Number). n.width) v_is ∙ evaluate_wide now.cells.now now.registers.now (ports_in now) (widths_in now) now.widths.now (wide_now acts seen) acts seen.wide e fits

  within : (y : ℕ) (acts : List ActState) → nat_lt 0 (slice_index_or now.widths.now y 0) ≡ true → IsSeen now acts → y < length acts
  within y acts fits seen = let l = named y fits in let w = seen.wide in let long = w.long in omega arith

  pub var_within : (e : CoreExpr) (y : ℕ) (acts : List ActState) → e ≡ code.Var y → ExprFits now (expr_now now e) → IsSeen now acts → y < length acts
  var_within e y acts e_is fits seen = within y acts (subst (λ x. ExprFits now (expr_now now x)) e_is fits) seen

  pub var_wide : (e : CoreExpr) (y : ℕ) (acts : List ActState) (v : Number) → e ≡ code.Var y → v ≡ (state_at acts y).made → ExprFits now (expr_now now e) → IsSeen now acts → v.width ≡ expr_width (widths_in now) (expr_now now e)
  var_wide e y acts v e_is v_is fits seen =
      value_wide acts v (expr_now now e) (subst (λ x. v ≡ evaluate now.registers.now acts (expr_now now x)) (sym e_is) v_is) fits seen

  pub reg_within : (e : CoreExpr) (r : ℕ) → e ≡ code.Reg r → ExprFits now (expr_now now e) → r < length now.registers.now
  reg_within e r e_is fits = let z : nat_lt r (length now.registers.now) ≡ true = subst (λ x. ExprFits now (expr_now now x)) e_is fits in grind (arith, nat_tests)

  pub reg_wide : (e : CoreExpr) (r : ℕ) (acts : List ActState) (v : Number) → e ≡ code.Reg r → v ≡ slice_index_or now.registers.now r zero_bit → ExprFits now (expr_now now e) → IsSeen now acts → v.width ≡ expr_width (widths_in now) (expr_now now e)
  reg_wide e r acts v e_is v_is fits seen =
      value_wide acts v (expr_now now e) (subst (λ x. v ≡ evaluate now.registers.now acts (expr_now now x)) (sym e_is) v_is) fits seen

  above : (y high low : ℕ) → ExprFits now (expr_now now (code.Slice y high low)) → high < slice_index_or now.widths.now y 0
  above y high low fits = let z : nat_lt high (slice_index_or now.widths.now y 0) ≡ true = and_second (nat_le low high) _ fits in grind (arith, nat_tests)

  wide_enough : (y high low : ℕ) → ExprFits now (expr_now now (code.Slice y high low)) → nat_lt 0 (slice_index_or now.widths.now y 0) ≡ true
  wide_enough y high low fits = let l = above y high low fits in let z : 0 < slice_index_or now.widths.now y 0 = omega arith in grind (arith, nat_tests)

  pub slice_within : (e : CoreExpr) (y high low : ℕ) (acts : List ActState) → e ≡ code.Slice y high low → ExprFits now (expr_now now e) → IsSeen now acts → y < length acts
  slice_within e y high low acts e_is fits seen = within y acts (wide_enough y high low (subst (λ x. ExprFits now (expr_now now x)) e_is fits)) seen

  pub slice_wide : (e : CoreExpr) (y high low : ℕ) (acts : List ActState) (v : Number) → e ≡ code.Slice y high low → v ≡ (state_at acts y).made → ExprFits now (expr_now now e) → IsSeen now acts → high < v.width
  slice_wide e y high low acts v e_is v_is fits seen =
      let fits' : ExprFits now (expr_now now (code.Slice y high low)) = subst (λ x. ExprFits now (expr_now now x)) e_is fits in
      let l = above y high low fits' in
      let w : v.width ≡ slice_index_or now.widths.now y 0 = value_wide acts v (term.Var y) v_is (wide_enough y high low fits') seen in
      omega arith

  -- a turn
  pub turn_begun : (t : Term) (acts cleared_acts acts' : List ActState) (made : Option Number) → cleared_acts ≡ cleared acts → advance_now now t cleared_acts ≡ record { made = made; acts = acts' } → acts' ≡ (advance_now now t (cleared acts)).acts
  turn_begun t acts cleared_acts acts' made e f = sym (ap (λ (r : Advanced). r.acts) (ap (advance_now now t) (sym e) ∙ f))
