-- The plans along the code: each lemma is one step of a function of the walk.
--
-- The code has its terms behind pointers. What is planned for the plain term of a part of the code is handed on to its plain parts, and
-- what they draw is put together again; `Parts` does both for plain terms.
use Rattle.std.proofs.Common.{◌≡◌, ℕ, ◌<◌, ◌⊎◌, inl, inr, refl, sym, ◌∙◌, ap, subst, Bool, true, false, List, [], ◌∷◌, ◌++◌, length, Option, Some, None, Box, Global}
use Rattle.std.specs.Option.{is_some}
use Rattle.core_term.specs.Term.{Expr, Act, If, When, Block, Recv, Wait, Pure, site}
use Rattle.core_term.specs.declared.term.CoreExpr.{CoreExpr}
use Rattle.core_term.specs.declared.term.CoreAct.{CoreAct}
use Rattle.core_term.specs.declared.term.CoreTerm.{CoreTerm, One', Then', Both'}
use Rattle.core_term.specs.declared.term.CoreKind as core
use Rattle.core_term.specs.declared.term.CoreKind.{CoreKind}
use Rattle.core_term.specs.Sized.{parts_fit}
use Rattle.core_term.specs.Widths.{Widths}
use Rattle.core_term.specs.View.{act_of, expr_of, if_of}
use Rattle.core_term.specs.Term as term
use Rattle.core_term.specs.View.{term_of, after_act}
use Rattle.sv_tree.specs.Module.{Module}
use Rattle.module_nets.specs.declared.signal.Signal.{Signal}
use Rattle.module_nets.specs.declared.scope.Variable.{Variable}
use Rattle.module_nets.specs.Netlist.{Extends}
use Rattle.module_nets.specs.Netlist as netlist
use Rattle.anvil_bits.specs.Operators.{choice_of}
use Rattle.module_nets.specs.Bits.{IsBit}
use Rattle.module_nets.specs.Shown.{Shows, shown}
use Rattle.module_nets.specs.Signals.{no_signal, signal_at, variable_in}
use Rattle.machine_parts.specs.Parts.{bit_at}
use Rattle.thread_nets.specs.declared.setting.Walk.{Walk}
use Rattle.thread_nets.specs.declared.setting.Drawn.{Drawn}
use Rattle.thread_nets.specs.Walk.{act_at, chain_at, kept_ports, kept_registers, term_at, widths_at, widths_here, ReadOnce, ActDrawn, ActPlan, InsideDrawn, InsidePlan, OwnDrawn, TermDrawn, TermPlan}
use Rattle.thread_nets.proofs.Acts.{site_is}
use Rattle.thread_nets.proofs.Leaves.{is_plain, plain_returns, recv_wide, recv_returns, wait_returns, pure_fits, pure_returns}
use Rattle.thread_nets.proofs.Parts.{one_plan, one_drawn, chain_plan, rest_plan, chain_drawn, inside_plan, act_drawn, block_plan, block_drawn, when_plan, when_drawn, first_plan, second_plan, side_bit, first_stands, second_stands, same_width, worded_drawn, unworded_drawn}

if_is : (s : ℕ) (e : Expr) (t u : term.Term) (w : Option ℕ) → if_of s e t (Some u) w ≡ If s e t u (is_some w)
if_is s e t u None = refl
if_is s e t u (Some n) = refl

-- an act that has neither acts inside nor a value
pub plain_kind : (w : Widths) (s : ℕ) (k : CoreKind) → ((n : ℕ) × (k ≡ core.Cycle n)) ⊎ (((r : ℕ) × (v : CoreExpr) × (k ≡ core.Set r v)) ⊎ (((m : ℕ) × (v : CoreExpr) × (k ≡ core.Send m v)) ⊎ (k ≡ core.Unit))) → is_plain (act_of w s k) ≡ true
plain_kind w s k (inl (n, e)) = subst (λ z. is_plain (act_of w s z) ≡ true) (sym e) refl
plain_kind w s k (inr (inl (r, v, e))) = subst (λ z. is_plain (act_of w s z) ≡ true) (sym e) refl
plain_kind w s k (inr (inr (inl (m, v, e)))) = subst (λ z. is_plain (act_of w s z) ≡ true) (sym e) refl
plain_kind w s k (inr (inr (inr e))) = subst (λ z. is_plain (act_of w s z) ≡ true) (sym e) refl

module _ (old : Module) (walk : Walk) (before : Drawn) (variables : List Variable) where
  abbrev Term : CoreTerm → List Act → Type 0
  Term term scope = TermPlan old walk before variables scope (term_at walk scope term)

  abbrev Chain : Bool → CoreAct → CoreTerm → List Act → Type 0
  Chain together act rest scope = TermPlan old walk before variables scope (chain_at together walk scope act rest)

  abbrev Doing : CoreAct → List Act → Type 0
  Doing act scope = ActPlan old walk before variables scope (act_at walk scope act.site act.kind)

  abbrev Inside : ℕ → CoreKind → List Act → Type 0
  Inside s k scope = InsidePlan old walk before variables scope (act_at walk scope s k)

  pub one_asked : (scope : List Act) (term : CoreTerm) (act : CoreAct) → term ≡ One' act.site act.at act.kind → Term term scope → (scope : List Act) × Doing act scope
  one_asked scope term act e plan = (scope, one_plan old walk before variables scope (act_at walk scope act.site act.kind) (subst (λ z. Term z scope) e plan))

  pub one_returns : (term : CoreTerm) (act : CoreAct) (new : Module) (after : Drawn) (value : Signal) → term ≡ One' act.site act.at act.kind → ((scope : List Act) → Doing act scope → ActDrawn old new walk before after scope (act_at walk scope act.site act.kind) value)
      → (scope : List Act) → Term term scope → TermDrawn old new walk before after scope (term_at walk scope term) value
  one_returns term act new after value e f scope plan =
      subst (λ z. TermDrawn old new walk before after scope (term_at walk scope z) value) (sym e)
      (one_drawn old walk before variables scope (act_at walk scope act.site act.kind) new after value (f scope (one_plan old walk before variables scope (act_at walk scope act.site act.kind) (subst (λ z. Term z scope) e plan))))

  pub then_asked : (scope : List Act) (term : CoreTerm) (act : CoreAct) (p : Box (Unit {0}) Global) (rest value : CoreTerm) → term ≡ Then' act.site act.at act.kind p value → rest ≡ value → Term term scope → (together : Bool) × (scope : List Act) × Chain together act rest scope
  then_asked scope term act p rest value e g plan = (false, scope, subst (λ z. Chain false act z scope) (sym g) (subst (λ z. Term z scope) e plan))

  pub both_asked : (scope : List Act) (term : CoreTerm) (act : CoreAct) (p : Box (Unit {0}) Global) (rest value : CoreTerm) → term ≡ Both' act.site act.at act.kind p value → rest ≡ value → Term term scope → (together : Bool) × (scope : List Act) × Chain together act rest scope
  both_asked scope term act p rest value e g plan = (true, scope, subst (λ z. Chain true act z scope) (sym g) (subst (λ z. Term z scope) e plan))

  pub then_term : (term : CoreTerm) (act : CoreAct) (p : Box (Unit {0}) Global) (rest value : CoreTerm) (new : Module) (after : Drawn) (last : Signal) → term ≡ Then' act.site act.at act.kind p value → rest ≡ value
      → ((together : Bool) (scope : List Act) → Chain together act rest scope → TermDrawn old new walk before after scope (chain_at together walk scope act rest) last) → (scope : List Act) → Term term scope → TermDrawn old new walk before after scope (term_at walk scope term) last
  then_term term act p rest value new after last e g f scope plan =
      subst (λ z. TermDrawn old new walk before after scope (term_at walk scope z) last) (sym e)
      (subst (λ z. TermDrawn old new walk before after scope (chain_at false walk scope act z) last) g (f false scope (subst (λ z. Chain false act z scope) (sym g) (subst (λ z. Term z scope) e plan))))

  pub both_term : (term : CoreTerm) (act : CoreAct) (p : Box (Unit {0}) Global) (rest value : CoreTerm) (new : Module) (after : Drawn) (last : Signal) → term ≡ Both' act.site act.at act.kind p value → rest ≡ value
      → ((together : Bool) (scope : List Act) → Chain together act rest scope → TermDrawn old new walk before after scope (chain_at together walk scope act rest) last) → (scope : List Act) → Term term scope → TermDrawn old new walk before after scope (term_at walk scope term) last
  both_term term act p rest value new after last e g f scope plan =
      subst (λ z. TermDrawn old new walk before after scope (term_at walk scope z) last) (sym e)
      (subst (λ z. TermDrawn old new walk before after scope (chain_at true walk scope act z) last) g (f true scope (subst (λ z. Chain true act z scope) (sym g) (subst (λ z. Term z scope) e plan))))

  -- an act with its rest
  module _ (act : CoreAct) (rest : CoreTerm) (mid : Module) (begun : Drawn) (value : Signal) (longer : List Variable) (given : (scope : List Act) → Doing act scope → ActDrawn old mid walk before begun scope (act_at walk scope act.site act.kind) value)
      (is : longer ≡ variables ++ record { site = act.site; value = value } ∷ []) where
    abbrev rest_of : List Act → term.Term
    rest_of scope = term_of (after_act (widths_at walk scope) (act_at walk scope act.site act.kind)) rest

    named : (scope : List Act) → longer ≡ variables ++ record { site = site (act_at walk scope act.site act.kind); value = value } ∷ []
    named scope = is ∙ ap (λ p. variables ++ record { site = p; value = value } ∷ []) (sym (site_is (widths_at walk scope) act.site act.kind))

    pub rest_asked : (together : Bool) (scope : List Act) → Chain together act rest scope → (scope : List Act) × TermPlan mid walk begun longer scope (term_at walk scope rest)
    rest_asked together scope plan =
        let a = act_at walk scope act.site act.kind in
        (a ∷ scope, rest_plan old walk before variables scope together a (rest_of scope) mid begun value longer plan (given scope (chain_plan old walk before variables scope together a (rest_of scope) plan)) (named scope))

    pub chain_returns : (new : Module) (after : Drawn) (last : Signal) → ((scope : List Act) → TermPlan mid walk begun longer scope (term_at walk scope rest) → TermDrawn mid new walk begun after scope (term_at walk scope rest) last)
        → (together : Bool) (scope : List Act) → Chain together act rest scope → TermDrawn old new walk before after scope (chain_at together walk scope act rest) last
    chain_returns new after last then together scope plan =
        let a = act_at walk scope act.site act.kind in
        let done = given scope (chain_plan old walk before variables scope together a (rest_of scope) plan) in
        chain_drawn old walk before variables scope together a (rest_of scope) mid new begun after value last done (then (a ∷ scope) (rest_plan old walk before variables scope together a (rest_of scope) mid begun value longer plan done (named scope)))

  pub act_asked : (together : Bool) (scope : List Act) (act : CoreAct) (rest : CoreTerm) → Chain together act rest scope → (scope : List Act) × Doing act scope
  act_asked together scope act rest plan =
      let a = act_at walk scope act.site act.kind in
      (scope, chain_plan old walk before variables scope together a (term_of (after_act (widths_at walk scope) a) rest) plan)

  -- an act by its kind
  pub inside_asked : (act : CoreAct) (mid : Module) (begun : Drawn) (scope : List Act) → ((scope : List Act) → Doing act scope → OwnDrawn old mid walk before begun scope (act_at walk scope act.site act.kind)) → Doing act scope
      → (scope : List Act) × InsidePlan mid walk begun variables scope (act_at walk scope act.site act.kind)
  inside_asked act mid begun scope own plan = (scope, inside_plan old walk before variables scope (act_at walk scope act.site act.kind) mid begun plan (own scope plan))

  pub act_returns : (act : CoreAct) (mid new : Module) (begun after : Drawn) (value : Signal) → ((scope : List Act) → Doing act scope → OwnDrawn old mid walk before begun scope (act_at walk scope act.site act.kind))
      → ((scope : List Act) → InsidePlan mid walk begun variables scope (act_at walk scope act.site act.kind) → InsideDrawn mid new walk begun after scope (act_at walk scope act.site act.kind) value)
      → (scope : List Act) → Doing act scope → ActDrawn old new walk before after scope (act_at walk scope act.site act.kind) value
  act_returns act mid new begun after value own inside scope plan =
      let a = act_at walk scope act.site act.kind in
      let done = own scope plan in
      act_drawn old walk before variables scope a mid new begun after value done (inside scope (inside_plan old walk before variables scope a mid begun plan done))

  pub block_asked : (scope : List Act) (k : CoreKind) (s : ℕ) (p : Box (Unit {0}) Global) (inner value : CoreTerm) → k ≡ core.Block' p value → inner ≡ value → Inside s k scope → (scope : List Act) × Term inner scope
  block_asked scope k s p inner value e g plan = (scope, subst (λ z. Term z scope) (sym g) (block_plan old walk before variables scope s (term_at walk scope value) (subst (λ z. Inside s z scope) e plan)))

  pub block_returns : (k : CoreKind) (s : ℕ) (p : Box (Unit {0}) Global) (inner value : CoreTerm) (new : Module) (after : Drawn) (last : Signal) → k ≡ core.Block' p value → inner ≡ value
      → ((scope : List Act) → Term inner scope → TermDrawn old new walk before after scope (term_at walk scope inner) last) → (scope : List Act) → Inside s k scope → InsideDrawn old new walk before after scope (act_at walk scope s k) last
  block_returns k s p inner value new after last e g f scope plan =
      let there : Term inner scope = subst (λ z. Term z scope) (sym g) (block_plan old walk before variables scope s (term_at walk scope value) (subst (λ z. Inside s z scope) e plan)) in
      subst (λ z. InsideDrawn old new walk before after scope (act_at walk scope s z) last) (sym e)
      (block_drawn old walk before variables scope s (term_at walk scope value) new after last (subst (λ z. TermDrawn old new walk before after scope (term_at walk scope z) last) g (f scope there)))

  -- an `if` by its parts
  pub none_asked : (scope : List Act) (k : CoreKind) (s : ℕ) (p : Box (Unit {0}) Global) (e : CoreExpr) (inner value : CoreTerm) (v : Option ℕ) → k ≡ core.If' e p value core.None' v → inner ≡ value → Inside s k scope
      → (scope : List Act) × (asked : Expr) × InsidePlan old walk before variables scope (When s asked (term_at walk scope inner))
  none_asked scope k s p e inner value v f g plan =
      (scope, expr_of (widths_at walk scope) e, subst (λ z. InsidePlan old walk before variables scope (When s (expr_of (widths_at walk scope) e) (term_at walk scope z))) (sym g) (subst (λ z. Inside s z scope) f plan))

  pub none_returns : (k : CoreKind) (s : ℕ) (p : Box (Unit {0}) Global) (e : CoreExpr) (inner value : CoreTerm) (v : Option ℕ) (new : Module) (after : Drawn) (last : Signal) → k ≡ core.If' e p value core.None' v → inner ≡ value
      → ((scope : List Act) (asked : Expr) → InsidePlan old walk before variables scope (When s asked (term_at walk scope inner)) → InsideDrawn old new walk before after scope (When s asked (term_at walk scope inner)) last)
      → (scope : List Act) → Inside s k scope → InsideDrawn old new walk before after scope (act_at walk scope s k) last
  none_returns k s p e inner value v new after last f g h scope plan =
      let asked = expr_of (widths_at walk scope) e in
      subst (λ z. InsideDrawn old new walk before after scope (act_at walk scope s z) last) (sym f)
      (subst (λ z. InsideDrawn old new walk before after scope (When s asked (term_at walk scope z)) last) g
      (h scope asked (subst (λ z. InsidePlan old walk before variables scope (When s asked (term_at walk scope z))) (sym g) (subst (λ z. Inside s z scope) f plan))))

  module _ (k : CoreKind) (s : ℕ) (p q : Box (Unit {0}) Global) (e : CoreExpr) (inner value other another : CoreTerm) (v : Option ℕ) (words : Bool) (f : k ≡ core.If' e p value (core.Some' q another) v) (g : inner ≡ value) (i : other ≡ another) (b : words ≡ is_some v) where
    some_plan : (scope : List Act) → Inside s k scope → InsidePlan old walk before variables scope (If s (expr_of (widths_at walk scope) e) (term_at walk scope inner) (term_at walk scope other) words)
    some_plan scope plan =
        let asked = expr_of (widths_at walk scope) e in
        subst (λ z. InsidePlan old walk before variables scope (If s asked (term_at walk scope z) (term_at walk scope other) words)) (sym g)
        (subst (λ z. InsidePlan old walk before variables scope (If s asked (term_at walk scope value) (term_at walk scope z) words)) (sym i)
        (subst (λ z. InsidePlan old walk before variables scope (If s asked (term_at walk scope value) (term_at walk scope another) z)) (sym b)
        (subst (λ z. InsidePlan old walk before variables scope z) (if_is s asked (term_at walk scope value) (term_at walk scope another) v) (subst (λ z. Inside s z scope) f plan))))

    pub some_asked : (scope : List Act) → Inside s k scope → (scope : List Act) × (asked : Expr) × InsidePlan old walk before variables scope (If s asked (term_at walk scope inner) (term_at walk scope other) words)
    some_asked scope plan = (scope, expr_of (widths_at walk scope) e, some_plan scope plan)

    pub some_returns : (new : Module) (after : Drawn) (last : Signal)
        → ((scope : List Act) (asked : Expr) → InsidePlan old walk before variables scope (If s asked (term_at walk scope inner) (term_at walk scope other) words) → InsideDrawn old new walk before after scope (If s asked (term_at walk scope inner) (term_at walk scope other) words) last)
        → (scope : List Act) → Inside s k scope → InsideDrawn old new walk before after scope (act_at walk scope s k) last
    some_returns new after last h scope plan =
        let asked = expr_of (widths_at walk scope) e in
        let drawn = h scope asked (some_plan scope plan) in
        subst (λ z. InsideDrawn old new walk before after scope (act_at walk scope s z) last) (sym f)
        (subst (λ z. InsideDrawn old new walk before after scope z last) (sym (if_is s asked (term_at walk scope value) (term_at walk scope another) v))
        (subst (λ z. InsideDrawn old new walk before after scope (If s asked (term_at walk scope value) (term_at walk scope another) z) last) b
        (subst (λ z. InsideDrawn old new walk before after scope (If s asked (term_at walk scope value) (term_at walk scope z) words) last) i
        (subst (λ z. InsideDrawn old new walk before after scope (If s asked (term_at walk scope z) (term_at walk scope other) words) last) g drawn))))

  -- the two sides of an `if`, and its value
  module _ (s : ℕ) (yes no : CoreTerm) (words : Bool) where
    abbrev Deciding : Bool → List Act → Expr → Type 0
    Deciding w scope asked = InsidePlan old walk before variables scope (If s asked (term_at walk scope yes) (term_at walk scope no) w)

    pub first_asked : (scope : List Act) (asked : Expr) → Deciding words scope asked → (scope : List Act) × Term yes scope
    first_asked scope asked plan = (scope, first_plan old walk before variables scope s asked (term_at walk scope yes) (term_at walk scope no) words plan)

    module _ (mid : Module) (begun : Drawn) (first : Signal) (one : (scope : List Act) → Term yes scope → TermDrawn old mid walk before begun scope (term_at walk scope yes) first) where
      abbrev first_drawn : (w : Bool) (scope : List Act) (asked : Expr) → Deciding w scope asked → TermDrawn old mid walk before begun scope (term_at walk scope yes) first
      first_drawn w scope asked plan = one scope (first_plan old walk before variables scope s asked (term_at walk scope yes) (term_at walk scope no) w plan)

      abbrev second_of : (w : Bool) (scope : List Act) (asked : Expr) → Deciding w scope asked → TermPlan mid walk begun variables scope (term_at walk scope no)
      second_of w scope asked plan = second_plan old walk before variables scope s asked (term_at walk scope yes) (term_at walk scope no) w mid begun first plan (first_drawn w scope asked plan)

      pub second_asked : (scope : List Act) (asked : Expr) → Deciding words scope asked → (scope : List Act) × TermPlan mid walk begun variables scope (term_at walk scope no)
      second_asked scope asked plan = (scope, second_of words scope asked plan)

      module _ (late : Module) (after : Drawn) (second : Signal) (two : (scope : List Act) → TermPlan mid walk begun variables scope (term_at walk scope no) → TermDrawn mid late walk begun after scope (term_at walk scope no) second) where
        abbrev second_drawn : (w : Bool) (scope : List Act) (asked : Expr) → Deciding w scope asked → TermDrawn mid late walk begun after scope (term_at walk scope no) second
        second_drawn w scope asked plan = two scope (second_of w scope asked plan)

        deciding : (scope : List Act) (asked : Expr) → words ≡ true → Deciding words scope asked → Deciding true scope asked
        deciding scope asked is plan = subst (λ w. Deciding w scope asked) is plan

        pub bit_asked : (scope : List Act) (asked : Expr) → Deciding words scope asked → words ≡ true → (sides : List Signal) (side : Signal) → side ≡ bit_at sides s → sides ≡ after.sides.items → IsBit late side
        bit_asked scope asked plan is sides side at are =
            let there = deciding scope asked is plan in
            subst (λ bit. IsBit late bit) (sym (at ∙ ap (λ list. bit_at list s) are))
            (side_bit old walk before variables scope s asked (term_at walk scope yes) (term_at walk scope no) mid late begun after first second (first_drawn true scope asked there) (second_drawn true scope asked there) there)

        pub first_there : (scope : List Act) (asked : Expr) → Deciding words scope asked → words ≡ true → netlist.Stands late first
        first_there scope asked plan is =
            let there = deciding scope asked is plan in
            first_stands old walk before variables scope s asked (term_at walk scope yes) (term_at walk scope no) mid late begun after first second (first_drawn true scope asked there) (second_drawn true scope asked there) there

        pub second_there : (scope : List Act) (asked : Expr) → Deciding words scope asked → words ≡ true → netlist.Stands late second
        second_there scope asked plan is =
            let there = deciding scope asked is plan in
            second_stands old walk before variables scope s asked (term_at walk scope yes) (term_at walk scope no) mid late begun after first second (first_drawn true scope asked there) (second_drawn true scope asked there) there

        pub same_there : (scope : List Act) (asked : Expr) → Deciding words scope asked → words ≡ true → second.width ≡ first.width
        same_there scope asked plan is =
            let there = deciding scope asked is plan in
            same_width old walk before variables scope s asked (term_at walk scope yes) (term_at walk scope no) mid late begun after first second (first_drawn true scope asked there) (second_drawn true scope asked there) there

        pub worded_returns : (new : Module) (sides : List Signal) (side value : Signal) → words ≡ true → side ≡ bit_at sides s → sides ≡ after.sides.items → Extends late new → netlist.Stands new value → value.width ≡ first.width
            → Shows new value (λ now. choice_of (shown now side) (shown now first) (shown now second)) → (scope : List Act) (asked : Expr) → Deciding words scope asked
            → InsideDrawn old new walk before after scope (If s asked (term_at walk scope yes) (term_at walk scope no) words) value
        worded_returns new sides side value is at are later stands width shows scope asked plan =
            let there = deciding scope asked is plan in
            subst (λ w. InsideDrawn old new walk before after scope (If s asked (term_at walk scope yes) (term_at walk scope no) w) value) (sym is)
            (worded_drawn old walk before variables scope s asked (term_at walk scope yes) (term_at walk scope no) mid late begun after first second (first_drawn true scope asked there) (second_drawn true scope asked there) there new value later stands width
            (subst (λ bit. Shows new value (λ now. choice_of (shown now bit) (shown now first) (shown now second))) (at ∙ ap (λ list. bit_at list s) are) shows))

        pub unworded_returns : (value : Signal) → words ≡ false → value ≡ no_signal → (scope : List Act) (asked : Expr) → Deciding words scope asked
            → InsideDrawn old late walk before after scope (If s asked (term_at walk scope yes) (term_at walk scope no) words) value
        unworded_returns value is none scope asked plan =
            unworded_drawn old walk before variables scope s asked (term_at walk scope yes) (term_at walk scope no) mid late begun after first second (first_drawn words scope asked plan) (second_drawn words scope asked plan) words value is none

  pub when_asked : (s : ℕ) (side : CoreTerm) (scope : List Act) (asked : Expr) → InsidePlan old walk before variables scope (When s asked (term_at walk scope side)) → (scope : List Act) × Term side scope
  when_asked s side scope asked plan = (scope, when_plan old walk before variables scope s asked (term_at walk scope side) plan)

  pub when_returns : (s : ℕ) (side : CoreTerm) (new : Module) (after : Drawn) (first value : Signal) → ((scope : List Act) → Term side scope → TermDrawn old new walk before after scope (term_at walk scope side) first) → value ≡ no_signal
      → (scope : List Act) (asked : Expr) → InsidePlan old walk before variables scope (When s asked (term_at walk scope side)) → InsideDrawn old new walk before after scope (When s asked (term_at walk scope side)) value
  when_returns s side new after first value one none scope asked plan =
      when_drawn old walk before variables scope s asked (term_at walk scope side) new after first value (one scope (when_plan old walk before variables scope s asked (term_at walk scope side) plan)) none

  -- acts without acts inside
  pub recv_asked : (scope : List Act) (k : CoreKind) (s m : ℕ) → k ≡ core.Recv m → Inside s k scope → 0 < (signal_at (kept_ports walk) m).width
  recv_asked scope k s m e plan = recv_wide old walk before variables scope s m (subst (λ z. Inside s z scope) e plan)

  pub recv_coded : (k : CoreKind) (s m : ℕ) (value : Signal) → k ≡ core.Recv m → value ≡ signal_at (kept_ports walk) m → (scope : List Act) → Inside s k scope → InsideDrawn old old walk before before scope (act_at walk scope s k) value
  recv_coded k s m value e is scope plan =
      subst (λ z. InsideDrawn old old walk before before scope (act_at walk scope s z) value) (sym e) (recv_returns old walk before variables scope s m value is (subst (λ z. Inside s z scope) e plan))

  pub wait_coded : (k : CoreKind) (s y : ℕ) (value : Signal) → k ≡ core.Wait y → value ≡ variable_in no_signal variables y → (scope : List Act) → Inside s k scope → InsideDrawn old old walk before before scope (act_at walk scope s k) value
  wait_coded k s y value e is scope plan =
      subst (λ z. InsideDrawn old old walk before before scope (act_at walk scope s z) value) (sym e) (wait_returns old walk before variables scope s y value is (subst (λ z. Inside s z scope) e plan))

  pub pure_asked : (scope : List Act) (k : CoreKind) (s : ℕ) (e : CoreExpr) → k ≡ core.Pure e → Inside s k scope → parts_fit (length (kept_registers walk)) (widths_here walk variables) (expr_of (widths_here walk variables) e) ≡ true
  pure_asked scope k s e is plan = pure_fits old walk before variables scope s e (subst (λ z. Inside s z scope) is plan)

  pub pure_coded : (k : CoreKind) (s : ℕ) (e : CoreExpr) (new : Module) (value : Signal) → k ≡ core.Pure e → Extends old new → ReadOnce new walk variables value (expr_of (widths_here walk variables) e) → (scope : List Act) → Inside s k scope
      → InsideDrawn old new walk before before scope (act_at walk scope s k) value
  pure_coded k s e new value is later read scope plan =
      subst (λ z. InsideDrawn old new walk before before scope (act_at walk scope s z) value) (sym is) (pure_returns old walk before variables scope s e new value later read (subst (λ z. Inside s z scope) is plan))

  pub plain_coded : (k : CoreKind) (s : ℕ) (value : Signal) → ((scope : List Act) → is_plain (act_at walk scope s k) ≡ true) → value ≡ no_signal → (scope : List Act) → Inside s k scope → InsideDrawn old old walk before before scope (act_at walk scope s k) value
  plain_coded k s value plain is scope plan = plain_returns old walk before variables scope (act_at walk scope s k) value (plain scope) is plan
