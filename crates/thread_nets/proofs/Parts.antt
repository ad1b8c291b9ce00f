-- From the plan of a part to the plans of its parts, and from what those give to what it gives.
use Rattle.std.proofs.Common.{◌≡◌, ℕ, ◌+◌, ◌<◌, Bool, true, false, List, [], ◌∷◌, ◌++◌, length, refl, sym, ◌∙◌, ap, subst, arith}
use Rattle.std.specs.Prelude.{◌&&◌, ◌==◌, nat_lt}
use Rattle.std.proofs.lemmas.Bool.{and_parts, eqb-true, ltb-true}
use Rattle.core_term.specs.Term.{Expr, Term, One, Act, If, When, Block, site, head}
use Rattle.core_term.specs.Numbering.{size, act_size, Numbered, NumberedAct}
use Rattle.core_term.specs.Stands.{Stands, StandsIn, here, in_one, in_then, after_then, in_both, after_both, in_yes, in_no, in_when, in_block}
use Rattle.core_term.specs.Again.{Sight, again, act_again, now_in, put}
use Rattle.core_term.specs.Widths.{Widths, term_width, act_width}
use Rattle.core_term.specs.View.{after_act}
use Rattle.sv_tree.specs.Module.{Module}
use Rattle.module_nets.specs.declared.signal.Signal.{Signal}
use Rattle.module_nets.specs.declared.scope.Variable.{Variable}
use Rattle.module_nets.specs.Netlist.{Extends}
use Rattle.module_nets.specs.Netlist as netlist
use Rattle.module_nets.specs.Shown.{Shows, shown}
use Rattle.module_nets.specs.Bits.{IsBit}
use Rattle.module_nets.specs.Signals.{no_signal, signal_at}
use Rattle.module_nets.proofs.Growing.{of_later, stands_later, extends_on, extends_self}
use Rattle.machine_parts.specs.Parts.{bit_at}
use Rattle.act_deeds.specs.Deeds.{deed_at, deed_in}
use Rattle.thread_nets.specs.declared.setting.Walk.{Walk}
use Rattle.thread_nets.specs.declared.setting.Drawn.{Drawn}
use Rattle.thread_nets.specs.Fits.{acts_fit, asks_fit, one_fits}
use Rattle.thread_nets.specs.Walk.{chain, act_value, kept_registers, plan_in, sight_at, widths_at}
use Rattle.thread_nets.specs.Walk.{ActDrawn, ActPlan, Continues, InsideDrawn, InsidePlan, IsValue, OwnDrawn, SiteDrawn, Step, TermDrawn, TermPlan}
use Rattle.anvil_bits.specs.Operators.{choice_of}
use Rattle.module_nets.proofs.Expressions.{choice_same}
use Rattle.thread_nets.proofs.Lists.{continues_on, signal_kept, signal_is_bit}
use Rattle.thread_nets.proofs.Later.{grown_self, ready_later, scope_later, ground_later, site_later, step_on}
use Rattle.thread_nets.proofs.Acts.{same_step}
use Rattle.thread_nets.proofs.Scopes.{scope_after}

-- A chain, whether its rest begins with its act or where the act ends.

chain_numbered : (together : Bool) (scope : List Act) (low : ℕ) (a : Act) (t : Term) → Numbered scope low (chain together a t) → NumberedAct scope low a × Numbered (a ∷ scope) (low + act_size a) t
chain_numbered true scope low a t n = n
chain_numbered false scope low a t n = n

chain_size : (together : Bool) (a : Act) (t : Term) → size (chain together a t) ≡ act_size a + size t
chain_size true a t = refl
chain_size false a t = refl

chain_fits : (together : Bool) (count : ℕ) (w : Widths) (a : Act) (t : Term) → acts_fit count w (chain together a t) ≡ true → (one_fits count w a ≡ true) × (acts_fit count (after_act w a) t ≡ true)
chain_fits true count w a t fits = and_parts _ _ fits
chain_fits false count w a t fits = and_parts _ _ fits

chain_head : (together : Bool) (a : Act) (t : Term) → head (chain together a t) ≡ a
chain_head true a t = refl
chain_head false a t = refl

chain_width : (together : Bool) (w : Widths) (a : Act) (t : Term) → term_width w (chain together a t) ≡ term_width (after_act w a) t
chain_width true w a t = refl
chain_width false w a t = refl

chain_value : (together : Bool) (sight : Sight) (f : ℕ → ℕ) (a : Act) (t : Term) → again sight f (chain together a t) ≡ again sight (put f (site a) (act_again sight f a)) t
chain_value true sight f a t = refl
chain_value false sight f a t = refl

chain_in : (together : Bool) (t : Term) {scope ws : List Act} {a : Act} {u : Term} → StandsIn scope a ws u → Stands scope (chain together a t) ws u
chain_in true t s = in_both s
chain_in false t s = in_then s

chain_after : (together : Bool) {scope ws : List Act} {a : Act} {t u : Term} → Stands (a ∷ scope) t ws u → Stands scope (chain together a t) ws u
chain_after true s = after_both s
chain_after false s = after_then s

chain_sites : (together : Bool) (P : List Act → Act → Type 0) {scope ws : List Act} {a : Act} {t u : Term} → P scope a → ((ws : List Act) (u : Term) → StandsIn scope a ws u → P ws (head u)) → ((ws : List Act) (u : Term) → Stands (a ∷ scope) t ws u → P ws (head u))
    → Stands scope (chain together a t) ws u → P ws (head u)
chain_sites true P own inside after here = own
chain_sites true P own inside after (in_both s) = inside _ _ s
chain_sites true P own inside after (after_both s) = after _ _ s
chain_sites false P own inside after here = own
chain_sites false P own inside after (in_then s) = inside _ _ s
chain_sites false P own inside after (after_then s) = after _ _ s

one_sites : (P : List Act → Act → Type 0) {scope ws : List Act} {a : Act} {u : Term} → P scope a → ((ws : List Act) (u : Term) → StandsIn scope a ws u → P ws (head u)) → Stands scope (One a) ws u → P ws (head u)
one_sites P own inside here = own
one_sites P own inside (in_one s) = inside _ _ s

block_sites : (P : List Act → Act → Type 0) {scope ws : List Act} {p : ℕ} {t u : Term} → ((ws : List Act) (u : Term) → Stands scope t ws u → P ws (head u)) → StandsIn scope (Block p t) ws u → P ws (head u)
block_sites P inside (in_block s) = inside _ _ s

when_sites : (P : List Act → Act → Type 0) {scope ws : List Act} {p : ℕ} {e : Expr} {t u : Term} → ((ws : List Act) (u : Term) → Stands scope t ws u → P ws (head u)) → StandsIn scope (When p e t) ws u → P ws (head u)
when_sites P inside (in_when s) = inside _ _ s

if_sites : (P : List Act → Act → Type 0) {scope ws : List Act} {p : ℕ} {e : Expr} {w : Bool} {t f u : Term} → ((ws : List Act) (u : Term) → Stands scope t ws u → P ws (head u)) → ((ws : List Act) (u : Term) → Stands scope f ws u → P ws (head u)) → StandsIn scope (If p e t f w) ws u → P ws (head u)
if_sites P first second (in_yes s) = first _ _ s
if_sites P first second (in_no s) = second _ _ s

pub no_value : (walk : Walk) (new : Module) (sides : List Signal) (value : Signal) → value ≡ no_signal → IsValue new walk sides value 0 (λ sight. 0)
no_value walk new sides value is = subst (λ signal. IsValue new walk sides signal 0 (λ sight. 0)) (sym is) record { stands = λ some. absurd (omega (arith, some)); width = refl; shows = λ final on now of. refl }

last_of : (a b c d : Bool) → (a && (b && (c && d))) ≡ true → d ≡ true
last_of true true true d is = is
last_of true true false d is = absurd cc
last_of true false c d is = absurd cc
last_of false b c d is = absurd cc

module _ (old : Module) (walk : Walk) (before : Drawn) (variables : List Variable) (scope : List Act) where
  pub one_plan : (a : Act) → TermPlan old walk before variables scope (One a) → ActPlan old walk before variables scope a
  one_plan a plan = record {
    ready = plan.ready;
    numbered = plan.numbered;
    room = plan.room;
    fits = plan.fits;
    deed = plan.deeds scope (One a) here;
    deeds = λ ws u s. plan.deeds ws u (in_one s);
  }

  pub one_drawn : (a : Act) (new : Module) (after : Drawn) (value : Signal) → ActDrawn old new walk before after scope a value → TermDrawn old new walk before after scope (One a) value
  one_drawn a new after value drawn = record {
    step = drawn.step;
    count = drawn.count;
    value = drawn.value;
    sites = λ ws u s. one_sites (λ ws a. SiteDrawn new walk after ws a) drawn.site drawn.sites s;
  }

  pub chain_plan : (together : Bool) (a : Act) (t : Term) → TermPlan old walk before variables scope (chain together a t) → ActPlan old walk before variables scope a
  chain_plan together a t plan = record {
    ready = plan.ready;
    numbered = (chain_numbered together scope (length before.values.items) a t plan.numbered).0;
    room = let r = plan.room in let s = chain_size together a t in omega (arith, r, s);
    fits = (chain_fits together (length (kept_registers walk)) (widths_at walk scope) a t plan.fits).0;
    deed = subst (λ act. deed_at (plan_in walk).deeds.items (site act) ≡ deed_in act) (chain_head together a t) (plan.deeds scope (chain together a t) here);
    deeds = λ ws u s. plan.deeds ws u (chain_in together t s);
  }

  pub rest_plan : (together : Bool) (a : Act) (t : Term) (mid : Module) (begun : Drawn) (value : Signal) (longer : List Variable) → TermPlan old walk before variables scope (chain together a t) → ActDrawn old mid walk before begun scope a value
      → longer ≡ variables ++ record { site = site a; value = value } ∷ [] → TermPlan mid walk begun longer (a ∷ scope) t
  rest_plan together a t mid begun value longer plan drawn is = record {
    ready = record {
      ground = ground_later old mid walk drawn.step.extends plan.ready.ground;
      so_far = drawn.step.so_far;
      scope_shown = scope_after mid walk begun.sides.items variables longer scope a value is (scope_later old mid walk before begun drawn.step.extends drawn.step.grown variables scope plan.ready.scope_shown) drawn.value;
    };
    numbered = subst (λ low. Numbered (a ∷ scope) low t) (sym drawn.count) (chain_numbered together scope (length before.values.items) a t plan.numbered).1;
    room = let r = plan.room in let s = chain_size together a t in let c = drawn.count in omega (arith, r, s, c);
    fits = (chain_fits together (length (kept_registers walk)) (widths_at walk scope) a t plan.fits).1;
    deeds = λ ws u s. plan.deeds ws u (chain_after together s);
  }

  pub chain_drawn : (together : Bool) (a : Act) (t : Term) (mid new : Module) (begun after : Drawn) (value last : Signal) → ActDrawn old mid walk before begun scope a value → TermDrawn mid new walk begun after (a ∷ scope) t last
      → TermDrawn old new walk before after scope (chain together a t) last
  chain_drawn together a t mid new begun after value last drawn rest = record {
    step = step_on old mid new walk before begun after drawn.step rest.step;
    count = let c = drawn.count in let d = rest.count in let s = chain_size together a t in omega (arith, c, d, s);
    value = record {
      stands = rest.value.stands;
      width = rest.value.width ∙ sym (chain_width together (widths_at walk scope) a t);
      shows = λ final on now of. rest.value.shows final on now of ∙ sym (chain_value together (sight_at now walk final) (now_in (sight_at now walk final) scope) a t);
    };
    sites = λ ws u s.
        chain_sites together (λ ws a. SiteDrawn new walk after ws a)
        (site_later mid new walk begun after rest.step.extends rest.step.grown scope a drawn.step.so_far.decision_count drawn.site)
        (λ ws u s. site_later mid new walk begun after rest.step.extends rest.step.grown ws (head u) drawn.step.so_far.decision_count (drawn.sites ws u s))
        rest.sites
        s;
  }

  pub inside_plan : (a : Act) (mid : Module) (begun : Drawn) → ActPlan old walk before variables scope a → OwnDrawn old mid walk before begun scope a → InsidePlan mid walk begun variables scope a
  inside_plan a mid begun plan own = record {
    ready = ready_later old mid walk before begun own.step.extends own.step.grown variables scope plan.ready own.step.so_far;
    low = length before.values.items;
    count = own.count;
    numbered = plan.numbered;
    room = plan.room;
    fits = plan.fits;
    deeds = plan.deeds;
  }

  pub act_drawn : (a : Act) (mid new : Module) (begun after : Drawn) (value : Signal) → OwnDrawn old mid walk before begun scope a → InsideDrawn mid new walk begun after scope a value → ActDrawn old new walk before after scope a value
  act_drawn a mid new begun after value own inside = record {
    step = step_on old mid new walk before begun after own.step inside.step;
    count = let c = own.count in let d = inside.count in omega (arith, c, d);
    value = inside.value;
    site = site_later mid new walk begun after inside.step.extends inside.step.grown scope a own.step.so_far.decision_count own.site;
    sites = inside.sites;
  }

  pub block_plan : (p : ℕ) (t : Term) → InsidePlan old walk before variables scope (Block p t) → TermPlan old walk before variables scope t
  block_plan p t plan = record {
    ready = plan.ready;
    numbered = subst (λ low. Numbered scope low t) (sym plan.count) plan.numbered.1;
    room = let r = plan.room in let c = plan.count in omega (arith, r, c);
    fits = plan.fits;
    deeds = λ ws u s. plan.deeds ws u (in_block s);
  }

  pub block_drawn : (p : ℕ) (t : Term) (new : Module) (after : Drawn) (value : Signal) → TermDrawn old new walk before after scope t value → InsideDrawn old new walk before after scope (Block p t) value
  block_drawn p t new after value drawn = record {
    step = drawn.step;
    count = let c = drawn.count in omega (arith, c);
    value = record { stands = drawn.value.stands; width = drawn.value.width; shows = drawn.value.shows };
    sites = λ ws u s. block_sites (λ ws a. SiteDrawn new walk after ws a) drawn.sites s;
  }

  pub when_plan : (p : ℕ) (e : Expr) (t : Term) → InsidePlan old walk before variables scope (When p e t) → TermPlan old walk before variables scope t
  when_plan p e t plan = record {
    ready = plan.ready;
    numbered = subst (λ low. Numbered scope low t) (sym plan.count) plan.numbered.1;
    room = let r = plan.room in let c = plan.count in omega (arith, r, c);
    fits = (and_parts _ _ plan.fits).1;
    deeds = λ ws u s. plan.deeds ws u (in_when s);
  }

  pub when_drawn : (p : ℕ) (e : Expr) (t : Term) (new : Module) (after : Drawn) (first value : Signal) → TermDrawn old new walk before after scope t first → value ≡ no_signal → InsideDrawn old new walk before after scope (When p e t) value
  when_drawn p e t new after first value drawn is = record {
    step = drawn.step;
    count = let c = drawn.count in omega (arith, c);
    value = let none = no_value walk new after.sides.items value is in record { stands = none.stands; width = none.width; shows = none.shows };
    sites = λ ws u s. when_sites (λ ws a. SiteDrawn new walk after ws a) drawn.sites s;
  }

  pub first_plan : (p : ℕ) (e : Expr) (t u : Term) (w : Bool) → InsidePlan old walk before variables scope (If p e t u w) → TermPlan old walk before variables scope t
  first_plan p e t u w plan = record {
    ready = plan.ready;
    numbered = subst (λ low. Numbered scope low t) (sym plan.count) plan.numbered.1;
    room = let r = plan.room in let c = plan.count in omega (arith, r, c);
    fits = (and_parts _ _ (and_parts _ _ plan.fits).1).0;
    deeds = λ ws v s. plan.deeds ws v (in_yes s);
  }

  pub second_plan : (p : ℕ) (e : Expr) (t u : Term) (w : Bool) (mid : Module) (begun : Drawn) (first : Signal) → InsidePlan old walk before variables scope (If p e t u w) → TermDrawn old mid walk before begun scope t first → TermPlan mid walk begun variables scope u
  second_plan p e t u w mid begun first plan drawn = record {
    ready = ready_later old mid walk before begun drawn.step.extends drawn.step.grown variables scope plan.ready drawn.step.so_far;
    numbered =
        let c = drawn.count in
        let d = plan.count in
        let same : plan.low + (1 + size t) ≡ length begun.values.items = omega (arith, c, d) in
        subst (λ low. Numbered scope low u) same plan.numbered.2;
    room = let r = plan.room in let c = drawn.count in let d = plan.count in omega (arith, r, c, d);
    fits = (and_parts _ _ (and_parts _ _ (and_parts _ _ plan.fits).1).1).0;
    deeds = λ ws v s. plan.deeds ws v (in_no s);
  }

  module _ (p : ℕ) (e : Expr) (t u : Term) (mid late : Module) (begun after : Drawn) (first second : Signal) (one : TermDrawn old mid walk before begun scope t first) (two : TermDrawn mid late walk begun after scope u second) where
    pub if_drawn : (w : Bool) (new : Module) (value : Signal) → Step old new walk before after → Extends late new → IsValue new walk after.sides.items value (act_width (widths_at walk scope) (If p e t u w)) (act_value scope (If p e t u w)) → InsideDrawn old new walk before after scope (If p e t u w) value
    if_drawn w new value step later is = record {
      step = step;
      count = let c = one.count in let d = two.count in omega (arith, c, d);
      value = is;
      sites = λ ws v s.
          if_sites (λ ws a. SiteDrawn new walk after ws a)
          (λ ws v s. site_later mid new walk begun after (extends_on mid late new two.step.extends later) two.step.grown ws (head v) one.step.so_far.decision_count (one.sites ws v s))
          (λ ws v s. site_later late new walk after after later (grown_self after) ws (head v) two.step.so_far.decision_count (two.sites ws v s))
          s;
    }

    both_step : Step old late walk before after
    both_step = step_on old mid late walk before begun after one.step two.step

    pub unworded_drawn : (w : Bool) (value : Signal) → w ≡ false → value ≡ no_signal → InsideDrawn old late walk before after scope (If p e t u w) value
    unworded_drawn w value plain is =
        subst (λ w. InsideDrawn old late walk before after scope (If p e t u w) value) (sym plain)
        (let none = no_value walk late after.sides.items value is in
        if_drawn false late value both_step (extends_self late) record { stands = none.stands; width = none.width; shows = none.shows })

    module _ (plan : InsidePlan old walk before variables scope (If p e t u true)) where
      worded : (0 < term_width (widths_at walk scope) t) × (term_width (widths_at walk scope) t ≡ term_width (widths_at walk scope) u)
      worded =
          let a = term_width (widths_at walk scope) t in
          let b = term_width (widths_at walk scope) u in
          let count = length (kept_registers walk) in
          let words : (nat_lt 0 a && (a == b)) ≡ true = last_of (asks_fit count (widths_at walk scope) e) (acts_fit count (widths_at walk scope) t) (acts_fit count (widths_at walk scope) u) (nat_lt 0 a && (a == b)) plan.fits in
          let both = and_parts (nat_lt 0 a) (a == b) words in
          (ltb-true _ _ both.0, eqb-true _ _ both.1)

      site_there : p < length after.values.items
      site_there = let n : p ≡ plan.low = plan.numbered.0 in let c = plan.count in let d = one.count in let f = two.count in omega (arith, n, c, d, f)

      pub side_bit : IsBit late (bit_at after.sides.items p)
      side_bit = (two.step.so_far.sides p site_there).0

      pub first_stands : netlist.Stands late first
      first_stands = stands_later mid late first two.step.extends (one.value.stands (let s = worded.0 in let w = one.value.width in omega (arith, s, w)))

      pub second_stands : netlist.Stands late second
      second_stands = two.value.stands (let s = worded.0 in let m = worded.1 in let w = two.value.width in omega (arith, s, m, w))

      pub same_width : second.width ≡ first.width
      same_width = two.value.width ∙ (sym worded.1 ∙ sym one.value.width)

      side_final : (final : List Signal) → Continues after.sides.items final → signal_at final p ≡ bit_at after.sides.items p
      side_final final on =
          let inside : p < length after.sides.items = let s = site_there in let c = two.step.so_far.side_count in omega (arith, s, c) in
          signal_kept after.sides.items final p on inside ∙ signal_is_bit after.sides.items p inside

      pub worded_drawn : (new : Module) (value : Signal) → Extends late new → netlist.Stands new value → value.width ≡ first.width
          → Shows new value (λ now. choice_of (shown now (bit_at after.sides.items p)) (shown now first) (shown now second))
          → InsideDrawn old new walk before after scope (If p e t u true) value
      worded_drawn new value later stands width shows =
          if_drawn true new value (step_on old late new walk before after after both_step (same_step late new walk after later two.step.so_far)) later record {
            stands = λ some. stands;
            width = width ∙ one.value.width;
            shows = λ final on now of.
                let sooner = of_later late new now later of in
                let soonest = of_later mid late now two.step.extends sooner in
                let earlier : Continues begun.sides.items final = continues_on begun.sides.items after.sides.items final two.step.grown.sides on in
                shows now of
                ∙ (choice_same _ _ _ _ _ _ (ap (λ bit. shown now bit) (sym (side_final final on))) (one.value.shows final earlier now soonest) (two.value.shows final on now sooner));
          }
