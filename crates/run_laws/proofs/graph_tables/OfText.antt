-- The demands of a body speak of points of its text: each begin and end that a demand names has a form.
--
-- By induction over the text; the points of the second turn are those of the first, but for the first one, which follows the
-- end. The hard case is the sources of a value: they name acts that stand before it in the text.
use Rattle.std.proofs.Common.{◌≡◌, ℕ, ◌+◌, inl, inr, refl, subst, List, [], ◌∷◌, ◌++◌, Bool, true, false, if◌then◌else◌, ◌==◌}
use Rattle.order_rules.specs.Form.{Form, Start, Same, After, Sync, Join, Side, Merge}
use Rattle.order_rules.specs.Standing.{IsPoint}
use Rattle.core_term.specs.Term.{Expr, Lit, Var, Reg, Not, Bin, Slice, Choose, Term, One, Then, Both, Act, Cycle, Set, Send, Recv, If, When, Block, Wait, Pure, Nothing, site, head}
use Rattle.core_term.specs.Points.{Spot, TermBegin, Begin, End, Formed, forms, act_forms}
use Rattle.core_term.specs.Ends.{sees}
use Rattle.core_term.specs.Numbering.{OneOf, size, act_size, Numbered, NumberedAct}
use Rattle.core_term.specs.Order.{Point, IsFormed, HasForm, point}
use Rattle.core_term.specs.Sources.{Source, WireOf, RegOf, ChoiceOf, bind_sources, expr_sources, sources, act_sources, sources_in}
use Rattle.core_term.specs.Lists.{Has}
use Rattle.core_term.specs.Stands.{Stands, StandsIn, here, in_one, in_then, after_then, in_both, after_both, in_yes, in_no, in_when, in_block}
use Rattle.core_term.specs.Process.{Process}
use Rattle.core_term.specs.Acts.{HasAct, Receives, Sends, OnPort, Sets}
use Rattle.core_term.specs.declared.rules.Rule.{Rule}
use Rattle.core_term.specs.Rules.{Claim, Demands, RestsOn, use_by, made, sets, receives, sends, sends_next, wire_within, wire_until, set_elsewhere, set_here, choice}
use Rattle.core_term.specs.Graph.{IsOfText}
use Rattle.std.specs.Prelude.{ℤ}
use Rattle.run_laws.proofs.turn_points.Placed.{scoped_term}
use Rattle.core_term.proofs.code_tables.Fits.{has_either}
use Rattle.run_laws.proofs.turn_points.Bounds.{source_site}

pub in_left : (all_forms more_forms : List Formed) (b : Spot) (f : Form Spot) → IsFormed all_forms b f → IsFormed (all_forms ++ more_forms) b f
in_left [] more_forms b f k = elim k [ ]
in_left (h ∷ all_forms) more_forms b f (inl e) = inl e
in_left (h ∷ all_forms) more_forms b f (inr k) = inr (in_left all_forms more_forms b f k)

pub in_right : (all_forms more_forms : List Formed) (b : Spot) (f : Form Spot) → IsFormed more_forms b f → IsFormed (all_forms ++ more_forms) b f
in_right [] more_forms b f k = k
in_right (h ∷ all_forms) more_forms b f k = inr (in_right all_forms more_forms b f k)

-- a form that is not that of the begin of all
abbrev pub Proper : Form Spot → Type 0
Proper Start = ⊥
Proper f = Unit {0}

pub record Known (all_forms : List Formed) (b : Spot) : Type 0 where
  pub form : Form Spot
  pub proper : Proper form
  pub formed : IsFormed all_forms b form

-- the forms of a part are among those of the whole
mutual
  pub part : {vs ws : List Act} {t u : Term} → Stands vs t ws u → (b : Spot) (f : Form Spot) → IsFormed (forms u) b f → IsFormed (forms t) b f
  part here b f k = k
  part (in_one s) b f k = inr (inr (act_part s b f k))
  part (in_then {a = a} {t = t} s) b f k = inr (inr (inr (in_left (act_forms a) (forms t) b f (act_part s b f k))))
  part (in_both {a = a} {t = t} s) b f k = inr (inr (inr (in_left (act_forms a) (forms t) b f (act_part s b f k))))
  part (after_then {a = a} {t = t} s) b f k = inr (inr (inr (in_right (act_forms a) (forms t) b f (part s b f k))))
  part (after_both {a = a} {t = t} s) b f k = inr (inr (inr (in_right (act_forms a) (forms t) b f (part s b f k))))

  pub act_part : {vs ws : List Act} {a : Act} {u : Term} → StandsIn vs a ws u → (b : Spot) (f : Form Spot) → IsFormed (forms u) b f → IsFormed (act_forms a) b f
  act_part (in_yes {t = t} {f = g} s) b f k = inr (inr (inr (in_left (forms t) (forms g) b f (part s b f k))))
  act_part (in_no {t = t} {f = g} s) b f k = inr (inr (inr (in_right (forms t) (forms g) b f (part s b f k))))
  act_part (in_when s) b f k = inr (inr (inr (part s b f k)))
  act_part (in_block s) b f k = inr (inr (part s b f k))

pub act_end : (a : Act) → Known (act_forms a) (End (site a))
act_end (Cycle p n) = record { form = After n (Begin p); proper = tt; formed = inl refl }
act_end (Set p r e) = record { form = After 1 (Begin p); proper = tt; formed = inl refl }
act_end (Send p m e) = record { form = Sync (Begin p); proper = tt; formed = inl refl }
act_end (Recv p m) = record { form = Sync (Begin p); proper = tt; formed = inl refl }
act_end (If p e t u w) = record { form = _; proper = tt; formed = inr (inr (inl refl)) }
act_end (When p e t) = record { form = _; proper = tt; formed = inr (inr (inl refl)) }
act_end (Block p t) = record { form = _; proper = tt; formed = inr (inl refl) }
act_end (Wait p y) = record { form = _; proper = tt; formed = inl refl }
act_end (Pure p e) = record { form = _; proper = tt; formed = inl refl }
act_end (Nothing p) = record { form = _; proper = tt; formed = inl refl }

pub term_end : (t : Term) → Known (forms t) (End (site (head t)))
term_end (One a) = let by_act_end = act_end a in record { form = by_act_end.form; proper = by_act_end.proper; formed = inr (inr by_act_end.formed) }
term_end (Then a t) = let next_by_act_end = act_end a in record { form = next_by_act_end.form; proper = next_by_act_end.proper; formed = inr (inr (inr (in_left (act_forms a) (forms t) _ _ next_by_act_end.formed))) }
term_end (Both a t) = let last_by_act_end = act_end a in record { form = last_by_act_end.form; proper = last_by_act_end.proper; formed = inr (inr (inr (in_left (act_forms a) (forms t) _ _ last_by_act_end.formed))) }

pub term_begin : (t : Term) → Known (forms t) (Begin (site (head t)))
term_begin (One a) = record { form = Same (TermBegin (site a)); proper = tt; formed = inl refl }
term_begin (Then a t) = record { form = Same (TermBegin (site a)); proper = tt; formed = inl refl }
term_begin (Both a t) = record { form = Same (TermBegin (site a)); proper = tt; formed = inl refl }

-- a part is numbered from its own first site on
mutual
  pub numbered_at : {vs ws : List Act} {t u : Term} → Stands vs t ws u → (low : ℕ) → Numbered vs low t → (at : ℕ) × Numbered ws at u
  numbered_at here low n = (low, n)
  numbered_at (in_one s) low n = act_numbered_at s low n
  numbered_at (in_then s) low n = act_numbered_at s low n.0
  numbered_at (in_both s) low n = act_numbered_at s low n.0
  numbered_at (after_then {a = a} s) low n = numbered_at s (low + act_size a) n.1
  numbered_at (after_both {a = a} s) low n = numbered_at s (low + act_size a) n.1

  pub act_numbered_at : {vs ws : List Act} {a : Act} {u : Term} → StandsIn vs a ws u → (low : ℕ) → NumberedAct vs low a → (at : ℕ) × Numbered ws at u
  act_numbered_at (in_yes s) low n = numbered_at s (low + 1) n.1
  act_numbered_at (in_no {t = t} s) low n = numbered_at s (low + (1 + size t)) n.2
  act_numbered_at (in_when s) low n = numbered_at s (low + 1) n.1
  act_numbered_at (in_block s) low n = numbered_at s (low + 1) n.1

module _ (body : Term) where
  abbrev pub Real : Point → Type 0
  Real = IsPoint Point (HasForm body)

  pub real : (l : Bool) (b : Spot) → Known (forms body) b → Real (point l b)
  real l b k = go k.form k.proper k.formed
    where
      go : (f : Form Spot) → Proper f → IsFormed (forms body) b f → Real (point l b)
      go Start p i = elim p [ ]
      go (Same c) p i = (Same (point l c), inl (refl, i))
      go (After n c) p i = (After n (point l c), (refl, i))
      go (Sync c) p i = (Sync (point l c), (refl, i))
      go (Join c d) p i = (Join (point l c) (point l d), (refl, refl, i))
      go (Side c) p i = (Side (point l c), (refl, i))
      go (Merge c d) p i = (Merge (point l c) (point l d), (refl, refl, i))

  -- a site at which a term stands
  abbrev pub IsSite : ℕ → Type 0
  IsSite q = (vs : List Act) × (u : Term) × Stands [] body vs u × (site (head u) ≡ q)

  pub begin_real : (l : Bool) (q : ℕ) → IsSite q → Real (point l (Begin q))
  begin_real l q (vs, u, s, e) =
      let by_term_begin = term_begin u in
      let Statement : ℕ → Type 0 = λ n. Real (point l (Begin n)) in
      subst Statement e (real l (Begin (site (head u))) (record { form = by_term_begin.form; proper = by_term_begin.proper; formed = part s _ _ by_term_begin.formed }))

  pub end_real : (l : Bool) (q : ℕ) → IsSite q → Real (point l (End q))
  end_real l q (vs, u, s, e) =
      let by_term_end = term_end u in
      let next_Statement : ℕ → Type 0 = λ n. Real (point l (End n)) in
      subst next_Statement e (real l (End (site (head u))) (record { form = by_term_end.form; proper = by_term_end.proper; formed = part s _ _ by_term_end.formed }))

  act_site : (P : Act → Type 0) (q : ℕ) → HasAct body q P → IsSite q
  act_site P q (vs, u, s, e, k) = (vs, u, s, e)

  -- a term at its place, and what stands in it
  abbrev Inner : List Act → Term → Type 0
  Inner vs t = (ws : List Act) (u : Term) → Stands vs t ws u → Stands [] body ws u

  abbrev InnerAct : List Act → Act → Type 0
  InnerAct vs a = (ws : List Act) (u : Term) → StandsIn vs a ws u → Stands [] body ws u

  record Sited (from_sources : List Source) : Type 0 where
    each : (a : Source) → Has from_sources a → IsSite (source_site a)

  abbrev AllSited : (ℕ → List Source) → Type 0
  AllSited variables = (y : ℕ) → Sited (variables y)

  none : Sited []
  none = record { each = λ a k. elim k [ ] }

  append : (these others_there : List Source) → Sited these → Sited others_there → Sited (these ++ others_there)
  append these others_there k l = record { each = λ a i. elim (has_either these others_there a i) [ inl j ↦ k.each a j | inr j ↦ l.each a j ] }

  cons : (c : Source) (these : List Source) → IsSite (source_site c) → Sited these → Sited (c ∷ these)
  cons c these k l = record { each = go }
    where
      go : (a : Source) → Has (c ∷ these) a → IsSite (source_site a)
      go a (inl e) = rw e k
      go a (inr i) = l.each a i

  bind_sited : (variables : ℕ → List Source) (p : ℕ) (from_sources : List Source) → AllSited variables → Sited from_sources → AllSited (bind_sources variables p from_sources)
  bind_sited variables p from_sources k l y = go (y == p)
    where
      go : (b : Bool) → Sited (if b then from_sources else variables y)
      go true = l
      go false = k y

  expr_sited : (p : ℕ) (variables : ℕ → List Source) (e : Expr) → IsSite p → AllSited variables → Sited (expr_sources p variables e)
  expr_sited p variables (Lit w n) s k = none
  expr_sited p variables (Var y) s k = k y
  expr_sited p variables (Reg r) s k = cons (RegOf p r) [] s none
  expr_sited p variables (Not w e) s k = expr_sited p variables e s k
  expr_sited p variables (Bin o w v a b) s k = append _ _ (expr_sited p variables a s k) (expr_sited p variables b s k)
  expr_sited p variables (Slice y high low) s k = k y
  expr_sited p variables (Choose c a b) s k = append _ _ (expr_sited p variables c s k) (append _ _ (expr_sited p variables a s k) (expr_sited p variables b s k))

  mutual
    term_sited : (vs : List Act) (t : Term) (variables : ℕ → List Source) → Inner vs t → AllSited variables → Sited (sources variables t)
    term_sited vs (One a) variables i k = act_sited vs a variables (vs, One a, i _ _ here, refl) (λ ws u s. i ws u (in_one s)) k
    term_sited vs (Then a t) variables i k =
        term_sited (a ∷ vs) t (bind_sources variables (site a) (act_sources variables a)) (λ ws u s. i ws u (after_then s))
        (bind_sited variables (site a) (act_sources variables a) k (act_sited vs a variables (vs, Then a t, i _ _ here, refl) (λ ws u s. i ws u (in_then s)) k))
    term_sited vs (Both a t) variables i k =
        term_sited (a ∷ vs) t (bind_sources variables (site a) (act_sources variables a)) (λ ws u s. i ws u (after_both s))
        (bind_sited variables (site a) (act_sources variables a) k (act_sited vs a variables (vs, Both a t, i _ _ here, refl) (λ ws u s. i ws u (in_both s)) k))

    act_sited : (vs : List Act) (a : Act) (variables : ℕ → List Source) → IsSite (site a) → InnerAct vs a → AllSited variables → Sited (act_sources variables a)
    act_sited vs (Recv p m) variables s i k = cons (WireOf p) [] s none
    act_sited vs (If p e t u true) variables s i k = cons (ChoiceOf p) _ s (append _ _ (term_sited vs t variables (λ ws v z. i ws v (in_yes z)) k) (term_sited vs u variables (λ ws v z. i ws v (in_no z)) k))
    act_sited vs (If p e t u false) variables s i k = none
    act_sited vs (Block p t) variables s i k = term_sited vs t variables (λ ws v z. i ws v (in_block z)) k
    act_sited vs (Wait p y) variables s i k = k y
    act_sited vs (Pure p e) variables s i k = expr_sited p variables e s k
    act_sited vs (Cycle p n) variables s i k = none
    act_sited vs (Set p r e) variables s i k = none
    act_sited vs (Send p m e) variables s i k = none
    act_sited vs (When p e t) variables s i k = none
    act_sited vs (Nothing p) variables s i k = none

  -- of a scope: the sources of its variables, and its acts
  abbrev ScopeSited : List Act → Type 0
  ScopeSited vs = AllSited (sources_in vs) × ((y : ℕ) → OneOf vs y → IsSite y)

  more : (vs : List Act) (a : Act) → IsSite (site a) → InnerAct vs a → ScopeSited vs → ScopeSited (a ∷ vs)
  more vs a s i k = (bind_sited (sources_in vs) (site a) _ k.0 (act_sited vs a (sources_in vs) s i k.0), go)
    where
      go : (y : ℕ) → OneOf (a ∷ vs) y → IsSite y
      go y (inl e) = rw e s
      go y (inr j) = k.1 y j

  mutual
    scope_sited : {vs ws : List Act} {t u : Term} → Stands vs t ws u → Inner vs t → ScopeSited vs → ScopeSited ws
    scope_sited here i k = k
    scope_sited (in_one s) i k = act_scope_sited s (λ ws u z. i ws u (in_one z)) k
    scope_sited (in_then s) i k = act_scope_sited s (λ ws u z. i ws u (in_then z)) k
    scope_sited (in_both s) i k = act_scope_sited s (λ ws u z. i ws u (in_both z)) k
    scope_sited {vs = vs} (after_then {a = a} {t = t} s) i k = scope_sited s (λ ws u z. i ws u (after_then z)) (more vs a (vs, Then a t, i _ _ here, refl) (λ ws u z. i ws u (in_then z)) k)
    scope_sited {vs = vs} (after_both {a = a} {t = t} s) i k = scope_sited s (λ ws u z. i ws u (after_both z)) (more vs a (vs, Both a t, i _ _ here, refl) (λ ws u z. i ws u (in_both z)) k)

    act_scope_sited : {vs ws : List Act} {a : Act} {u : Term} → StandsIn vs a ws u → InnerAct vs a → ScopeSited vs → ScopeSited ws
    act_scope_sited (in_yes s) i k = scope_sited s (λ ws u z. i ws u (in_yes z)) k
    act_scope_sited (in_no s) i k = scope_sited s (λ ws u z. i ws u (in_no z)) k
    act_scope_sited (in_when s) i k = scope_sited s (λ ws u z. i ws u (in_when z)) k
    act_scope_sited (in_block s) i k = scope_sited s (λ ws u z. i ws u (in_block z)) k

  use_of_text : (a : Act) (d : ℤ) (b : Point) → IsSite (site a) → Real b → IsOfText body (use_by a d b)
  use_of_text (Send q m e) d b s r = (end_real false q s, r)
  use_of_text (Set q n e) d b s r = (begin_real false q s, r)
  use_of_text (If q e t u w) d b s r = (begin_real false q s, r)
  use_of_text (When q e t) d b s r = (begin_real false q s, r)
  use_of_text (Cycle q n) d b s r = (begin_real false q s, r)
  use_of_text (Recv q n) d b s r = (begin_real false q s, r)
  use_of_text (Block q t) d b s r = (begin_real false q s, r)
  use_of_text (Wait q y) d b s r = (begin_real false q s, r)
  use_of_text (Pure q e) d b s r = (begin_real false q s, r)
  use_of_text (Nothing q) d b s r = (begin_real false q s, r)

  no_scope : ScopeSited []
  no_scope = ((λ y. none), (λ y k. elim k [ ]))

  user : (u : Term) (a : Source) → RestsOn body u a → IsSite (site (head u))
  user u a r = (r.scope, u, r.stands, refl)

  source : (u : Term) (a : Source) → RestsOn body u a → IsSite (source_site a)
  source u a r = (expr_sited (site (head u)) (sources_in r.scope) r.value (user u a r) (scope_sited r.stands (λ ws u z. z) no_scope).0).each a r.has

  module _ (numbered : Numbered [] 0 body) where
    pub of_text : (p : Process) (j : ℕ) (rule : Rule) (first second : ℕ) (claim : Claim) → Demands p j body rule first second claim → IsOfText body claim
    of_text p j _ _ _ _ (made scope u y s k) =
        let by_numbered_at = numbered_at s 0 numbered in
        let by_scoped_term = scoped_term (record { count = 0; valid = λ m t. false; data_at = λ m t. 0; ack = λ m t. false }) (sees (λ t r. 0)) body numbered scope by_numbered_at.0 u y by_numbered_at.1 k in
        (end_real false y ((scope_sited s (λ ws u z. z) no_scope).1 y by_scoped_term), begin_real false (site (head u)) (scope, u, s, refl))
    of_text p j _ _ _ _ (sets q r reg a b l) =
        let by_act_site = act_site (λ a. Sets a reg) q a in let next_by_act_site = act_site (λ a. Sets a reg) r b in ((end_real false q by_act_site, begin_real false r next_by_act_site), (end_real false r next_by_act_site, begin_real false q by_act_site))
    of_text p j _ _ _ _ (receives q r m a b l) =
        let last_by_act_site = act_site (λ a. Receives a m) q a in let other_by_act_site = act_site (λ a. Receives a m) r b in ((end_real false q last_by_act_site, begin_real false r other_by_act_site), (end_real false r other_by_act_site, begin_real false q last_by_act_site))
    of_text p j _ _ _ _ (sends q r m a b l) =
        let more_by_act_site = act_site (λ a. Sends a m) q a in let further_by_act_site = act_site (λ a. Sends a m) r b in ((end_real false q more_by_act_site, begin_real false r further_by_act_site), (end_real false r further_by_act_site, begin_real false q more_by_act_site))
    of_text p j _ _ _ _ (sends_next q r m a b) = (end_real false q (act_site (λ a. Sends a m) q a), begin_real true r (act_site (λ a. Sends a m) r b))
    of_text p j _ _ _ _ (wire_within u q m k s a e) = use_of_text (head u) _ _ (user u _ s) (end_real false q (act_site (λ a. Receives a m) q a))
    of_text p j _ _ _ _ (wire_until u q m n w s a e b) =
        let second_by_act_site = act_site (λ a. Receives a m) q a in
        let third_by_act_site = act_site (λ a. OnPort a n) w b in
        let by_user = user u _ s in
        (use_of_text (head u) _ _ by_user (end_real false q second_by_act_site), (((end_real false w third_by_act_site, end_real false q second_by_act_site), use_of_text (head u) _ _ by_user (end_real false w third_by_act_site)), use_of_text (head u) _ _ by_user (end_real true w third_by_act_site)))
    of_text p j _ _ _ _ (set_elsewhere u q r i w other s found different written) = use_of_text (head u) _ _ (user u _ s) (begin_real false q (source u (RegOf q r) s))
    of_text p j _ _ _ _ (set_here u q r w s written) =
        let by_source = source u (RegOf q r) s in
        let by_act_site = act_site (λ a. Sets a r) w written in
        let next_by_user = user u _ s in
        (use_of_text (head u) _ _ next_by_user (begin_real false q by_source), (((end_real false w by_act_site, begin_real false q by_source), use_of_text (head u) _ _ next_by_user (begin_real false w by_act_site)), use_of_text (head u) _ _ next_by_user (begin_real true w by_act_site)))
    of_text p j _ _ _ _ (choice u q s) = use_of_text (head u) _ _ (user u _ s) (begin_real true q (source u (ChoiceOf q) s))
