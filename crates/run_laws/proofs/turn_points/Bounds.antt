-- Nothing runs outside the sites of a term, and what a value rests on stands before it in the text.
--
-- So each decision that a value rests on is of a smaller site than the act that uses it; the agreement goes up the sites of a
-- cycle.
use Rattle.std.proofs.Common.{◌≡◌, ℕ, ◌+◌, ◌<◌, ◌≤◌, ◌⊎◌, inl, inr, arith, refl, List, [], ◌∷◌, ◌++◌, Bool, true, false, if◌then◌else◌, ◌==◌, nat_lt}
use Rattle.core_term.specs.Term.{Expr, Lit, Var, Reg, Not, Bin, Slice, Choose, Term, One, Then, Both, Act, Cycle, Set, Send, Recv, If, When, Block, Wait, Pure, Nothing, site, head}
use Rattle.core_term.specs.Value.{Value, Outcome, Open, Done}
use Rattle.core_term.specs.Inputs.{Inputs}
use Rattle.core_term.specs.Ends.{Sees, bind, act_ends}
use Rattle.core_term.specs.Fate.{Fate, Waits, Lost, Runs, fate, inside, once}
use Rattle.core_term.specs.Numbering.{size, act_size, Numbered, NumberedAct}
use Rattle.core_term.specs.Sources.{Source, WireOf, RegOf, ChoiceOf, bind_sources, expr_sources, sources, act_sources, sources_in}
use Rattle.core_term.specs.Lists.{Has}
use Rattle.core_term.specs.Stands.{Stands, StandsIn, here, in_one, in_then, after_then, in_both, after_both, in_yes, in_no, in_when, in_block}
use Rattle.core_term.proofs.code_tables.FirstSites.{head_site, act_site, act_size_positive}
use Rattle.run_laws.proofs.turn_points.Live.{pick_ge, pick_ne}

abbrev pub NotRuns : Fate → Type 0
NotRuns Waits = Unit {0}
NotRuns Lost = Unit {0}
NotRuns (Runs scope s t) = ⊥

either : (b : Bool) (w v : Fate) → NotRuns w → NotRuns v → NotRuns (if b then w else v)
either true w v k l = k
either false w v k l = l

module _ (inputs : Inputs) (view : Sees) where
  once_out : (r : Outcome) (k : ℕ → Value → Fate) → ((c : ℕ) (v : Value) → NotRuns (k c v)) → NotRuns (once inputs r k)
  once_out Open k f = tt
  once_out (Done c v) k f = either (nat_lt c inputs.count) _ _ (f c v) tt

  mutual
    pub out : (vs : List Act) (low : ℕ) (scope : ℕ → Outcome) (s : ℕ) (t : Term) (q : ℕ) → Numbered vs low t → low + size t ≤ q → NotRuns (fate inputs view scope s t q)
    out vs low scope s (One a) q n l =
        let is_less : 0 < act_size a = act_size_positive a in
        let equal : site a ≡ low = act_site vs low a n in
        rw (pick_ne q (site a) (Runs scope s (One a)) (inside inputs view scope s a q) (λ e. omega arith)) (act_out vs low scope s a q n l)
    out vs low scope s (Then a t) q n l =
        let next_is_less : 0 < act_size a = act_size_positive a in
        let next_equal : site (head t) ≡ low + act_size a = head_site _ _ t n.1 in
        rw (pick_ge q (site (head t)) (if q == site a then Runs scope s (Then a t) else inside inputs view scope s a q) (once inputs (act_ends inputs view scope s a) (λ c v. fate inputs view (bind scope (site a) (Done c v)) c t q)) (omega arith))
        (once_out (act_ends inputs view scope s a) _ (λ c v. out (a ∷ vs) (low + act_size a) (bind scope (site a) (Done c v)) c t q n.1 (omega arith)))
    out vs low scope s (Both a t) q n l =
        let last_is_less : 0 < act_size a = act_size_positive a in
        let last_equal : site (head t) ≡ low + act_size a = head_site _ _ t n.1 in
        rw (pick_ge q (site (head t)) (if q == site a then Runs scope s (Both a t) else inside inputs view scope s a q) (fate inputs view (bind scope (site a) (act_ends inputs view scope s a)) s t q) (omega arith))
        (out (a ∷ vs) (low + act_size a) (bind scope (site a) (act_ends inputs view scope s a)) s t q n.1 (omega arith))

    pub act_out : (vs : List Act) (low : ℕ) (scope : ℕ → Outcome) (s : ℕ) (a : Act) (q : ℕ) → NumberedAct vs low a → low + act_size a ≤ q → NotRuns (inside inputs view scope s a q)
    act_out vs low scope s (If p e t u w) q n l =
        let equal : site (head u) ≡ low + (1 + size t) = head_site _ _ u n.2 in
        rw (pick_ge q (site (head u)) (if view.decide p s scope e then fate inputs view scope s t q else Lost) (if view.decide p s scope e then Lost else fate inputs view scope s u q) (omega arith))
        (either (view.decide p s scope e) _ _ tt (out vs (low + (1 + size t)) scope s u q n.2 (omega arith)))
    act_out vs low scope s (When p e t) q n l = either (view.decide p s scope e) _ _ (out vs (low + 1) scope s t q n.1 (omega arith)) tt
    act_out vs low scope s (Block p t) q n l = out vs (low + 1) scope s t q n.1 (omega arith)
    act_out vs low scope s (Cycle p m) q n l = tt
    act_out vs low scope s (Set p r e) q n l = tt
    act_out vs low scope s (Send p m e) q n l = tt
    act_out vs low scope s (Recv p m) q n l = tt
    act_out vs low scope s (Wait p y) q n l = tt
    act_out vs low scope s (Pure p e) q n l = tt
    act_out vs low scope s (Nothing p) q n l = tt

abbrev pub source_site : Source → ℕ
source_site (WireOf p) = p
source_site (RegOf p r) = p
source_site (ChoiceOf p) = p

-- the sources stand before n
pub record Below (n : ℕ) (from_sources : List Source) : Type 0 where
  pub each : (b : Source) → Has from_sources b → source_site b < n

pub below_none : (n : ℕ) → Below n []
below_none n = record { each = λ b k. elim k [ ] }

below_up : {n : ℕ} {from_sources : List Source} (m : ℕ) → n ≤ m → Below n from_sources → Below m from_sources
below_up m l k = record { each = λ b i. let by_each = k.each b i in omega arith }

below_append : (n : ℕ) (from_sources rest : List Source) → Below n from_sources → Below n rest → Below n (from_sources ++ rest)
below_append n [] rest k l = l
below_append n (s ∷ from_sources) rest k l = cons s (from_sources ++ rest) (k.each s (inl refl)) (below_append n from_sources rest (record { each = λ b i. k.each b (inr i) }) l)
  where
    cons : (s : Source) (by_now : List Source) → source_site s < n → Below n by_now → Below n (s ∷ by_now)
    cons s by_now l m = record { each = go }
      where
        go : (b : Source) → Has (s ∷ by_now) b → source_site b < n
        go b (inl e) = rw e l
        go b (inr i) = m.each b i

below_one : (n : ℕ) (s : Source) → source_site s < n → Below n (s ∷ [])
below_one n s l = record { each = go }
  where
    go : (b : Source) → Has (s ∷ []) b → source_site b < n
    go b (inl e) = rw e l
    go b (inr i) = elim i [ ]

-- each variable's sources stand before n
abbrev pub AllBelow : ℕ → (ℕ → List Source) → Type 0
AllBelow n known_sources = (y : ℕ) → Below n (known_sources y)

bind_below : (n m p : ℕ) (known_sources : ℕ → List Source) (from_sources : List Source) → n ≤ m → AllBelow n known_sources → Below m from_sources → AllBelow m (bind_sources known_sources p from_sources)
bind_below n m p known_sources from_sources l k b y = go (y == p)
  where
    go : (c : Bool) → Below m (if c then from_sources else known_sources y)
    go true = b
    go false = below_up m l (k y)

pub expr_below : (n p : ℕ) (known_sources : ℕ → List Source) (e : Expr) → p < n → AllBelow n known_sources → Below n (expr_sources p known_sources e)
expr_below n p known_sources (Lit w v) l k = below_none n
expr_below n p known_sources (Var y) l k = k y
expr_below n p known_sources (Reg r) l k = below_one n (RegOf p r) l
expr_below n p known_sources (Not w e) l k = expr_below n p known_sources e l k
expr_below n p known_sources (Bin o w v a b) l k = below_append n _ _ (expr_below n p known_sources a l k) (expr_below n p known_sources b l k)
expr_below n p known_sources (Slice y high low) l k = k y
expr_below n p known_sources (Choose c a b) l k = below_append n _ _ (expr_below n p known_sources c l k) (below_append n _ _ (expr_below n p known_sources a l k) (expr_below n p known_sources b l k))

has_split : {A : Type 0} (these those : List A) (a : A) → Has (these ++ those) a → Has these a ⊎ Has those a
has_split [] those a k = inr k
has_split (c ∷ these) those a (inl e) = inl (inl e)
has_split (c ∷ these) those a (inr k) = elim (has_split these those a k) [ inl m ↦ inl (inr m) | inr m ↦ inr m ]

-- a decision that an expression rests on stands before it
pub choice_below : (n p q : ℕ) (known_sources : ℕ → List Source) (e : Expr) → AllBelow n known_sources → Has (expr_sources p known_sources e) (ChoiceOf q) → q < n
choice_below n p q known_sources (Lit w v) k i = elim i [ ]
choice_below n p q known_sources (Var y) k i = (k y).each (ChoiceOf q) i
choice_below n p q known_sources (Reg r) k (inl e) = absurd cc
choice_below n p q known_sources (Reg r) k (inr i) = elim i [ ]
choice_below n p q known_sources (Not w e) k i = choice_below n p q known_sources e k i
choice_below n p q known_sources (Bin o w v a b) k i = elim (has_split (expr_sources p known_sources a) _ (ChoiceOf q) i) [ inl j ↦ choice_below n p q known_sources a k j | inr j ↦ choice_below n p q known_sources b k j ]
choice_below n p q known_sources (Slice y high low) k i = (k y).each (ChoiceOf q) i
choice_below n p q known_sources (Choose c a b) k i =
    elim (has_split (expr_sources p known_sources c) _ (ChoiceOf q) i) [
      | inl j ↦ choice_below n p q known_sources c k j
      | inr j ↦ elim (has_split (expr_sources p known_sources a) _ (ChoiceOf q) j) [ inl m ↦ choice_below n p q known_sources a k m | inr m ↦ choice_below n p q known_sources b k m ]
    ]

mutual
  pub below : (vs : List Act) (low : ℕ) (known_sources : ℕ → List Source) (t : Term) → Numbered vs low t → AllBelow low known_sources → Below (low + size t) (sources known_sources t)
  below vs low known_sources (One a) n k = act_below vs low known_sources a n k
  below vs low known_sources (Then a t) n k =
      below_up (low + size (Then a t)) (omega arith) (below (a ∷ vs) (low + act_size a) _ t n.1 (bind_below low (low + act_size a) (site a) known_sources _ (omega arith) k (act_below vs low known_sources a n.0 k)))
  below vs low known_sources (Both a t) n k =
      below_up (low + size (Both a t)) (omega arith) (below (a ∷ vs) (low + act_size a) _ t n.1 (bind_below low (low + act_size a) (site a) known_sources _ (omega arith) k (act_below vs low known_sources a n.0 k)))

  pub act_below : (vs : List Act) (low : ℕ) (known_sources : ℕ → List Source) (a : Act) → NumberedAct vs low a → AllBelow low known_sources → Below (low + act_size a) (act_sources known_sources a)
  act_below vs low known_sources (Recv p m) n k = let equal : p ≡ low = n in below_one (low + 1) (WireOf p) (omega arith)
  act_below vs low known_sources (If p e t u true) n k =
      let next_equal : p ≡ low = n.0 in
      below_append (low + (1 + (size t + size u))) (ChoiceOf p ∷ []) (sources known_sources t ++ sources known_sources u) (below_one _ (ChoiceOf p) (omega arith))
      (below_append _ (sources known_sources t) (sources known_sources u)
      (below_up _ (omega arith) (below vs (low + 1) known_sources t n.1 (λ y. below_up (low + 1) (omega arith) (k y))))
      (below_up _ (omega arith) (below vs (low + (1 + size t)) known_sources u n.2 (λ y. below_up (low + (1 + size t)) (omega arith) (k y)))))
  act_below vs low known_sources (If p e t u false) n k = below_none _
  act_below vs low known_sources (Block p t) n k = below_up (low + (1 + size t)) (omega arith) (below vs (low + 1) known_sources t n.1 (λ y. below_up (low + 1) (omega arith) (k y)))
  act_below vs low known_sources (Wait p y) n k = below_up (low + 1) (omega arith) (k y)
  act_below vs low known_sources (Pure p e) n k = let last_equal : p ≡ low = n.0 in expr_below (low + 1) p known_sources e (omega arith) (λ y. below_up (low + 1) (omega arith) (k y))
  act_below vs low known_sources (Cycle p m) n k = below_none _
  act_below vs low known_sources (Set p r e) n k = below_none _
  act_below vs low known_sources (Send p m e) n k = below_none _
  act_below vs low known_sources (When p e t) n k = below_none _
  act_below vs low known_sources (Nothing p) n k = below_none _

-- where a term stands, the sources of its scope stand before it
mutual
  pub scope_below : {vs ws : List Act} {t u : Term} → Stands vs t ws u → (low : ℕ) → Numbered vs low t → AllBelow low (sources_in vs) → AllBelow (site (head u)) (sources_in ws)
  scope_below {vs = vs} {t = t} here low n k = rw (head_site vs low t n) k
  scope_below (in_one s) low n k = scope_below_in s low n k
  scope_below (in_then s) low n k = scope_below_in s low n.0 k
  scope_below (in_both s) low n k = scope_below_in s low n.0 k
  scope_below {vs = vs} (after_then {a = a} s) low n k =
      scope_below s (low + act_size a) n.1 (bind_below low (low + act_size a) (site a) (sources_in vs) _ (omega arith) k (act_below vs low (sources_in vs) a n.0 k))
  scope_below {vs = vs} (after_both {a = a} s) low n k =
      scope_below s (low + act_size a) n.1 (bind_below low (low + act_size a) (site a) (sources_in vs) _ (omega arith) k (act_below vs low (sources_in vs) a n.0 k))

  pub scope_below_in : {vs ws : List Act} {a : Act} {u : Term} → StandsIn vs a ws u → (low : ℕ) → NumberedAct vs low a → AllBelow low (sources_in vs) → AllBelow (site (head u)) (sources_in ws)
  scope_below_in (in_yes s) low n k = scope_below s (low + 1) n.1 (λ y. below_up (low + 1) (omega arith) (k y))
  scope_below_in (in_no {t = t} s) low n k = scope_below s (low + (1 + size t)) n.2 (λ y. below_up (low + (1 + size t)) (omega arith) (k y))
  scope_below_in (in_when s) low n k = scope_below s (low + 1) n.1 (λ y. below_up (low + 1) (omega arith) (k y))
  scope_below_in (in_block s) low n k = scope_below s (low + 1) n.1 (λ y. below_up (low + 1) (omega arith) (k y))
