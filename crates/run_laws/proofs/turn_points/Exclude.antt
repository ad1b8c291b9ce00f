-- Of two points on different sides of one `if` at most one occurs: where the one occurs, the other is lost.
--
-- By induction over the place of the `if`. The hard case is that the `if` itself has to have begun, which holds since a point
-- inside one of its sides occurs.
use Rattle.std.proofs.Common.{◌≡◌, ℕ, ◌+◌, ◌<◌, ◌≤◌, ◌⊎◌, inl, inr, arith, sym, ◌∙◌, ap, List, ◌∷◌, Bool, true, false, if◌then◌else◌}
use Rattle.core_term.specs.Term.{Expr, Term, One, Then, Both, Act, Cycle, Set, Send, Recv, If, When, Block, Wait, Pure, Nothing, site, head}
use Rattle.core_term.specs.Value.{Outcome}
use Rattle.core_term.specs.Inputs.{Inputs}
use Rattle.core_term.specs.Ends.{Sees, bind, act_ends}
use Rattle.core_term.specs.Fate.{Fate, Lost, fate, inside}
use Rattle.core_term.specs.Points.{Spot, NoSide}
use Rattle.core_term.specs.Occurs.{Gone, At, begin_at, occurrence}
use Rattle.core_term.specs.Numbering.{size, act_size, Numbered, NumberedAct}
use Rattle.core_term.specs.Order.{spot_site, IsIn, Apart, ApartIn}
use Rattle.run_laws.proofs.turn_points.Idle.{Idle, idle_not, gone as idle_gone}
use Rattle.core_term.proofs.code_tables.FirstSites.{head_site}
use Rattle.run_laws.proofs.turn_points.Live.{Agrees, Live, live_head}
use Rattle.run_laws.proofs.turn_points.Parts.{Part, none, some, one_inner, then_inner, both_inner, both_rest, then_rest, if_yes, if_no, if_yes_is, if_no_is, when_yes, block_in, none_at, runs_here}

abbrev In : ℕ → ℕ → Spot → Type 0
In low n c = (low ≤ spot_site c) × (spot_site c < low + n)

mutual
  pub apart_in : (vs : List Act) (low : ℕ) (t : Term) (b c : Spot) → Numbered vs low t → Apart t b c → In low (size t) c
  apart_in vs low (One a) b c n k = apart_act_in vs low a b c n k
  apart_in vs low (Then a t) b c n (inl k) = let by_apart_act_in = apart_act_in vs low a b c n.0 k in (omega arith, omega arith)
  apart_in vs low (Then a t) b c n (inr k) = let by_apart_in = apart_in (a ∷ vs) (low + act_size a) t b c n.1 k in (omega arith, omega arith)
  apart_in vs low (Both a t) b c n (inl k) = let next_by_apart_act_in = apart_act_in vs low a b c n.0 k in (omega arith, omega arith)
  apart_in vs low (Both a t) b c n (inr k) = let next_by_apart_in = apart_in (a ∷ vs) (low + act_size a) t b c n.1 k in (omega arith, omega arith)

  pub apart_act_in : (vs : List Act) (low : ℕ) (a : Act) (b c : Spot) → NumberedAct vs low a → ApartIn a b c → In low (act_size a) c
  apart_act_in vs low (If p e t u w) b c n (inl (inl k)) = let equal : site (head u) ≡ low + (1 + size t) = head_site _ _ u n.2 in let part = k.1 in (omega arith, omega arith)
  apart_act_in vs low (If p e t u w) b c n (inl (inr k)) = let next_equal : site (head t) ≡ low + 1 = head_site _ _ t n.1 in let next_part = k.1 in (omega arith, omega arith)
  apart_act_in vs low (If p e t u w) b c n (inr (inl k)) = let last_by_apart_in = apart_in vs (low + 1) t b c n.1 k in (omega arith, omega arith)
  apart_act_in vs low (If p e t u w) b c n (inr (inr k)) = let other_by_apart_in = apart_in vs (low + (1 + size t)) u b c n.2 k in (omega arith, omega arith)
  apart_act_in vs low (When p e t) b c n (inl (inl k)) = let last_equal : spot_site c ≡ p = ap spot_site k.1 in let other_equal : p ≡ low = n.0 in (omega arith, omega arith)
  apart_act_in vs low (When p e t) b c n (inl (inr k)) = let more_equal : site (head t) ≡ low + 1 = head_site _ _ t n.1 in let last_part = k.1 in (omega arith, omega arith)
  apart_act_in vs low (When p e t) b c n (inr k) = let by_apart_in = apart_in vs (low + 1) t b c n.1 k in (omega arith, omega arith)
  apart_act_in vs low (Block p t) b c n k = let more_by_apart_in = apart_in vs (low + 1) t b c n.1 k in (omega arith, omega arith)
  apart_act_in vs low (Cycle p m) b c n k = elim k [ ]
  apart_act_in vs low (Set p r e) b c n k = elim k [ ]
  apart_act_in vs low (Send p m e) b c n k = elim k [ ]
  apart_act_in vs low (Recv p m) b c n k = elim k [ ]
  apart_act_in vs low (Wait p y) b c n k = elim k [ ]
  apart_act_in vs low (Pure p e) b c n k = elim k [ ]
  apart_act_in vs low (Nothing p) b c n k = elim k [ ]

module _ (inputs : Inputs) (view : Sees) (run : ℕ → Fate) (b c : Spot) (u : ℕ) (at_c : occurrence inputs view run c ≡ At u) where
  -- c does not lie in a part of which nothing runs
  never : {A : Type 0} (t : Term) (at : ℕ) (w : Fate) → Idle (begin_at w) → Agrees run (λ q. w) at (at + size t) → In at (size t) c → A
  never t at w i g k = absurd (idle_not i (sym (none_at inputs view run t at w i g c k.0 k.1) ∙ at_c))

  of_part : (vs : List Act) (at : ℕ) (t : Term) → Numbered vs at t → Apart t b c → Part inputs view run t at → ((scope : ℕ → Outcome) (s : ℕ) → Agrees run (fate inputs view scope s t) at (at + size t) → occurrence inputs view run b ≡ Gone) → occurrence inputs view run b ≡ Gone
  of_part vs at t n k (none w i g) f = never t at w i g (apart_in vs at t b c n k)
  of_part vs at t n k (some scope s g) f = f scope s g

  sides : (vs : List Act) (low : ℕ) (scope : ℕ → Outcome) (s p : ℕ) (e : Expr) (t f : Term) (w : Bool) → NumberedAct vs low (If p e t f w) → Agrees run (inside inputs view scope s (If p e t f w)) (low + 1) (low + act_size (If p e t f w)) → (IsIn t b × IsIn f c) ⊎ (IsIn f b × IsIn t c) → occurrence inputs view run b ≡ Gone
  sides vs low scope s p e t f w n g k = go (view.decide p s scope e) (if_yes_is inputs view run vs low scope s p e t f w n g) (if_no_is inputs view run vs low scope s p e t f w n g) k
    where
      go : (v : Bool) → ((q : ℕ) → low + 1 ≤ q → q < low + 1 + size t → run q ≡ (if v then fate inputs view scope s t q else Lost)) → ((q : ℕ) → low + (1 + size t) ≤ q → q < low + (1 + size t) + size f → run q ≡ (if v then Lost else fate inputs view scope s f q))
          → (IsIn t b × IsIn f c) ⊎ (IsIn f b × IsIn t c) → occurrence inputs view run b ≡ Gone
      go true y z (inl i) = let equal : site (head f) ≡ low + (1 + size t) = head_site _ _ f n.2 in never f (low + (1 + size t)) Lost idle_gone (record { each = z }) (rw (← equal) i.1)
      go true y z (inr i) = let next_equal : site (head f) ≡ low + (1 + size t) = head_site _ _ f n.2 in let part = i.0 in none_at inputs view run f (low + (1 + size t)) Lost idle_gone (record { each = z }) b (omega arith) (omega arith)
      go false y z (inl i) = let last_equal : site (head t) ≡ low + 1 = head_site _ _ t n.1 in let next_part = i.0 in none_at inputs view run t (low + 1) Lost idle_gone (record { each = y }) b (omega arith) (omega arith)
      go false y z (inr i) = let other_equal : site (head t) ≡ low + 1 = head_site _ _ t n.1 in never t (low + 1) Lost idle_gone (record { each = y }) (rw (← other_equal) i.1)

  when_sides : (vs : List Act) (low : ℕ) (scope : ℕ → Outcome) (s p : ℕ) (e : Expr) (t : Term) → NumberedAct vs low (When p e t) → Agrees run (inside inputs view scope s (When p e t)) (low + 1) (low + act_size (When p e t)) → Live inputs view run scope s (When p e t) low → (IsIn t b × (c ≡ NoSide p)) ⊎ ((b ≡ NoSide p) × IsIn t c) → occurrence inputs view run b ≡ Gone
  when_sides vs low scope s p e t n g l k = go (view.decide p s scope e) (λ q i j. g.each q (omega arith) (omega arith)) l.no k
    where
      go : (v : Bool) → ((q : ℕ) → low + 1 ≤ q → q < low + 1 + size t → run q ≡ (if v then fate inputs view scope s t q else Lost)) → occurrence inputs view run (NoSide low) ≡ (if v then Gone else At s) → (IsIn t b × (c ≡ NoSide p)) ⊎ ((b ≡ NoSide p) × IsIn t c) → occurrence inputs view run b ≡ Gone
      go true y z (inl i) =
          let more_equal : occurrence inputs view run (NoSide low) ≡ At u = rw (← n.0) (rw i.1 at at_c) in
          let equal : Gone ≡ At u = sym z ∙ more_equal in absurd (idle_not idle_gone equal)
      go true y z (inr i) = rw (i.0, n.0) z
      go false y z (inl i) = let next_equal : site (head t) ≡ low + 1 = head_site _ _ t n.1 in let part = i.0 in none_at inputs view run t (low + 1) Lost idle_gone (record { each = y }) b (omega arith) (omega arith)
      go false y z (inr i) = let last_equal : site (head t) ≡ low + 1 = head_site _ _ t n.1 in never t (low + 1) Lost idle_gone (record { each = y }) (rw (← last_equal) i.1)

  mutual
    pub apart : (vs : List Act) (low : ℕ) (scope : ℕ → Outcome) (s : ℕ) (t : Term) → Numbered vs low t → Agrees run (fate inputs view scope s t) low (low + size t) → Apart t b c → occurrence inputs view run b ≡ Gone
    apart vs low scope s (One a) n g k =
        apart_act vs low scope s a n (one_inner inputs view run vs low scope s a n g) (live_head inputs view run scope s low (One a) (runs_here inputs view run vs low scope s (One a) n g)) k
    apart vs low scope s (Then a t) n g (inl k) =
        apart_act vs low scope s a n.0 (then_inner inputs view run vs low scope s a t n g) (live_head inputs view run scope s low (Then a t) (runs_here inputs view run vs low scope s (Then a t) n g)) k
    apart vs low scope s (Then a t) n g (inr k) =
        of_part (a ∷ vs) (low + act_size a) t n.1 k (then_rest inputs view run vs low scope s a t n g) (λ scope' s' g'. apart (a ∷ vs) (low + act_size a) scope' s' t n.1 g' k)
    apart vs low scope s (Both a t) n g (inl k) =
        apart_act vs low scope s a n.0 (both_inner inputs view run vs low scope s a t n g) (live_head inputs view run scope s low (Both a t) (runs_here inputs view run vs low scope s (Both a t) n g)) k
    apart vs low scope s (Both a t) n g (inr k) =
        apart (a ∷ vs) (low + act_size a) (bind scope (site a) (act_ends inputs view scope s a)) s t n.1 (both_rest inputs view run vs low scope s a t n g) k

    pub apart_act : (vs : List Act) (low : ℕ) (scope : ℕ → Outcome) (s : ℕ) (a : Act) → NumberedAct vs low a → Agrees run (inside inputs view scope s a) (low + 1) (low + act_size a) → Live inputs view run scope s a low → ApartIn a b c → occurrence inputs view run b ≡ Gone
    apart_act vs low scope s (If p e t f w) n g l (inl k) = sides vs low scope s p e t f w n g k
    apart_act vs low scope s (If p e t f w) n g l (inr (inl k)) = of_part vs (low + 1) t n.1 k (if_yes inputs view run vs low scope s p e t f w n g) (λ scope' s' g'. apart vs (low + 1) scope' s' t n.1 g' k)
    apart_act vs low scope s (If p e t f w) n g l (inr (inr k)) = of_part vs (low + (1 + size t)) f n.2 k (if_no inputs view run vs low scope s p e t f w n g) (λ scope' s' g'. apart vs (low + (1 + size t)) scope' s' f n.2 g' k)
    apart_act vs low scope s (When p e t) n g l (inl k) = when_sides vs low scope s p e t n g l k
    apart_act vs low scope s (When p e t) n g l (inr k) = of_part vs (low + 1) t n.1 k (when_yes inputs view run low scope s p e t g) (λ scope' s' g'. apart vs (low + 1) scope' s' t n.1 g' k)
    apart_act vs low scope s (Block p t) n g l k = apart vs (low + 1) scope s t n.1 (block_in inputs view run low scope s p t g) k
    apart_act vs low scope s (Cycle p m) n g l k = elim k [ ]
    apart_act vs low scope s (Set p r e) n g l k = elim k [ ]
    apart_act vs low scope s (Send p m e) n g l k = elim k [ ]
    apart_act vs low scope s (Recv p m) n g l k = elim k [ ]
    apart_act vs low scope s (Wait p y) n g l k = elim k [ ]
    apart_act vs low scope s (Pure p e) n g l k = elim k [ ]
    apart_act vs low scope s (Nothing p) n g l k = elim k [ ]
