-- There are right answers for each thread, and what they show of a demand tells whether it holds.
use Rattle.std.proofs.Common.{◌≡◌, ℕ, ◌<◌, ◌≤◌, ◌⊎◌, inl, inr, arith, refl, sym, ap, subst, List, [], Bool, true, false}
use Rattle.std.specs.Prelude.{ℤ, ◌||◌, ◌&&◌}
use Rattle.std.proofs.lemmas.Bool.{cases_lt}
use Rattle.order_rules.specs.Lag.{Lag, Admits}
use Rattle.order_rules.proofs.Table.{decide}
use Rattle.core_term.specs.declared.rules.Rule.{Rule}
use Rattle.core_term.specs.Term.{Term, Act, Cycle, Set, Send, Recv, If, When, Block, Wait, Pure, Nothing, site, head}
use Rattle.core_term.specs.Numbering.{size, Numbered}
use Rattle.core_term.specs.Stands.{Stands}
use Rattle.core_term.specs.Acts.{HasAct, Sends}
use Rattle.core_term.specs.Process.{Process, life_of}
use Rattle.core_term.specs.Order.{Point, spot_site}
use Rattle.core_term.specs.Lives.{LastPrecedes}
use Rattle.core_term.specs.Graph.{Graph, IsGraphOf, Tables, IsOfText}
use Rattle.core_term.specs.Rules.{Claim, Order, Last, Either, Both, Holds, Demands, use_by, made, sets, receives, sends, sends_next, wire_within, wire_until, set_elsewhere, set_here, choice}
use Rattle.run_laws.proofs.graph_tables.OfText.{of_text, end_real}
use Rattle.run_laws.proofs.graph_tables.Told.{tables, order_told, last_told}
use Rattle.event_points.specs.Endings.{graph_of}
use Rattle.event_points.proofs.Endings.{graph_is}
use Rattle.act_deeds.specs.declared.deed.Deed.{Deed}
use Rattle.act_deeds.specs.declared.deed.Deed.TheVariants as deed
use Rattle.demand_checks.specs.Answers.{Answers, Decides, Tell, shows}
use Rattle.demand_checks.specs.Deeds.{AreDeeds, deed_at}
use Rattle.act_deeds.proofs.Deeds.{send_deed, deed_send}
use Rattle.demand_checks.proofs.Inside.{point_small}
use Rattle.demand_checks.proofs.Pointed.{decided_by}

-- an answer that is asked only below a bound
abbrev one_of : {A : Type 0} → A ⊎ (A → ⊥) → Bool
one_of (inl k) = true
one_of (inr k) = false

decides_one : (A : Type 0) (k : A ⊎ (A → ⊥)) → Decides (one_of k) A
decides_one A (inl k) = k
decides_one A (inr k) = k

abbrev below : {n m : ℕ} → (n < m) ⊎ (m ≤ n) → Bool → Bool
below (inl k) answer = answer
below (inr k) answer = false

below_yes : {n m : ℕ} (A : Type 0) (k : (n < m) ⊎ (m ≤ n)) (answer : Bool) → n < m → Decides answer A → Decides (below k answer) A
below_yes A (inl k) answer small decides = decides
below_yes A (inr k) answer small decides = absurd (omega (arith, k, small))

below_no : {n m : ℕ} (k : (n < m) ⊎ (m ≤ n)) (answer : Bool) → m ≤ n → below k answer ≡ false
below_no (inl k) answer large = absurd (omega (arith, k, large))
below_no (inr k) answer large = refl

below_false : {n m : ℕ} (k : (n < m) ⊎ (m ≤ n)) (answer : Bool) → answer ≡ false → below k answer ≡ false
below_false (inl k) answer is = is
below_false (inr k) answer is = refl

module _ (p : Process) (body : Term) (numbered : Numbered [] 0 body) (deeds : List Deed) (are : AreDeeds body deeds) where
  g : Graph
  g = graph_of p body

  graph : IsGraphOf p body (graph_of p body)
  graph = graph_is p body numbered

  t : Tables (graph_of p body)
  t = tables p body (graph_of p body) graph

  admitted : (lag : Lag) (d : ℤ) → Admits lag d ⊎ (Admits lag d → ⊥)
  admitted lag d = decide (graph_of p body).form (graph_of p body).apart graph.earlier lag d

  -- of the last cycle of what a deed sends
  abbrev last_by : Deed → ℕ → ℤ → Point → Bool
  last_by (deed.Sends m) s d b = one_of (admitted (t.end_lag s m ((graph_of p body).node b)) d)
  last_by (deed.Sets r) s d b = false
  last_by (deed.Receives m) s d b = false
  last_by deed.Decides s d b = false
  last_by deed.Other s d b = false

  answers : Answers
  answers = record {
    order = λ a d b. below (cases_lt (spot_site a.spot) (size body)) (below (cases_lt (spot_site b.spot) (size body)) (one_of (admitted (t.lag ((graph_of p body).node a) ((graph_of p body).node b)) d)));
    last = λ s d b. below (cases_lt (spot_site b.spot) (size body)) (last_by (deed_at deeds s) s d b);
  }

  no_deed : (one : Deed) (s : ℕ) (d : ℤ) (b : Point) → ((m : ℕ) → one ≡ deed.Sends m → ⊥) → last_by one s d b ≡ false
  no_deed (deed.Sends m) s d b none = absurd (none m refl)
  no_deed (deed.Sets r) s d b none = refl
  no_deed (deed.Receives m) s d b none = refl
  no_deed deed.Decides s d b none = refl
  no_deed deed.Other s d b none = refl

  tell : Tell p body answers
  unfolding answers
  tell = record {
    order = λ a d b of_a of_b.
        below_yes _ (cases_lt (spot_site a.spot) (size body)) _ (point_small body numbered a of_a)
        (below_yes _ (cases_lt (spot_site b.spot) (size body)) _ (point_small body numbered b of_b)
        (decided_by _ _ _ (order_told p body (graph_of p body) graph a b of_a of_b _ (t.lag_is ((graph_of p body).node a) ((graph_of p body).node b)) d) (decides_one _ (admitted _ d))));
    no_first = λ a d b large. below_no (cases_lt (spot_site a.spot) (size body)) _ large;
    no_second = λ a d b large. below_false (cases_lt (spot_site a.spot) (size body)) _ (below_no (cases_lt (spot_site b.spot) (size body)) _ large);
    last = λ s m has d b of_b.
        below_yes _ (cases_lt (spot_site b.spot) (size body)) _ (point_small body numbered b of_b)
        (subst (λ one. Decides (last_by one s d b) (LastPrecedes body (life_of p m) s d b)) (sym (send_deed body deeds are s m has))
        (decided_by _ _ _ (last_told p body (graph_of p body) graph s m b (end_real body false s (has.0, has.1, has.2, has.3)) of_b _ (t.end_lag_is s m ((graph_of p body).node b)) d) (decides_one _ (admitted _ d))));
    no_send = λ s none d b. below_false (cases_lt (spot_site b.spot) (size body)) _ (no_deed (deed_at deeds s) s d b (λ m is. none m (deed_send body deeds are numbered s m is)));
    no_last = λ s d b large. below_no (cases_lt (spot_site b.spot) (size body)) _ large;
  }

  pub right_answers : (answers : Answers) × Tell p body answers
  right_answers = (answers, tell)

-- A claim that asks for the last cycle of what is sent by acts that send.
abbrev Asks : Term → Claim → Type 0
Asks body (Order a d b) = Unit {0}
Asks body (Last s m d b) = HasAct body s (λ a. Sends a m)
Asks body (Either one other) = Asks body one × Asks body other
Asks body (Both one other) = Asks body one × Asks body other

asks_use : (body : Term) (scope : List Act) (u : Term) → Stands [] body scope u → (a : Act) → head u ≡ a → (d : ℤ) (b : Point) → Asks body (use_by a d b)
asks_use body scope u stands (Send q m e) is d b = (scope, u, stands, ap site is, subst (λ a. Sends a m) (sym is) refl)
asks_use body scope u stands (Set q r e) is d b = tt
asks_use body scope u stands (If q e t v w) is d b = tt
asks_use body scope u stands (When q e t) is d b = tt
asks_use body scope u stands (Cycle q n) is d b = tt
asks_use body scope u stands (Recv q m) is d b = tt
asks_use body scope u stands (Block q t) is d b = tt
asks_use body scope u stands (Wait q y) is d b = tt
asks_use body scope u stands (Pure q e) is d b = tt
asks_use body scope u stands (Nothing q) is d b = tt

asks : (p : Process) (j : ℕ) (body : Term) (rule : Rule) (first second : ℕ) (claim : Claim) → Demands p j body rule first second claim → Asks body claim
asks p j body _ _ _ _ (made scope u y stands reads) = tt
asks p j body _ _ _ _ (sets q r register one other less) = (tt, tt)
asks p j body _ _ _ _ (receives q r m one other less) = (tt, tt)
asks p j body _ _ _ _ (sends q r m one other less) = (one, other)
asks p j body _ _ _ _ (sends_next q r m one other) = one
asks p j body _ _ _ _ (wire_within u q m k rests received has) = asks_use body rests.scope u rests.stands (head u) refl _ _
asks p j body _ _ _ _ (wire_until u q m n w rests received has on) =
    (asks_use body rests.scope u rests.stands (head u) refl _ _, ((tt, asks_use body rests.scope u rests.stands (head u) refl _ _), asks_use body rests.scope u rests.stands (head u) refl _ _))
asks p j body _ _ _ _ (set_elsewhere u q r i w other rests is differs written) = asks_use body rests.scope u rests.stands (head u) refl _ _
asks p j body _ _ _ _ (set_here u q r w rests written) =
    (asks_use body rests.scope u rests.stands (head u) refl _ _, ((tt, asks_use body rests.scope u rests.stands (head u) refl _ _), asks_use body rests.scope u rests.stands (head u) refl _ _))
asks p j body _ _ _ _ (choice u q rests) = asks_use body rests.scope u rests.stands (head u) refl _ _

either : (A B : Type 0) (one other : Bool) → Decides one A → Decides other B → Decides (one || other) (A ⊎ B)
either A B true other k l = inl k
either A B false true k l = inr l
either A B false false k l = λ h. elim h [ inl a ↦ k a | inr b ↦ l b ]

both : (A B : Type 0) (one other : Bool) → Decides one A → Decides other B → Decides (one && other) (A × B)
both A B true true k l = (k, l)
both A B true false k l = λ h. l h.1
both A B false other k l = λ h. k h.0

module _ (p : Process) (body : Term) (answers : Answers) (tell : Tell p body answers) where
  shown : (claim : Claim) → IsOfText body claim → Asks body claim → Decides (shows answers claim) (Holds p body claim)
  shown (Order a d b) of_text asked = tell.order a d b of_text.0 of_text.1
  shown (Last s m d b) of_text asked = tell.last s m asked d b of_text.1
  shown (Either one other) of_text asked = either (Holds p body one) (Holds p body other) (shows answers one) (shows answers other) (shown one of_text.0 asked.0) (shown other of_text.1 asked.1)
  shown (Both one other) of_text asked = both (Holds p body one) (Holds p body other) (shows answers one) (shows answers other) (shown one of_text.0 asked.0) (shown other of_text.1 asked.1)

  pub demand_shown : (j : ℕ) → Numbered [] 0 body → (rule : Rule) (first second : ℕ) (claim : Claim) → Demands p j body rule first second claim → Decides (shows answers claim) (Holds p body claim)
  demand_shown j numbered rule first second claim demanded = shown claim (of_text body numbered p j rule first second claim demanded) (asks p j body rule first second claim demanded)
