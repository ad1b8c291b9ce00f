-- Each node of the graph of one turn but the first is that of a point that has a node of its own, which has its form and its arms.
--
-- By induction over the term: its own points stand in the order of their nodes.
use Rattle.std.proofs.Common.{◌≡◌, ℕ, zero, suc, ◌+◌, ◌<◌, ◌≤◌, inl, inr, arith, refl, sym, ◌∙◌, ap, subst, true, false, List, [], ◌∷◌, ◌++◌, length, slice_get, Option, Some, None}
use Rattle.order_rules.specs.Form.{Form, Start, Join, Side, Merge}
use Rattle.core_term.specs.Term.{Term, One, Then, Both, Act, Cycle, Set, Send, Recv, If, When, Block, Wait, Pure, Nothing, site}
use Rattle.core_term.specs.Numbering.{Numbered}
use Rattle.core_term.specs.Points.{Spot, TermEnd, Begin, End, NoSide, Formed, ◌is◌, forms, act_forms}
use Rattle.core_term.specs.Order.{IsFormed}
use Rattle.run_laws.proofs.graph_tables.OfText.{in_left, in_right}
use Rattle.event_graph.specs.declared.node.Arm.{Arm}
use Rattle.event_graph.specs.Forms.{form_at, form_in}
use Rattle.event_points.specs.Owned.{begin_of, end_of, owned, owned_of, count, count_of, drawn, drawn_all}
use Rattle.event_points.specs.Placed.{Placed, PlacedAct}
use Rattle.event_points.specs.Table.{node_in, arms_in}
use Rattle.event_points.specs.Nodes.{once, first_table}
use Rattle.event_points.proofs.Steps.{Owns, length_owned, length_owned_of}
use Rattle.event_points.proofs.Reading.{length_drawn}
use Rattle.event_points.proofs.OneTurn.{drawn_form}
use Rattle.event_points.proofs.InTable.{body_told}
use Rattle.event_points.proofs.Once.{begin_node, formed_inside}
use Rattle.turn_machine.specs.OneTurn.{turn_points, drawn_point, is_some}
use Rattle.turn_machine.proofs.DrawnPoints.{is_drawn, is_found}
use Rattle.turn_nodes.specs.Laws.{graph_of}

module _ (node : Spot → ℕ) (whole : List Formed) where
  -- the point has this node, and stands among all with its form
  abbrev pub HasNode : ℕ → Formed → Type 0
  HasNode n g = (node g.spot ≡ n) × IsFormed whole g.spot g.form

  abbrev IsPart : List Formed → Type 0
  IsPart gs = (b : Spot) (f : Form Spot) → IsFormed gs b f → IsFormed whole b f

  owns_at : (n m : ℕ) (gs : List Formed) → n ≡ m → Owns node HasNode n gs → Owns node HasNode m gs
  owns_at n m gs same owns = let P : ℕ → Type 0 = λ z. Owns node HasNode z gs in subst P same owns

  owns_append : (n m : ℕ) (gs hs : List Formed) → n + length gs ≡ m → Owns node HasNode n gs → Owns node HasNode m hs → Owns node HasNode n (gs ++ hs)
  owns_append n m [] hs count owns more = owns_at m n hs (omega arith) more
  owns_append n m (g ∷ gs) hs count owns more = (owns.0, owns_append (suc n) m gs hs (omega arith) owns.1 more)

  mutual
    pub numbers : (from : ℕ) (t : Term) → Placed node from t → IsPart (forms t) → Owns node HasNode from (owned t)
    numbers from (One a) p i = act_numbers from a p.2 (λ b f k. i b f (inr (inr k)))
    numbers from (Then a t) p i =
        let few = length_owned_of a in
        owns_append from (from + count_of a) (owned_of a) (owned t) (omega arith)
        (act_numbers from a p.3 (λ b f k. i b f (inr (inr (inr (in_left (act_forms a) (forms t) b f k))))))
        (numbers (from + count_of a) t p.4 (λ b f k. i b f (inr (inr (inr (in_right (act_forms a) (forms t) b f k))))))
    numbers from (Both a t) p i =
        let last : List Formed = (TermEnd (site a) is Join (End (site a)) (end_of t)) ∷ [] in
        let few = length_owned_of a in
        let more = length_owned t in
        owns_append from (from + count_of a) (owned_of a) (owned t ++ last) (omega arith)
        (act_numbers from a p.3 (λ b f k. i b f (inr (inr (inr (in_left (act_forms a) (forms t) b f k))))))
        (owns_append (from + count_of a) (from + count_of a + count t) (owned t) last (omega arith)
        (numbers (from + count_of a) t p.4 (λ b f k. i b f (inr (inr (inr (in_right (act_forms a) (forms t) b f k))))))
        ((p.2, i _ _ (inr (inr (inl refl)))), tt))

    act_numbers : (from : ℕ) (a : Act) → PlacedAct node from a → IsPart (act_forms a) → Owns node HasNode from (owned_of a)
    act_numbers from (Cycle p n) k i = ((k, i _ _ (inl refl)), tt)
    act_numbers from (Set p r e) k i = ((k, i _ _ (inl refl)), tt)
    act_numbers from (Send p m e) k i = ((k, i _ _ (inl refl)), tt)
    act_numbers from (Recv p m) k i = ((k, i _ _ (inl refl)), tt)
    act_numbers from (If p e t u w) k i =
        let last : List Formed = (End p is Merge (end_of t) (end_of u)) ∷ [] in
        let rest : List Formed = (begin_of u is Side (Begin p)) ∷ owned u ++ last in
        let few = length_owned t in
        let more = length_owned u in (
          (k.0, i _ _ (inl refl)),
          owns_append (suc from) (from + 1 + count t) (owned t) rest (omega arith)
              (owns_at (from + 1) (suc from) (owned t) (omega arith) (numbers (from + 1) t k.1 (λ b f j. i b f (inr (inr (inr (in_left (forms t) (forms u) b f j))))))) (
                (k.2, i _ _ (inr (inl refl))),
                owns_append (suc (from + 1 + count t)) (from + 1 + count t + 1 + count u) (owned u) last (omega arith)
                    (owns_at (from + 1 + count t + 1) (suc (from + 1 + count t)) (owned u) (omega arith) (numbers (from + 1 + count t + 1) u k.3 (λ b f j. i b f (inr (inr (inr (in_right (forms t) (forms u) b f j)))))))
                    ((k.4, i _ _ (inr (inr (inl refl)))), tt),
              ),
        )
    act_numbers from (When p e t) k i =
        let rest : List Formed = (NoSide p is Side (Begin p)) ∷ (End p is Merge (end_of t) (NoSide p)) ∷ [] in
        let few = length_owned t in
        let next : from + 1 + count t + 1 ≡ suc (from + 1 + count t) = omega arith in (
          (k.0, i _ _ (inl refl)),
          owns_append (suc from) (from + 1 + count t) (owned t) rest (omega arith)
              (owns_at (from + 1) (suc from) (owned t) (omega arith) (numbers (from + 1) t k.1 (λ b f j. i b f (inr (inr (inr j))))))
              ((k.2, i _ _ (inr (inl refl))), ((k.3 ∙ next, i _ _ (inr (inr (inl refl)))), tt)),
        )
    act_numbers from (Block p t) k i = numbers from t k.2 (λ b f j. i b f (inr (inr j)))
    act_numbers from (Wait p y) k i = ((k, i _ _ (inl refl)), tt)
    act_numbers from (Pure p e) k i = tt
    act_numbers from (Nothing p) k i = tt

  -- the one of a number
  pub record Got (n : ℕ) (gs : List Formed) (k : ℕ) : Type 0 where
    pub point : Formed
    pub read : slice_get gs k ≡ Some point
    pub has : HasNode (n + k) point

  pub owns_get : (n : ℕ) (gs : List Formed) → Owns node HasNode n gs → (k : ℕ) → k < length gs → Got n gs k
  owns_get n [] owns k inside = absurd (omega arith)
  owns_get n (g ∷ gs) owns zero inside = let P : ℕ → Type 0 = λ z. HasNode z g in let same : n ≡ n + 0 = omega arith in record { point = g; read = refl; has = subst P same owns.0 }
  owns_get n (g ∷ gs) owns (suc k) inside =
      let found = owns_get (suc n) gs owns.1 k (omega arith) in
      let P : ℕ → Type 0 = λ z. HasNode z found.point in
      let same : suc n + k ≡ n + suc k = omega arith in
      record { point = found.point; read = found.read; has = subst P same found.has }

pub drawn_get : (node : Spot → ℕ) (arms : Spot → List Arm) (gs : List Formed) (k : ℕ) (g : Formed) → slice_get gs k ≡ Some g → slice_get (drawn_all node arms gs) k ≡ Some (drawn node arms g)
drawn_get node arms [] k g at = absurd cc
drawn_get node arms (h ∷ gs) zero g at = let it : h ≡ g = cc in ap (λ x. Some (drawn node arms x)) it
drawn_get node arms (h ∷ gs) (suc k) g at = drawn_get node arms gs k g at

module _ (body : Term) (numbered : Numbered [] 0 body) where
  abbrev node : Spot → ℕ
  node = node_in (first_table body)

  abbrev arms : Spot → List Arm
  arms = arms_in 1 (first_table body)

  -- the point that a node draws
  pub record DrawnAs (n : ℕ) : Type 0 where
    pub point : Formed
    pub at : node point.spot ≡ n
    pub formed : IsFormed (forms body) point.spot point.form
    pub event : slice_get (once body) n ≡ Some (drawn node arms point)

  pub drawn_as : (k : ℕ) → suc k < length (once body) → DrawnAs (suc k)
  drawn_as k inside =
      let few = length_drawn node arms (owned body) in
      let found = owns_get node (forms body) 1 (owned body) (numbers node (forms body) 1 body (body_told 1 1 0 body numbered).0 (λ b f i. i)) k (omega arith) in
      let next : 1 + k ≡ suc k = omega arith in
      record { point = found.point; at = found.has.0 ∙ next; formed = found.has.1; event = drawn_get node arms (owned body) k found.point found.read }

  pub live : (n : ℕ) → n < length (once body) → (graph_of body).live n ≡ true
  live zero inside = is_found (form_at (once body)) node (turn_points body) 0 (begin_of body) Start (inl refl) (begin_node body numbered) refl
  live (suc k) inside =
      let d = drawn_as k inside in
      is_found (form_at (once body)) node (turn_points body) (suc k) d.point.spot d.point.form (inr d.formed) d.at (sym (ap form_in d.event ∙ drawn_form node d.point.form))

  pub dead : (n : ℕ) → length (once body) ≤ n → (graph_of body).live n ≡ false
  dead n past = by_found (drawn_point (form_at (once body)) node n (turn_points body)) refl
    where
      by_formed : (b : Spot) (f : Form Spot) → IsFormed (turn_points body) b f → node b ≡ n → ⊥
      by_formed b f (inl same) at =
          let spots : begin_of body ≡ b = ap (λ (g : Formed). g.spot) same in
          let first : node b ≡ 0 = ap node (sym spots) ∙ begin_node body numbered in
          omega arith
      by_formed b f (inr formed) at = let inside = formed_inside body numbered b f formed in omega arith

      by_found : (found : Option Spot) → drawn_point (form_at (once body)) node n (turn_points body) ≡ found → is_some found ≡ false
      by_found None at = refl
      by_found (Some b) at = let by = is_drawn (form_at (once body)) node (turn_points body) n b at in absurd (by_formed b by.form_of by.formed by.at)
