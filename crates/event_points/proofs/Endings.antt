-- The ends of a life on the graph are those on the points.
--
-- An end after some cycles stands for itself. An end at a point is at the end of an act on an ending port: its sites are collected in
-- text order, and each of them is that of an act that stands in the body, and the other way round. That end is a Sync, so it has a
-- node of its own, and whatever shares the node is reached from it by Same points.
use Rattle.std.proofs.Common.{◌≡◌, ℕ, ◌⊎◌, inl, inr, arith, refl, sym, ap, subst, ◌==◌, if◌then◌else◌, Bool, true, false, List, [], ◌∷◌, ◌++◌}
use Rattle.std.proofs.lemmas.Bool.Decides.{nat_tests}
use Rattle.order_rules.specs.Form.{Sync}
use Rattle.order_rules.specs.Last.{Ending, Within, At}
use Rattle.order_rules.specs.LastEntry.{IsListed}
use Rattle.order_rules.specs.Standing.{Chain, EndsStand}
use Rattle.core_term.specs.Lists.{Has}
use Rattle.core_term.specs.Term.{Term, One, Then, Both, Act, Cycle, Set, Send, Recv, If, When, Block, Wait, Pure, Nothing, site, head}
use Rattle.core_term.specs.Points.{Begin, End, forms, act_forms}
use Rattle.core_term.specs.Order.{Point, point, IsFormed, HasForm}
use Rattle.core_term.specs.Numbering.{Numbered}
use Rattle.core_term.specs.Stands.{Stands, StandsIn, here, in_one, in_then, after_then, in_both, after_both, in_yes, in_no, in_when, in_block}
use Rattle.core_term.specs.Acts.{OnPort, ActOn}
use Rattle.core_term.specs.Process.{LifeEnd, Cycles, Until, Process, life_of}
use Rattle.core_term.specs.Lives.{HasEnding}
use Rattle.core_term.specs.Graph.{IsGraphOf}
use Rattle.run_laws.proofs.graph_tables.OfText.{in_left, part}
use Rattle.event_points.specs.Nodes.{node_of}
use Rattle.event_points.specs.Endings.{sites_on, act_sites_on, ends_at, endings, graph_of}
use Rattle.event_points.proofs.Twice as twice_proof

sync_act : (a : Act) (m : ℕ) → OnPort a m → IsFormed (act_forms a) (End (site a)) (Sync (Begin (site a)))
sync_act (Send p k e) m o = inl refl
sync_act (Recv p k) m o = inl refl
sync_act (Cycle p n) m o = elim o [ ]
sync_act (Set p r e) m o = elim o [ ]
sync_act (If p e t u w) m o = elim o [ ]
sync_act (When p e t) m o = elim o [ ]
sync_act (Block p t) m o = elim o [ ]
sync_act (Wait p y) m o = elim o [ ]
sync_act (Pure p e) m o = elim o [ ]
sync_act (Nothing p) m o = elim o [ ]

sync_head : (t : Term) (m : ℕ) → OnPort (head t) m → IsFormed (forms t) (End (site (head t))) (Sync (Begin (site (head t))))
sync_head (One a) m o = inr (inr (sync_act a m o))
sync_head (Then a t) m o = inr (inr (inr (in_left (act_forms a) (forms t) _ _ (sync_act a m o))))
sync_head (Both a t) m o = inr (inr (inr (in_left (act_forms a) (forms t) _ _ (sync_act a m o))))

-- the end of an act on a port is of the form Sync
sync_formed : {vs ws : List Act} {t u : Term} (m : ℕ) → Stands vs t ws u → OnPort (head u) m → IsFormed (forms t) (End (site (head u))) (Sync (Begin (site (head u))))
sync_formed {u = u} m stands on_port = part stands _ _ (sync_head u m on_port)

has_left : (xs ys : List ℕ) (x : ℕ) → Has xs x → Has (xs ++ ys) x
has_left [] ys x h = elim h [ ]
has_left (y ∷ xs) ys x (inl e) = inl e
has_left (y ∷ xs) ys x (inr h) = inr (has_left xs ys x h)

has_right : (xs ys : List ℕ) (x : ℕ) → Has ys x → Has (xs ++ ys) x
has_right [] ys x h = h
has_right (y ∷ xs) ys x h = inr (has_right xs ys x h)

has_either : (xs ys : List ℕ) (x : ℕ) → Has (xs ++ ys) x → Has xs x ⊎ Has ys x
has_either [] ys x h = inr h
has_either (y ∷ xs) ys x (inl e) = inl (inl e)
has_either (y ∷ xs) ys x (inr h) = elim (has_either xs ys x h) [ inl k ↦ inl (inr k) | inr k ↦ inr k ]

number_is : (m n : ℕ) → m ≡ n → (m == n) ≡ true
number_is m n e = grind (arith, nat_tests)

is_number : (m n : ℕ) → (m == n) ≡ true → m ≡ n
is_number m n e = grind (arith, nat_tests)

here_if : (v : Bool) (p : ℕ) → v ≡ true → Has (if v then p ∷ [] else []) p
here_if v p e = rw e (inl refl)

if_here : (v : Bool) (p w : ℕ) → Has (if v then p ∷ [] else []) w → (v ≡ true) × (w ≡ p)
if_here true p w (inl e) = (refl, e)
if_here true p w (inr h) = elim h [ ]
if_here false p w h = elim h [ ]

-- the sites of the acts on a port are those
act_has : (a : Act) (m : ℕ) → OnPort a m → Has (act_sites_on m a) (site a)
act_has (Send p k e) m o = here_if (k == m) p (number_is k m o)
act_has (Recv p k) m o = here_if (k == m) p (number_is k m o)
act_has (Cycle p n) m o = elim o [ ]
act_has (Set p r e) m o = elim o [ ]
act_has (If p e t u w) m o = elim o [ ]
act_has (When p e t) m o = elim o [ ]
act_has (Block p t) m o = elim o [ ]
act_has (Wait p y) m o = elim o [ ]
act_has (Pure p e) m o = elim o [ ]
act_has (Nothing p) m o = elim o [ ]

head_has : (t : Term) (m : ℕ) → OnPort (head t) m → Has (sites_on m t) (site (head t))
head_has (One a) m o = act_has a m o
head_has (Then a t) m o = has_left (act_sites_on m a) (sites_on m t) _ (act_has a m o)
head_has (Both a t) m o = has_left (act_sites_on m a) (sites_on m t) _ (act_has a m o)

mutual
  on_site : {vs ws : List Act} {t u : Term} (m : ℕ) → Stands vs t ws u → OnPort (head u) m → Has (sites_on m t) (site (head u))
  on_site {t = t} m here o = head_has t m o
  on_site m (in_one s) o = act_on_site m s o
  on_site m (in_then {a = a} {t = t} s) o = has_left (act_sites_on m a) (sites_on m t) _ (act_on_site m s o)
  on_site m (in_both {a = a} {t = t} s) o = has_left (act_sites_on m a) (sites_on m t) _ (act_on_site m s o)
  on_site m (after_then {a = a} {t = t} s) o = has_right (act_sites_on m a) (sites_on m t) _ (on_site m s o)
  on_site m (after_both {a = a} {t = t} s) o = has_right (act_sites_on m a) (sites_on m t) _ (on_site m s o)

  act_on_site : {vs ws : List Act} {a : Act} {u : Term} (m : ℕ) → StandsIn vs a ws u → OnPort (head u) m → Has (act_sites_on m a) (site (head u))
  act_on_site m (in_yes {t = t} {f = g} s) o = has_left (sites_on m t) (sites_on m g) _ (on_site m s o)
  act_on_site m (in_no {t = t} {f = g} s) o = has_right (sites_on m t) (sites_on m g) _ (on_site m s o)
  act_on_site m (in_when s) o = on_site m s o
  act_on_site m (in_block s) o = on_site m s o

abbrev Found : List Act → Term → ℕ → ℕ → Type 0
Found vs t w m = (ws : List Act) × (u : Term) × Stands vs t ws u × (site (head u) ≡ w) × OnPort (head u) m

abbrev FoundIn : List Act → Act → ℕ → ℕ → Type 0
FoundIn vs a w m = ((site a ≡ w) × OnPort a m) ⊎ ((ws : List Act) × (u : Term) × StandsIn vs a ws u × (site (head u) ≡ w) × OnPort (head u) m)

mutual
  site_on : (vs : List Act) (t : Term) (w m : ℕ) → Has (sites_on m t) w → Found vs t w m
  site_on vs (One a) w m h = elim (act_site_on vs a w m h) [ inl k ↦ (vs, One a, here, k.0, k.1) | inr k ↦ (k.0, k.1, in_one k.2, k.3, k.4) ]
  site_on vs (Then a t) w m h =
      elim (has_either (act_sites_on m a) (sites_on m t) w h) [
        | inl i ↦ elim (act_site_on vs a w m i) [ inl k ↦ (vs, Then a t, here, k.0, k.1) | inr k ↦ (k.0, k.1, in_then k.2, k.3, k.4) ]
        | inr i ↦ let k = site_on (a ∷ vs) t w m i in (k.0, k.1, after_then k.2, k.3, k.4)
      ]
  site_on vs (Both a t) w m h =
      elim (has_either (act_sites_on m a) (sites_on m t) w h) [
        | inl i ↦ elim (act_site_on vs a w m i) [ inl k ↦ (vs, Both a t, here, k.0, k.1) | inr k ↦ (k.0, k.1, in_both k.2, k.3, k.4) ]
        | inr i ↦ let k = site_on (a ∷ vs) t w m i in (k.0, k.1, after_both k.2, k.3, k.4)
      ]

  act_site_on : (vs : List Act) (a : Act) (w m : ℕ) → Has (act_sites_on m a) w → FoundIn vs a w m
  act_site_on vs (Send p k e) w m h = let z = if_here (k == m) p w h in inl (sym z.1, is_number k m z.0)
  act_site_on vs (Recv p k) w m h = let z = if_here (k == m) p w h in inl (sym z.1, is_number k m z.0)
  act_site_on vs (If p e t u v) w m h =
      elim (has_either (sites_on m t) (sites_on m u) w h) [ inl i ↦ let k = site_on vs t w m i in inr (k.0, k.1, in_yes k.2, k.3, k.4) | inr i ↦ let k = site_on vs u w m i in inr (k.0, k.1, in_no k.2, k.3, k.4) ]
  act_site_on vs (When p e t) w m h = let k = site_on vs t w m h in inr (k.0, k.1, in_when k.2, k.3, k.4)
  act_site_on vs (Block p t) w m h = let k = site_on vs t w m h in inr (k.0, k.1, in_block k.2, k.3, k.4)
  act_site_on vs (Cycle p n) w m h = elim h [ ]
  act_site_on vs (Set p r e) w m h = elim h [ ]
  act_site_on vs (Wait p y) w m h = elim h [ ]
  act_site_on vs (Pure p e) w m h = elim h [ ]
  act_site_on vs (Nothing p) w m h = elim h [ ]

listed_left : (xs ys : List (Ending ℕ)) (x : Ending ℕ) → IsListed xs x → IsListed (xs ++ ys) x
listed_left [] ys x h = elim h [ ]
listed_left (y ∷ xs) ys x (inl e) = inl e
listed_left (y ∷ xs) ys x (inr h) = inr (listed_left xs ys x h)

listed_right : (xs ys : List (Ending ℕ)) (x : Ending ℕ) → IsListed ys x → IsListed (xs ++ ys) x
listed_right [] ys x h = h
listed_right (y ∷ xs) ys x h = inr (listed_right xs ys x h)

listed_either : (xs ys : List (Ending ℕ)) (x : Ending ℕ) → IsListed (xs ++ ys) x → IsListed xs x ⊎ IsListed ys x
listed_either [] ys x h = inr h
listed_either (y ∷ xs) ys x (inl e) = inl (inl e)
listed_either (y ∷ xs) ys x (inr h) = elim (listed_either xs ys x h) [ inl k ↦ inl (inr k) | inr k ↦ inr k ]

module _ (body : Term) (n : Numbered [] 0 body) where
  abbrev node : Point → ℕ
  node = node_of body

  listed_end : (ws : List ℕ) (l : Bool) (w : ℕ) → Has ws w → IsListed (ends_at node ws) (At (node (point l (End w))))
  listed_end [] l w h = elim h [ ]
  listed_end (v ∷ ws) false w (inl e) = inl (ap (λ (z : ℕ). At (node (point false (End z)))) e)
  listed_end (v ∷ ws) true w (inl e) = inr (inl (ap (λ (z : ℕ). At (node (point true (End z)))) e))
  listed_end (v ∷ ws) l w (inr h) = inr (inr (listed_end ws l w h))

  end_listed : (ws : List ℕ) (v : ℕ) → IsListed (ends_at node ws) (At v) → (l : Bool) × (w : ℕ) × Has ws w × (node (point l (End w)) ≡ v)
  end_listed [] v h = elim h [ ]
  end_listed (w ∷ ws) v (inl e) = (false, w, inl refl, cc)
  end_listed (w ∷ ws) v (inr (inl e)) = (true, w, inl refl, cc)
  end_listed (w ∷ ws) v (inr (inr h)) = let k = end_listed ws v h in (k.0, k.1, inr k.2, k.3)

  not_within : (ws : List ℕ) (k : ℕ) → IsListed (ends_at node ws) (Within k) → ⊥
  not_within [] k h = elim h [ ]
  not_within (w ∷ ws) k (inl e) = cc
  not_within (w ∷ ws) k (inr (inl e)) = cc
  not_within (w ∷ ws) k (inr (inr h)) = not_within ws k h

  within : (life : List LifeEnd) (k : ℕ) → Has life (Cycles k) → IsListed (endings body node life) (Within k)
  within [] k h = elim h [ ]
  within (Cycles j ∷ life) k (inl e) = let f : k ≡ j = cc in inl (ap (λ (z : ℕ). Within z) f)
  within (Cycles j ∷ life) k (inr h) = inr (within life k h)
  within (Until m ∷ life) k (inl e) = absurd cc
  within (Until m ∷ life) k (inr h) = listed_right (ends_at node (sites_on m body)) (endings body node life) _ (within life k h)

  within_back : (life : List LifeEnd) (k : ℕ) → IsListed (endings body node life) (Within k) → Has life (Cycles k)
  within_back [] k h = elim h [ ]
  within_back (Cycles j ∷ life) k (inl e) = let f : k ≡ j = cc in inl (ap (λ (z : ℕ). Cycles z) f)
  within_back (Cycles j ∷ life) k (inr h) = inr (within_back life k h)
  within_back (Until m ∷ life) k h = elim (listed_either (ends_at node (sites_on m body)) (endings body node life) _ h) [ inl i ↦ absurd (not_within (sites_on m body) k i) | inr i ↦ inr (within_back life k i) ]

  until : (life : List LifeEnd) (m w : ℕ) (l : Bool) → Has life (Until m) → Has (sites_on m body) w → IsListed (endings body node life) (At (node (point l (End w))))
  until [] m w l h i = elim h [ ]
  until (Cycles j ∷ life) m w l (inl e) i = absurd cc
  until (Cycles j ∷ life) m w l (inr h) i = inr (until life m w l h i)
  until (Until k ∷ life) m w l (inl e) i =
      let P : ℕ → Type 0 = λ z. Has (sites_on z body) w in
      let f : m ≡ k = cc in listed_left (ends_at node (sites_on k body)) (endings body node life) _ (listed_end (sites_on k body) l w (subst P f i))
  until (Until k ∷ life) m w l (inr h) i = listed_right (ends_at node (sites_on k body)) (endings body node life) _ (until life m w l h i)

  record Back (life : List LifeEnd) (v : ℕ) : Type 0 where
    port : ℕ
    act : ℕ
    late : Bool
    until_it : Has life (Until port)
    on_it : Has (sites_on port body) act
    is_node : node (point late (End act)) ≡ v

  until_back : (life : List LifeEnd) (v : ℕ) → IsListed (endings body node life) (At v) → Back life v
  until_back [] v h = elim h [ ]
  until_back (Cycles j ∷ life) v (inl e) = absurd cc
  until_back (Cycles j ∷ life) v (inr h) = let k = until_back life v h in record { port = k.port; act = k.act; late = k.late; until_it = inr k.until_it; on_it = k.on_it; is_node = k.is_node }
  until_back (Until m ∷ life) v h =
      elim (listed_either (ends_at node (sites_on m body)) (endings body node life) _ h) [
        | inl i ↦ let k = end_listed (sites_on m body) v i in record { port = m; act = k.1; late = k.0; until_it = inl refl; on_it = k.2; is_node = k.3 }
        | inr i ↦ let k = until_back life v i in record { port = k.port; act = k.act; late = k.late; until_it = inr k.until_it; on_it = k.on_it; is_node = k.is_node }
      ]

  at_spot : (b : Point) (w : ℕ) → b.spot ≡ End w → point b.late (End w) ≡ b
  at_spot b w e = ap (point b.late) (sym e)

  sync_at : (w m : ℕ) → ActOn body w m → IsFormed (forms body) (End w) (Sync (Begin w))
  sync_at w m a = let P : ℕ → Type 0 = λ z. IsFormed (forms body) (End z) (Sync (Begin z)) in subst P a.3 (sync_formed m a.2 a.4)

  site_at : (w m : ℕ) → ActOn body w m → Has (sites_on m body) w
  site_at w m a = let P : ℕ → Type 0 = λ z. Has (sites_on m body) z in subst P a.3 (on_site m a.2 a.4)

  pub ends_stand : (life : List LifeEnd) → EndsStand Point ℕ (HasForm body) node (HasEnding body life) (IsListed (endings body node life))
  ends_stand life = record {
    within = within life;
    within_back = within_back life;
    at = λ b h.
        let P : Point → Type 0 = λ z. IsListed (endings body node life) (At (node z)) in
        subst P (at_spot b h.1 h.4) (until life h.0 h.1 b.late h.2 (site_at h.1 h.0 h.3));
    at_back = λ v h.
        let k = until_back life v h in
        let f = site_on [] body k.act k.port k.on_it in
        (point k.late (End k.act), twice_proof.end_place body n k.late (End k.act) (Begin k.act) (sync_at k.act k.port f), (k.port, k.act, k.until_it, f, refl), k.is_node);
    root = λ b c h p e.
        let z : point b.late (End h.1) ≡ b = at_spot b h.1 h.4 in
        let P : Point → Type 0 = λ y. twice_proof.root body n (node y) ≡ y in
        let r : twice_proof.root body n (node b) ≡ b = subst P z (twice_proof.end_root body n b.late (End h.1) (Begin h.1) (sync_at h.1 h.0 h.3)) in
        let k = twice_proof.chain_of body n c p in
        let Q : ℕ → Type 0 = λ y. Chain Point (HasForm body) (twice_proof.root body n y) c in
        let R : Point → Type 0 = λ y. Chain Point (HasForm body) y c in
        subst R r (subst Q e k);
  }

pub graph_is : (p : Process) (body : Term) → Numbered [] 0 body → IsGraphOf p body (graph_of p body)
graph_is p body n = let s = twice_proof.stand body n in record { earlier = s.earlier; stands = s.stands; ends_stand = λ m. ends_stand body n (life_of p m) }
