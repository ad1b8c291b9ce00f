-- The judgements on a graph whose nodes stand for points are those on the points.
--
-- A point of the form Same may stand for its predecessor, so a node stands for a chain of points, of which the last has the
-- form of the node. From points to nodes each rule is kept, where a step along such a chain is none on the graph. From nodes
-- to points, a rule at a node is the rule at the end of the chain, and the chain itself is followed by rules for Same. Nothing
-- is asked of what is no point of the text.
use Rattle.std.proofs.Common.{◌≡◌, ℕ, inl, inr, refl, sym, ◌∙◌, ap, subst}
use Rattle.std.specs.Prelude.{ℤ}
use Rattle.order_rules.specs.Form.{Form, Start, Same, After, Sync, Join, Side, Merge}
use Rattle.order_rules.specs.Standing.{map_form, AllOf, IsPoint, Chain, stop, same, Stands}
use Rattle.order_rules.specs.Before.{AtOnce, OnceOrLater, by_same, by_side, by_sync, by_first, by_second, Before, here, weaker, later, after, merged, from_same, from_after, from_join, from_merge, exclusive}

module _ (P Q : Type 0) (HasForm : P → Form P → Type 0) (HasForm' : Q → Form Q → Type 0) (Apart : P → P → Type 0) (Apart' : Q → Q → Type 0) (node : P → Q) (stands : Stands P Q HasForm HasForm' Apart Apart' node) where
  abbrev OrderOf : P → ℤ → P → Type 0
  OrderOf = Before P HasForm Apart

  abbrev OrderOnNodes : Q → ℤ → Q → Type 0
  OrderOnNodes = Before Q HasForm' Apart'

  on_right : (a b c : P) (d : ℤ) → node b ≡ node c → OrderOnNodes (node a) d (node c) → OrderOnNodes (node a) d (node b)
  on_right a b c d e k = let R : Q → Type 0 = λ z. OrderOnNodes (node a) d z in subst R (sym e) k

  on_left : (a b c : P) (d : ℤ) → node a ≡ node c → OrderOnNodes (node c) d (node b) → OrderOnNodes (node a) d (node b)
  on_left a b c d e k = let R : Q → Type 0 = λ z. OrderOnNodes z d (node b) in subst R (sym e) k

  pub same_is : {b c : P} → Same b ≡ Same c → b ≡ c
  same_is e = cc

  abbrev InText : P → Type 0
  InText = IsPoint P HasForm

  pub later_in_text : {c : P} (f : Form P) → OnceOrLater c f → AllOf InText f → InText c
  later_in_text Start k q = elim k [ ]
  later_in_text (Same c) by_same q = q
  later_in_text (After n c) k q = elim k [ ]
  later_in_text (Sync c) by_sync q = q
  later_in_text (Join c e) by_first q = q.0
  later_in_text (Join c e) by_second q = q.1
  later_in_text (Side c) by_side q = q
  later_in_text (Merge c e) k q = elim k [ ]

  pub once_in_text : {c : P} (f : Form P) → AtOnce c f → AllOf InText f → InText c
  once_in_text Start k q = elim k [ ]
  once_in_text (Same c) by_same q = q
  once_in_text (After n c) k q = elim k [ ]
  once_in_text (Sync c) k q = elim k [ ]
  once_in_text (Join c e) k q = elim k [ ]
  once_in_text (Side c) by_side q = q
  once_in_text (Merge c e) k q = elim k [ ]

  pub to_nodes : {a b : P} {d : ℤ} → InText a → InText b → OrderOf a d b → OrderOnNodes (node a) d (node b)
  to_nodes p q (here k) = here k
  to_nodes p q (weaker k r) = weaker k (to_nodes p q r)
  to_nodes p q (later {a = a} {b = b} {c = c} {d = d} f by_same r) =
      let k = to_nodes p (stands.pred b (Same c) f) r in
      elim (stands.step b (Same c) f) [ inl z ↦ on_right a b c d (z.2 ∙ ap node (sym (same_is z.1))) k | inr z ↦ later z by_same k ]
  to_nodes p q (later {b = b} f by_side r) = let k = to_nodes p (stands.pred b _ f) r in elim (stands.step b _ f) [ inl z ↦ absurd cc | inr z ↦ later z by_side k ]
  to_nodes p q (later {b = b} f by_sync r) = let k = to_nodes p (stands.pred b _ f) r in elim (stands.step b _ f) [ inl z ↦ absurd cc | inr z ↦ later z by_sync k ]
  to_nodes p q (later {b = b} f by_first r) = let k = to_nodes p (stands.pred b _ f).0 r in elim (stands.step b _ f) [ inl z ↦ absurd cc | inr z ↦ later z by_first k ]
  to_nodes p q (later {b = b} f by_second r) = let k = to_nodes p (stands.pred b _ f).1 r in elim (stands.step b _ f) [ inl z ↦ absurd cc | inr z ↦ later z by_second k ]
  to_nodes p q (after {b = b} f r) = let k = to_nodes p (stands.pred b _ f) r in elim (stands.step b _ f) [ inl z ↦ absurd cc | inr z ↦ after z k ]
  to_nodes p q (merged {b = b} f r s) = let k = to_nodes p (stands.pred b _ f).0 r in let l = to_nodes p (stands.pred b _ f).1 s in elim (stands.step b _ f) [ inl z ↦ absurd cc | inr z ↦ merged z k l ]
  to_nodes p q (from_same {a = a} {b = b} {c = c} {d = d} f by_same r) =
      let k = to_nodes (stands.pred a (Same c) f) q r in
      elim (stands.step a (Same c) f) [ inl z ↦ on_left a b c d (z.2 ∙ ap node (sym (same_is z.1))) k | inr z ↦ from_same z by_same k ]
  to_nodes p q (from_same {a = a} f by_side r) = let k = to_nodes (stands.pred a _ f) q r in elim (stands.step a _ f) [ inl z ↦ absurd cc | inr z ↦ from_same z by_side k ]
  to_nodes p q (from_after {a = a} f r) = let k = to_nodes (stands.pred a _ f) q r in elim (stands.step a _ f) [ inl z ↦ absurd cc | inr z ↦ from_after z k ]
  to_nodes p q (from_join {a = a} f r s) = let k = to_nodes (stands.pred a _ f).0 q r in let l = to_nodes (stands.pred a _ f).1 q s in elim (stands.step a _ f) [ inl z ↦ absurd cc | inr z ↦ from_join z k l ]
  to_nodes p q (from_merge {a = a} f r s) = let k = to_nodes (stands.pred a _ f).0 q r in let l = to_nodes (stands.pred a _ f).1 q s in elim (stands.step a _ f) [ inl z ↦ absurd cc | inr z ↦ from_merge z k l ]
  to_nodes p q (exclusive e) = exclusive (stands.apart _ _ p q e)

  right_chain : {a r b : P} {d : ℤ} → Chain P HasForm r b → OrderOf a d r → OrderOf a d b
  right_chain stop k = k
  right_chain (same f c) k = later f by_same (right_chain c k)

  left_chain : {r a b : P} {d : ℤ} → Chain P HasForm r a → OrderOf r d b → OrderOf a d b
  left_chain stop k = k
  left_chain (same f c) k = from_same f by_same (left_chain c k)

  pub later_of : (f : Form P) {c' : Q} → OnceOrLater c' (map_form node f) → (c : P) × (node c ≡ c') × OnceOrLater c f
  later_of Start k = elim k [ ]
  later_of (Same c) by_same = (c, refl, by_same)
  later_of (After n c) k = elim k [ ]
  later_of (Sync c) by_sync = (c, refl, by_sync)
  later_of (Join c e) by_first = (c, refl, by_first)
  later_of (Join c e) by_second = (e, refl, by_second)
  later_of (Side c) by_side = (c, refl, by_side)
  later_of (Merge c e) k = elim k [ ]

  once_of : (f : Form P) {c' : Q} → AtOnce c' (map_form node f) → (c : P) × (node c ≡ c') × AtOnce c f
  once_of Start k = elim k [ ]
  once_of (Same c) by_same = (c, refl, by_same)
  once_of (After n c) k = elim k [ ]
  once_of (Sync c) k = elim k [ ]
  once_of (Join c e) k = elim k [ ]
  once_of (Side c) by_side = (c, refl, by_side)
  once_of (Merge c e) k = elim k [ ]

  pub after_of : {n : ℕ} {c' : Q} (f : Form P) → map_form node f ≡ After n c' → (c : P) × (f ≡ After n c) × (node c ≡ c')
  after_of Start q = absurd cc
  after_of (Same c) q = absurd cc
  after_of {n = n} (After k c) q = let z : k ≡ n = cc in (c, rw z refl, cc)
  after_of (Sync c) q = absurd cc
  after_of (Join c e) q = absurd cc
  after_of (Side c) q = absurd cc
  after_of (Merge c e) q = absurd cc

  join_of : {c' e' : Q} (f : Form P) → map_form node f ≡ Join c' e' → (c e : P) × (f ≡ Join c e) × (node c ≡ c') × (node e ≡ e')
  join_of Start q = absurd cc
  join_of (Same c) q = absurd cc
  join_of (After k c) q = absurd cc
  join_of (Sync c) q = absurd cc
  join_of (Join c e) q = (c, e, refl, cc, cc)
  join_of (Side c) q = absurd cc
  join_of (Merge c e) q = absurd cc

  pub merge_of : {c' e' : Q} (f : Form P) → map_form node f ≡ Merge c' e' → (c e : P) × (f ≡ Merge c e) × (node c ≡ c') × (node e ≡ e')
  merge_of Start q = absurd cc
  merge_of (Same c) q = absurd cc
  merge_of (After k c) q = absurd cc
  merge_of (Sync c) q = absurd cc
  merge_of (Join c e) q = absurd cc
  merge_of (Side c) q = absurd cc
  merge_of (Merge c e) q = (c, e, refl, cc, cc)

  pub root_at : (b : P) → InText b → (v : Q) (g : Form Q) → node b ≡ v → HasForm' v g → (r : P) × (f : Form P) × Chain P HasForm r b × HasForm r f × (map_form node f ≡ g)
  root_at b p v g e h = let h' : HasForm' (node b) g = rw e h in stands.root b p g h'

  pub has : {r : P} {f g : Form P} → f ≡ g → HasForm r f → HasForm r g
  has {r = r} e k = subst (λ z. HasForm r z) e k

  pub from_nodes : {u v : Q} {d : ℤ} → OrderOnNodes u d v → (a b : P) → InText a → InText b → node a ≡ u → node b ≡ v → OrderOf a d b
  from_nodes (here k) a b p q e f = let z = stands.one a b p q (e ∙ sym f) in left_chain z.1 (right_chain z.2 (here k))
  from_nodes (weaker k r) a b p q e f = weaker k (from_nodes r a b p q e f)
  from_nodes (later {b = v} {c = c} {f = g} h k r) a b p q e f =
      let z = root_at b q v g f h in
      let k' : OnceOrLater c (map_form node z.1) = subst (λ y. OnceOrLater c y) (sym z.4) k in
      let y = later_of z.1 k' in
      right_chain z.2 (later z.3 y.2 (from_nodes r a y.0 p (later_in_text z.1 y.2 (stands.pred z.0 z.1 z.3)) e y.1))
  from_nodes (after {b = v} h r) a b p q e f =
      let z = root_at b q v _ f h in
      let y = after_of z.1 z.4 in
      let w = has y.1 z.3 in
      right_chain z.2 (after w (from_nodes r a y.0 p (stands.pred z.0 _ w) e y.2))
  from_nodes (merged {b = v} h r s) a b p q e f =
      let z = root_at b q v _ f h in
      let y = merge_of z.1 z.4 in
      let w = has y.2 z.3 in
      right_chain z.2 (merged w (from_nodes r a y.0 p (stands.pred z.0 _ w).0 e y.3) (from_nodes s a y.1 p (stands.pred z.0 _ w).1 e y.4))
  from_nodes (from_same {a = u} {c = c} {f = g} h k r) a b p q e f =
      let z = root_at a p u g e h in
      let k' : AtOnce c (map_form node z.1) = subst (λ y. AtOnce c y) (sym z.4) k in
      let y = once_of z.1 k' in
      left_chain z.2 (from_same z.3 y.2 (from_nodes r y.0 b (once_in_text z.1 y.2 (stands.pred z.0 z.1 z.3)) q y.1 f))
  from_nodes (from_after {a = u} h r) a b p q e f =
      let z = root_at a p u _ e h in
      let y = after_of z.1 z.4 in
      let w = has y.1 z.3 in
      left_chain z.2 (from_after w (from_nodes r y.0 b (stands.pred z.0 _ w) q y.2 f))
  from_nodes (from_join {a = u} h r s) a b p q e f =
      let z = root_at a p u _ e h in
      let y = join_of z.1 z.4 in
      let w = has y.2 z.3 in
      left_chain z.2 (from_join w (from_nodes r y.0 b (stands.pred z.0 _ w).0 q y.3 f) (from_nodes s y.1 b (stands.pred z.0 _ w).1 q y.4 f))
  from_nodes (from_merge {a = u} h r s) a b p q e f =
      let z = root_at a p u _ e h in
      let y = merge_of z.1 z.4 in
      let w = has y.2 z.3 in
      left_chain z.2 (from_merge w (from_nodes r y.0 b (stands.pred z.0 _ w).0 q y.3 f) (from_nodes s y.1 b (stands.pred z.0 _ w).1 q y.4 f))
  from_nodes (exclusive {a = u} {b = v} k) a b p q e f = let k' : Apart' (node a) (node b) = rw (e, f) k in exclusive (stands.apart_back a b p q k')
