-- The same of the judgements of a last cycle. An end of a life at a node is that at a point, from which every other point of
-- the node is reached by a chain.
use Rattle.std.proofs.Common.{◌≡◌, ◌+◌, inl, inr, refl, sym, ◌∙◌, ap, subst}
use Rattle.std.specs.Prelude.{ℤ}
use Rattle.order_rules.specs.Form.{Form, Same}
use Rattle.order_rules.specs.Before.{OnceOrLater, by_same, by_side, by_sync, by_first, by_second}
use Rattle.order_rules.specs.Last.{Ending, Last, within, empty, at, weaker, later, after, merged, exclusive}
use Rattle.order_rules.specs.Standing.{map_form, IsPoint, Chain, stop, same, Stands, EndsStand}
use Rattle.order_rules.proofs.Transfer.{to_nodes, later_in_text, from_nodes, same_is, later_of, after_of, merge_of, root_at, has}

module _ (P Q : Type 0) (HasForm : P → Form P → Type 0) (HasForm' : Q → Form Q → Type 0) (Apart : P → P → Type 0) (Apart' : Q → Q → Type 0) (node : P → Q) (stands : Stands P Q HasForm HasForm' Apart Apart' node)
    (HasEnding : Ending P → Type 0) (HasEnding' : Ending Q → Type 0) (ends : EndsStand P Q HasForm node HasEnding HasEnding') (a : P) (point : IsPoint P HasForm a) where
  abbrev LastOf : ℤ → P → Type 0
  LastOf = Last P HasForm Apart HasEnding a

  abbrev LastOnNodes : ℤ → Q → Type 0
  LastOnNodes = Last Q HasForm' Apart' HasEnding' (node a)

  on_right : (b c : P) (d : ℤ) → node b ≡ node c → LastOnNodes d (node c) → LastOnNodes d (node b)
  on_right b c d e k = let R : Q → Type 0 = λ z. LastOnNodes d z in subst R (sym e) k

  pub last_to_nodes : {b : P} {d : ℤ} → IsPoint P HasForm b → LastOf d b → LastOnNodes d (node b)
  last_to_nodes q (within n e r) = within n (ends.within (n + 1) e) (to_nodes P Q HasForm HasForm' Apart Apart' node stands point q r)
  last_to_nodes q (empty e r) = empty (ends.within 0 e) (to_nodes P Q HasForm HasForm' Apart Apart' node stands point q r)
  last_to_nodes q (at {b = b} e r k) = at (ends.at b e) (to_nodes P Q HasForm HasForm' Apart Apart' node stands point q r) k
  last_to_nodes q (weaker k r) = weaker k (last_to_nodes q r)
  last_to_nodes q (later {b = b} {c = c} {d = d} f by_same r) =
      let k = last_to_nodes (stands.pred b (Same c) f) r in
      elim (stands.step b (Same c) f) [ inl z ↦ on_right b c d (z.2 ∙ ap node (sym (same_is P Q HasForm HasForm' Apart Apart' node stands z.1))) k | inr z ↦ later z by_same k ]
  last_to_nodes q (later {b = b} f by_side r) = let k = last_to_nodes (stands.pred b _ f) r in elim (stands.step b _ f) [ inl z ↦ absurd cc | inr z ↦ later z by_side k ]
  last_to_nodes q (later {b = b} f by_sync r) = let k = last_to_nodes (stands.pred b _ f) r in elim (stands.step b _ f) [ inl z ↦ absurd cc | inr z ↦ later z by_sync k ]
  last_to_nodes q (later {b = b} f by_first r) = let k = last_to_nodes (stands.pred b _ f).0 r in elim (stands.step b _ f) [ inl z ↦ absurd cc | inr z ↦ later z by_first k ]
  last_to_nodes q (later {b = b} f by_second r) = let k = last_to_nodes (stands.pred b _ f).1 r in elim (stands.step b _ f) [ inl z ↦ absurd cc | inr z ↦ later z by_second k ]
  last_to_nodes q (after {b = b} f r) = let k = last_to_nodes (stands.pred b _ f) r in elim (stands.step b _ f) [ inl z ↦ absurd cc | inr z ↦ after z k ]
  last_to_nodes q (merged {b = b} f r s) = let k = last_to_nodes (stands.pred b _ f).0 r in let l = last_to_nodes (stands.pred b _ f).1 s in elim (stands.step b _ f) [ inl z ↦ absurd cc | inr z ↦ merged z k l ]
  last_to_nodes q (exclusive {b = b} e) = exclusive (stands.apart a b point q e)

  right_chain : {r b : P} {d : ℤ} → Chain P HasForm r b → LastOf d r → LastOf d b
  right_chain stop k = k
  right_chain (same f c) k = later f by_same (right_chain c k)

  pub last_from_nodes : {v : Q} {d : ℤ} → LastOnNodes d v → (b : P) → IsPoint P HasForm b → node b ≡ v → LastOf d b
  last_from_nodes (within n e r) b q f = within n (ends.within_back (n + 1) e) (from_nodes P Q HasForm HasForm' Apart Apart' node stands r a b point q refl f)
  last_from_nodes (empty e r) b q f = empty (ends.within_back 0 e) (from_nodes P Q HasForm HasForm' Apart Apart' node stands r a b point q refl f)
  last_from_nodes (at {b = v} e r k) b q f =
      let z = ends.at_back v e in
      right_chain (ends.root z.0 b z.2 q (f ∙ sym z.3)) (at z.2 (from_nodes P Q HasForm HasForm' Apart Apart' node stands r a z.0 point z.1 refl z.3) k)
  last_from_nodes (weaker k r) b q f = weaker k (last_from_nodes r b q f)
  last_from_nodes (later {b = v} {c = c} {f = g} h k r) b q f =
      let z = root_at P Q HasForm HasForm' Apart Apart' node stands b q v g f h in
      let k' : OnceOrLater c (map_form node z.1) = subst (λ y. OnceOrLater c y) (sym z.4) k in
      let y = later_of P Q HasForm HasForm' Apart Apart' node stands z.1 k' in
      right_chain z.2 (later z.3 y.2 (last_from_nodes r y.0 (later_in_text P Q HasForm HasForm' Apart Apart' node stands z.1 y.2 (stands.pred z.0 z.1 z.3)) y.1))
  last_from_nodes (after {b = v} h r) b q f =
      let z = root_at P Q HasForm HasForm' Apart Apart' node stands b q v _ f h in
      let y = after_of P Q HasForm HasForm' Apart Apart' node stands z.1 z.4 in
      let w = has P Q HasForm HasForm' Apart Apart' node stands y.1 z.3 in
      right_chain z.2 (after w (last_from_nodes r y.0 (stands.pred z.0 _ w) y.2))
  last_from_nodes (merged {b = v} h r s) b q f =
      let z = root_at P Q HasForm HasForm' Apart Apart' node stands b q v _ f h in
      let y = merge_of P Q HasForm HasForm' Apart Apart' node stands z.1 z.4 in
      let w = has P Q HasForm HasForm' Apart Apart' node stands y.2 z.3 in
      right_chain z.2 (merged w (last_from_nodes r y.0 (stands.pred z.0 _ w).0 y.3) (last_from_nodes s y.1 (stands.pred z.0 _ w).1 y.4))
  last_from_nodes (exclusive {b = v} k) b q f = let k' : Apart' (node a) (node b) = rw f k in exclusive (stands.apart_back a b point q k')
