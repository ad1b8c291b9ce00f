-- The wires of acts on ports, written one after the other.
--
-- Different acts end at different nodes, so no wire is written over.
use Rattle.std.proofs.Common.{◌≡◌, ℕ, ◌+◌, ◌<◌, ◌≤◌, ◌⊎◌, inl, inr, arith, refl, sym, ◌∙◌, ap, subst, List, length, length-set, Option, Some, None, set}
use Rattle.std.proofs.lemmas.List.{get_or-set_same, get_or-set_other}
use Rattle.act_deeds.specs.declared.deed.Deed.{Deed}
use Rattle.act_deeds.specs.declared.deed.Deed.TheVariants as deed
use Rattle.act_deeds.specs.Deeds.{deed_at}
use Rattle.machine_parts.specs.declared.plan.Event.{Event}
use Rattle.machine_parts.specs.declared.plan.Event.TheVariants as event
use Rattle.machine_parts.specs.Parts.{node_at}
use Rattle.turn_plans.specs.Read.{event_at}
use Rattle.turn_plans.specs.Wires.{IsOn, EndsAreApart, EndsAt, AreMarked, port_of, wired_by}

-- of the first so many sites
pub record MarkedSoFar (deeds : List Deed) (ends : List ℕ) (sites : ℕ) (old new : List Event) : Type 0 where
  pub count : length new ≡ length old
  pub wires : (site port : ℕ) → site < sites → IsOn deeds site port → event_at new (node_at ends site) ≡ event.Wire port
  pub others : (node : ℕ) → (event_at new node ≡ event_at old node) ⊎ EndsAt deeds ends node (event_at new node)

pub same_or_other : (one other : ℕ) → (one ≡ other) ⊎ (one ≡ other → ⊥)
same_or_other one other = go (compare one other)
  where
    compare : (one other : ℕ) → (one ≡ other) ⊎ ((one < other) ⊎ (other < one))
    compare one other = grind arith

    go : (one ≡ other) ⊎ ((one < other) ⊎ (other < one)) → (one ≡ other) ⊎ (one ≡ other → ⊥)
    go (inl same) = inl same
    go (inr (inl less)) = inr (λ same. omega arith)
    go (inr (inr more)) = inr (λ same. omega arith)

pub port_there : (told : Deed) (port : ℕ) → (told ≡ deed.Sends port) ⊎ (told ≡ deed.Receives port) → port_of told ≡ Some port
port_there told port (inl same) = ap port_of same
port_there told port (inr same) = ap port_of same

module _ (deeds : List Deed) (ends : List ℕ) (old : List Event) where
  pub marked_none : MarkedSoFar deeds ends 0 old old
  marked_none = record { count = refl; wires = λ site port inside on. absurd (omega arith); others = λ node. inl refl }

  none_more : (k : ℕ) (mid : List Event) → port_of (deed_at deeds k) ≡ None → MarkedSoFar deeds ends k old mid → MarkedSoFar deeds ends (k + 1) old mid
  none_more k mid none so_far = record {
    count = so_far.count;
    wires = λ site port inside on. earlier site port inside on (same_or_other site k);
    others = so_far.others;
  }
    where
      earlier : (site port : ℕ) → site < k + 1 → IsOn deeds site port → (site ≡ k) ⊎ (site ≡ k → ⊥) → event_at mid (node_at ends site) ≡ event.Wire port
      earlier site port inside on (inl same) =
          let here : port_of (deed_at deeds site) ≡ None = ap (λ s. port_of (deed_at deeds s)) same ∙ none in
          let there : port_of (deed_at deeds site) ≡ Some port = on.port_is in
          absurd cc
      earlier site port inside on (inr other) = so_far.wires site port (omega arith) on

  some_more : EndsAreApart deeds ends (length old) → (k port : ℕ) (mid : List Event) → IsOn deeds k port → MarkedSoFar deeds ends k old mid → MarkedSoFar deeds ends (k + 1) old (set mid (node_at ends k) (event.Wire port))
  some_more apart k port mid here so_far = record {
    count = length-set mid (node_at ends k) (event.Wire port) ∙ so_far.count;
    wires = λ site other inside on. earlier site other inside on (same_or_other site k);
    others = λ node. by_node node (same_or_other node (node_at ends k));
  }
    where
      new : List Event
      new = set mid (node_at ends k) (event.Wire port)

      at_end : event_at new (node_at ends k) ≡ event.Wire port
      at_end = let counted = so_far.count in let inside = apart.inside k port here in get_or-set_same mid (node_at ends k) (event.Wire port) event.Nothing (omega arith)

      earlier : (site other : ℕ) → site < k + 1 → IsOn deeds site other → (site ≡ k) ⊎ (site ≡ k → ⊥) → event_at new (node_at ends site) ≡ event.Wire other
      earlier site other inside on (inl same) =
          let one : port_of (deed_at deeds k) ≡ Some port = here.port_is in
          let two : port_of (deed_at deeds k) ≡ Some other = ap (λ s. port_of (deed_at deeds s)) (sym same) ∙ on.port_is in
          let ports : Some port ≡ Some other = sym one ∙ two in
          let port_is : port ≡ other = cc in
          ap (λ s. event_at new (node_at ends s)) same ∙ at_end ∙ ap event.Wire port_is
      earlier site other inside on (inr different) =
          get_or-set_other mid (node_at ends k) (node_at ends site) (event.Wire port) event.Nothing (λ same. different (apart.apart site k other port on here same))
          ∙ so_far.wires site other (omega arith) on

      by_mid : (node : ℕ) → event_at new node ≡ event_at mid node → (event_at mid node ≡ event_at old node) ⊎ EndsAt deeds ends node (event_at mid node) → (event_at new node ≡ event_at old node) ⊎ EndsAt deeds ends node (event_at new node)
      by_mid node kept (inl same) = inl (kept ∙ same)
      by_mid node kept (inr ends_there) = inr (record { site = ends_there.site; port = ends_there.port; on = ends_there.on; at = ends_there.at; wire = kept ∙ ends_there.wire })

      by_node : (node : ℕ) → (node ≡ node_at ends k) ⊎ (node ≡ node_at ends k → ⊥) → (event_at new node ≡ event_at old node) ⊎ EndsAt deeds ends node (event_at new node)
      by_node node (inl same) = inr (record { site = k; port = port; on = here; at = sym same; wire = ap (event_at new) same ∙ at_end })
      by_node node (inr different) = by_mid node (get_or-set_other mid (node_at ends k) node (event.Wire port) event.Nothing different) (so_far.others node)

  pub marked_more : EndsAreApart deeds ends (length old) → (k : ℕ) (mid new : List Event) → k < length deeds → MarkedSoFar deeds ends k old mid → new ≡ wired_by (port_of (deed_at deeds k)) (node_at ends k) mid → MarkedSoFar deeds ends (k + 1) old new
  marked_more apart k mid new inside so_far written = by_port (port_of (deed_at deeds k)) refl written
    where
      by_port : (found : Option ℕ) → port_of (deed_at deeds k) ≡ found → new ≡ wired_by found (node_at ends k) mid → MarkedSoFar deeds ends (k + 1) old new
      by_port None found same = subst (MarkedSoFar deeds ends (k + 1) old) (sym same) (none_more k mid found so_far)
      by_port (Some port) found same = subst (MarkedSoFar deeds ends (k + 1) old) (sym same) (some_more apart k port mid (record { inside = inside; port_is = found }) so_far)

  pub marked_all : (k : ℕ) (new : List Event) → length deeds ≤ k → MarkedSoFar deeds ends k old new → AreMarked deeds ends old new
  marked_all k new all so_far = record {
    count = so_far.count;
    wires = λ site port on. let inside = on.inside in so_far.wires site port (omega arith) on;
    others = so_far.others;
  }
