-- The plans along the code of an `if`: the first side, its term, the second side, its term, and the node that ends the `if`.
use Rattle.std.proofs.Common.{◌≡◌, ℕ, ◌+◌, ◌<◌, arith, refl, Bool, true, false, List, [], ◌∷◌, ◌++◌, length}
use Rattle.core_term.specs.Term.{Expr, Term, If, When}
use Rattle.core_term.specs.declared.term.CoreTerm.{CoreTerm}
use Rattle.core_term.specs.Widths.{Widths}
use Rattle.core_term.specs.View.{term_of}
use Rattle.event_graph.specs.declared.node.Arm.{Arm}
use Rattle.event_graph.specs.declared.node.Kind.TheVariants as kind
use Rattle.event_graph.specs.Event.{Event}
use Rattle.elaborator.specs.declared.points.Points.{Points}
use Rattle.event_points.specs.Owned.{count}
use Rattle.event_points.specs.Placed.{arm}
use Rattle.elaborator.specs.Walk.{Plan, ActPlan, Drawn, ActDrawn}
use Rattle.elaborator.proofs.Plans.{term_early}
use Rattle.elaborator.proofs.SidePlans.{when_inner, if_first, if_second, when_drawn, if_drawn, length_pushed, length_grown}

-- the begin of a side was added
abbrev pub AddedSide : (turn p : ℕ) → Bool → ℕ → List Arm → (old new : List Event) → ℕ → List Arm → Type 0
AddedSide turn p yes_side begin these old new node inner =
    (node ≡ length old) × (inner ≡ these ++ arm turn p yes_side ∷ []) × (new ≡ old ++ record { kind = kind.Side; preds = begin ∷ []; arms = these ++ arm turn p yes_side ∷ [] } ∷ [])

-- a term was added
abbrev pub AddedTerm : (turn begin : ℕ) → List Arm → List Points → (old new : List Event) → List Points → ℕ → CoreTerm → Type 0
AddedTerm turn begin these points old new written end term = (w : Widths) (plan : Plan turn (length old) begin these points (term_of w term)) → Drawn plan old new written end

-- there is room for the other side
pub record SideRoom (between : List Event) (begin : ℕ) : Type 0 where
  pub room : length between < 8192
  pub begin_there : begin < length between

-- and for the end of both
pub record MergeRoom (between : List Event) (first second : ℕ) : Type 0 where
  pub room : length between < 8192
  pub first_there : first < length between
  pub second_there : second < length between

module _ {turn begin : ℕ} {these : List Arm} {points : List Points} (old : List Event) where
  module _ (w : Widths) (p : ℕ) (e : Expr) (yes_term : CoreTerm) (plan : ActPlan turn (length old) begin these points (When p e (term_of w yes_term))) (b1 b2 : List Event) (written : List Points) (first first_end : ℕ) (taken : List Arm)
      (side : AddedSide turn p true begin these old b1 first taken) (added : AddedTerm turn first taken points b1 b2 written first_end yes_term) where
    t : Term
    t = term_of w yes_term

    grows : length b1 ≡ length old + 1
    grows = length_pushed old b1 _ side.2

    abbrev inner : Plan turn (length b1) first taken points (term_of w yes_term)
    inner = when_inner p e (term_of w yes_term) plan (length b1) first taken side.0 side.1 grows

    drawn : Drawn inner b1 b2 written first_end
    drawn = added w inner

    pub when_side : SideRoom b2 begin
    when_side =
        let n = length_grown inner.node inner.arms b1 b2 (term_of w yes_term) drawn.events in
        let g = grows in let o = plan.room in let q = plan.early in
        record { room = omega arith; begin_there = omega arith }

    pub when_merge : (b3 : List Event) (second : ℕ) (others : List Arm) → AddedSide turn p false begin these b2 b3 second others → MergeRoom b3 first_end second
    when_merge b3 second others other =
        let n = length_grown inner.node inner.arms b1 b2 (term_of w yes_term) drawn.events in
        let m = length_pushed b2 b3 _ other.2 in
        let g = grows in let o = plan.room in let f = other.0 in let i = drawn.end_is in let j = term_early inner in
        record { room = omega arith; first_there = omega arith; second_there = omega arith }

    pub when_returns : (b3 new : List Event) (second end : ℕ) (others : List Arm) → AddedSide turn p false begin these b2 b3 second others → (end ≡ length b3) × (new ≡ b3 ++ record { kind = kind.Merge; preds = first_end ∷ second ∷ []; arms = these } ∷ []) → ActDrawn plan (plan.low + 1) old new written end
    when_returns b3 new second end others other merge =
        when_drawn p e (term_of w yes_term) plan old b1 b2 b3 new written (length b1) first first_end second end taken others refl side.0 side.1 grows side.2 drawn other.0 other.2 merge.0 merge.1

  module _ (w : Widths) (p : ℕ) (e : Expr) (b : Bool) (yes_term no_term : CoreTerm) (plan : ActPlan turn (length old) begin these points (If p e (term_of w yes_term) (term_of w no_term) b)) (b1 b2 : List Event) (between : List Points) (first first_end : ℕ) (taken : List Arm)
      (side : AddedSide turn p true begin these old b1 first taken) (added : AddedTerm turn first taken points b1 b2 between first_end yes_term) where
    if_grows : length b1 ≡ length old + 1
    if_grows = length_pushed old b1 _ side.2

    abbrev if_inner : Plan turn (length b1) first taken points (term_of w yes_term)
    if_inner = if_first p e (term_of w yes_term) (term_of w no_term) b plan (length b1) first taken side.0 side.1 if_grows

    if_inside : Drawn if_inner b1 b2 between first_end
    if_inside = added w if_inner

    pub if_side : SideRoom b2 begin
    if_side =
        let n = length_grown if_inner.node if_inner.arms b1 b2 (term_of w yes_term) if_inside.events in
        let g = if_grows in let o = plan.room in let q = plan.early in
        record { room = omega arith; begin_there = omega arith }

    module _ (b3 : List Event) (second : ℕ) (others : List Arm) (other : AddedSide turn p false begin these b2 b3 second others) where
      second_is : second ≡ length old + 1 + count (term_of w yes_term)
      second_is =
          let n = length_grown if_inner.node if_inner.arms b1 b2 (term_of w yes_term) if_inside.events in
          let g = if_grows in let f = other.0 in omega arith

      third_is : length b3 ≡ length old + 1 + count (term_of w yes_term) + 1
      third_is = let m = length_pushed b2 b3 _ other.2 in let f = other.0 in let s = second_is in omega arith

      abbrev other_inner : Plan turn (length b3) second others between (term_of w no_term)
      other_inner = if_second p e (term_of w yes_term) (term_of w no_term) b plan between (length b3) second others if_inside.written second_is other.1 third_is

      pub if_requires : (w' : Widths) × Plan turn (length b3) second others between (term_of w' no_term)
      if_requires = (w, other_inner)

      module _ (b4 : List Event) (written : List Points) (second_end : ℕ) (added_too : AddedTerm turn second others between b3 b4 written second_end no_term) where
        other_inside : Drawn other_inner b3 b4 written second_end
        other_inside = added_too w other_inner

        pub if_merge : MergeRoom b4 first_end second_end
        if_merge =
            let n = length_grown if_inner.node if_inner.arms b1 b2 (term_of w yes_term) if_inside.events in
            let m = length_grown other_inner.node other_inner.arms b3 b4 (term_of w no_term) other_inside.events in
            let g = if_grows in let h = third_is in let o = plan.room in
            let i = if_inside.end_is in let j = term_early if_inner in let k = other_inside.end_is in let l = term_early other_inner in
            record { room = omega arith; first_there = omega arith; second_there = omega arith }

        pub if_returns : (new : List Event) (end : ℕ) → (end ≡ length b4) × (new ≡ b4 ++ record { kind = kind.Merge; preds = first_end ∷ second_end ∷ []; arms = these } ∷ []) → ActDrawn plan (plan.low + 1) old new written end
        if_returns new end merge =
            if_drawn p e (term_of w yes_term) (term_of w no_term) b plan old b1 b2 b3 b4 new between written (length b1) first first_end (length b3) second second_end end taken others refl side.0 side.1 if_grows side.2 if_inside second_is other.1 third_is other.2 other_inside merge.0 merge.1
