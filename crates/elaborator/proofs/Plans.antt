-- From the plan of a part to the plans of its parts, and from what those give to what it gives.
--
-- A plan is a record of premises, each by cases on the term, so most of them are handed on as they are. What is new for a rest is that
-- the act before it is made: its points are written, and its end is one of the nodes that are there.
use Rattle.std.proofs.Common.{◌≡◌, ℕ, ◌+◌, ◌<◌, ◌≤◌, ◌⊎◌, inl, inr, arith, refl, sym, ◌∙◌, ap, subst, List, [], ◌∷◌, ◌++◌, append_assoc, Some, slice_get}
use Rattle.order_rules.specs.Form.{Join}
use Rattle.core_term.specs.Term.{Term, One, Then, Both, Act, Block, site}
use Rattle.core_term.specs.Points.{Spot, TermEnd, End, Formed, ◌is◌}
use Rattle.core_term.specs.Numbering.{OneOf, size, act_size, NumberedAct}
use Rattle.core_term.proofs.code_tables.FirstSites.{act_site, act_size_positive}
use Rattle.event_graph.specs.declared.node.Arm.{Arm}
use Rattle.event_graph.specs.declared.node.Kind.TheVariants as kind
use Rattle.event_graph.specs.Event.{Event}
use Rattle.event_graph.specs.Forms.{delays}
use Rattle.elaborator.specs.declared.points.Points.{Points}
use Rattle.event_points.specs.Owned.{end_of, owned, owned_of, count, count_of, drawn, drawn_all}
use Rattle.event_points.specs.Placed.{Placed}
use Rattle.elaborator.specs.Seen.{points_at}
use Rattle.elaborator.specs.Walk.{Made, Plan, ActPlan, Written, Drawn, ActDrawn}
use Rattle.event_points.proofs.Early.{ScopeEarly, early, act_early}

pub drawn_append : (node : Spot → ℕ) (arms : Spot → List Arm) (gs hs : List Formed) → drawn_all node arms (gs ++ hs) ≡ drawn_all node arms gs ++ drawn_all node arms hs
drawn_append node arms [] hs = refl
drawn_append node arms (g ∷ gs) hs = ap (λ (z : List Event). drawn node arms g ∷ z) (drawn_append node arms gs hs)

pub delays_append : (xs ys : List Event) → delays (xs ++ ys) ≡ delays xs + delays ys
delays_append [] ys = omega arith
delays_append (x ∷ xs) ys = let e = delays_append xs ys in omega arith

pub written_then : (node : Spot → ℕ) (low mid high : ℕ) (p q r : List Points) → low ≤ mid → Written node low mid p q → Written node mid high q r → Written node low high p r
written_then node low mid high p q r l w v = record {
  length_is = v.length_is ∙ w.length_is;
  at = λ k a b. go k a b (below k mid);
  kept = λ k a. v.kept k (omega arith) ∙ w.kept k a;
}
  where
    below : (k m : ℕ) → (k < m) ⊎ (m ≤ k)
    below k m = grind arith

    go : (k : ℕ) → low ≤ k → k < high → (k < mid) ⊎ (mid ≤ k) → slice_get r k ≡ Some (points_at node k)
    go k a b (inl c) = v.kept k c ∙ w.at k a c
    go k a b (inr c) = v.at k c b

pub written_to : (node : Spot → ℕ) (low m high n : ℕ) (p q : List Points) → low ≡ m → high ≡ n → Written node low high p q → Written node m n p q
written_to node low m high n p q e f w = record { length_is = w.length_is; at = λ k a b. w.at k (omega arith) (omega arith); kept = λ k a. w.kept k (omega arith) }

scope_early : (from : ℕ) (points : List Points) (node : Spot → ℕ) (scope : List Act) (low : ℕ) → ((y : ℕ) → OneOf scope y → (y < low) × Made node from points y) → ScopeEarly node scope from
scope_early from points node scope low m y i = (m y i).1.early

pub made_after : (from : ℕ) (points : List Points) (node : Spot → ℕ) (scope : List Act) (low m : ℕ) (a : Act) (new : List Points) → NumberedAct scope low a → from ≤ m → node (End (site a)) < m → Written node low (low + act_size a) points new → ((y : ℕ) → OneOf scope y → (y < low) × Made node from points y)
    → (y : ℕ) → OneOf (a ∷ scope) y → (y < low + act_size a) × Made node m new y
made_after from points node scope low m a new n l e w made y (inl i) =
    let s : site a ≡ low = act_site scope low a n in
    let z = act_size_positive a in
    let P : ℕ → Type 0 = λ q. (q < low + act_size a) × Made node m new q in
    subst P (sym i) (omega arith, record { early = e; at = w.at (site a) (omega arith) (omega arith) })
made_after from points node scope low m a new n l e w made y (inr i) =
    let k = made y i in
    let j = k.0 in
    let g = k.1.early in
    (omega arith, record { early = omega arith; at = w.kept y k.0 ∙ k.1.at })

module _ {turn from begin : ℕ} {these : List Arm} {points : List Points} where
  -- the end of what is planned comes before the nodes that follow
  pub term_early : {t : Term} (plan : Plan turn from begin these points t) → plan.node (end_of t) < from + count t
  term_early {t = t} plan = let e = plan.early in let b = plan.begin_is in (early plan.node plan.scope plan.low from t plan.numbered plan.placed (omega arith) (scope_early from points plan.node plan.scope plan.low plan.made)).1

  pub end_early : {a : Act} (plan : ActPlan turn from begin these points a) → plan.node (End (site a)) < from + count_of a
  end_early {a = a} plan = let e = plan.early in let b = plan.begin_is in (act_early plan.node plan.scope plan.low from a plan.numbered plan.placed (omega arith) (scope_early from points plan.node plan.scope plan.low plan.made)).1

  abbrev pub one_plan : (a : Act) → Plan turn from begin these points (One a) → ActPlan turn from begin these points a
  one_plan a plan = record {
    node = plan.node;
    arms = plan.arms;
    scope = plan.scope;
    low = plan.low;
    numbered = plan.numbered;
    placed = plan.placed.2;
    head = plan.lies.0;
    lies = plan.lies.1;
    begin_is = plan.placed.0 ∙ plan.begin_is;
    early = plan.early;
    made = plan.made;
    sites = plan.sites;
    room = plan.room;
  }

  abbrev pub then_plan : (a : Act) (t : Term) → Plan turn from begin these points (Then a t) → ActPlan turn from begin these points a
  then_plan a t plan = record {
    node = plan.node;
    arms = plan.arms;
    scope = plan.scope;
    low = plan.low;
    numbered = plan.numbered.0;
    placed = plan.placed.3;
    head = plan.lies.0;
    lies = plan.lies.1;
    begin_is = plan.placed.0 ∙ plan.begin_is;
    early = plan.early;
    made = plan.made;
    sites = let k = plan.sites in omega arith;
    room = let k = plan.room in omega arith;
  }

  abbrev pub both_plan : (a : Act) (t : Term) → Plan turn from begin these points (Both a t) → ActPlan turn from begin these points a
  both_plan a t plan = record {
    node = plan.node;
    arms = plan.arms;
    scope = plan.scope;
    low = plan.low;
    numbered = plan.numbered.0;
    placed = plan.placed.3;
    head = plan.lies.0;
    lies = plan.lies.1;
    begin_is = plan.placed.0 ∙ plan.begin_is;
    early = plan.early;
    made = plan.made;
    sites = let k = plan.sites in omega arith;
    room = let k = plan.room in omega arith;
  }

  abbrev pub block_plan : (p : ℕ) (t : Term) → ActPlan turn from begin these points (Block p t) → Plan turn from begin these points t
  block_plan p t plan = record {
    node = plan.node;
    arms = plan.arms;
    scope = plan.scope;
    low = plan.low + 1;
    numbered = plan.numbered.1;
    placed = plan.placed.2;
    lies = plan.lies;
    begin_is = plan.placed.0 ∙ plan.begin_is;
    early = plan.early;
    made = λ y i. let k = plan.made y i in (let j = k.0 in omega arith, k.1);
    sites = let k = plan.sites in omega arith;
    room = plan.room;
  }

  abbrev pub then_rest : (a : Act) (t : Term) (plan : Plan turn from begin these points (Then a t)) (old new : List Event) (written : List Points) (end m : ℕ) → ActDrawn (then_plan a t plan) plan.low old new written end → from + count_of a ≡ m → Plan turn m end these written t
  then_rest a t plan old new written end m d e = record {
    node = plan.node;
    arms = plan.arms;
    scope = a ∷ plan.scope;
    low = plan.low + act_size a;
    numbered = plan.numbered.1;
    placed = let P : ℕ → Type 0 = λ z. Placed plan.node z t in subst P e plan.placed.4;
    lies = plan.lies.2;
    begin_is = plan.placed.1 ∙ sym d.end_is;
    early = let k = end_early (then_plan a t plan) in let f = d.end_is in omega arith;
    made = let k = end_early (then_plan a t plan) in made_after from points plan.node plan.scope plan.low m a written plan.numbered.0 (omega arith) (omega arith) d.written plan.made;
    sites = let k = plan.sites in let f = d.written.length_is in omega arith;
    room = let k = plan.room in omega arith;
  }

  abbrev pub both_rest : (a : Act) (t : Term) (plan : Plan turn from begin these points (Both a t)) (old new : List Event) (written : List Points) (end m : ℕ) → ActDrawn (both_plan a t plan) plan.low old new written end → from + count_of a ≡ m → Plan turn m begin these written t
  both_rest a t plan old new written end m d e = record {
    node = plan.node;
    arms = plan.arms;
    scope = a ∷ plan.scope;
    low = plan.low + act_size a;
    numbered = plan.numbered.1;
    placed = let P : ℕ → Type 0 = λ z. Placed plan.node z t in subst P e plan.placed.4;
    lies = plan.lies.2;
    begin_is = plan.placed.1 ∙ plan.begin_is;
    early = let k = plan.early in omega arith;
    made = let k = end_early (both_plan a t plan) in made_after from points plan.node plan.scope plan.low m a written plan.numbered.0 (omega arith) (omega arith) d.written plan.made;
    sites = let k = plan.sites in let f = d.written.length_is in omega arith;
    room = let k = plan.room in omega arith;
  }

  pub one_drawn : (a : Act) (plan : Plan turn from begin these points (One a)) (old new : List Event) (written : List Points) (end : ℕ) → ActDrawn (one_plan a plan) plan.low old new written end → Drawn plan old new written end
  one_drawn a plan old new written end d = record { end_is = d.end_is ∙ sym plan.placed.1; events = d.events; short = d.short; written = d.written }

  pub then_drawn : (a : Act) (t : Term) (plan : Plan turn from begin these points (Then a t)) (old mid new : List Event) (first written : List Points) (begun end m : ℕ) (d : ActDrawn (then_plan a t plan) plan.low old mid first begun) (e : from + count_of a ≡ m)
      → Drawn (then_rest a t plan old mid first begun m d e) mid new written end → Drawn plan old new written end
  then_drawn a t plan old mid new first written begun end m d e r =
      let acts = drawn_all plan.node plan.arms (owned_of a) in
      let ts = drawn_all plan.node plan.arms (owned t) in
      let f : drawn_all plan.node plan.arms (owned_of a ++ owned t) ≡ acts ++ ts = drawn_append plan.node plan.arms (owned_of a) (owned t) in
      record {
        end_is = r.end_is ∙ sym plan.placed.2;
        events = r.events ∙ (ap (λ (z : List Event). z ++ ts) d.events ∙ (append_assoc old acts ts ∙ ap (λ (z : List Event). old ++ z) (sym f)));
        short = let i = d.short in let j = r.short in let k = ap delays f in let l = delays_append acts ts in omega arith;
        written = written_to plan.node plan.low plan.low (plan.low + act_size a + size t) (plan.low + (act_size a + size t)) points written refl (omega arith) (written_then plan.node plan.low (plan.low + act_size a) (plan.low + act_size a + size t) points first written (omega arith) d.written r.written);
      }

  pub both_drawn : (a : Act) (t : Term) (plan : Plan turn from begin these points (Both a t)) (old mid late new : List Event) (first written : List Points) (begun last end m : ℕ) (d : ActDrawn (both_plan a t plan) plan.low old mid first begun) (e : from + count_of a ≡ m)
      → Drawn (both_rest a t plan old mid first begun m d e) mid late written last → end ≡ from + count_of a + count t → new ≡ late ++ record { kind = kind.Join; preds = begun ∷ last ∷ []; arms = these } ∷ [] → Drawn plan old new written end
  both_drawn a t plan old mid late new first written begun last end m d e r g h =
      let acts = drawn_all plan.node plan.arms (owned_of a) in
      let ts = drawn_all plan.node plan.arms (owned t) in
      let join = TermEnd (site a) is Join (End (site a)) (end_of t) in
      let j = drawn plan.node plan.arms join in
      let f : drawn_all plan.node plan.arms (owned_of a ++ (owned t ++ join ∷ [])) ≡ acts ++ (ts ++ j ∷ []) =
      drawn_append plan.node plan.arms (owned_of a) (owned t ++ join ∷ []) ∙ ap (λ (z : List Event). acts ++ z) (drawn_append plan.node plan.arms (owned t) (join ∷ [])) in
      let same : record { kind = kind.Join; preds = begun ∷ last ∷ []; arms = these } ≡ j = rw (d.end_is, r.end_is, plan.lies.0.term_end) refl in
      let all : new ≡ old ++ (acts ++ (ts ++ j ∷ [])) =
      h ∙ (ap (λ (z : Event). late ++ z ∷ []) same ∙ (ap (λ (z : List Event). z ++ j ∷ []) (r.events ∙ ap (λ (z : List Event). z ++ ts) d.events) ∙ simp append_assoc)) in
      record {
        end_is = g ∙ sym plan.placed.2;
        events = all ∙ ap (λ (z : List Event). old ++ z) (sym f);
        short = let i = d.short in let k = r.short in let l = ap delays f in let n = delays_append acts (ts ++ j ∷ []) in let o = delays_append ts (j ∷ []) in omega arith;
        written = written_to plan.node plan.low plan.low (plan.low + act_size a + size t) (plan.low + (act_size a + size t)) points written refl (omega arith) (written_then plan.node plan.low (plan.low + act_size a) (plan.low + act_size a + size t) points first written (omega arith) d.written r.written);
      }

  pub block_drawn : (p : ℕ) (t : Term) (plan : ActPlan turn from begin these points (Block p t)) (old new : List Event) (written : List Points) (end : ℕ) → Drawn (block_plan p t plan) old new written end → ActDrawn plan (plan.low + 1) old new written end
  block_drawn p t plan old new written end d = record {
    end_is = d.end_is ∙ sym plan.placed.1;
    events = d.events;
    short = let i = d.short in omega arith;
    written = written_to plan.node (plan.low + 1) (plan.low + 1) (plan.low + 1 + size t) (plan.low + (1 + size t)) points written refl (omega arith) d.written;
  }
