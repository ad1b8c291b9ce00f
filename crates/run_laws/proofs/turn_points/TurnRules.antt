-- Every point of a turn obeys its local rule, in the words of the law.
--
-- That each point obeys the rule of its form is proved in `Live`, by induction over terms. What is added here is read off what
-- became of one act: the end of an act on a port is the first cycle in which its wire is 1, and of an `if` the fates inside the
-- two sides are those of a term that begins with it, or lost. The hard case is the side of an `if` inside a chain: its place is
-- found by the numbers of the sites, which is why the body has to be numbered.
use Rattle.std.proofs.Common.{◌≡◌, ℕ, ◌+◌, ◌-◌, ◌<◌, ◌≤◌, arith, refl, sym, ◌∙◌, ap, subst, List, [], Bool, true, false, if◌then◌else◌, nat_lt, Some}
use Rattle.std.proofs.lemmas.Bool.Decides.{nat_tests}
use Rattle.core_term.specs.Inputs.{Inputs}
use Rattle.core_term.specs.Term.{Expr, Term, One, Then, Both, Act, Cycle, Set, Send, Recv, If, When, Block, Wait, Pure, Nothing, site, head}
use Rattle.core_term.specs.Numbering.{size, act_size, Numbered, NumberedAct}
use Rattle.core_term.specs.Value.{Value, Outcome, Done}
use Rattle.core_term.specs.Ends.{Sees, first, found}
use Rattle.core_term.specs.Fate.{Fate, Lost, Runs, fate, inside}
use Rattle.core_term.specs.Turns.{begins, run_of}
use Rattle.core_term.specs.Stands.{Stands}
use Rattle.core_term.specs.Acts.{OnPort, Asks}
use Rattle.core_term.specs.Points.{TermBegin, End, NoSide}
use Rattle.core_term.specs.Occurs.{Gone, At, of_outcome, begin_at, end_at, no_side, no_side_at}
use Rattle.run_laws.specs.TurnLaws.{times, IsFirst, answer, Takes, ObeysRules}
use Rattle.core_term.proofs.code_tables.FirstSites.{head_site, size_positive}
use Rattle.run_laws.proofs.turn_points.Live.{Agrees, fate_head}
use Rattle.run_laws.proofs.turn_points.Parts.{one_inner, then_inner, both_inner, if_yes_is, if_no_is}
use Rattle.run_laws.proofs.turn_points.Order.{rule, body_begin, body_begins}
use Rattle.run_laws.proofs.turn_points.Placed.{Ran, place, site_is, done_from}
use Rattle.run_laws.proofs.source_runs.Offers.{first_by, found_is, found_by}
use Rattle.run_laws.proofs.rereading.Decide.{within}

-- the first 1 of a wire is what a walk finds
first_is : (wire : ℕ → Bool) (start n t : ℕ) (v : ℕ → Value) (w : Value) → found (first wire start n) v ≡ Done t w → IsFirst wire (start + n) start t
first_is wire start n t v w e =
    let by_found_is = found_is wire start n v t w e in
    record {
      within = by_found_is.1;
      from = by_found_is.2;
      is = by_found_is.0;
      none = λ u l m k.
          let by_first_by = first_by wire start n u l (omega (arith, by_found_is.1)) k in
          let same : Done by_first_by.0 (v by_first_by.0) ≡ Done t w = sym (ap (λ r. found r v) by_first_by.2) ∙ e in
          let equal : by_first_by.0 ≡ t = cc in
          omega (arith, by_first_by.1);
    }

is_first : (wire : ℕ → Bool) (start n t : ℕ) (v : ℕ → Value) → IsFirst wire (start + n) start t → found (first wire start n) v ≡ Done t (v t)
is_first wire start n t v k = found_by wire start n v t k.from k.within k.is (record { begun = k.from; not_ended = λ e w q. not_before e w q (nat_lt e t) refl })
  where
    not_before : (e : ℕ) (w : Value) → found (first wire start n) v ≡ Done e w → (b : Bool) → nat_lt e t ≡ b → t ≤ e
    not_before e w q true f = let is_less : e < t = grind (arith, nat_tests) in let next_by_found_is = found_is wire start n v e w q in absurd (k.none e next_by_found_is.2 is_less next_by_found_is.0)
    not_before e w q false f = grind (arith, nat_tests)

module _ (inputs : Inputs) (view : Sees) (body : Term) (numbered : Numbered [] 0 body) (i : ℕ) where
  abbrev run : ℕ → Fate
  run = run_of inputs view body i

  abbrev here : (q : ℕ) (scope : ℕ → Outcome) (start : ℕ) (u : Term) → run q ≡ Runs scope start u → Ran inputs view body numbered i q scope start u
  here q scope start u runs = record { inside = within inputs body numbered view i q scope start u runs; runs = runs }

  begin : (t : ℕ) → begins inputs view body i ≡ Some t → times inputs view body i (TermBegin (site (head body))) ≡ At t
  begin t e = rw e (body_begins inputs view body numbered t)

  stands : (q : ℕ) (scope : ℕ → Outcome) (start : ℕ) (u : Term) → run q ≡ Runs scope start u → (vs : List Act) × Stands [] body vs u × (site (head u) ≡ q)
  stands q scope start u runs =
      let by_here = here q scope start u runs in
      let by_place = place inputs view body numbered i q scope start u by_here in
      (by_place.1, by_place.3.stands, site_is inputs view body numbered i q scope start u by_here)

  -- the list goes on from the begin of an act
  short : (q : ℕ) (scope : ℕ → Outcome) (start : ℕ) (u : Term) → run q ≡ Runs scope start u → start + (inputs.count - start) ≡ inputs.count
  short q scope start u runs =
      let next_by_place = place inputs view body numbered i q scope start u (here q scope start u runs) in
      let next_is_less : start < inputs.count = next_by_place.3.fits.1 in omega arith

  sync_up : (q : ℕ) (scope : ℕ → Outcome) (start : ℕ) (u : Term) (m t : ℕ) → run q ≡ Runs scope start u → OnPort (head u) m → times inputs view body i (End q) ≡ At t → IsFirst (answer inputs (head u)) inputs.count start t
  sync_up q scope start u m t runs on e = go (head u) refl on (sym (ap (end_at inputs view) runs) ∙ e)
    where
      sized : (wire : ℕ → Bool) → IsFirst wire (start + (inputs.count - start)) start t → IsFirst wire inputs.count start t
      sized wire k = subst (λ c. IsFirst wire c start t) (short q scope start u runs) k

      go : (a : Act) → head u ≡ a → OnPort a m → end_at inputs view (Runs scope start u) ≡ At t → IsFirst (answer inputs a) inputs.count start t
      go (Send p n f) k on e = sized (inputs.ack n) (let by_done_from = done_from inputs view body numbered _ t (rw k at e) in first_is (inputs.ack n) start (inputs.count - start) t _ by_done_from.0 by_done_from.1)
      go (Recv p n) k on e = sized (inputs.valid n) (let next_by_done_from = done_from inputs view body numbered _ t (rw k at e) in first_is (inputs.valid n) start (inputs.count - start) t _ next_by_done_from.0 next_by_done_from.1)
      go (Cycle p n) k on e = elim on [ ]
      go (Set p r f) k on e = elim on [ ]
      go (If p f v w d) k on e = elim on [ ]
      go (When p f v) k on e = elim on [ ]
      go (Block p v) k on e = elim on [ ]
      go (Wait p y) k on e = elim on [ ]
      go (Pure p f) k on e = elim on [ ]
      go (Nothing p) k on e = elim on [ ]

  sync_down : (q : ℕ) (scope : ℕ → Outcome) (start : ℕ) (u : Term) (m t : ℕ) → run q ≡ Runs scope start u → OnPort (head u) m → IsFirst (answer inputs (head u)) inputs.count start t → times inputs view body i (End q) ≡ At t
  sync_down q scope start u m t runs on e = ap (end_at inputs view) runs ∙ go (head u) refl on e
    where
      sized : (wire : ℕ → Bool) → IsFirst wire inputs.count start t → IsFirst wire (start + (inputs.count - start)) start t
      sized wire k = subst (λ c. IsFirst wire c start t) (sym (short q scope start u runs)) k

      go : (a : Act) → head u ≡ a → OnPort a m → IsFirst (answer inputs a) inputs.count start t → end_at inputs view (Runs scope start u) ≡ At t
      go (Send p n f) k on e = rw k (ap of_outcome (is_first (inputs.ack n) start (inputs.count - start) t _ (sized (inputs.ack n) e)))
      go (Recv p n) k on e = rw k (ap of_outcome (is_first (inputs.valid n) start (inputs.count - start) t _ (sized (inputs.valid n) e)))
      go (Cycle p n) k on e = elim on [ ]
      go (Set p r f) k on e = elim on [ ]
      go (If p f v w d) k on e = elim on [ ]
      go (When p f v) k on e = elim on [ ]
      go (Block p v) k on e = elim on [ ]
      go (Wait p y) k on e = elim on [ ]
      go (Pure p f) k on e = elim on [ ]
      go (Nothing p) k on e = elim on [ ]

  -- a side that is taken begins with the `if`
  begins_there : (vs : List Act) (scope : ℕ → Outcome) (start at : ℕ) (v : Term) → Numbered vs at v → run (site (head v)) ≡ fate inputs view scope start v (site (head v)) → times inputs view body i (TermBegin (site (head v))) ≡ At start
  begins_there vs scope start at v m k = ap begin_at (k ∙ (ap (fate inputs view scope start v) (head_site vs at v m) ∙ fate_head inputs view scope start vs at v m))

  -- of an `if` at the site low that begins at start, with what becomes of the acts inside
  taken_if : (vs : List Act) (low : ℕ) (scope : ℕ → Outcome) (start p : ℕ) (e : Expr) (t u : Term) (w : Bool) → NumberedAct vs low (If p e t u w) → Agrees run (inside inputs view scope start (If p e t u w)) (low + 1) (low + act_size (If p e t u w))
      → Takes (times inputs view body i) start (view.decide p start scope e) (If p e t u w)
  taken_if vs low scope start p e t u w n g = go (view.decide p start scope e) (at_first refl) (at_second refl)
    where
      at_first : {b : Bool} → view.decide p start scope e ≡ b → run (site (head t)) ≡ (if b then fate inputs view scope start t (site (head t)) else Lost)
      at_first {b = b} k =
          let is_less : 0 < size t = size_positive t in
          let equal : site (head t) ≡ low + 1 = head_site vs (low + 1) t n.1 in
          if_yes_is inputs view run vs low scope start p e t u w n g (site (head t)) (omega arith) (omega arith) ∙ ap (λ c. if c then fate inputs view scope start t (site (head t)) else Lost) k

      at_second : {b : Bool} → view.decide p start scope e ≡ b → run (site (head u)) ≡ (if b then Lost else fate inputs view scope start u (site (head u)))
      at_second {b = b} k =
          let next_is_less : 0 < size u = size_positive u in
          let next_equal : site (head u) ≡ low + (1 + size t) = head_site vs (low + (1 + size t)) u n.2 in
          if_no_is inputs view run vs low scope start p e t u w n g (site (head u)) (omega arith) (omega arith) ∙ ap (λ c. if c then Lost else fate inputs view scope start u (site (head u))) k

      go : (b : Bool) → run (site (head t)) ≡ (if b then fate inputs view scope start t (site (head t)) else Lost) → run (site (head u)) ≡ (if b then Lost else fate inputs view scope start u (site (head u))) → Takes (times inputs view body i) start b (If p e t u w)
      go true k l = (begins_there vs scope start (low + 1) t n.1 k, ap begin_at l)
      go false k l = (ap begin_at k, begins_there vs scope start (low + (1 + size t)) u n.2 l)

  taken_when : (vs : List Act) (low : ℕ) (scope : ℕ → Outcome) (start p : ℕ) (e : Expr) (t rest : Term) → NumberedAct vs low (When p e t) → Agrees run (inside inputs view scope start (When p e t)) (low + 1) (low + act_size (When p e t))
      → run low ≡ Runs scope start rest → head rest ≡ When p e t → Takes (times inputs view body i) start (view.decide p start scope e) (When p e t)
  taken_when vs low scope start p e t rest n g runs is = go (view.decide p start scope e) (at_first refl) (at_missing refl)
    where
      at_first : {b : Bool} → view.decide p start scope e ≡ b → run (site (head t)) ≡ (if b then fate inputs view scope start t (site (head t)) else Lost)
      at_first k =
          let is_less : 0 < size t = size_positive t in
          let equal : site (head t) ≡ low + 1 = head_site vs (low + 1) t n.1 in
          g.each (site (head t)) (omega arith) (omega arith) ∙ ap (λ c. if c then fate inputs view scope start t (site (head t)) else Lost) k

      at_missing : {b : Bool} → view.decide p start scope e ≡ b → times inputs view body i (NoSide p) ≡ (if b then Gone else At start)
      at_missing k =
          let next_equal : run p ≡ Runs scope start rest = ap run n.0 ∙ runs in
          ap (no_side_at view) next_equal ∙ (ap (no_side view scope start) is ∙ ap (λ c. if c then Gone else At start) k)

      go : (b : Bool) → run (site (head t)) ≡ (if b then fate inputs view scope start t (site (head t)) else Lost) → times inputs view body i (NoSide p) ≡ (if b then Gone else At start) → Takes (times inputs view body i) start b (When p e t)
      go true k l = (begins_there vs scope start (low + 1) t n.1 k, l)
      go false k l = (ap begin_at k, l)

  -- what becomes of the acts inside the act that a term begins with
  inner : (vs : List Act) (low : ℕ) (scope : ℕ → Outcome) (start : ℕ) (u : Term) → Numbered vs low u → Agrees run (fate inputs view scope start u) low (low + size u) → NumberedAct vs low (head u) × Agrees run (inside inputs view scope start (head u)) (low + 1) (low + act_size (head u))
  inner vs low scope start (One a) n g = (n, one_inner inputs view run vs low scope start a n g)
  inner vs low scope start (Then a t) n g = (n.0, then_inner inputs view run vs low scope start a t n g)
  inner vs low scope start (Both a t) n g = (n.0, both_inner inputs view run vs low scope start a t n g)

  side : (q : ℕ) (scope : ℕ → Outcome) (start : ℕ) (u : Term) (e : Expr) → run q ≡ Runs scope start u → Asks (head u) e → Takes (times inputs view body i) start (view.decide q start scope e) (head u)
  side q scope start u e runs asks =
      let by_place = place inputs view body numbered i q scope start u (here q scope start u runs) in
      let by_inner = inner by_place.1 q scope start u by_place.3.numbered by_place.3.agrees in
      go by_place.1 (head u) refl asks by_inner.0 by_inner.1
    where
      decides : (p : ℕ) (f : Expr) → p ≡ q → f ≡ e → view.decide p start scope f ≡ view.decide q start scope e
      decides p f k l = ap (λ z. view.decide z start scope f) k ∙ ap (view.decide q start scope) l

      go : (vs : List Act) (a : Act) → head u ≡ a → Asks a e → NumberedAct vs q a → Agrees run (inside inputs view scope start a) (q + 1) (q + act_size a) → Takes (times inputs view body i) start (view.decide q start scope e) a
      go vs (If p f t v w) k asks n l = let Statement : Bool → Type 0 = λ b. Takes (times inputs view body i) start b (If p f t v w) in subst Statement (decides p f n.0 asks) (taken_if vs q scope start p f t v w n l)
      go vs (When p f t) k asks n l = let next_Statement : Bool → Type 0 = λ b. Takes (times inputs view body i) start b (When p f t) in subst next_Statement (decides p f n.0 asks) (taken_when vs q scope start p f t u n l runs k)
      go vs (Cycle p c) k asks n l = elim asks [ ]
      go vs (Set p r f) k asks n l = elim asks [ ]
      go vs (Send p m f) k asks n l = elim asks [ ]
      go vs (Recv p m) k asks n l = elim asks [ ]
      go vs (Block p t) k asks n l = elim asks [ ]
      go vs (Wait p y) k asks n l = elim asks [ ]
      go vs (Pure p f) k asks n l = elim asks [ ]
      go vs (Nothing p) k asks n l = elim asks [ ]

  pub obeys_rules : ObeysRules inputs view body i
  obeys_rules = record {
    rule = rule inputs view body numbered (begins inputs view body i);
    begin = begin;
    begin_back = body_begin inputs view body numbered (begins inputs view body i);
    stands = stands;
    sync = λ q scope start u m runs on t. (sync_up q scope start u m t runs on, sync_down q scope start u m t runs on);
    side = side;
  }
