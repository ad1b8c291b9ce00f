-- One cycle more of the acts of a turn: what is kept of them after the cycle is what has become of them by it.
--
-- By induction over terms and acts. A part of a term that has not begun is reached for the first time in the cycle in which what
-- stands before it has ended, so it begins there; a part that has begun goes on. The hard case is a chain: whether its rest goes
-- on, begins or waits is told by the outcome of its act, by the cycle before and by this one.
use Rattle.std.proofs.Common.{◌≡◌, ℕ, ◌+◌, ◌-◌, ◌<◌, ◌≤◌, ◌⊎◌, inl, inr, arith, refl, sym, ◌∙◌, ap, subst, List, [], ◌∷◌, length, Bool, true, false, if◌then◌else◌, ◌==◌, nat_lt, nat_le, Option, Some, None}
use Rattle.std.specs.Prelude.{slice_set}
use Rattle.std.proofs.Common.{get_or-set_same, get_or-set_other, length-set}
use Rattle.std.proofs.lemmas.Bool.Decides.{nat_tests}
use Rattle.anvil_bits.specs.Number.{Number}
use Rattle.core_term.specs.declared.rows.InCell.{InCell}
use Rattle.core_term.specs.Rows.{nth_cell, valid_in, ack_in}
use Rattle.core_term.specs.Inputs.{Inputs}
use Rattle.core_term.specs.Term.{Expr, Term, One, Then, Both, Act, Cycle, Set, Send, Recv, If, When, Block, Wait, Pure, Nothing, site}
use Rattle.core_term.specs.Numbering.{size, act_size, OneOf, Numbered, NumberedAct}
use Rattle.core_term.specs.Value.{Value, Outcome, Open, Done, value, nothing, Wire}
use Rattle.core_term.specs.Ends.{sees, bind, ends, act_ends, first, found, after_end, decided}
use Rattle.run_laws.proofs.turn_points.NotBefore.{NotBefore, ends_from, act_ends_from}
use Rattle.core_term.proofs.code_tables.FirstSites.{act_site, act_size_positive}
use Rattle.sim_laws.specs.declared.act_state.ActState.{ActState}
use Rattle.sim_laws.specs.Advance.{Advanced, state_at, number_in, zero_bit, visit_state, visit, close_with, close, timed, talked, waited_for, unit_of, word_of, then_on, advance, advance_act}
use Rattle.sim_laws.specs.Remembers.{ended_by, over_by, made_by, Shown, Waiting, Chosen, After, ShownAct, Remembers, RemembersInside, RemembersAct}
use Rattle.sim_laws.specs.Present.{value_by}
use Rattle.sim_laws.proofs.Leaf.{made_before, numbered_made, Coming, Knows, ReadsIn, number_is, Reached, begins_reached, goes_on_reached, closes, timed_is, talked_is, waited_is, later_is, word_is, unit_is, at_once, made_unit, taken_is}
use Rattle.sim_laws.proofs.Touched.{Below, SameIn, Touches, after_map, below_more, inside_same, knows_more, knows_same, late_none, reads_in, remembers_same, same_after, same_before, shown_same, state_set, touches_both, touches_more, touches_none, waiting_same}

module _ (n : ℕ) (inputs : Inputs) (history : ℕ → ℕ → ℕ) (cells : List InCell) (regs : List Number) (coming : Coming n inputs history cells regs) where
  -- a term begins in the cycle n, or it goes on from the cycle before
  pub data Ready (scope : ℕ → Outcome) (s low : ℕ) (t : Term) (acts : List ActState) : Type 0 where
    begins : s ≡ n → Waiting acts low (size t) → Ready scope s low t acts
    goes_on : (b : ℕ) → n ≡ b + 1 → s ≤ b → Remembers b inputs history scope s low t acts → Ready scope s low t acts

  pub data ReadyAct (scope : ℕ → Outcome) (s low : ℕ) (a : Act) (acts : List ActState) : Type 0 where
    begins : s ≡ n → Waiting acts low (act_size a) → ReadyAct scope s low a acts
    goes_on : (b : ℕ) → n ≡ b + 1 → s ≤ b → RemembersAct b inputs history scope s low a acts → ReadyAct scope s low a acts

  -- what holds of one cycle more
  pub record Advances (scope : ℕ → Outcome) (s low : ℕ) (t : Term) (acts : List ActState) (r : Advanced) : Type 0 where
    pub remembers : Remembers n inputs history scope s low t r.acts
    pub made : numbered_made r.made ≡ value_by n (ends inputs (sees history) scope s t)
    pub touches : Touches low (size t) acts r.acts

  pub record AdvancesAct (scope : ℕ → Outcome) (s low : ℕ) (a : Act) (acts : List ActState) (r : Advanced) : Type 0 where
    pub shown : ShownAct n inputs history scope s a r.acts
    pub inside : RemembersInside n inputs history scope s low a r.acts
    pub made : numbered_made r.made ≡ value_by n (act_ends inputs (sees history) scope s a)
    pub touches : Touches low (act_size a) acts r.acts

  -- what follows an act in a chain: it begins in the cycle n or goes on, where the act has ended
  data ReadyRest (scope : ℕ → Outcome) (s : ℕ) (a : Act) (o : Outcome) (low : ℕ) (t : Term) (acts : List ActState) : Type 0 where
    begins : s ≡ n → Waiting acts low (size t) → ReadyRest scope s a o low t acts
    goes_on : (b : ℕ) → n ≡ b + 1 → s ≤ b → After b o (λ e v. Remembers b inputs history (bind scope (site a) (Done e v)) e low t acts) (Waiting acts low (size t)) → ReadyRest scope s a o low t acts

  abbrev Chains : (scope : ℕ → Outcome) (s : ℕ) (a : Act) (o : Outcome) (low : ℕ) (t : Term) (acts : List ActState) (r : Advanced) → Type 0
  Chains scope s a o low t acts r =
      After n o (λ e v. Remembers n inputs history (bind scope (site a) (Done e v)) e low t r.acts) (Waiting r.acts low (size t))
      × (numbered_made r.made ≡ value_by n (after_end inputs o (λ e v. ends inputs (sees history) (bind scope (site a) (Done e v)) e t)))
      × Touches low (size t) acts r.acts

  rest_waits : (scope : ℕ → Outcome) (s : ℕ) (a : Act) (e : ℕ) (v : Value) (low : ℕ) (t : Term) (acts : List ActState) → n ≤ e → ReadyRest scope s a (Done e v) low t acts → Waiting acts low (size t)
  rest_waits scope s a e v low t acts l (begins i w) = w
  rest_waits scope s a e v low t acts l (goes_on b i j k) = let z : nat_le e b ≡ false = grind (arith, nat_tests) in rw z at k

  rest_ready : (scope : ℕ → Outcome) (s : ℕ) (a : Act) (e : ℕ) (v : Value) (low : ℕ) (t : Term) (acts : List ActState) → s ≤ e → e ≤ n → ReadyRest scope s a (Done e v) low t acts → Ready (bind scope (site a) (Done e v)) e low t acts
  rest_ready scope s a e v low t acts m l (begins i w) = begins (omega arith) w
  rest_ready scope s a e v low t acts m l (goes_on b i j k) = go (nat_le e b) refl k
    where
      go : (c : Bool) → nat_le e b ≡ c → Chosen c (Remembers b inputs history (bind scope (site a) (Done e v)) e low t acts) (Waiting acts low (size t)) → Ready (bind scope (site a) (Done e v)) e low t acts
      go true f r = let z : e ≤ b = grind (arith, nat_tests) in goes_on b i z r
      go false f w = let z : b < e = grind (arith, nat_tests) in begins (omega arith) w

  chain : (vs : List Act) (scope : ℕ → Outcome) (s : ℕ) (a : Act) (o : Outcome) (low : ℕ) (t : Term) (acts : List ActState) (w : Option Number) → NotBefore s o → numbered_made w ≡ value_by n o → Knows n (a ∷ vs) (bind scope (site a) o) acts
      → ReadyRest scope s a o low t acts
      → ((e : ℕ) (v : Value) → Knows n (a ∷ vs) (bind scope (site a) (Done e v)) acts → Ready (bind scope (site a) (Done e v)) e low t acts → Advances (bind scope (site a) (Done e v)) e low t acts (advance cells regs t acts))
      → Chains scope s a o low t acts (then_on w acts (λ acts'. advance cells regs t acts'))
  chain vs scope s a Open low t acts (Some x) from e knows ready next = absurd cc
  chain vs scope s a Open low t acts None from e knows (begins i k) next = (k, refl, touches_none low (size t) acts)
  chain vs scope s a Open low t acts None from e knows (goes_on b i j k) next = (k, refl, touches_none low (size t) acts)
  chain vs scope s a (Done c v) low t acts None from e knows ready next = go (nat_le c n) refl e
    where
      go : (d : Bool) → nat_le c n ≡ d → None ≡ (if d then Some v.number else None) → Chains scope s a (Done c v) low t acts (record { made = None; acts = acts })
      go true f i = absurd cc
      go false f i =
          let l : n < c = grind (arith, nat_tests) in (
            rw f (rest_waits scope s a c v low t acts (omega arith) ready),
            later (nat_lt c inputs.count),
            touches_none low (size t) acts,
          )
        where
          later : (d : Bool) → None ≡ value_by n (if d then ends inputs (sees history) (bind scope (site a) (Done c v)) c t else Open)
          later true = let l : n < c = grind (arith, nat_tests) in sym (late_none n c _ (ends_from inputs (sees history) (bind scope (site a) (Done c v)) c t) l)
          later false = refl
  chain vs scope s a (Done c v) low t acts (Some x) from e knows ready next = go (nat_le c n) refl e
    where
      go : (d : Bool) → nat_le c n ≡ d → Some x.value ≡ (if d then Some v.number else None) → Chains scope s a (Done c v) low t acts (advance cells regs t acts)
      go false f i = absurd cc
      go true f i =
          let l : c ≤ n = grind (arith, nat_tests) in
          let m : n < inputs.count = coming.inside in
          let z = next c v knows (rest_ready scope s a c v low t acts from l ready) in
          let y : nat_lt c inputs.count ≡ true = grind (arith, nat_tests) in (
            rw f z.remembers,
            rw y z.made,
            z.touches,
          )

  visit_long : (a : Act) (acts : List ActState) → length (visit regs a acts) ≡ length acts
  visit_long a acts = length-set acts (site a) _

  -- the act is reached
  reached : (vs : List Act) (low : ℕ) (scope : ℕ → Outcome) (s : ℕ) (a : Act) (acts : List ActState) → NumberedAct vs low a → low + act_size a ≤ length acts → Knows n vs scope acts → ReadyAct scope s low a acts
      → Reached n history scope s (act_ends inputs (sees history) scope s a) a (state_at (visit regs a acts) (site a))
  reached vs low scope s a acts numbered room knows ready =
      let l : site a ≡ low = act_site vs low a numbered in
      let p : 0 < act_size a = act_size_positive a in
      subst (λ m. Reached n history scope s (act_ends inputs (sees history) scope s a) a m) (sym (state_set acts (site a) _ (omega arith))) (go ready)
    where
      go : ReadyAct scope s low a acts → Reached n history scope s (act_ends inputs (sees history) scope s a) a (visit_state regs acts a (state_at acts (site a)))
      go (begins e waits) =
          let l : site a ≡ low = act_site vs low a numbered in
          let p : 0 < act_size a = act_size_positive a in
          let from : NotBefore n (act_ends inputs (sees history) scope n a) = act_ends_from inputs (sees history) scope n a in
          let P : ℕ → Type 0 = λ b. Reached n history scope b (act_ends inputs (sees history) scope b a) a (visit_state regs acts a (state_at acts (site a))) in
          subst P (sym e) (begins_reached n history regs vs scope acts (act_ends inputs (sees history) scope n a) a (state_at acts (site a)) coming.registers knows (reads_in vs low a numbered) from (waits (site a) (omega arith) (omega arith)))
      go (goes_on b e l k) =
          let P : ℕ → Type 0 = λ c. Reached c history scope s (act_ends inputs (sees history) scope s a) a (visit_state regs acts a (state_at acts (site a))) in
          subst P (sym e) (goes_on_reached b history regs scope s acts (act_ends inputs (sees history) scope s a) a (state_at acts (site a)) l k.0)

  began : (scope : ℕ → Outcome) (s low : ℕ) (a : Act) (acts : List ActState) → ReadyAct scope s low a acts → s ≤ n
  began scope s low a acts (begins e k) = omega arith
  began scope s low a acts (goes_on b e l k) = omega arith

  -- an act that has been reached ends where it has made its value
  record Closes (scope : ℕ → Outcome) (s : ℕ) (a : Act) (acts : List ActState) (w : Option Number) : Type 0 where
    pub shown : ShownAct n inputs history scope s a (close_with (site a) w acts).acts
    pub same : (q : ℕ) → (q ≡ site a → ⊥) → state_at (close_with (site a) w acts).acts q ≡ state_at acts q
    pub long : length (close_with (site a) w acts).acts ≡ length acts
    pub made : (close_with (site a) w acts).made ≡ w

  close_it : (scope : ℕ → Outcome) (s : ℕ) (a : Act) (acts : List ActState) (w : Option Number) → site a < length acts → Reached n history scope s (act_ends inputs (sees history) scope s a) a (state_at acts (site a))
      → numbered_made w ≡ value_by n (act_ends inputs (sees history) scope s a) → Closes scope s a acts w
  close_it scope s a acts None l r e = record {
    shown = closes n history scope s (act_ends inputs (sees history) scope s a) a (state_at acts (site a)) None r e;
    same = λ q k. refl;
    long = refl;
    made = refl;
  }
  close_it scope s a acts (Some v) l r e = record {
    shown = subst (λ m. Shown n history scope s (act_ends inputs (sees history) scope s a) a m) (sym (state_set acts (site a) _ l)) (closes n history scope s (act_ends inputs (sees history) scope s a) a (state_at acts (site a)) (Some v) r e);
    same = λ q k. get_or-set_other acts (site a) q _ _ k;
    long = length-set acts (site a) _;
    made = refl;
  }

  -- an act with nothing inside
  leaf : (vs : List Act) (low : ℕ) (scope : ℕ → Outcome) (s : ℕ) (a : Act) (acts : List ActState) (w : Option Number) → NumberedAct vs low a → low + act_size a ≤ length acts → Knows n vs scope acts → ReadyAct scope s low a acts
      → RemembersInside n inputs history scope s low a (close_with (site a) w (visit regs a acts)).acts
      → numbered_made w ≡ value_by n (act_ends inputs (sees history) scope s a) → AdvancesAct scope s low a acts (close_with (site a) w (visit regs a acts))
  leaf vs low scope s a acts w numbered room knows ready inside made =
      let l : site a ≡ low = act_site vs low a numbered in
      let p : 0 < act_size a = act_size_positive a in
      let long : length (visit regs a acts) ≡ length acts = visit_long a acts in
      let z = close_it scope s a (visit regs a acts) w (omega arith) (reached vs low scope s a acts numbered room knows ready) made in
      record {
        shown = z.shown;
        inside = inside;
        made = ap numbered_made z.made ∙ made;
        touches = record {
          same = λ q i. z.same q (λ e. elim i [ inl j ↦ omega arith | inr j ↦ omega arith ]) ∙ get_or-set_other acts (site a) q _ _ (λ e. elim i [ inl j ↦ omega arith | inr j ↦ omega arith ]);
          long = z.long ∙ long;
        };
      }

  -- an act with parts inside: those have advanced to `r`, and the act has made `w`
  nested : (vs : List Act) (low k : ℕ) (scope : ℕ → Outcome) (s : ℕ) (a : Act) (acts : List ActState) (r : Advanced) (w : Option Number) → NumberedAct vs low a → low + act_size a ≤ length acts → act_size a ≡ 1 + k → Knows n vs scope acts
      → ReadyAct scope s low a acts → Touches (low + 1) k (visit regs a acts) r.acts → RemembersInside n inputs history scope s low a r.acts
      → numbered_made w ≡ value_by n (act_ends inputs (sees history) scope s a) → AdvancesAct scope s low a acts (close_with (site a) w r.acts)
  nested vs low k scope s a acts r w numbered room size_is knows ready inner inside made =
      let l : site a ≡ low = act_site vs low a numbered in
      let long : length (visit regs a acts) ≡ length acts = visit_long a acts in
      let long' : length r.acts ≡ length (visit regs a acts) = inner.long in
      let here : state_at r.acts (site a) ≡ state_at (visit regs a acts) (site a) = inner.same (site a) (inl (omega arith)) in
      let z = close_it scope s a r.acts w (omega arith)
      (subst (λ m. Reached n history scope s (act_ends inputs (sees history) scope s a) a m) (sym here) (reached vs low scope s a acts numbered room knows ready)) made in
      record {
        shown = z.shown;
        inside = inside_same n inputs history r.acts (close_with (site a) w r.acts).acts vs low scope s a numbered k size_is (λ q i j. z.same q (λ e. omega arith)) inside;
        made = ap numbered_made z.made ∙ made;
        touches = record {
          same = λ q i. z.same q (λ e. elim i [ inl j ↦ omega arith | inr j ↦ omega arith ])
              ∙ (inner.same q (elim i [ inl j ↦ inl (omega arith) | inr j ↦ inr (omega arith) ]) ∙ get_or-set_other acts (site a) q _ _ (λ e. elim i [ inl j ↦ omega arith | inr j ↦ omega arith ]));
          long = z.long ∙ (inner.long ∙ long);
        };
      }

  -- what is visited changes one site
  visit_same : (a : Act) (low k : ℕ) (acts : List ActState) → site a < low → SameIn low k acts (visit regs a acts)
  visit_same a low k acts l q i j = get_or-set_other acts (site a) q _ _ (λ e. omega arith)

  visit_before : (a : Act) (acts : List ActState) (q : ℕ) → q < site a → state_at (visit regs a acts) q ≡ state_at acts q
  visit_before a acts q l = get_or-set_other acts (site a) q _ _ (λ e. omega arith)

  -- a part inside an act, as the act has been reached
  ready_same : (vs : List Act) (scope : ℕ → Outcome) (s low : ℕ) (t : Term) (acts acts' : List ActState) → Numbered vs low t → SameIn low (size t) acts acts' → Ready scope s low t acts → Ready scope s low t acts'
  ready_same vs scope s low t acts acts' numbered same (begins e k) = begins e (waiting_same low (size t) acts acts' same k)
  ready_same vs scope s low t acts acts' numbered same (goes_on b e l k) = goes_on b e l (remembers_same b inputs history acts acts' vs low scope s t numbered same k)

  part_waits : (low k low' k' : ℕ) (acts : List ActState) → low ≤ low' → low' + k' ≤ low + k → Waiting acts low k → Waiting acts low' k'
  part_waits low k low' k' acts l m w q i j = w q (omega arith) (omega arith)

  -- the two sides of an `if` that decides as c does, after the act has been reached
  data ReadySides (scope : ℕ → Outcome) (s low : ℕ) (c : Bool) (t u : Term) (acts : List ActState) : Type 0 where
    begins : s ≡ n → Waiting acts (low + 1) (size t + size u) → ReadySides scope s low c t u acts
    goes_on : (b : ℕ) → n ≡ b + 1 → s ≤ b
        → Chosen c (Remembers b inputs history scope s (low + 1) t acts × Waiting acts (low + (1 + size t)) (size u)) (Waiting acts (low + 1) (size t) × Remembers b inputs history scope s (low + (1 + size t)) u acts)
        → ReadySides scope s low c t u acts

  abbrev Sides : (scope : ℕ → Outcome) (s low : ℕ) (c : Bool) (t u : Term) (acts : List ActState) (r : Advanced) → Type 0
  Sides scope s low c t u acts r =
      Chosen c (Remembers n inputs history scope s (low + 1) t r.acts × Waiting r.acts (low + (1 + size t)) (size u)) (Waiting r.acts (low + 1) (size t) × Remembers n inputs history scope s (low + (1 + size t)) u r.acts)
      × (numbered_made r.made ≡ value_by n (if c then ends inputs (sees history) scope s t else ends inputs (sees history) scope s u))
      × Touches (low + 1) (size t + size u) acts r.acts

  sides : (scope : ℕ → Outcome) (s low : ℕ) (c : Bool) (t u : Term) (acts : List ActState) → ReadySides scope s low c t u acts
      → (Ready scope s (low + 1) t acts → Advances scope s (low + 1) t acts (advance cells regs t acts))
      → (Ready scope s (low + (1 + size t)) u acts → Advances scope s (low + (1 + size t)) u acts (advance cells regs u acts))
      → Sides scope s low c t u acts (if c then advance cells regs t acts else advance cells regs u acts)
  sides scope s low true t u acts ready one other =
      let z = one (first ready) in (
        (z.remembers, waiting_same (low + (1 + size t)) (size u) acts _ (same_after (low + 1) (size t) (low + (1 + size t)) (size u) acts _ (omega arith) z.touches) (second ready)),
        z.made,
        touches_more (low + 1) (size t) (low + 1) (size t + size u) acts _ (omega arith) (omega arith) z.touches,
      )
    where
      first : ReadySides scope s low true t u acts → Ready scope s (low + 1) t acts
      first (begins e k) = begins e (part_waits (low + 1) (size t + size u) (low + 1) (size t) acts (omega arith) (omega arith) k)
      first (goes_on b e l k) = goes_on b e l k.0

      second : ReadySides scope s low true t u acts → Waiting acts (low + (1 + size t)) (size u)
      second (begins e k) = part_waits (low + 1) (size t + size u) (low + (1 + size t)) (size u) acts (omega arith) (omega arith) k
      second (goes_on b e l k) = k.1
  sides scope s low false t u acts ready one other =
      let z = other (second ready) in (
        (waiting_same (low + 1) (size t) acts _ (same_before (low + (1 + size t)) (size u) (low + 1) (size t) acts _ (omega arith) z.touches) (first ready), z.remembers),
        z.made,
        touches_more (low + (1 + size t)) (size u) (low + 1) (size t + size u) acts _ (omega arith) (omega arith) z.touches,
      )
    where
      second : ReadySides scope s low false t u acts → Ready scope s (low + (1 + size t)) u acts
      second (begins e k) = begins e (part_waits (low + 1) (size t + size u) (low + (1 + size t)) (size u) acts (omega arith) (omega arith) k)
      second (goes_on b e l k) = goes_on b e l k.1

      first : ReadySides scope s low false t u acts → Waiting acts (low + 1) (size t)
      first (begins e k) = part_waits (low + 1) (size t + size u) (low + 1) (size t) acts (omega arith) (omega arith) k
      first (goes_on b e l k) = k.0

  data ReadySide (scope : ℕ → Outcome) (s low : ℕ) (c : Bool) (t : Term) (acts : List ActState) : Type 0 where
    begins : s ≡ n → Waiting acts (low + 1) (size t) → ReadySide scope s low c t acts
    goes_on : (b : ℕ) → n ≡ b + 1 → s ≤ b → Chosen c (Remembers b inputs history scope s (low + 1) t acts) (Waiting acts (low + 1) (size t)) → ReadySide scope s low c t acts

  abbrev Side : (scope : ℕ → Outcome) (s low : ℕ) (c : Bool) (t : Term) (acts : List ActState) (r : Advanced) → Type 0
  Side scope s low c t acts r =
      Chosen c (Remembers n inputs history scope s (low + 1) t r.acts) (Waiting r.acts (low + 1) (size t))
      × (numbered_made r.made ≡ value_by n (if c then ends inputs (sees history) scope s t else Done s nothing))
      × Touches (low + 1) (size t) acts r.acts

  side : (scope : ℕ → Outcome) (s low : ℕ) (c : Bool) (t : Term) (acts : List ActState) → s ≤ n → ReadySide scope s low c t acts
      → (Ready scope s (low + 1) t acts → Advances scope s (low + 1) t acts (advance cells regs t acts))
      → Side scope s low c t acts (if c then advance cells regs t acts else record { made = Some zero_bit; acts = acts })
  side scope s low true t acts l ready one =
      let z = one (first ready) in (z.remembers, z.made, z.touches)
    where
      first : ReadySide scope s low true t acts → Ready scope s (low + 1) t acts
      first (begins e k) = begins e k
      first (goes_on b e l k) = goes_on b e l k
  side scope s low false t acts l ready one = (first ready, sym (at_once n s nothing l), touches_none (low + 1) (size t) acts)
    where
      first : ReadySide scope s low false t acts → Waiting acts (low + 1) (size t)
      first (begins e k) = k
      first (goes_on b e l k) = k

  sides_ready : (vs : List Act) (low : ℕ) (scope : ℕ → Outcome) (s p : ℕ) (e : Expr) (t u : Term) (w : Bool) (acts : List ActState) → NumberedAct vs low (If p e t u w) → ReadyAct scope s low (If p e t u w) acts
      → ReadySides scope s low ((value history scope s e).number == 1) t u (visit regs (If p e t u w) acts)
  sides_ready vs low scope s p e t u w acts numbered (begins i k) =
      let l : p ≡ low = numbered.0 in
      begins i (waiting_same (low + 1) (size t + size u) acts _ (visit_same (If p e t u w) (low + 1) (size t + size u) acts (omega arith)) (part_waits low (1 + (size t + size u)) (low + 1) (size t + size u) acts (omega arith) (omega arith) k))
  sides_ready vs low scope s p e t u w acts numbered (goes_on b i j k) =
      let l : p ≡ low = numbered.0 in
      goes_on b i j (inside_same b inputs history acts (visit regs (If p e t u w) acts) vs low scope s (If p e t u w) numbered (size t + size u) refl (visit_same (If p e t u w) (low + 1) (size t + size u) acts (omega arith)) k.1)

  side_ready : (vs : List Act) (low : ℕ) (scope : ℕ → Outcome) (s p : ℕ) (e : Expr) (t : Term) (acts : List ActState) → NumberedAct vs low (When p e t) → ReadyAct scope s low (When p e t) acts
      → ReadySide scope s low ((value history scope s e).number == 1) t (visit regs (When p e t) acts)
  side_ready vs low scope s p e t acts numbered (begins i k) =
      let l : p ≡ low = numbered.0 in
      begins i (waiting_same (low + 1) (size t) acts _ (visit_same (When p e t) (low + 1) (size t) acts (omega arith)) (part_waits low (1 + size t) (low + 1) (size t) acts (omega arith) (omega arith) k))
  side_ready vs low scope s p e t acts numbered (goes_on b i j k) =
      let l : p ≡ low = numbered.0 in
      goes_on b i j (inside_same b inputs history acts (visit regs (When p e t) acts) vs low scope s (When p e t) numbered (size t) refl (visit_same (When p e t) (low + 1) (size t) acts (omega arith)) k.1)

  block_ready : (vs : List Act) (low : ℕ) (scope : ℕ → Outcome) (s p : ℕ) (t : Term) (acts : List ActState) → NumberedAct vs low (Block p t) → ReadyAct scope s low (Block p t) acts
      → Ready scope s (low + 1) t (visit regs (Block p t) acts)
  block_ready vs low scope s p t acts numbered (begins i k) =
      let l : p ≡ low = numbered.0 in
      begins i (waiting_same (low + 1) (size t) acts _ (visit_same (Block p t) (low + 1) (size t) acts (omega arith)) (part_waits low (1 + size t) (low + 1) (size t) acts (omega arith) (omega arith) k))
  block_ready vs low scope s p t acts numbered (goes_on b i j k) =
      let l : p ≡ low = numbered.0 in
      goes_on b i j (inside_same b inputs history acts (visit regs (Block p t) acts) vs low scope s (Block p t) numbered (size t) refl (visit_same (Block p t) (low + 1) (size t) acts (omega arith)) k.1)

  -- an act that is unit has made 0
  before_unit : (p s : ℕ) (o : Outcome) → made_before n (decided false p s o) ≡ 0
  before_unit p s Open = refl
  before_unit p s (Done e v) = go (nat_lt e n)
    where
      go : (b : Bool) → (if b then nothing.number else 0) ≡ nothing.number
      go true = refl
      go false = refl

  rest_ready_of : (vs : List Act) (scope : ℕ → Outcome) (s low : ℕ) (a : Act) (t : Term) (acts acts' : List ActState) → Numbered vs low (Then a t) → Touches low (act_size a) acts acts' → Ready scope s low (Then a t) acts
      → ReadyRest scope s a (act_ends inputs (sees history) scope s a) (low + act_size a) t acts'
  rest_ready_of vs scope s low a t acts acts' numbered touches (begins i k) =
      begins i (waiting_same (low + act_size a) (size t) acts acts' (same_after low (act_size a) (low + act_size a) (size t) acts acts' (omega arith) touches) (part_waits low (size (Then a t)) (low + act_size a) (size t) acts (omega arith) (omega arith) k))
  rest_ready_of vs scope s low a t acts acts' numbered touches (goes_on b i j k) =
      goes_on b i j
      (after_map b (act_ends inputs (sees history) scope s a) _ _ _ _
      (λ e v. remembers_same b inputs history acts acts' (a ∷ vs) (low + act_size a) (bind scope (site a) (Done e v)) e t numbered.1 (same_after low (act_size a) (low + act_size a) (size t) acts acts' (omega arith) touches))
      (waiting_same (low + act_size a) (size t) acts acts' (same_after low (act_size a) (low + act_size a) (size t) acts acts' (omega arith) touches)) k.1)

  both_ready_of : (vs : List Act) (scope : ℕ → Outcome) (s low : ℕ) (a : Act) (t : Term) (acts acts' : List ActState) → Numbered vs low (Both a t) → Touches low (act_size a) acts acts' → Ready scope s low (Both a t) acts
      → Ready (bind scope (site a) (act_ends inputs (sees history) scope s a)) s (low + act_size a) t acts'
  both_ready_of vs scope s low a t acts acts' numbered touches (begins i k) =
      begins i (waiting_same (low + act_size a) (size t) acts acts' (same_after low (act_size a) (low + act_size a) (size t) acts acts' (omega arith) touches) (part_waits low (size (Both a t)) (low + act_size a) (size t) acts (omega arith) (omega arith) k))
  both_ready_of vs scope s low a t acts acts' numbered touches (goes_on b i j k) =
      goes_on b i j (remembers_same b inputs history acts acts' (a ∷ vs) (low + act_size a) (bind scope (site a) (act_ends inputs (sees history) scope s a)) s t numbered.1 (same_after low (act_size a) (low + act_size a) (size t) acts acts' (omega arith) touches) k.1)

  then_ready_act : (scope : ℕ → Outcome) (s low : ℕ) (a : Act) (t : Term) (acts : List ActState) → Ready scope s low (Then a t) acts → ReadyAct scope s low a acts
  then_ready_act scope s low a t acts (begins i k) = begins i (part_waits low (size (Then a t)) low (act_size a) acts (omega arith) (omega arith) k)
  then_ready_act scope s low a t acts (goes_on b i j k) = goes_on b i j k.0

  both_ready_act : (scope : ℕ → Outcome) (s low : ℕ) (a : Act) (t : Term) (acts : List ActState) → Ready scope s low (Both a t) acts → ReadyAct scope s low a acts
  both_ready_act scope s low a t acts (begins i k) = begins i (part_waits low (size (Both a t)) low (act_size a) acts (omega arith) (omega arith) k)
  both_ready_act scope s low a t acts (goes_on b i j k) = goes_on b i j k.0

  one_ready_act : (scope : ℕ → Outcome) (s low : ℕ) (a : Act) (acts : List ActState) → Ready scope s low (One a) acts → ReadyAct scope s low a acts
  one_ready_act scope s low a acts (begins i k) = begins i k
  one_ready_act scope s low a acts (goes_on b i j k) = goes_on b i j k

  -- what the act at the head of a term has made known, for what follows
  rest_knows : (vs : List Act) (low : ℕ) (scope : ℕ → Outcome) (s : ℕ) (a : Act) (acts : List ActState) (r : Advanced) → NumberedAct vs low a → Below vs low → Knows n vs scope acts → AdvancesAct scope s low a acts r
      → Knows n (a ∷ vs) (bind scope (site a) (act_ends inputs (sees history) scope s a)) r.acts
  rest_knows vs low scope s a acts r numbered below knows z =
      let l : site a ≡ low = act_site vs low a numbered in
      knows_more n history vs scope s (act_ends inputs (sees history) scope s a) a r.acts (λ y k. let m : y < low = below y k in omega arith)
      (knows_same n vs low scope acts r.acts below (λ q m. z.touches.same q (inl m)) knows) z.shown

  -- an act stays shown while what follows it advances
  then_shown : (vs : List Act) (low : ℕ) (scope : ℕ → Outcome) (s : ℕ) (a : Act) (acts acts' : List ActState) (k : ℕ) → NumberedAct vs low a → Touches (low + act_size a) k acts acts' → RemembersAct n inputs history scope s low a acts → RemembersAct n inputs history scope s low a acts'
  then_shown vs low scope s a acts acts' k numbered touches z =
      let p : 0 < act_size a = act_size_positive a in (
        shown_same n inputs history acts acts' vs low scope s a numbered (same_before (low + act_size a) k low (act_size a) acts acts' (omega arith) touches) z.0,
        inside_same n inputs history acts acts' vs low scope s a numbered (act_size a - 1) (omega arith) (same_before (low + act_size a) k (low + 1) (act_size a - 1) acts acts' (omega arith) touches) z.1,
      )

  mutual
    pub advances : (vs : List Act) (low : ℕ) (scope : ℕ → Outcome) (s : ℕ) (t : Term) (acts : List ActState) → Numbered vs low t → Below vs low → low + size t ≤ length acts → Knows n vs scope acts → Ready scope s low t acts
        → Advances scope s low t acts (advance cells regs t acts)
    advances vs low scope s (One a) acts numbered below room knows ready =
        let z = advances_act vs low scope s a acts numbered below room knows (one_ready_act scope s low a acts ready) in
        record { remembers = (z.shown, z.inside); made = z.made; touches = z.touches }
    advances vs low scope s (Then a t) acts numbered below room knows ready =
        let l : site a ≡ low = act_site vs low a numbered.0 in
        let p : 0 < act_size a = act_size_positive a in
        let z = advances_act vs low scope s a acts numbered.0 below (omega arith) knows (then_ready_act scope s low a t acts ready) in
        let long : length (advance_act cells regs a acts).acts ≡ length acts = z.touches.long in
        let y =
        chain vs scope s a (act_ends inputs (sees history) scope s a) (low + act_size a) t (advance_act cells regs a acts).acts (advance_act cells regs a acts).made
        (act_ends_from inputs (sees history) scope s a) z.made (rest_knows vs low scope s a acts (advance_act cells regs a acts) numbered.0 below knows z)
        (rest_ready_of vs scope s low a t acts (advance_act cells regs a acts).acts numbered z.touches ready)
        (λ e v k rd. advances (a ∷ vs) (low + act_size a) (bind scope (site a) (Done e v)) e t (advance_act cells regs a acts).acts numbered.1 (below_more vs low (low + act_size a) a (omega arith) (omega arith) below) (omega arith) k rd) in
        record {
          remembers = (then_shown vs low scope s a (advance_act cells regs a acts).acts _ (size t) numbered.0 y.2 (z.shown, z.inside), y.0);
          made = y.1;
          touches = touches_both low (size (Then a t)) acts (advance_act cells regs a acts).acts _
              (touches_more low (act_size a) low (size (Then a t)) acts _ (omega arith) (omega arith) z.touches)
              (touches_more (low + act_size a) (size t) low (size (Then a t)) _ _ (omega arith) (omega arith) y.2);
        }
    advances vs low scope s (Both a t) acts numbered below room knows ready =
        let l : site a ≡ low = act_site vs low a numbered.0 in
        let p : 0 < act_size a = act_size_positive a in
        let z = advances_act vs low scope s a acts numbered.0 below (omega arith) knows (both_ready_act scope s low a t acts ready) in
        let long : length (advance_act cells regs a acts).acts ≡ length acts = z.touches.long in
        let y =
        advances (a ∷ vs) (low + act_size a) (bind scope (site a) (act_ends inputs (sees history) scope s a)) s t (advance_act cells regs a acts).acts numbered.1 (below_more vs low (low + act_size a) a (omega arith) (omega arith) below) (omega arith)
        (rest_knows vs low scope s a acts (advance_act cells regs a acts) numbered.0 below knows z)
        (both_ready_of vs scope s low a t acts (advance_act cells regs a acts).acts numbered z.touches ready) in
        record {
          remembers = (then_shown vs low scope s a (advance_act cells regs a acts).acts _ (size t) numbered.0 y.touches (z.shown, z.inside), y.remembers);
          made = later_is n _ _ _ _ z.made y.made;
          touches = touches_both low (size (Both a t)) acts (advance_act cells regs a acts).acts _
              (touches_more low (act_size a) low (size (Both a t)) acts _ (omega arith) (omega arith) z.touches)
              (touches_more (low + act_size a) (size t) low (size (Both a t)) _ _ (omega arith) (omega arith) y.touches);
        }

    pub advances_act : (vs : List Act) (low : ℕ) (scope : ℕ → Outcome) (s : ℕ) (a : Act) (acts : List ActState) → NumberedAct vs low a → Below vs low → low + act_size a ≤ length acts → Knows n vs scope acts → ReadyAct scope s low a acts
        → AdvancesAct scope s low a acts (advance_act cells regs a acts)
    advances_act vs low scope s (Cycle p k) acts numbered below room knows ready =
        let r = reached vs low scope s (Cycle p k) acts numbered room knows ready in
        leaf vs low scope s (Cycle p k) acts (timed (state_at (visit regs (Cycle p k) acts) p)) numbered room knows ready tt (timed_is n s k (state_at (visit regs (Cycle p k) acts) p) (began scope s low (Cycle p k) acts ready) r.left r.made)
    advances_act vs low scope s (Set p q e) acts numbered below room knows ready =
        let r = reached vs low scope s (Set p q e) acts numbered room knows ready in
        leaf vs low scope s (Set p q e) acts (timed (state_at (visit regs (Set p q e) acts) p)) numbered room knows ready tt (timed_is n s 1 (state_at (visit regs (Set p q e) acts) p) (began scope s low (Set p q e) acts ready) r.left r.made)
    advances_act vs low scope s (Send p m e) acts numbered below room knows ready =
        let r = reached vs low scope s (Send p m e) acts numbered room knows ready in
        leaf vs low scope s (Send p m e) acts (talked (state_at (visit regs (Send p m e) acts) p) (ack_in (nth_cell cells m)) (state_at (visit regs (Send p m e) acts) p).made) numbered room knows ready tt
        (talked_is n s inputs.count (inputs.ack m) (λ u. nothing) (ack_in (nth_cell cells m)) (state_at (visit regs (Send p m e) acts) p).made (state_at (visit regs (Send p m e) acts) p)
        (began scope s low (Send p m e) acts ready) coming.inside (coming.ack m) r.ended r.made
        (λ o. r.made ∙ none_before (found (first (inputs.ack m) s (inputs.count - s)) (λ u. nothing)) o))
      where
        none_before : (o : Outcome) → over_by n o ≡ false → made_before n o ≡ 0
        none_before Open k = refl
        none_before (Done c v) k = rw k refl
    advances_act vs low scope s (Recv p m) acts numbered below room knows ready =
        let r = reached vs low scope s (Recv p m) acts numbered room knows ready in
        leaf vs low scope s (Recv p m) acts (talked (state_at (visit regs (Recv p m) acts) p) (valid_in (nth_cell cells m)) (number_in (nth_cell cells m))) numbered room knows ready tt
        (talked_is n s inputs.count (inputs.valid m) (λ u. record { number = inputs.data_at m u; atoms = Wire m u ∷ [] }) (valid_in (nth_cell cells m)) (number_in (nth_cell cells m)) (state_at (visit regs (Recv p m) acts) p)
        (began scope s low (Recv p m) acts ready) coming.inside (coming.valid m) r.ended r.made
        (λ o. number_is (nth_cell cells m) ∙ sym (coming.data_at m)))
    advances_act vs low scope s (If p e t u true) acts numbered below room knows ready =
        let l : p ≡ low = numbered.0 in
        let r = reached vs low scope s (If p e t u true) acts numbered room knows ready in
        let long : length (visit regs (If p e t u true) acts) ≡ length acts = visit_long (If p e t u true) acts in
        let known = knows_same n vs low scope acts (visit regs (If p e t u true) acts) below (λ q m. visit_before (If p e t u true) acts q (omega arith)) knows in
        let z =
        sides scope s low ((value history scope s e).number == 1) t u (visit regs (If p e t u true) acts) (sides_ready vs low scope s p e t u true acts numbered ready)
        (λ rd. advances vs (low + 1) scope s t (visit regs (If p e t u true) acts) numbered.1 (λ y k. let m : y < low = below y k in omega arith) (omega arith) known rd)
        (λ rd. advances vs (low + (1 + size t)) scope s u (visit regs (If p e t u true) acts) numbered.2 (λ y k. let m : y < low = below y k in omega arith) (omega arith) known rd) in
        let P : Bool → Type 0 = λ c. AdvancesAct scope s low (If p e t u true) acts (close p (word_of true p (if c then advance cells regs t (visit regs (If p e t u true) acts) else advance cells regs u (visit regs (If p e t u true) acts)))) in
        subst P (sym (ap (λ k. k == 1) r.takes))
        (nested vs low (size t + size u) scope s (If p e t u true) acts (if (value history scope s e).number == 1 then advance cells regs t (visit regs (If p e t u true) acts) else advance cells regs u (visit regs (If p e t u true) acts)) (if (value history scope s e).number == 1 then advance cells regs t (visit regs (If p e t u true) acts) else advance cells regs u (visit regs (If p e t u true) acts)).made numbered room refl knows ready z.2 z.0 (word_is n p s _ (if (value history scope s e).number == 1 then advance cells regs t (visit regs (If p e t u true) acts) else advance cells regs u (visit regs (If p e t u true) acts)).made z.1))
    advances_act vs low scope s (If p e t u false) acts numbered below room knows ready =
        let l : p ≡ low = numbered.0 in
        let r = reached vs low scope s (If p e t u false) acts numbered room knows ready in
        let long : length (visit regs (If p e t u false) acts) ≡ length acts = visit_long (If p e t u false) acts in
        let known = knows_same n vs low scope acts (visit regs (If p e t u false) acts) below (λ q m. visit_before (If p e t u false) acts q (omega arith)) knows in
        let z =
        sides scope s low ((value history scope s e).number == 1) t u (visit regs (If p e t u false) acts) (sides_ready vs low scope s p e t u false acts numbered ready)
        (λ rd. advances vs (low + 1) scope s t (visit regs (If p e t u false) acts) numbered.1 (λ y k. let m : y < low = below y k in omega arith) (omega arith) known rd)
        (λ rd. advances vs (low + (1 + size t)) scope s u (visit regs (If p e t u false) acts) numbered.2 (λ y k. let m : y < low = below y k in omega arith) (omega arith) known rd) in
        let P : Bool → Type 0 = λ c. AdvancesAct scope s low (If p e t u false) acts (close p (word_of false p (if c then advance cells regs t (visit regs (If p e t u false) acts) else advance cells regs u (visit regs (If p e t u false) acts)))) in
        subst P (sym (ap (λ k. k == 1) r.takes))
        (nested vs low (size t + size u) scope s (If p e t u false) acts (if (value history scope s e).number == 1 then advance cells regs t (visit regs (If p e t u false) acts) else advance cells regs u (visit regs (If p e t u false) acts)) (unit_of (if (value history scope s e).number == 1 then advance cells regs t (visit regs (If p e t u false) acts) else advance cells regs u (visit regs (If p e t u false) acts)).made (state_at (if (value history scope s e).number == 1 then advance cells regs t (visit regs (If p e t u false) acts) else advance cells regs u (visit regs (If p e t u false) acts)).acts p).made) numbered room refl knows ready z.2 z.0
        (unit_is n p s _ (if (value history scope s e).number == 1 then advance cells regs t (visit regs (If p e t u false) acts) else advance cells regs u (visit regs (If p e t u false) acts)).made (state_at (if (value history scope s e).number == 1 then advance cells regs t (visit regs (If p e t u false) acts) else advance cells regs u (visit regs (If p e t u false) acts)).acts p).made z.1 (ap (λ m. m.made.value) (z.2.same p (inl (omega arith))) ∙ (r.made ∙ before_unit p s _))))
    advances_act vs low scope s (When p e t) acts numbered below room knows ready =
        let l : p ≡ low = numbered.0 in
        let r = reached vs low scope s (When p e t) acts numbered room knows ready in
        let long : length (visit regs (When p e t) acts) ≡ length acts = visit_long (When p e t) acts in
        let known = knows_same n vs low scope acts (visit regs (When p e t) acts) below (λ q m. visit_before (When p e t) acts q (omega arith)) knows in
        let z =
        side scope s low ((value history scope s e).number == 1) t (visit regs (When p e t) acts) (began scope s low (When p e t) acts ready) (side_ready vs low scope s p e t acts numbered ready)
        (λ rd. advances vs (low + 1) scope s t (visit regs (When p e t) acts) numbered.1 (λ y k. let m : y < low = below y k in omega arith) (omega arith) known rd) in
        let P : Bool → Type 0 = λ c. AdvancesAct scope s low (When p e t) acts (close p (word_of false p (if c then advance cells regs t (visit regs (When p e t) acts) else record { made = Some zero_bit; acts = visit regs (When p e t) acts }))) in
        subst P (sym (ap (λ k. k == 1) r.takes))
        (nested vs low (size t) scope s (When p e t) acts (if (value history scope s e).number == 1 then advance cells regs t (visit regs (When p e t) acts) else record { made = Some zero_bit; acts = (visit regs (When p e t) acts) }) (unit_of (if (value history scope s e).number == 1 then advance cells regs t (visit regs (When p e t) acts) else record { made = Some zero_bit; acts = (visit regs (When p e t) acts) }).made (state_at (if (value history scope s e).number == 1 then advance cells regs t (visit regs (When p e t) acts) else record { made = Some zero_bit; acts = (visit regs (When p e t) acts) }).acts p).made) numbered room refl knows ready z.2 z.0
        (unit_is n p s _ (if (value history scope s e).number == 1 then advance cells regs t (visit regs (When p e t) acts) else record { made = Some zero_bit; acts = (visit regs (When p e t) acts) }).made (state_at (if (value history scope s e).number == 1 then advance cells regs t (visit regs (When p e t) acts) else record { made = Some zero_bit; acts = (visit regs (When p e t) acts) }).acts p).made z.1 (ap (λ m. m.made.value) (z.2.same p (inl (omega arith))) ∙ (r.made ∙ before_unit p s _))))
    advances_act vs low scope s (Block p t) acts numbered below room knows ready =
        let l : p ≡ low = numbered.0 in
        let long : length (visit regs (Block p t) acts) ≡ length acts = visit_long (Block p t) acts in
        let known = knows_same n vs low scope acts (visit regs (Block p t) acts) below (λ q m. visit_before (Block p t) acts q (omega arith)) knows in
        let z = advances vs (low + 1) scope s t (visit regs (Block p t) acts) numbered.1 (λ y k. let m : y < low = below y k in omega arith) (omega arith) known (block_ready vs low scope s p t acts numbered ready) in
        nested vs low (size t) scope s (Block p t) acts (advance cells regs t (visit regs (Block p t) acts)) (advance cells regs t (visit regs (Block p t) acts)).made numbered room refl knows ready z.touches z.remembers z.made
    advances_act vs low scope s (Wait p y) acts numbered below room knows ready =
        let l : p ≡ low = numbered.0 in
        let m : y < low = below y numbered.1 in
        let k = knows y numbered.1 in
        let same = visit_before (Wait p y) acts y (omega arith) in
        leaf vs low scope s (Wait p y) acts (waited_for (state_at (visit regs (Wait p y) acts) y)) numbered room knows ready tt
        (waited_is n s (scope y) (state_at (visit regs (Wait p y) acts) y) (began scope s low (Wait p y) acts ready) (ap (λ m. m.ended) same ∙ k.0) (ap (λ m. m.made.value) same ∙ k.1))
    advances_act vs low scope s (Pure p e) acts numbered below room knows ready =
        let r = reached vs low scope s (Pure p e) acts numbered room knows ready in
        leaf vs low scope s (Pure p e) acts (talked (state_at (visit regs (Pure p e) acts) p) (state_at (visit regs (Pure p e) acts) p).fresh (state_at (visit regs (Pure p e) acts) p).taken) numbered room knows ready tt
        (taken_is n s (value history scope s e) (state_at (visit regs (Pure p e) acts) p) (began scope s low (Pure p e) acts ready) r.fresh r.ended r.made r.takes)
    advances_act vs low scope s (Nothing p) acts numbered below room knows ready =
        let r = reached vs low scope s (Nothing p) acts numbered room knows ready in
        leaf vs low scope s (Nothing p) acts (Some (state_at (visit regs (Nothing p) acts) p).made) numbered room knows ready tt
        (ap Some (made_unit n s (state_at (visit regs (Nothing p) acts) p) r.made) ∙ sym (at_once n s nothing (began scope s low (Nothing p) acts ready)))
