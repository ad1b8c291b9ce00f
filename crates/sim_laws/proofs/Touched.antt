-- What is kept of a term is told by the states of its own sites, and a walk over the term writes no others.
use Rattle.std.proofs.Common.{◌≡◌, ℕ, ◌+◌, ◌-◌, ◌<◌, ◌≤◌, ◌⊎◌, inl, inr, arith, refl, sym, ◌∙◌, ap, subst, List, [], ◌∷◌, length, Bool, true, false, if◌then◌else◌, ◌==◌, nat_lt, nat_le, Option, Some, None}
use Rattle.std.specs.Prelude.{slice_set}
use Rattle.std.proofs.Common.{get_or-set_same, get_or-set_other, length-set}
use Rattle.std.proofs.lemmas.Bool.Decides.{nat_tests}
use Rattle.anvil_bits.specs.Number.{Number}
use Rattle.core_term.specs.declared.rows.InCell.{InCell}
use Rattle.core_term.specs.Rows.{nth_cell, valid_in, ack_in}
use Rattle.core_term.specs.Inputs.{Inputs}
use Rattle.core_term.specs.Term.{Expr, Term, One, Then, Both, Act, Cycle, Set, Send, Recv, If, When, Block, Wait, Pure, Nothing, site}
use Rattle.core_term.specs.Numbering.{size, act_size, OneOf, Numbered, NumberedAct}
use Rattle.core_term.specs.Value.{Value, Outcome, Open, Done, value, nothing, Wire}
use Rattle.core_term.specs.Ends.{sees, bind, ends, act_ends, first, found, after_end, decided}
use Rattle.run_laws.proofs.turn_points.NotBefore.{NotBefore, ends_from, act_ends_from}
use Rattle.core_term.proofs.code_tables.FirstSites.{act_site, act_size_positive}
use Rattle.sim_laws.specs.declared.act_state.ActState.{ActState}
use Rattle.sim_laws.specs.Advance.{Advanced, state_at, number_in, zero_bit, visit_state, visit, close_with, close, timed, talked, waited_for, unit_of, word_of, then_on, advance, advance_act}
use Rattle.sim_laws.specs.Remembers.{ended_by, over_by, made_by, Shown, Waiting, Chosen, After, ShownAct, Remembers, RemembersInside, RemembersAct}
use Rattle.sim_laws.specs.Present.{value_by}
use Rattle.sim_laws.proofs.Leaf.{made_before, numbered_made, Coming, Knows, ReadsIn, number_is, Reached, begins_reached, goes_on_reached, closes, timed_is, talked_is, waited_is, later_is, word_is, unit_is, at_once, made_unit, taken_is}

pub after_map : (n : ℕ) (o : Outcome) (P Q : ℕ → Value → Type 0) (W V : Type 0) → ((e : ℕ) (v : Value) → P e v → Q e v) → (W → V) → After n o P W → After n o Q V
after_map n Open P Q W V f g k = g k
after_map n (Done e v) P Q W V f g k = go (nat_le e n) k
  where
    go : (b : Bool) → Chosen b (P e v) W → Chosen b (Q e v) V
    go true i = f e v i
    go false i = g i

pub chosen_map : (b : Bool) (A A' B B' : Type 0) → (A → A') → (B → B') → Chosen b A B → Chosen b A' B'
chosen_map true A A' B B' f g k = f k
chosen_map false A A' B B' f g k = g k

-- two lists of states are the same at the sites from low to low + k - 1
abbrev pub SameIn : ℕ → ℕ → List ActState → List ActState → Type 0
SameIn low k acts acts' = (q : ℕ) → low ≤ q → q < low + k → state_at acts' q ≡ state_at acts q

pub waiting_same : (low k : ℕ) (acts acts' : List ActState) → SameIn low k acts acts' → Waiting acts low k → Waiting acts' low k
waiting_same low k acts acts' same waits q l m = ap (λ s. s.begun) (same q l m) ∙ waits q l m

pub same_part : (low k low' k' : ℕ) (acts acts' : List ActState) → low ≤ low' → low' + k' ≤ low + k → SameIn low k acts acts' → SameIn low' k' acts acts'
same_part low k low' k' acts acts' l m same q i j = same q (omega arith) (omega arith)

-- what is remembered of a term is told by the states of its sites
module _ (n : ℕ) (inputs : Inputs) (history : ℕ → ℕ → ℕ) (acts acts' : List ActState) where
  pub shown_same : (vs : List Act) (low : ℕ) (scope : ℕ → Outcome) (s : ℕ) (a : Act) → NumberedAct vs low a → SameIn low (act_size a) acts acts' → ShownAct n inputs history scope s a acts → ShownAct n inputs history scope s a acts'
  shown_same vs low scope s a numbered same shown =
      let l : site a ≡ low = act_site vs low a numbered in
      let p : 0 < act_size a = act_size_positive a in
      subst (λ m. Shown n history scope s (act_ends inputs (sees history) scope s a) a m) (sym (same (site a) (omega arith) (omega arith))) shown

  mutual
    pub remembers_same : (vs : List Act) (low : ℕ) (scope : ℕ → Outcome) (s : ℕ) (t : Term) → Numbered vs low t → SameIn low (size t) acts acts' → Remembers n inputs history scope s low t acts → Remembers n inputs history scope s low t acts'
    remembers_same vs low scope s (One a) numbered same k = (shown_same vs low scope s a numbered same k.0, inside_same vs low scope s a numbered (act_size a - 1) (let z : 0 < act_size a = act_size_positive a in omega arith) (same_part low (act_size a) (low + 1) (act_size a - 1) acts acts' (omega arith) (let z : 0 < act_size a = act_size_positive a in omega arith) same) k.1)
    remembers_same vs low scope s (Then a t) numbered same k = (
      (
        shown_same vs low scope s a numbered.0 (same_part low (size (Then a t)) low (act_size a) acts acts' (omega arith) (omega arith) same) k.0.0,
        inside_same vs low scope s a numbered.0 (act_size a - 1) (let z : 0 < act_size a = act_size_positive a in omega arith) (same_part low (size (Then a t)) (low + 1) (act_size a - 1) acts acts' (omega arith) (let z : 0 < act_size a = act_size_positive a in omega arith) same) k.0.1,
      ),
      after_map n (act_ends inputs (sees history) scope s a) _ _ _ _
          (λ e v. remembers_same (a ∷ vs) (low + act_size a) (bind scope (site a) (Done e v)) e t numbered.1 (same_part low (size (Then a t)) (low + act_size a) (size t) acts acts' (omega arith) (omega arith) same))
          (waiting_same (low + act_size a) (size t) acts acts' (same_part low (size (Then a t)) (low + act_size a) (size t) acts acts' (omega arith) (omega arith) same))
          k.1,
    )
    remembers_same vs low scope s (Both a t) numbered same k = (
      (
        shown_same vs low scope s a numbered.0 (same_part low (size (Both a t)) low (act_size a) acts acts' (omega arith) (omega arith) same) k.0.0,
        inside_same vs low scope s a numbered.0 (act_size a - 1) (let z : 0 < act_size a = act_size_positive a in omega arith) (same_part low (size (Both a t)) (low + 1) (act_size a - 1) acts acts' (omega arith) (let z : 0 < act_size a = act_size_positive a in omega arith) same) k.0.1,
      ),
      remembers_same (a ∷ vs) (low + act_size a) (bind scope (site a) (act_ends inputs (sees history) scope s a)) s t numbered.1 (same_part low (size (Both a t)) (low + act_size a) (size t) acts acts' (omega arith) (omega arith) same) k.1,
    )

    pub inside_same : (vs : List Act) (low : ℕ) (scope : ℕ → Outcome) (s : ℕ) (a : Act) → NumberedAct vs low a → (k : ℕ) → act_size a ≡ 1 + k → SameIn (low + 1) k acts acts' → RemembersInside n inputs history scope s low a acts → RemembersInside n inputs history scope s low a acts'
    inside_same vs low scope s (If p e t u w) numbered j size_is same k =
        chosen_map ((value history scope s e).number == 1) _ _ _ _
        (λ i. (
          remembers_same vs (low + 1) scope s t numbered.1 (same_part (low + 1) j (low + 1) (size t) acts acts' (omega arith) (omega arith) same) i.0,
          waiting_same (low + (1 + size t)) (size u) acts acts' (same_part (low + 1) j (low + (1 + size t)) (size u) acts acts' (omega arith) (omega arith) same) i.1,
        ))
        (λ i. (
          waiting_same (low + 1) (size t) acts acts' (same_part (low + 1) j (low + 1) (size t) acts acts' (omega arith) (omega arith) same) i.0,
          remembers_same vs (low + (1 + size t)) scope s u numbered.2 (same_part (low + 1) j (low + (1 + size t)) (size u) acts acts' (omega arith) (omega arith) same) i.1,
        ))
        k
    inside_same vs low scope s (When p e t) numbered j size_is same k =
        chosen_map ((value history scope s e).number == 1) _ _ _ _
        (remembers_same vs (low + 1) scope s t numbered.1 (same_part (low + 1) j (low + 1) (size t) acts acts' (omega arith) (omega arith) same))
        (waiting_same (low + 1) (size t) acts acts' (same_part (low + 1) j (low + 1) (size t) acts acts' (omega arith) (omega arith) same))
        k
    inside_same vs low scope s (Block p t) numbered j size_is same k = remembers_same vs (low + 1) scope s t numbered.1 (same_part (low + 1) j (low + 1) (size t) acts acts' (omega arith) (omega arith) same) k
    inside_same vs low scope s (Cycle p c) numbered j size_is same k = tt
    inside_same vs low scope s (Set p r e) numbered j size_is same k = tt
    inside_same vs low scope s (Send p m e) numbered j size_is same k = tt
    inside_same vs low scope s (Recv p m) numbered j size_is same k = tt
    inside_same vs low scope s (Wait p y) numbered j size_is same k = tt
    inside_same vs low scope s (Pure p e) numbered j size_is same k = tt
    inside_same vs low scope s (Nothing p) numbered j size_is same k = tt

-- only sites from low to low + k - 1 are written
pub record Touches (low k : ℕ) (acts acts' : List ActState) : Type 0 where
  pub same : (q : ℕ) → (q < low) ⊎ (low + k ≤ q) → state_at acts' q ≡ state_at acts q
  pub long : length acts' ≡ length acts

pub touches_none : (low k : ℕ) (acts : List ActState) → Touches low k acts acts
touches_none low k acts = record { same = λ q l. refl; long = refl }

pub touches_set : (low k p : ℕ) (acts : List ActState) (m : ActState) → low ≤ p → p < low + k → Touches low k acts (slice_set acts p m)
touches_set low k p acts m l l' = record {
  same = λ q i. get_or-set_other acts p q m _ (λ e. elim i [ inl j ↦ omega arith | inr j ↦ omega arith ]);
  long = length-set acts p m;
}

pub touches_more : (low k low' k' : ℕ) (acts acts' : List ActState) → low' ≤ low → low + k ≤ low' + k' → Touches low k acts acts' → Touches low' k' acts acts'
touches_more low k low' k' acts acts' l m t = record {
  same = λ q i. t.same q (elim i [ inl j ↦ inl (omega arith) | inr j ↦ inr (omega arith) ]);
  long = t.long;
}

pub touches_both : (low k : ℕ) (acts acts' acts'' : List ActState) → Touches low k acts acts' → Touches low k acts' acts'' → Touches low k acts acts''
touches_both low k acts acts' acts'' t u = record { same = λ q i. u.same q i ∙ t.same q i; long = u.long ∙ t.long }

pub same_before : (low k low' k' : ℕ) (acts acts' : List ActState) → low' + k' ≤ low → Touches low k acts acts' → SameIn low' k' acts acts'
same_before low k low' k' acts acts' l t q i j = t.same q (inl (omega arith))

pub same_after : (low k low' k' : ℕ) (acts acts' : List ActState) → low + k ≤ low' → Touches low k acts acts' → SameIn low' k' acts acts'
same_after low k low' k' acts acts' l t q i j = t.same q (inr (omega arith))

pub state_set : (acts : List ActState) (p : ℕ) (m : ActState) → p < length acts → state_at (slice_set acts p m) p ≡ m
state_set acts p m l = get_or-set_same acts p m _ l

-- the variables in scope stand before the site low
abbrev pub Below : List Act → ℕ → Type 0
Below vs low = (y : ℕ) → OneOf vs y → y < low

pub reads_in : (vs : List Act) (low : ℕ) (a : Act) → NumberedAct vs low a → ReadsIn vs a
reads_in vs low (Cycle p k) n = tt
reads_in vs low (Set p r e) n = n.1
reads_in vs low (Send p m e) n = n.1
reads_in vs low (Recv p m) n = tt
reads_in vs low (If p e t u w) n = n.3
reads_in vs low (When p e t) n = n.2
reads_in vs low (Block p t) n = tt
reads_in vs low (Wait p y) n = tt
reads_in vs low (Pure p e) n = n.1
reads_in vs low (Nothing p) n = tt

pub knows_same : (n : ℕ) (vs : List Act) (low : ℕ) (scope : ℕ → Outcome) (acts acts' : List ActState) → Below vs low → ((q : ℕ) → q < low → state_at acts' q ≡ state_at acts q) → Knows n vs scope acts → Knows n vs scope acts'
knows_same n vs low scope acts acts' below same knows y k =
    let e = same y (below y k) in
    (ap (λ s. s.ended) e ∙ (knows y k).0, ap (λ s. s.made.value) e ∙ (knows y k).1)

pub below_more : (vs : List Act) (low low' : ℕ) (a : Act) → site a < low' → low ≤ low' → Below vs low → Below (a ∷ vs) low'
below_more vs low low' a l m below y (inl e) = omega arith
below_more vs low low' a l m below y (inr k) = let z : y < low = below y k in omega arith

-- an act that is shown after the cycle n makes one more variable known
pub knows_more : (n : ℕ) (history : ℕ → ℕ → ℕ) (vs : List Act) (scope : ℕ → Outcome) (s : ℕ) (o : Outcome) (a : Act) (acts : List ActState) → Below vs (site a) → Knows n vs scope acts → Shown n history scope s o a (state_at acts (site a))
    → Knows n (a ∷ vs) (bind scope (site a) o) acts
knows_more n history vs scope s o a acts below knows shown y (inl e) =
    let z : (y == site a) ≡ true = grind (arith, nat_tests) in
    let P : ℕ → Type 0 = λ q. ((state_at acts q).ended ≡ ended_by n o) × ((state_at acts q).made.value ≡ made_by n o) in
    rw z (subst P (sym e) (shown.ended, shown.made))
knows_more n history vs scope s o a acts below knows shown y (inr k) =
    let l : y < site a = below y k in
    let z : (y == site a) ≡ false = grind (arith, nat_tests) in
    rw z (knows y k)

pub late_none : (n c : ℕ) (o : Outcome) → NotBefore c o → n < c → value_by n o ≡ None
late_none n c Open k l = refl
late_none n c (Done e v) k l = let z : nat_le e n ≡ false = grind (arith, nat_tests) in rw z refl
