-- What is kept of one act, from one cycle to the next.
--
-- An act that is reached goes on or begins, and then ends where its outcome has come by this cycle. Each kind of act is told
-- apart only in how it finds that its outcome has come.
use Rattle.std.proofs.Common.{◌≡◌, ℕ, ◌+◌, ◌-◌, ◌<◌, ◌≤◌, inl, inr, arith, refl, sym, ◌∙◌, ap, subst, List, [], Bool, true, false, if◌then◌else◌, ◌==◌, nat_lt, nat_le, max, Option, Some, None}
use Rattle.std.proofs.lemmas.Bool.Decides.{nat_tests}
use Rattle.anvil_bits.specs.Number.{Number}
use Rattle.anvil_bits.specs.Operators.{not_of, slice_of}
use Rattle.core_term.specs.declared.rows.InCell.{InCell}
use Rattle.core_term.specs.declared.rows.InCell.TheVariants as incoming
use Rattle.core_term.specs.Rows.{nth_cell, valid_in, data_in, ack_in}
use Rattle.core_term.specs.Inputs.{Inputs}
use Rattle.core_term.specs.Term.{Expr, Lit, Var, Reg, Not, Bin, Slice, Choose, Act, Cycle, Set, Send, Recv, If, When, Block, Wait, Pure, Nothing}
use Rattle.core_term.specs.Numbering.{OneOf, InScope}
use Rattle.core_term.specs.Value.{Value, Outcome, Open, Done, value, nothing, read}
use Rattle.core_term.specs.Ends.{first, found, later, waited, decided}
use Rattle.run_laws.proofs.turn_points.NotBefore.{NotBefore}
use Rattle.run_laws.proofs.source_runs.Offers.{IsPending, found_is, found_by}
use Rattle.sim_laws.specs.declared.act_state.ActState.{ActState}
use Rattle.sim_laws.specs.Advance.{state_at, number_in, evaluate, taken_by, does_of, count_of, visit_state, end_state, timed, talked, waited_for, unit_of, later_made}
use Rattle.sim_laws.specs.Present.{value_by}
use Rattle.sim_laws.specs.Remembers.{ended_by, over_by, made_by, Takes, Shown}

abbrev pub made_before : ℕ → Outcome → ℕ
made_before n Open = 0
made_before n (Done e v) = if nat_lt e n then v.number else 0

abbrev pub numbered_made : Option Number → Option ℕ
numbered_made None = None
numbered_made (Some v) = Some v.value

-- what comes in in the cycle n, and what the registers show there
pub record Coming (n : ℕ) (inputs : Inputs) (history : ℕ → ℕ → ℕ) (cells : List InCell) (regs : List Number) : Type 0 where
  pub inside : n < inputs.count
  pub valid : (m : ℕ) → inputs.valid m n ≡ valid_in (nth_cell cells m)
  pub data_at : (m : ℕ) → inputs.data_at m n ≡ data_in (nth_cell cells m)
  pub ack : (m : ℕ) → inputs.ack m n ≡ ack_in (nth_cell cells m)
  pub registers : (r : ℕ) → (evaluate regs [] (Reg r)).value ≡ history n r

-- what is kept of the variables in scope is what they are by the cycle n
abbrev pub Knows : ℕ → List Act → (ℕ → Outcome) → List ActState → Type 0
Knows n vs scope acts = (y : ℕ) → OneOf vs y → ((state_at acts y).ended ≡ ended_by n (scope y)) × ((state_at acts y).made.value ≡ made_by n (scope y))

pub number_is : (cell : Option InCell) → (number_in cell).value ≡ data_in cell
number_is None = refl
number_is (Some (incoming.Received valid v)) = refl
number_is (Some (incoming.Sent ack)) = refl

read_is : (n : ℕ) (o : Outcome) (k : ℕ) → k ≡ made_by n o → k ≡ (read o n).number
read_is n Open k e = e
read_is n (Done c v) k e = go (nat_le c n) e
  where
    go : (b : Bool) → k ≡ (if b then v.number else 0) → k ≡ (if b then v else nothing).number
    go true f = f
    go false f = f

-- an expression that is read in the cycle n
pub evaluate_is : (n : ℕ) (history : ℕ → ℕ → ℕ) (regs : List Number) (vs : List Act) (scope : ℕ → Outcome) (acts : List ActState)
    → ((r : ℕ) → (evaluate regs [] (Reg r)).value ≡ history n r) → Knows n vs scope acts → (e : Expr) → InScope vs e
    → (evaluate regs acts e).value ≡ (value history scope n e).number
evaluate_is n history regs vs scope acts shows knows (Lit w k) inside = refl
evaluate_is n history regs vs scope acts shows knows (Var y) inside = read_is n (scope y) _ (knows y (inside y refl)).1
evaluate_is n history regs vs scope acts shows knows (Reg r) inside = shows r
evaluate_is n history regs vs scope acts shows knows (Not w e) inside = ap (λ k. not_of w k) (evaluate_is n history regs vs scope acts shows knows e inside)
evaluate_is n history regs vs scope acts shows knows (Bin o w v a b) inside =
    rw (evaluate_is n history regs vs scope acts shows knows a (λ y k. inside y (inl k)), evaluate_is n history regs vs scope acts shows knows b (λ y k. inside y (inr k))) refl
evaluate_is n history regs vs scope acts shows knows (Slice y high low) inside = ap (λ k. slice_of high low k) (read_is n (scope y) _ (knows y (inside y refl)).1)
evaluate_is n history regs vs scope acts shows knows (Choose c a b) inside =
    rw (
      evaluate_is n history regs vs scope acts shows knows c (λ y k. inside y (inl k)),
      evaluate_is n history regs vs scope acts shows knows a (λ y k. inside y (inr (inl k))),
      evaluate_is n history regs vs scope acts shows knows b (λ y k. inside y (inr (inr k))),
    ) refl

-- the variables of an expression of an act are in scope
abbrev pub ReadsIn : List Act → Act → Type 0
ReadsIn vs (Set p r e) = InScope vs e
ReadsIn vs (Send p m e) = InScope vs e
ReadsIn vs (If p e t u w) = InScope vs e
ReadsIn vs (When p e t) = InScope vs e
ReadsIn vs (Pure p e) = InScope vs e
ReadsIn vs a = Unit {0}

pub takes_now : (n : ℕ) (history : ℕ → ℕ → ℕ) (regs : List Number) (vs : List Act) (scope : ℕ → Outcome) (acts : List ActState)
    → ((r : ℕ) → (evaluate regs [] (Reg r)).value ≡ history n r) → Knows n vs scope acts → (a : Act) → ReadsIn vs a → (old : Number)
    → Takes history scope n a (taken_by regs acts a old).value
takes_now n history regs vs scope acts shows knows (Set p r e) inside old = evaluate_is n history regs vs scope acts shows knows e inside
takes_now n history regs vs scope acts shows knows (Send p m e) inside old = evaluate_is n history regs vs scope acts shows knows e inside
takes_now n history regs vs scope acts shows knows (If p e t u w) inside old = evaluate_is n history regs vs scope acts shows knows e inside
takes_now n history regs vs scope acts shows knows (When p e t) inside old = evaluate_is n history regs vs scope acts shows knows e inside
takes_now n history regs vs scope acts shows knows (Pure p e) inside old = evaluate_is n history regs vs scope acts shows knows e inside
takes_now n history regs vs scope acts shows knows (Cycle p k) inside old = tt
takes_now n history regs vs scope acts shows knows (Recv p m) inside old = tt
takes_now n history regs vs scope acts shows knows (Block p t) inside old = tt
takes_now n history regs vs scope acts shows knows (Wait p y) inside old = tt
takes_now n history regs vs scope acts shows knows (Nothing p) inside old = tt

-- an act that has been reached in the cycle n, before it is looked at whether it ends there
pub record Reached (n : ℕ) (history : ℕ → ℕ → ℕ) (scope : ℕ → Outcome) (s : ℕ) (o : Outcome) (a : Act) (m : ActState) : Type 0 where
  pub does : m.does ≡ does_of a
  pub begun : m.begun ≡ true
  pub fresh : m.fresh ≡ (s == n)
  pub ended : m.ended ≡ over_by n o
  pub over : m.over ≡ over_by n o
  pub left : m.left ≡ count_of a - (n - s)
  pub takes : Takes history scope s a m.taken.value
  pub made : m.made.value ≡ made_before n o

not_over : (n : ℕ) (o : Outcome) → NotBefore n o → over_by n o ≡ false
not_over n Open k = refl
not_over n (Done e v) k = grind (arith, nat_tests)

none_made : (n : ℕ) (o : Outcome) → over_by n o ≡ false → made_before n o ≡ 0
none_made n Open k = refl
none_made n (Done e v) k = rw k refl

over_next : (b : ℕ) (o : Outcome) → over_by (b + 1) o ≡ ended_by b o
over_next b Open = refl
over_next b (Done e v) = go (nat_le e b) refl
  where
    go : (c : Bool) → nat_le e b ≡ c → nat_lt e (b + 1) ≡ c
    go true k = let l : e ≤ b = grind (arith, nat_tests) in grind (arith, nat_tests)
    go false k = let l : b < e = grind (arith, nat_tests) in grind (arith, nat_tests)

made_next : (b : ℕ) (o : Outcome) → made_before (b + 1) o ≡ made_by b o
made_next b Open = refl
made_next b (Done e v) = ap (λ c. if c then v.number else 0) (over_next b (Done e v))

pub begins_reached : (n : ℕ) (history : ℕ → ℕ → ℕ) (regs : List Number) (vs : List Act) (scope : ℕ → Outcome) (acts : List ActState) (o : Outcome) (a : Act) (m : ActState)
    → ((r : ℕ) → (evaluate regs [] (Reg r)).value ≡ history n r) → Knows n vs scope acts → ReadsIn vs a → NotBefore n o → m.begun ≡ false
    → Reached n history scope n o a (visit_state regs acts a m)
begins_reached n history regs vs scope acts o a m shows knows inside from waits = rw waits (record {
  does = refl;
  begun = refl;
  fresh = grind (arith, nat_tests);
  ended = sym (not_over n o from);
  over = sym (not_over n o from);
  left = omega arith;
  takes = takes_now n history regs vs scope acts shows knows a inside m.taken;
  made = sym (none_made n o (not_over n o from));
})

pub goes_on_reached : (b : ℕ) (history : ℕ → ℕ → ℕ) (regs : List Number) (scope : ℕ → Outcome) (s : ℕ) (acts : List ActState) (o : Outcome) (a : Act) (m : ActState)
    → s ≤ b → Shown b history scope s o a m
    → Reached (b + 1) history scope s o a (visit_state regs acts a m)
goes_on_reached b history regs scope s acts o a m l shown = rw shown.begun (record {
  does = shown.does;
  begun = refl;
  fresh = grind (arith, nat_tests);
  ended = shown.ended ∙ sym (over_next b o);
  over = shown.ended ∙ sym (over_next b o);
  left = let e = shown.left in omega arith;
  takes = shown.takes;
  made = shown.made ∙ sym (made_next b o);
})

-- what is kept of an act once it has been looked at whether it ends
abbrev pub closed : Option Number → ActState → ActState
closed None m = m
closed (Some v) m = end_state m v

by_none : (n : ℕ) (o : Outcome) → None ≡ value_by n o → (ended_by n o ≡ false) × (over_by n o ≡ false) × (made_by n o ≡ 0)
by_none n Open k = (refl, refl, refl)
by_none n (Done e v) k = go (nat_le e n) refl k
  where
    go : (b : Bool) → nat_le e n ≡ b → None ≡ (if b then Some v.number else None) → (nat_le e n ≡ false) × (nat_lt e n ≡ false) × ((if nat_le e n then v.number else 0) ≡ 0)
    go true f i = absurd cc
    go false f i = (f, grind (arith, nat_tests), rw f refl)

by_some : (n : ℕ) (o : Outcome) (k : ℕ) → Some k ≡ value_by n o → (ended_by n o ≡ true) × (made_by n o ≡ k)
by_some n Open k e = absurd cc
by_some n (Done c v) k e = go (nat_le c n) refl e
  where
    go : (b : Bool) → nat_le c n ≡ b → Some k ≡ (if b then Some v.number else None) → (nat_le c n ≡ true) × ((if nat_le c n then v.number else 0) ≡ k)
    go true f i = (f, rw f (let j : k ≡ v.number = cc in sym j))
    go false f i = absurd cc

pub closes : (n : ℕ) (history : ℕ → ℕ → ℕ) (scope : ℕ → Outcome) (s : ℕ) (o : Outcome) (a : Act) (m : ActState) (w : Option Number)
    → Reached n history scope s o a m → numbered_made w ≡ value_by n o → Shown n history scope s o a (closed w m)
closes n history scope s o a m None reached e =
    let z = by_none n o e in
    record {
      does = reached.does;
      begun = reached.begun;
      fresh = reached.fresh;
      ended = reached.ended ∙ (z.1 ∙ sym z.0);
      over = reached.over;
      left = reached.left;
      takes = reached.takes;
      made = reached.made ∙ (none_made n o z.1 ∙ sym z.2);
    }
closes n history scope s o a m (Some v) reached e =
    let z = by_some n o v.value e in
    record {
      does = reached.does;
      begun = reached.begun;
      fresh = reached.fresh;
      ended = sym z.0;
      over = reached.over;
      left = reached.left;
      takes = reached.takes;
      made = sym z.1;
    }

-- How each kind of act finds what it has made.

made_none : (n e : ℕ) → made_before n (Done e nothing) ≡ 0
made_none n e = go (nat_lt e n)
  where
    go : (b : Bool) → (if b then nothing.number else nothing.number) ≡ nothing.number
    go true = refl
    go false = refl

-- an act that takes k cycles
pub timed_is : (n s k : ℕ) (m : ActState) → s ≤ n → m.left ≡ k - (n - s) → m.made.value ≡ made_before n (Done (s + k) nothing)
    → numbered_made (timed m) ≡ value_by n (Done (s + k) nothing)
timed_is n s k m l left made = go (m.left == 0) refl
  where
    go : (b : Bool) → (m.left == 0) ≡ b → numbered_made (if b then Some m.made else None) ≡ value_by n (Done (s + k) nothing)
    go true e =
        let z : m.left ≡ 0 = grind (arith, nat_tests) in
        let y : s + k ≤ n = omega arith in
        let x : nat_le (s + k) n ≡ true = grind (arith, nat_tests) in
        rw x (ap Some (made ∙ made_none n (s + k)))
    go false e =
        let z : 0 < m.left = grind (arith, nat_tests) in
        let y : n < s + k = omega arith in
        let x : nat_le (s + k) n ≡ false = grind (arith, nat_tests) in
        rw x refl

ended_before : (n : ℕ) (o : Outcome) (v : Number) → over_by n o ≡ true → v.value ≡ made_before n o → Some v.value ≡ value_by n o
ended_before n Open v k e = absurd cc
ended_before n (Done c w) v k e =
    let l : c < n = grind (arith, nat_tests) in
    let m : nat_le c n ≡ true = grind (arith, nat_tests) in
    rw m (ap Some (rw k at e))

is_pending : (n s : ℕ) (o : Outcome) → s ≤ n → over_by n o ≡ false → IsPending n s o
is_pending n s Open l k = record { begun = l; not_ended = λ e v q. absurd cc }
is_pending n s (Done c w) l k = record { begun = l; not_ended = λ e v q. let z : c ≡ e = cc in let y : n ≤ c = grind (arith, nat_tests) in omega arith }

-- a send or a receive, of which the partner's wire is `wire`, and whose value is `f u` where it ends at u
pub talked_is : (n s count : ℕ) (wire : ℕ → Bool) (f : ℕ → Value) (on : Bool) (v : Number) (m : ActState) → s ≤ n → n < count → wire n ≡ on
    → m.ended ≡ over_by n (found (first wire s (count - s)) f) → m.made.value ≡ made_before n (found (first wire s (count - s)) f)
    → (over_by n (found (first wire s (count - s)) f) ≡ false → v.value ≡ (f n).number)
    → numbered_made (talked m on v) ≡ value_by n (found (first wire s (count - s)) f)
talked_is n s count wire f on v m l less is ended made gives = go (m.ended) refl on is
  where
    o : Outcome
    o = found (first wire s (count - s)) f

    go : (b : Bool) → m.ended ≡ b → (c : Bool) → wire n ≡ c → numbered_made (if b then Some m.made else (if c then Some v else None)) ≡ value_by n (found (first wire s (count - s)) f)
    go true e c i = ended_before n (found (first wire s (count - s)) f) m.made (sym ended ∙ e) made
    go false e true i =
        let y : over_by n (found (first wire s (count - s)) f) ≡ false = sym ended ∙ e in
        let z = found_by wire s (count - s) f n l (omega arith) i (is_pending n s (found (first wire s (count - s)) f) l y) in
        let x : nat_le n n ≡ true = grind (arith, nat_tests) in
        let w : value_by n (found (first wire s (count - s)) f) ≡ Some (f n).number = ap (value_by n) z ∙ ap (λ b. if b then Some (f n).number else None) x in
        ap Some (gives y) ∙ sym w
    go false e false i = none (found (first wire s (count - s)) f) refl
      where
        none : (r : Outcome) → found (first wire s (count - s)) f ≡ r → None ≡ value_by n r
        none Open k = refl
        none (Done c w) k =
            let y : over_by n (Done c w) ≡ false = ap (over_by n) (sym k) ∙ (sym ended ∙ e) in
            let x = found_is wire s (count - s) f c w k in
            let d : n ≤ c = grind (arith, nat_tests) in
            later_on (nat_le c n) refl
          where
            later_on : (b : Bool) → nat_le c n ≡ b → None ≡ (if b then Some w.number else None)
            later_on false j = refl
            later_on true j =
                let y : over_by n (Done c w) ≡ false = ap (over_by n) (sym k) ∙ (sym ended ∙ e) in
                let x = found_is wire s (count - s) f c w k in
                let d : n ≤ c = grind (arith, nat_tests) in
                let d' : c ≤ n = grind (arith, nat_tests) in
                let d'' : c ≡ n = omega arith in
                let g : wire n ≡ true = subst (λ u. wire u ≡ true) d'' x.0 in
                let h : true ≡ false = sym g ∙ i in
                absurd cc

-- a wait for a variable with the outcome o
pub waited_is : (n s : ℕ) (o : Outcome) (m : ActState) → s ≤ n → m.ended ≡ ended_by n o → m.made.value ≡ made_by n o → numbered_made (waited_for m) ≡ value_by n (waited s o)
waited_is n s Open m l ended made = rw ended refl
waited_is n s (Done e v) m l ended made = go (nat_le e n) refl
  where
    go : (b : Bool) → nat_le e n ≡ b → numbered_made (if m.ended then Some m.made else None) ≡ (if nat_le (max s e) n then Some v.number else None)
    go true k =
        let y : e ≤ n = grind (arith, nat_tests) in
        let z : nat_le (max s e) n ≡ true = let x : max s e ≤ n = omega arith in grind (arith, nat_tests) in
        rw (ended, k, z) (ap Some (rw k at made))
    go false k =
        let y : n < e = grind (arith, nat_tests) in
        let z : nat_le (max s e) n ≡ false = let x : n < max s e = omega arith in grind (arith, nat_tests) in
        rw (ended, k, z) refl

-- the later of two
pub later_is : (n : ℕ) (o u : Outcome) (w x : Option Number) → numbered_made w ≡ value_by n o → numbered_made x ≡ value_by n u → numbered_made (later_made w x) ≡ value_by n (later o u)
later_is n Open u None x e f = refl
later_is n Open u (Some v) x e f = absurd cc
later_is n (Done c a) u None x e f = go (nat_le c n) refl e u
  where
    go : (b : Bool) → nat_le c n ≡ b → None ≡ (if b then Some a.number else None) → (u : Outcome) → None ≡ value_by n (later (Done c a) u)
    go true k i u = absurd cc
    go false k i Open = refl
    go false k i (Done d b) =
        let y : n < c = grind (arith, nat_tests) in
        let z : nat_le (max c d) n ≡ false = let x : n < max c d = omega arith in grind (arith, nat_tests) in
        rw z refl
later_is n (Done c a) Open (Some v) x e f = f
later_is n (Done c a) (Done d b) (Some v) x e f = go (nat_le c n) refl e
  where
    go : (t : Bool) → nat_le c n ≡ t → Some v.value ≡ (if t then Some a.number else None) → numbered_made x ≡ (if nat_le (max c d) n then Some b.number else None)
    go false k i = absurd cc
    go true k i =
        let y : c ≤ n = grind (arith, nat_tests) in
        f ∙ ap (λ t. if t then Some b.number else None) (same (nat_le d n) refl)
      where
        same : (t : Bool) → nat_le d n ≡ t → nat_le d n ≡ nat_le (max c d) n
        same true j =
            let y : c ≤ n = grind (arith, nat_tests) in
            let l : d ≤ n = grind (arith, nat_tests) in
            let z : nat_le (max c d) n ≡ true = let x : max c d ≤ n = omega arith in grind (arith, nat_tests) in
            j ∙ sym z
        same false j =
            let l : n < d = grind (arith, nat_tests) in
            let z : nat_le (max c d) n ≡ false = let x : n < max c d = omega arith in grind (arith, nat_tests) in
            j ∙ sym z

-- an `if` with a value has that of its side
pub word_is : (n p s : ℕ) (o : Outcome) (w : Option Number) → numbered_made w ≡ value_by n o → numbered_made w ≡ value_by n (decided true p s o)
word_is n p s Open w e = e
word_is n p s (Done c v) w e = e

-- and one without is unit
pub unit_is : (n p s : ℕ) (o : Outcome) (w : Option Number) (z : Number) → numbered_made w ≡ value_by n o → z.value ≡ 0 → numbered_made (unit_of w z) ≡ value_by n (decided false p s o)
unit_is n p s Open None z e f = refl
unit_is n p s Open (Some v) z e f = absurd cc
unit_is n p s (Done c v) None z e f = go (nat_le c n) e
  where
    go : (b : Bool) → None ≡ (if b then Some v.number else None) → None ≡ (if b then Some nothing.number else None)
    go true i = absurd cc
    go false i = refl
unit_is n p s (Done c v) (Some x) z e f = go (nat_le c n) e
  where
    go : (b : Bool) → Some x.value ≡ (if b then Some v.number else None) → Some z.value ≡ (if b then Some nothing.number else None)
    go true i = ap Some f
    go false i = absurd cc

-- an act that ends as it begins
pub at_once : (n s : ℕ) (v : Value) → s ≤ n → value_by n (Done s v) ≡ Some v.number
at_once n s v l = let x : nat_le s n ≡ true = grind (arith, nat_tests) in rw x refl

pub made_unit : (n s : ℕ) (m : ActState) → m.made.value ≡ made_before n (Done s nothing) → m.made.value ≡ 0
made_unit n s m made = made ∙ made_none n s

-- an act that ends as it begins with what it takes
pub taken_is : (n s : ℕ) (v : Value) (m : ActState) → s ≤ n → m.fresh ≡ (s == n) → m.ended ≡ over_by n (Done s v) → m.made.value ≡ made_before n (Done s v) → m.taken.value ≡ v.number → numbered_made (talked m m.fresh m.taken) ≡ value_by n (Done s v)
taken_is n s v m l fresh ended made takes = go m.ended refl
  where
    go : (b : Bool) → m.ended ≡ b → numbered_made (if b then Some m.made else (if m.fresh then Some m.taken else None)) ≡ value_by n (Done s v)
    go true e = ended_before n (Done s v) m.made (sym ended ∙ e) made
    go false e =
        let z : nat_lt s n ≡ false = sym ended ∙ e in
        let y : s ≡ n = let x : n ≤ s = grind (arith, nat_tests) in omega arith in
        let w : m.fresh ≡ true = fresh ∙ let x : (s == n) ≡ true = grind (arith, nat_tests) in x in
        rw w (ap Some takes ∙ sym (at_once n s v l))
