-- The present turn of a thread, from one cycle to the next.
--
-- After each cycle there is one turn that has begun and has not ended by that cycle. In the cycle in which a turn ends the next one
-- begins, and that one does not end in the same cycle, since a tail-stepped body takes at least a cycle.
use Rattle.std.proofs.Common.{◌≡◌, ℕ, ◌+◌, ◌<◌, ◌≤◌, arith, refl, sym, ◌∙◌, ap, List, [], ◌∷◌, length, Bool, true, false, if◌then◌else◌, nat_lt, nat_le, zero, suc, Option, Some, None}
use Rattle.std.proofs.lemmas.Bool.Decides.{nat_tests}
use Rattle.anvil_bits.specs.Number.{Number}
use Rattle.core_term.specs.declared.rows.InCell.{InCell}
use Rattle.core_term.specs.Inputs.{Inputs}
use Rattle.core_term.specs.Term.{Term}
use Rattle.core_term.specs.Numbering.{size, Numbered}
use Rattle.core_term.specs.Tail.{IsTail}
use Rattle.core_term.specs.Value.{Outcome, Open, Done}
use Rattle.core_term.specs.Ends.{sees, ends}
use Rattle.core_term.specs.Occurs.{At, of_outcome}
use Rattle.core_term.specs.Turns.{begins, begin_after, no_variable}
use Rattle.run_laws.proofs.turn_points.Strict.{takes}
use Rattle.sim_laws.specs.declared.act_state.ActState.{ActState}
use Rattle.sim_laws.specs.Advance.{Advanced, state_at, advance}
use Rattle.sim_laws.specs.Passes.{cleared, turn_on}
use Rattle.sim_laws.specs.Present.{value_by, PresentTurn}
use Rattle.sim_laws.proofs.Leaf.{numbered_made, Coming}
use Rattle.sim_laws.proofs.Steps as steps
use Rattle.sim_laws.proofs.Steps.{advances}

pub cleared_long : (acts : List ActState) → length (cleared acts) ≡ length acts
cleared_long [] = refl
cleared_long (act ∷ acts) = ap suc (cleared_long acts)

pub cleared_waits : (acts : List ActState) (q : ℕ) → (state_at (cleared acts) q).begun ≡ false
cleared_waits [] q = refl
cleared_waits (act ∷ acts) zero = refl
cleared_waits (act ∷ acts) (suc q) = cleared_waits acts q

not_ended : (n e : ℕ) (o : Outcome) → (of_outcome o ≡ At e → n < e) → ((f : ℕ) → of_outcome o ≡ At f → n < f) → value_by n o ≡ None
not_ended n e Open k l = refl
not_ended n e (Done f v) k l = let z : n < f = l f refl in let y : nat_le f n ≡ false = grind (arith, nat_tests) in rw y refl

module _ (n : ℕ) (inputs : Inputs) (history : ℕ → ℕ → ℕ) (cells : List InCell) (regs : List Number) (coming : Coming n inputs history cells regs) (body : Term) (numbered : Numbered [] 0 body) (tail : IsTail body) where
  -- a turn that begins in the cycle n
  pub turn_begins : (i : ℕ) (acts : List ActState) → begins inputs (sees history) body i ≡ Some n → length acts ≡ size body → PresentTurn n inputs history body (advance cells regs body (cleared acts)).acts
  turn_begins i acts e long =
      let long' : length (cleared acts) ≡ length acts = cleared_long acts in
      let z =
      advances n inputs history cells regs coming [] 0 no_variable n body (cleared acts) numbered (λ y k. elim k [ ]) (omega arith) (λ y k. elim k [ ])
      (steps.Ready.begins refl (λ q l m. cleared_waits acts q)) in
      record {
        turn = i;
        start = n;
        begin_is = e;
        since = omega arith;
        open_by = not_ended n 0 (ends inputs (sees history) no_variable n body) (λ k. takes inputs (sees history) no_variable n body 0 tail k) (λ f k. takes inputs (sees history) no_variable n body f tail k);
        remembers = z.remembers;
        long = z.touches.long ∙ (long' ∙ long);
      }

  ends_now : (b : ℕ) (o : Outcome) (k : ℕ) → n ≡ b + 1 → value_by b o ≡ None → Some k ≡ value_by n o → begin_after inputs o ≡ Some n
  ends_now b Open k i j l = absurd cc
  ends_now b (Done e v) k i j l = go (nat_le e b) refl j (nat_le e n) refl l
    where
      go : (c : Bool) → nat_le e b ≡ c → (if c then Some v.number else None) ≡ None → (d : Bool) → nat_le e n ≡ d → Some k ≡ (if d then Some v.number else None) → (if nat_lt e inputs.count then Some e else None) ≡ Some n
      go true f g d h m = absurd cc
      go false f g false h m = absurd cc
      go false f g true h m =
          let x : b < e = grind (arith, nat_tests) in
          let y : e ≤ n = grind (arith, nat_tests) in
          let z : e ≡ n = omega arith in
          let w : n < inputs.count = coming.inside in
          let u : nat_lt e inputs.count ≡ true = grind (arith, nat_tests) in
          rw u (ap Some z)

  -- a turn of the cycle before goes on, or it ends and the next one begins
  pub turn_goes_on : (b : ℕ) (acts : List ActState) → n ≡ b + 1 → PresentTurn b inputs history body acts → PresentTurn n inputs history body (turn_on cells regs body (advance cells regs body acts))
  turn_goes_on b acts i t =
      let long = t.long in
      let since = t.since in
      let z =
      advances n inputs history cells regs coming [] 0 no_variable t.start body acts numbered (λ y k. elim k [ ]) (omega arith) (λ y k. elim k [ ])
      (steps.Ready.goes_on b i t.since t.remembers) in
      go (advance cells regs body acts) z
    where
      go : (r : Advanced) → steps.Advances n inputs history cells regs coming no_variable t.start 0 body acts r → PresentTurn n inputs history body (turn_on cells regs body r)
      go r z = next r.made z.made
        where
          next : (w : Option Number) → numbered_made w ≡ value_by n (ends inputs (sees history) no_variable t.start body) → PresentTurn n inputs history body (turn_on cells regs body (record { made = w; acts = r.acts }))
          next None e =
              let since = t.since in
              record {
                turn = t.turn;
                start = t.start;
                begin_is = t.begin_is;
                since = omega arith;
                open_by = sym e;
                remembers = z.remembers;
                long = z.touches.long ∙ t.long;
              }
          next (Some v) e =
              let y : begin_after inputs (ends inputs (sees history) no_variable t.start body) ≡ Some n = ends_now b _ v.value i t.open_by e in
              turn_begins (suc t.turn) r.acts (rw t.begin_is y) (z.touches.long ∙ t.long)

  -- the first turn
  pub first_turn : (acts : List ActState) → n ≡ 0 → length acts ≡ size body → PresentTurn n inputs history body (advance cells regs body (cleared acts)).acts
  first_turn acts z long =
      let w : n < inputs.count = coming.inside in
      let u : nat_lt 0 inputs.count ≡ true = grind (arith, nat_tests) in
      let y : begins inputs (sees history) body 0 ≡ Some n = rw u (ap Some (sym z)) in
      turn_begins 0 acts y long
