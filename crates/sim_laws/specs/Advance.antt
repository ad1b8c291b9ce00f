-- One cycle of the acts of a turn, over what is kept of each act.
--
-- An act that is reached for the first time begins. It tells the value that it has made where it has ended by this cycle.
use Rattle.std.specs.Prelude.{ℕ, ◌+◌, ◌-◌, ◌==◌, if◌then◌else◌, Bool, true, false, List, slice_set, slice_index_or, Option, Some, None}
use Rattle.anvil_bits.specs.Number.{Number}
use Rattle.anvil_bits.specs.Operators.{not_of, slice_of, choice_of}
use Rattle.core_term.specs.Operators.{operate}
use Rattle.core_term.specs.declared.rows.InCell.{InCell}
use Rattle.core_term.specs.declared.rows.InCell.TheVariants as incoming
use Rattle.core_term.specs.Rows.{number_of, nth_cell, valid_in, ack_in}
use Rattle.core_term.specs.Term.{Expr, Lit, Var, Reg, Not, Bin, Slice, Choose, Term, One, Then, Both, Act, Cycle, Set, Send, Recv, If, When, Block, Wait, Pure, Nothing, site}
use Rattle.sim_laws.specs.declared.act_state.ActState.{ActState}
use Rattle.sim_laws.specs.declared.act_state.Does.{Does}
use Rattle.sim_laws.specs.declared.act_state.Does.TheVariants as does

-- what stands for the value of an act that is unit, as it is no value that an expression names
abbrev pub zero_bit : Number
zero_bit = number_of 1 0

abbrev pub idle : ActState
idle = record { does = does.Nothing; begun = false; fresh = false; ended = false; over = false; left = 0; taken = zero_bit; made = zero_bit }

abbrev pub state_at : List ActState → ℕ → ActState
state_at acts p = slice_index_or acts p idle

abbrev pub number_in : Option InCell → Number
number_in (Some (incoming.Received valid v)) = v
number_in (Some (incoming.Sent ack)) = zero_bit
number_in None = zero_bit

-- an expression that is read now
abbrev pub evaluate : List Number → List ActState → Expr → Number
evaluate regs acts (Lit w n) = number_of w n
evaluate regs acts (Var y) = (state_at acts y).made
evaluate regs acts (Reg r) = slice_index_or regs r zero_bit
evaluate regs acts (Not w e) = number_of w (not_of w (evaluate regs acts e).value)
evaluate regs acts (Bin o w v a b) = number_of w (operate o w v (evaluate regs acts a).value (evaluate regs acts b).value)
evaluate regs acts (Slice y high low) = number_of (high + 1 - low) (slice_of high low (state_at acts y).made.value)
evaluate regs acts (Choose c a b) =
    number_of (evaluate regs acts a).width (choice_of (evaluate regs acts c).value (evaluate regs acts a).value (evaluate regs acts b).value)

-- what an act takes as it begins: the value of its expression
abbrev pub taken_by : List Number → List ActState → Act → Number → Number
taken_by regs acts (Set p r e) old = evaluate regs acts e
taken_by regs acts (Send p m e) old = evaluate regs acts e
taken_by regs acts (If p e t u w) old = evaluate regs acts e
taken_by regs acts (When p e t) old = evaluate regs acts e
taken_by regs acts (Pure p e) old = evaluate regs acts e
taken_by regs acts a old = old

abbrev pub does_of : Act → Does
does_of (Set p r e) = does.Sets r
does_of (Send p m e) = does.Sends m
does_of (Recv p m) = does.Receives m
does_of a = does.Nothing

-- how many cycles an act takes, where the text says so
abbrev pub count_of : Act → ℕ
count_of (Cycle p n) = n
count_of (Set p r e) = 1
count_of a = 0

abbrev pub begin_state : List Number → List ActState → Act → ActState → ActState
begin_state regs acts a m = record {
  does = does_of a;
  begun = true;
  fresh = true;
  ended = false;
  over = false;
  left = count_of a;
  taken = taken_by regs acts a m.taken;
  made = number_of m.made.width 0;
}

abbrev pub go_on_state : ActState → ActState
go_on_state m = record m { fresh = false; over = m.ended; left = m.left - 1 }

abbrev pub visit_state : List Number → List ActState → Act → ActState → ActState
visit_state regs acts a m = if m.begun then go_on_state m else begin_state regs acts a m

-- an act is reached
abbrev pub visit : List Number → Act → List ActState → List ActState
visit regs a acts = slice_set acts (site a) (visit_state regs acts a (state_at acts (site a)))

abbrev pub end_state : ActState → Number → ActState
end_state m v = record m { ended = true; made = v }

pub record Advanced : Type 0 where
  pub made : Option Number
  pub acts : List ActState

-- the act of the site p has ended where it has made a value
abbrev pub close_with : ℕ → Option Number → List ActState → Advanced
close_with p None acts = record { made = None; acts = acts }
close_with p (Some v) acts = record { made = Some v; acts = slice_set acts p (end_state (state_at acts p) v) }

abbrev pub close : ℕ → Advanced → Advanced
close p r = close_with p r.made r.acts

-- an act whose text says how many cycles it takes
abbrev pub timed : ActState → Option Number
timed m = if m.left == 0 then Some m.made else None

-- a send or a receive, with what it makes where the partner's wire is 1
abbrev pub talked : ActState → Bool → Number → Option Number
talked m on v = if m.ended then Some m.made else (if on then Some v else None)

abbrev pub waited_for : ActState → Option Number
waited_for m = if m.ended then Some m.made else None

abbrev pub unit_of : Option Number → Number → Option Number
unit_of None zero_made = None
unit_of (Some v) zero_made = Some zero_made

-- the value of an `if` of the site p is that of its side, or it is unit
abbrev pub word_of : Bool → ℕ → Advanced → Advanced
word_of true p r = r
word_of false p r = record { made = unit_of r.made (state_at r.acts p).made; acts = r.acts }

abbrev pub is_chosen : List ActState → ℕ → Bool
is_chosen acts p = (state_at acts p).taken.value == 1

abbrev pub then_on : Option Number → List ActState → (List ActState → Advanced) → Advanced
then_on None acts rest = record { made = None; acts = acts }
then_on (Some v) acts rest = rest acts

abbrev pub later_made : Option Number → Option Number → Option Number
later_made None other = None
later_made (Some v) other = other

abbrev pub with_rest : Option Number → Advanced → Advanced
with_rest made r = record { made = later_made made r.made; acts = r.acts }

-- `inside` tells what an act that was reached has made by now, after its parts have gone on
abbrev mutual
  pub advance : List InCell → List Number → Term → List ActState → Advanced
  advance cells regs (One a) acts = close (site a) (inside cells regs a (visit regs a acts))
  advance cells regs (Then a t) acts =
      then_on (close (site a) (inside cells regs a (visit regs a acts))).made (close (site a) (inside cells regs a (visit regs a acts))).acts (λ acts'. advance cells regs t acts')
  advance cells regs (Both a t) acts =
      with_rest (close (site a) (inside cells regs a (visit regs a acts))).made (advance cells regs t (close (site a) (inside cells regs a (visit regs a acts))).acts)

  pub inside : List InCell → List Number → Act → List ActState → Advanced
  inside cells regs (Cycle p n) acts = record { made = timed (state_at acts p); acts = acts }
  inside cells regs (Set p r e) acts = record { made = timed (state_at acts p); acts = acts }
  inside cells regs (Send p m e) acts = record { made = talked (state_at acts p) (ack_in (nth_cell cells m)) (state_at acts p).made; acts = acts }
  inside cells regs (Recv p m) acts = record { made = talked (state_at acts p) (valid_in (nth_cell cells m)) (number_in (nth_cell cells m)); acts = acts }
  inside cells regs (If p e t u w) acts = word_of w p (if is_chosen acts p then advance cells regs t acts else advance cells regs u acts)
  inside cells regs (When p e t) acts = word_of false p (if is_chosen acts p then advance cells regs t acts else record { made = Some zero_bit; acts = acts })
  inside cells regs (Block p t) acts = advance cells regs t acts
  inside cells regs (Wait p y) acts = record { made = waited_for (state_at acts y); acts = acts }
  inside cells regs (Pure p e) acts = record { made = talked (state_at acts p) (state_at acts p).fresh (state_at acts p).taken; acts = acts }
  inside cells regs (Nothing p) acts = record { made = Some (state_at acts p).made; acts = acts }

abbrev pub advance_act : List InCell → List Number → Act → List ActState → Advanced
advance_act cells regs a acts = close (site a) (inside cells regs a (visit regs a acts))
