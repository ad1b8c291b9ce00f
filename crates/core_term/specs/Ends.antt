-- When a term that begins in the cycle `start` ends, and with what value.
--
-- This looks at the whole input list at once; code goes cycle by cycle with a state for each act. A term begins within
-- the list: that is asked where a chain goes on and where a turn begins, and every other begin is one of those.
use Rattle.std.specs.Prelude.{ℕ, ◌+◌, ◌-◌, ◌==◌, if◌then◌else◌, Bool, true, false, [], ◌∷◌, nat_lt, zero, suc, max}
use Rattle.std.specs.Prelude.{Option, Some, None}
use Rattle.core_term.specs.Inputs.{Inputs}
use Rattle.core_term.specs.Term.{Expr, Term, One, Then, Both, Act, Cycle, Set, Send, Recv, If, When, Block, Wait, Pure}
use Rattle.core_term.specs.Term.{Nothing, site}
use Rattle.core_term.specs.Value.{Wire, Choice, Value, Outcome, Open, Done, nothing, value}

-- what a walk through a body sees: what the registers show, by cycle and register, and whether the `if` of a site that
-- begins in the cycle start decides for its first side. The source run and the re-reading run differ in this alone
pub record Sees : Type 0 where
  pub registers : (cycle register : ℕ) → ℕ
  pub decide : (site start : ℕ) → (ℕ → Outcome) → Expr → Bool

-- as the source run has it: an `if` decides by the value of its condition
abbrev pub sees : (ℕ → ℕ → ℕ) → Sees
sees registers =
    record { registers = registers; decide = λ p start scope e. (value registers scope start e).number == 1 }

-- the first of n cycles from start on in which a wire is 1
abbrev pub first : (ℕ → Bool) → ℕ → ℕ → Option ℕ
first wire start zero = None
first wire start (suc n) = if wire start then Some start else first wire (start + 1) n

-- an act that ends in the cycle that was found
abbrev pub found : Option ℕ → (ℕ → Value) → Outcome
found None v = Open
found (Some u) v = Done u (v u)

-- the variable of the site p is in scope too
abbrev pub bind : (ℕ → Outcome) → ℕ → Outcome → ℕ → Outcome
bind scope p outcome = λ y. if y == p then outcome else scope y

-- the later of two ends, with the value of the second
abbrev pub later : Outcome → Outcome → Outcome
later Open outcome = Open
later (Done e v) Open = Open
later (Done e v) (Done f w) = Done (max e f) w

-- a wait from start on for a variable
abbrev pub waited : ℕ → Outcome → Outcome
waited start Open = Open
waited start (Done e v) = Done (max start e) v

-- the outcome of an `if` of the site p that decided at start, from that of the side taken: without a width it is unit
abbrev pub decided : Bool → ℕ → ℕ → Outcome → Outcome
decided worded p start Open = Open
decided true p start (Done e v) = Done e (record { number = v.number; atoms = Choice p start ∷ v.atoms })
decided false p start (Done e v) = Done e nothing

-- what goes on where an act has ended, if that is within the list
abbrev pub after_end : Inputs → Outcome → (ℕ → Value → Outcome) → Outcome
after_end inputs Open go_on = Open
after_end inputs (Done e v) go_on = if nat_lt e inputs.count then go_on e v else Open

abbrev mutual
  pub ends : Inputs → Sees → (ℕ → Outcome) → ℕ → Term → Outcome
  ends inputs view scope start (One a) = act_ends inputs view scope start a
  ends inputs view scope start (Then a t) =
      after_end inputs (act_ends inputs view scope start a)
      (λ e v. ends inputs view (bind scope (site a) (Done e v)) e t)
  ends inputs view scope start (Both a t) =
      later (act_ends inputs view scope start a)
      (ends inputs view (bind scope (site a) (act_ends inputs view scope start a)) start t)

  pub act_ends : Inputs → Sees → (ℕ → Outcome) → ℕ → Act → Outcome
  act_ends inputs view scope start (Cycle p n) = Done (start + n) nothing
  act_ends inputs view scope start (Set p r e) = Done (start + 1) nothing
  act_ends inputs view scope start (Send p m e) =
      found (first (inputs.ack m) start (inputs.count - start)) (λ u. nothing)
  act_ends inputs view scope start (Recv p m) =
      found (first (inputs.valid m) start (inputs.count - start))
      (λ u. record { number = inputs.data_at m u; atoms = Wire m u ∷ [] })
  act_ends inputs view scope start (If p e t u w) =
      decided w p start
      (if view.decide p start scope e then ends inputs view scope start t else ends inputs view scope start u)
  act_ends inputs view scope start (When p e t) =
      decided false p start (if view.decide p start scope e then ends inputs view scope start t else Done start nothing)
  act_ends inputs view scope start (Block p t) = ends inputs view scope start t
  act_ends inputs view scope start (Wait p y) = waited start (scope y)
  act_ends inputs view scope start (Pure p e) = Done start (value view.registers scope start e)
  act_ends inputs view scope start (Nothing p) = Done start nothing
