-- Nothing ends before it begins, and no act of a term begins before the term.
--
-- By induction over terms and acts: each end is computed from its begin by adding, by looking further in the list, or as the
-- later of two.
use Rattle.std.proofs.Common.{ℕ, ◌+◌, ◌-◌, ◌≤◌, arith, Bool, true, false, if◌then◌else◌, ◌==◌, nat_lt, zero, suc, Some}
use Rattle.core_term.specs.Inputs.{Inputs}
use Rattle.core_term.specs.Term.{Term, One, Then, Both, Act, Cycle, Set, Send, Recv, If, When, Block, Wait, Pure, Nothing, site, head}
use Rattle.core_term.specs.Value.{Value, Outcome, Open, Done, nothing}
use Rattle.core_term.specs.Ends.{Sees, first, found, bind, later, waited, decided, after_end, ends, act_ends}
use Rattle.core_term.specs.Fate.{Fate, Waits, Lost, Runs, once, fate, inside}

-- an outcome that comes at start or later
abbrev pub NotBefore : ℕ → Outcome → Type 0
NotBefore start Open = Unit {0}
NotBefore start (Done e v) = start ≤ e

-- a fate that begins at start or later
abbrev pub BeginsFrom : ℕ → Fate → Type 0
BeginsFrom start Waits = Unit {0}
BeginsFrom start Lost = Unit {0}
BeginsFrom start (Runs scope begin t) = start ≤ begin

-- what holds of both holds of either
pub pick : {A : Type 0} (P : A → Type 0) (b : Bool) (x y : A) → P x → P y → P (if b then x else y)
pick P true x y k l = k
pick P false x y k l = l

earlier : (s start : ℕ) (o : Outcome) → s ≤ start → NotBefore start o → NotBefore s o
earlier s start Open l k = tt
earlier s start (Done e v) l k = omega arith

earlier_fate : (s start : ℕ) (f : Fate) → s ≤ start → BeginsFrom start f → BeginsFrom s f
earlier_fate s start Waits l k = tt
earlier_fate s start Lost l k = tt
earlier_fate s start (Runs scope begin t) l k = omega arith

pub found_from : (wire : ℕ → Bool) (start n : ℕ) (v : ℕ → Value) → NotBefore start (found (first wire start n) v)
found_from wire start zero v = tt
found_from wire start (suc n) v =
    pick (λ o. NotBefore start (found o v)) (wire start) (Some start) (first wire (start + 1) n) (omega arith)
    (earlier start (start + 1) (found (first wire (start + 1) n) v) (omega arith) (found_from wire (start + 1) n v))

later_from : (start : ℕ) (o o' : Outcome) → NotBefore start o → NotBefore start (later o o')
later_from start Open o' k = tt
later_from start (Done e v) Open k = tt
later_from start (Done e v) (Done f w) k = omega arith

waited_from : (start : ℕ) (o : Outcome) → NotBefore start (waited start o)
waited_from start Open = tt
waited_from start (Done e v) = omega arith

decided_from : (worded : Bool) (p start : ℕ) (o : Outcome) → NotBefore start o → NotBefore start (decided worded p start o)
decided_from worded p start Open k = tt
decided_from true p start (Done e v) k = k
decided_from false p start (Done e v) k = k

module _ (inputs : Inputs) (view : Sees) where
  chain_from : (start : ℕ) (o : Outcome) (go_on : ℕ → Value → Outcome) → NotBefore start o → ((e : ℕ) (v : Value) → NotBefore e (go_on e v)) → NotBefore start (after_end inputs o go_on)
  chain_from start Open go_on k f = tt
  chain_from start (Done e v) go_on k f = pick (NotBefore start) (nat_lt e inputs.count) (go_on e v) Open (earlier start e (go_on e v) k (f e v)) tt

  mutual
    pub ends_from : (scope : ℕ → Outcome) (start : ℕ) (t : Term) → NotBefore start (ends inputs view scope start t)
    ends_from scope start (One a) = act_ends_from scope start a
    ends_from scope start (Then a t) = chain_from start (act_ends inputs view scope start a) _ (act_ends_from scope start a) (λ e v. ends_from (bind scope (site a) (Done e v)) e t)
    ends_from scope start (Both a t) = later_from start (act_ends inputs view scope start a) _ (act_ends_from scope start a)

    pub act_ends_from : (scope : ℕ → Outcome) (start : ℕ) (a : Act) → NotBefore start (act_ends inputs view scope start a)
    act_ends_from scope start (Cycle p n) = omega arith
    act_ends_from scope start (Set p r e) = omega arith
    act_ends_from scope start (Send p m e) = found_from (inputs.ack m) start (inputs.count - start) _
    act_ends_from scope start (Recv p m) = found_from (inputs.valid m) start (inputs.count - start) _
    act_ends_from scope start (If p e t u w) =
        decided_from w p start _ (pick (NotBefore start) (view.decide p start scope e) _ _ (ends_from scope start t) (ends_from scope start u))
    act_ends_from scope start (When p e t) =
        decided_from false p start _ (pick (NotBefore start) (view.decide p start scope e) _ (Done start nothing) (ends_from scope start t) (omega arith))
    act_ends_from scope start (Block p t) = ends_from scope start t
    act_ends_from scope start (Wait p y) = waited_from start (scope y)
    act_ends_from scope start (Pure p e) = omega arith
    act_ends_from scope start (Nothing p) = omega arith

  once_from : (start : ℕ) (o : Outcome) (go_on : ℕ → Value → Fate) → NotBefore start o → ((e : ℕ) (v : Value) → BeginsFrom e (go_on e v)) → BeginsFrom start (once inputs o go_on)
  once_from start Open go_on k f = tt
  once_from start (Done e v) go_on k f = pick (BeginsFrom start) (nat_lt e inputs.count) (go_on e v) Waits (earlier_fate start e (go_on e v) k (f e v)) tt

  mutual
    pub fate_from : (scope : ℕ → Outcome) (start : ℕ) (t : Term) (q : ℕ) → BeginsFrom start (fate inputs view scope start t q)
    fate_from scope start (One a) q = pick (BeginsFrom start) (q == site a) _ _ (omega arith) (inside_from scope start a q)
    fate_from scope start (Then a t) q =
        pick (BeginsFrom start) (nat_lt q (site (head t))) _ _ (pick (BeginsFrom start) (q == site a) _ _ (omega arith) (inside_from scope start a q))
        (once_from start (act_ends inputs view scope start a) _ (act_ends_from scope start a) (λ e v. fate_from (bind scope (site a) (Done e v)) e t q))
    fate_from scope start (Both a t) q =
        pick (BeginsFrom start) (nat_lt q (site (head t))) _ _ (pick (BeginsFrom start) (q == site a) _ _ (omega arith) (inside_from scope start a q))
        (fate_from (bind scope (site a) (act_ends inputs view scope start a)) start t q)

    pub inside_from : (scope : ℕ → Outcome) (start : ℕ) (a : Act) (q : ℕ) → BeginsFrom start (inside inputs view scope start a q)
    inside_from scope start (If p e t u w) q =
        pick (BeginsFrom start) (nat_lt q (site (head u))) _ _ (pick (BeginsFrom start) (view.decide p start scope e) _ Lost (fate_from scope start t q) tt)
        (pick (BeginsFrom start) (view.decide p start scope e) Lost _ tt (fate_from scope start u q))
    inside_from scope start (When p e t) q = pick (BeginsFrom start) (view.decide p start scope e) _ Lost (fate_from scope start t q) tt
    inside_from scope start (Block p t) q = fate_from scope start t q
    inside_from scope start (Cycle p n) q = tt
    inside_from scope start (Set p r e) q = tt
    inside_from scope start (Send p m e) q = tt
    inside_from scope start (Recv p m) q = tt
    inside_from scope start (Wait p y) q = tt
    inside_from scope start (Pure p e) q = tt
    inside_from scope start (Nothing p) q = tt
