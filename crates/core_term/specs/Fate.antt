-- What becomes of each act of a turn. An act is named by its site, and so is the term that it heads.
use Rattle.std.specs.Prelude.{ℕ, ◌==◌, if◌then◌else◌, nat_lt}
use Rattle.core_term.specs.Inputs.{Inputs}
use Rattle.core_term.specs.Term.{Term, One, Then, Both, Act, If, When, Block, site, head}
use Rattle.core_term.specs.Value.{Value, Outcome, Open, Done}
use Rattle.core_term.specs.Ends.{Sees, bind, act_ends}

-- Waits: it has not begun in the list. Lost: an `if` around it has decided for the other side. Runs: it has begun, with
-- the variables in scope and the rest of its term
pub data Fate : Type 0 where
  Waits : Fate
  Lost : Fate
  Runs : (scope : ℕ → Outcome) → (begin : ℕ) → Term → Fate

-- in the rest of a chain, which begins where its act has ended within the list
abbrev pub once : Inputs → Outcome → (ℕ → Value → Fate) → Fate
once inputs Open go_on = Waits
once inputs (Done e v) go_on = if nat_lt e inputs.count then go_on e v else Waits

-- of the act of the site q in a term that begins in the cycle start
abbrev mutual
  pub fate : Inputs → Sees → (ℕ → Outcome) → ℕ → Term → ℕ → Fate
  fate inputs view scope start (One a) q =
      if q == site a then Runs scope start (One a) else inside inputs view scope start a q
  fate inputs view scope start (Then a t) q =
      if nat_lt q (site (head t))
      then (if q == site a then Runs scope start (Then a t) else inside inputs view scope start a q)
      else once inputs (act_ends inputs view scope start a)
      (λ e v. fate inputs view (bind scope (site a) (Done e v)) e t q)
  fate inputs view scope start (Both a t) q =
      if nat_lt q (site (head t))
      then (if q == site a then Runs scope start (Both a t) else inside inputs view scope start a q)
      else fate inputs view (bind scope (site a) (act_ends inputs view scope start a)) start t q

  pub inside : Inputs → Sees → (ℕ → Outcome) → ℕ → Act → ℕ → Fate
  inside inputs view scope start (If p e t u w) q =
      if nat_lt q (site (head u))
      then (if view.decide p start scope e then fate inputs view scope start t q else Lost)
      else (if view.decide p start scope e then Lost else fate inputs view scope start u q)
  inside inputs view scope start (When p e t) q =
      if view.decide p start scope e then fate inputs view scope start t q else Lost
  inside inputs view scope start (Block p t) q = fate inputs view scope start t q
  inside inputs view scope start a q = Waits
