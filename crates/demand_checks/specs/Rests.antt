-- What the uses of a body rest on: the acts that use a value, each with an atom of it.
use Rattle.std.specs.Prelude.{ℕ, ◌≡◌, ◌<◌, List}
use Rattle.core_term.specs.Lists.{Has}
use Rattle.core_term.specs.Term.{Term, site, head}
use Rattle.core_term.specs.Sources.{Source}
use Rattle.core_term.specs.Atoms.{source_of, site_of}
use Rattle.core_term.specs.Rules.{RestsOn}
use Rattle.core_term.specs.declared.term.SourceAtom.{SourceAtom}
use Rattle.demand_checks.specs.declared.place.Pair.{Pair}
use Rattle.demand_checks.specs.declared.rests.Rest.{Rest}

-- the act of the site `user` uses a value that rests on the source
abbrev pub IsUse : Term → ℕ → Source → Type 0
IsUse body user source = (u : Term) × (site (head u) ≡ user) × RestsOn body u source

abbrev pub HasUse : List Rest → ℕ → Source → Type 0
HasUse rests user source = (rest : Rest) × Has rests rest × (rest.user ≡ user) × (source_of rest.atom ≡ source)

-- these are all uses of a body of the sites below one
pub record AreRestsTo (high : ℕ) (body : Term) (rests : List Rest) : Type 0 where
  pub sound : (rest : Rest) → Has rests rest → IsUse body rest.user (source_of rest.atom)
  pub whole : (user : ℕ) (source : Source) → user < high → IsUse body user source → HasUse rests user source

-- these are all uses of a body
pub record AreRests (body : Term) (rests : List Rest) : Type 0 where
  pub sound : (rest : Rest) → Has rests rest → IsUse body rest.user (source_of rest.atom)
  pub whole : (user : ℕ) (source : Source) → IsUse body user source → HasUse rests user source

abbrev pub rest : ℕ → SourceAtom → Rest
rest user atom = record { user = user; atom = atom }

-- the record of a use and an atom
abbrev pub pair_of : Rest → Pair
pair_of one = record { first = one.user; second = site_of one.atom }
