-- The claims of rule V8 for a use and an atom: of the side of an `if`, that it is used before the `if` decides again.
use Rattle.std.specs.Prelude.{ℕ, pos, List, [], ◌∷◌}
use Rattle.core_term.specs.declared.term.SourceAtom.{SourceAtom}
use Rattle.core_term.specs.declared.term.SourceAtom.TheVariants.{Wire, Reg, Choice}
use Rattle.core_term.specs.Rules.{Claim, next_begin_of}
use Rattle.act_deeds.specs.declared.deed.Deed.{Deed}
use Rattle.demand_checks.specs.declared.judge.Judge.{Judge}
use Rattle.demand_checks.specs.declared.place.Pair.{Pair}
use Rattle.demand_checks.specs.declared.rests.Rest.{Rest}
use Rattle.demand_checks.specs.Deeds.{used}
use Rattle.demand_checks.specs.Judge.{AreUnshown}
use Rattle.demand_checks.specs.Rests.{pair_of}

abbrev pub choice_claims_of : List Deed → ℕ → SourceAtom → List Claim
choice_claims_of deeds user (Wire site) = []
choice_claims_of deeds user (Reg site register) = []
choice_claims_of deeds user (Choice site) = used deeds user (pos 1) (next_begin_of site) ∷ []

abbrev pub choice_claims : List Deed → Rest → List Claim
choice_claims deeds rest = choice_claims_of deeds rest.user rest.atom

-- the pairs are the records of the uses of sides that are not shown to be over in time
abbrev pub AreUnshownChoices : Judge → List Rest → List Pair → Type 0
AreUnshownChoices judge rests pairs = AreUnshown judge pair_of (choice_claims judge.deeds.items) rests pairs
