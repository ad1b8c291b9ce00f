-- The claims of rule V7 for a use and an atom: of a register that an act reads, that the use is over before the
-- register is set.
use Rattle.std.specs.Prelude.{ℕ, ◌≡◌, pos, Bool, true, false, List, [], ◌∷◌, ◌++◌, map}
use Rattle.core_term.specs.declared.term.SourceAtom.{SourceAtom}
use Rattle.core_term.specs.declared.term.SourceAtom.TheVariants.{Wire, Reg, Choice}
use Rattle.core_term.specs.Rules.{Claim, Order, Either, Both, begin_of, end_of, next_begin_of}
use Rattle.act_deeds.specs.declared.deed.Deed.{Deed}
use Rattle.demand_checks.specs.declared.judge.Judge.{Judge}
use Rattle.demand_checks.specs.declared.place.Pair.{Pair}
use Rattle.demand_checks.specs.declared.rests.Rest.{Rest}
use Rattle.demand_checks.specs.Deeds.{used}
use Rattle.demand_checks.specs.Judge.{AreUnshown}
use Rattle.demand_checks.specs.Rests.{pair_of}
use Rattle.demand_checks.specs.Sites.{sites_setting, row_of}
use Rattle.loan_check.specs.Elsewhere.{is_among}

-- of a use of what the act of a site read, and a set of the register
abbrev pub here_claim : List Deed → (user site set : ℕ) → Claim
here_claim deeds user site set =
    Either (used deeds user (pos 0) (begin_of site))
    (Both (Either (Order (end_of set) (pos 0) (begin_of site)) (used deeds user (pos 0) (begin_of set)))
    (used deeds user (pos 0) (next_begin_of set)))

-- of a register that is set elsewhere: that it is used as it is read
abbrev pub elsewhere_claims : Bool → List Deed → (user site : ℕ) → List Claim
elsewhere_claims true deeds user site = used deeds user (pos 0) (begin_of site) ∷ []
elsewhere_claims false deeds user site = []

-- of a register that is set at these sites, and elsewhere or not
abbrev pub read_claims : Bool → List Deed → (user site : ℕ) → List ℕ → List Claim
read_claims elsewhere deeds user site sets =
    elsewhere_claims elsewhere deeds user site ++ map (here_claim deeds user site) sets

abbrev pub register_claims_of : List ℕ → List Deed → ℕ → SourceAtom → List Claim
register_claims_of others deeds user (Wire site) = []
register_claims_of others deeds user (Reg site register) =
    read_claims (is_among register others) deeds user site (sites_setting deeds register)
register_claims_of others deeds user (Choice site) = []

-- where other threads set these registers
abbrev pub register_claims : List ℕ → List Deed → Rest → List Claim
register_claims others deeds rest = register_claims_of others deeds rest.user rest.atom

-- the rows are those of the sites that set each register
abbrev pub AreSets : List Deed → List (List ℕ) → Type 0
AreSets deeds sets = (register : ℕ) → row_of sets register ≡ sites_setting deeds register

-- the pairs are the records of the uses of registers that are not shown to be over in time
abbrev pub AreUnshownReads : Judge → List ℕ → List Rest → List Pair → Type 0
AreUnshownReads judge others rests pairs =
    AreUnshown judge pair_of (register_claims others judge.deeds.items) rests pairs
