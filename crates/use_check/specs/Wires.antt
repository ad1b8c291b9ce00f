-- The claims of rule V6 for a use and an atom: of received data, that it is used within each end of the life of the
-- exchange.
use Rattle.std.specs.Prelude.{ℕ, ◌≡◌, pos, ◌-ℤ◌, List, [], ◌∷◌, ◌++◌, map}
use Rattle.core_term.specs.declared.term.SourceAtom.{SourceAtom}
use Rattle.core_term.specs.declared.term.SourceAtom.TheVariants.{Wire, Reg, Choice}
use Rattle.core_term.specs.Process.{LifeEnd, Cycles, Until, Process, life_of}
use Rattle.core_term.specs.Rules.{Claim, Order, Either, Both, end_of, next_end_of}
use Rattle.act_deeds.specs.declared.deed.Deed.{Deed}
use Rattle.act_deeds.specs.declared.deed.Deed.TheVariants.{Sets, Sends, Receives, Decides, Other}
use Rattle.demand_checks.specs.declared.judge.Judge.{Judge}
use Rattle.demand_checks.specs.declared.place.Pair.{Pair}
use Rattle.demand_checks.specs.declared.rests.Rest.{Rest}
use Rattle.demand_checks.specs.Deeds.{deed_at, used}
use Rattle.demand_checks.specs.Judge.{AreUnshown, process_at}
use Rattle.demand_checks.specs.Rests.{pair_of}
use Rattle.demand_checks.specs.Sites.{sites_on, row_of}

-- of a use of what the act of a site received, and an act on a port that ends the life
abbrev pub until_claim : List Deed → (user site act : ℕ) → Claim
until_claim deeds user site act =
    Either (used deeds user (pos 0) (end_of site))
    (Both (Either (Order (end_of act) (pos 1) (end_of site)) (used deeds user (pos 0) (end_of act)))
    (used deeds user (pos 0) (next_end_of act)))

-- of one end of the life
abbrev pub end_claims : List Deed → (user site : ℕ) → LifeEnd → List Claim
end_claims deeds user site (Cycles k) = used deeds user (pos 1 -ℤ pos k) (end_of site) ∷ []
end_claims deeds user site (Until n) = map (until_claim deeds user site) (sites_on deeds n)

abbrev pub ends_claims : List Deed → (user site : ℕ) → List LifeEnd → List Claim
ends_claims deeds user site [] = []
ends_claims deeds user site (end ∷ life) = end_claims deeds user site end ++ ends_claims deeds user site life

-- of what the act of the site does: a receive from a port
abbrev pub received_claims : Process → List Deed → (user site : ℕ) → Deed → List Claim
received_claims p deeds user site (Receives m) = ends_claims deeds user site (life_of p m)
received_claims p deeds user site (Sends m) = []
received_claims p deeds user site (Sets r) = []
received_claims p deeds user site Decides = []
received_claims p deeds user site Other = []

abbrev pub wire_claims_of : Process → List Deed → ℕ → SourceAtom → List Claim
wire_claims_of p deeds user (Wire site) = received_claims p deeds user site (deed_at deeds site)
wire_claims_of p deeds user (Reg site register) = []
wire_claims_of p deeds user (Choice site) = []

abbrev pub wire_claims : Process → List Deed → Rest → List Claim
wire_claims p deeds rest = wire_claims_of p deeds rest.user rest.atom

-- the rows are those of the sites on each port
abbrev pub AreOnPorts : List Deed → List (List ℕ) → Type 0
AreOnPorts deeds rows = (port : ℕ) → row_of rows port ≡ sites_on deeds port

-- the pairs are the records of the uses of received data that are not shown to be over in time
abbrev pub AreUnshownWires : Judge → List Rest → List Pair → Type 0
AreUnshownWires judge rests pairs =
    AreUnshown judge pair_of (wire_claims (process_at judge) judge.deeds.items) rests pairs

-- of the life of a port of the process
abbrev pub port_claims : Judge → (port user site : ℕ) → List Claim
port_claims judge port user site = ends_claims judge.deeds.items user site (life_of (process_at judge) port)
