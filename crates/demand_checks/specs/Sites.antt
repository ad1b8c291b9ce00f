-- The sites of a list that have a number: of the deeds of a body, those that set a register or are on a port.
use Rattle.std.specs.Prelude.{ℕ, suc, ◌==◌, if◌then◌else◌, Bool, false, List, [], ◌∷◌, Option, Some, None, map, slice_get}
use Rattle.act_deeds.specs.declared.deed.Deed.{Deed}
use Rattle.act_deeds.specs.declared.deed.Deed.TheVariants.{Sets, Sends, Receives, Decides, Other}
use Rattle.demand_checks.specs.declared.sites.Sites.{Sites}

-- the register that is set, and the port that is sent on or received from
abbrev pub register_of : Deed → Option ℕ
register_of (Sets r) = Some r
register_of (Sends m) = None
register_of (Receives m) = None
register_of Decides = None
register_of Other = None

abbrev pub port_of : Deed → Option ℕ
port_of (Sets r) = None
port_of (Sends m) = Some m
port_of (Receives m) = Some m
port_of Decides = None
port_of Other = None

abbrev pub is_number : ℕ → Option ℕ → Bool
is_number number None = false
is_number number (Some other) = other == number

-- the places of a number in a list, from a first place on
abbrev pub places_from : ℕ → ℕ → List (Option ℕ) → List ℕ
places_from number place [] = []
places_from number place (one ∷ rest) =
    if is_number number one then place ∷ places_from number (suc place) rest else places_from number (suc place) rest

-- the sites that set a register, and that are on a port
abbrev pub sites_setting : List Deed → ℕ → List ℕ
sites_setting deeds r = places_from r 0 (map register_of deeds)

abbrev pub sites_on : List Deed → ℕ → List ℕ
sites_on deeds m = places_from m 0 (map port_of deeds)

abbrev pub row_or : Option (List ℕ) → List ℕ
row_or None = []
row_or (Some row) = row

-- what is kept for a number
abbrev pub row_of : Sites → ℕ → List ℕ
row_of sites number = row_or (slice_get sites number)
