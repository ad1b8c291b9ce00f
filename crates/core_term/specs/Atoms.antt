-- The atoms that a thread keeps of its values and uses: exactly the sources told from the text, in order and each once.
--
-- A source is told of the text; an atom is the code's record of it. Both speak of sites.
use Rattle.std.specs.Prelude.{ℕ, ◌≡◌, ◌<◌, ◌⊎◌, List, [], ◌∷◌, ◌++◌}
use Rattle.core_term.specs.declared.term.SourceAtom.{SourceAtom}
use Rattle.core_term.specs.declared.term.SourceAtom.TheVariants.{Wire, Reg, Choice}
use Rattle.core_term.specs.Lists.{Has}
use Rattle.core_term.specs.Term.{Term, One, Then, Both, Act, Set, Send, If, When, Block, site, head}
use Rattle.core_term.specs.Stands.{Stands}
use Rattle.core_term.specs.Sources.{Source, WireOf, RegOf, ChoiceOf, bind_sources, expr_sources, act_sources}
use Rattle.core_term.specs.Sources.{sources_in}

abbrev pub source_of : SourceAtom → Source
source_of (Wire site) = WireOf site
source_of (Reg site register) = RegOf site register
source_of (Choice site) = ChoiceOf site

-- received data first, then registers, then sides
abbrev pub kind_number : SourceAtom → ℕ
kind_number (Wire site) = 0
kind_number (Reg site register) = 1
kind_number (Choice site) = 2

abbrev pub site_of : SourceAtom → ℕ
site_of (Wire site) = site
site_of (Reg site register) = site
site_of (Choice site) = site

abbrev pub register_read : SourceAtom → ℕ
register_read (Wire site) = 0
register_read (Reg site register) = register
register_read (Choice site) = 0

-- by kind, then by site, then by register
abbrev pub ComesFirst : SourceAtom → SourceAtom → Type 0
ComesFirst one other =
    (kind_number one < kind_number other)
    ⊎ ((kind_number one ≡ kind_number other)
    × ((site_of one < site_of other) ⊎ ((site_of one ≡ site_of other) × (register_read one < register_read other))))

-- in order, so none twice
abbrev pub IsAscending : List SourceAtom → Type 0
IsAscending [] = Unit {0}
IsAscending (atom ∷ atoms) = ((other : SourceAtom) → Has atoms other → ComesFirst atom other) × IsAscending atoms

-- the atoms are exactly these sources, in order and each once
pub record AreAtoms (atoms : List SourceAtom) (sources : List Source) : Type 0 where
  pub ascending : IsAscending atoms
  pub sound : (atom : SourceAtom) → Has atoms atom → Has sources (source_of atom)
  pub whole : (source : Source) → Has sources source → (atom : SourceAtom) × Has atoms atom × (source_of atom ≡ source)

-- the sources of the expression that an act uses: a `set`, a `send` or an `if`
abbrev pub use_sources : (ℕ → List Source) → Act → List Source
use_sources scope (Set p r e) = expr_sources p scope e
use_sources scope (Send p m e) = expr_sources p scope e
use_sources scope (If p e t u w) = expr_sources p scope e
use_sources scope (When p e t) = expr_sources p scope e
use_sources scope a = []

-- what `pick` says of each act of a term, with the sources of the variables in scope, in tree order: so of a numbered
-- body the item at i is that of the site i
abbrev mutual
  pub each_act : ((ℕ → List Source) → Act → List Source) → (ℕ → List Source) → Term → List (List Source)
  each_act pick scope (One a) = each_act_in pick scope a
  each_act pick scope (Then a t) =
      each_act_in pick scope a ++ each_act pick (bind_sources scope (site a) (act_sources scope a)) t
  each_act pick scope (Both a t) =
      each_act_in pick scope a ++ each_act pick (bind_sources scope (site a) (act_sources scope a)) t

  pub each_act_in : ((ℕ → List Source) → Act → List Source) → (ℕ → List Source) → Act → List (List Source)
  each_act_in pick scope (If p e t u w) = pick scope (If p e t u w) ∷ (each_act pick scope t ++ each_act pick scope u)
  each_act_in pick scope (When p e t) = pick scope (When p e t) ∷ each_act pick scope t
  each_act_in pick scope (Block p t) = pick scope (Block p t) ∷ each_act pick scope t
  each_act_in pick scope a = pick scope a ∷ []

-- The atoms that are kept for the act of a site in a body are exactly what `pick` says of it, wherever it stands.
-- `act_sources` as `pick` gives its value, `use_sources` what it uses; where the act has no value or no use, the list
-- is empty.
abbrev pub AreAtomsAt : ((ℕ → List Source) → Act → List Source) → Term → ℕ → List SourceAtom → Type 0
AreAtomsAt pick body s atoms =
    (scope : List Act) (u : Term) → Stands [] body scope u → site (head u) ≡ s
    → AreAtoms atoms (pick (sources_in scope) (head u))

-- row by row
abbrev pub AreAll : List (List SourceAtom) → List (List Source) → Type 0
AreAll [] [] = Unit {0}
AreAll [] (sources ∷ rest) = ⊥
AreAll (atoms ∷ rows) [] = ⊥
AreAll (atoms ∷ rows) (sources ∷ rest) = AreAtoms atoms sources × AreAll rows rest
