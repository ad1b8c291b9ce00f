-- An elaboration tells the points of each site, for all widths alike.
use Rattle.std.proofs.Common.{ℕ, ◌<◌, refl}
use Rattle.std.specs.Prelude.{IsSome}
use Rattle.core_term.specs.Term.{Term}
use Rattle.core_term.specs.Numbering.{size}
use Rattle.core_term.specs.Widths.{Widths}
use Rattle.elaborator.specs.declared.elab.Elab.{Elab}
use Rattle.elaborator.specs.Turns.{IsOnce}
use Rattle.elaborator.specs.Seen.{points_in}

-- no widths at all
pub no_widths : Widths
no_widths = record { registers = λ r. 0; ports = λ m. 0; variables = λ y. 0 }

pub site_there : (body : Term) (elab : Elab) (site : ℕ) → IsOnce body elab → site < size body → IsSome (points_in elab 1 site)
site_there body elab site is inside = let there = is.acts site inside in rw there refl
