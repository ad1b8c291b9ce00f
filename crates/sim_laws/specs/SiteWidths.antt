-- The widths of the acts of a term, by their sites.
use Rattle.std.specs.Prelude.{ℕ, List, [], ◌∷◌, ◌++◌}
use Rattle.core_term.specs.Term.{Term, One, Then, Both, Act, If, When, Block}
use Rattle.core_term.specs.Widths.{Widths, act_width}
use Rattle.core_term.specs.View.{after_act}

-- each act before the acts inside it, so the width of the site i is at i
abbrev mutual
  pub site_widths : Widths → Term → List ℕ
  site_widths widths (One a) = act_width widths a ∷ inner_widths widths a
  site_widths widths (Then a t) = act_width widths a ∷ (inner_widths widths a ++ site_widths (after_act widths a) t)
  site_widths widths (Both a t) = act_width widths a ∷ (inner_widths widths a ++ site_widths (after_act widths a) t)

  pub inner_widths : Widths → Act → List ℕ
  inner_widths widths (If p e t u w) = site_widths widths t ++ site_widths widths u
  inner_widths widths (When p e t) = site_widths widths t
  inner_widths widths (Block p t) = site_widths widths t
  inner_widths widths a = []
