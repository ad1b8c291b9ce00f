-- The sites of a numbered body are below the count of its acts.
use Rattle.std.proofs.Common.{ℕ, ◌+◌, ◌<◌, arith, List, []}
use Rattle.core_term.specs.Term.{Term, Act, site, head}
use Rattle.core_term.specs.Numbering.{size, act_size, Numbered, NumberedAct}
use Rattle.core_term.specs.Stands.{Stands, StandsIn, here, in_one, in_then, after_then, in_both, after_both, in_yes, in_no, in_when, in_block}
use Rattle.core_term.proofs.code_tables.FirstSites.{head_site, size_positive}

mutual
  below : {vs ws : List Act} {t u : Term} (low : ℕ) → Numbered vs low t → Stands vs t ws u → site (head u) < low + size t
  below {vs = vs} {t = t} low numbered here = let site_is = head_site vs low t numbered in let known = size_positive t in omega (arith, site_is, known)
  below low numbered (in_one {a = a} site_is) = below_in low numbered site_is
  below low numbered (in_then {a = a} site_is) = let known = below_in low numbered.0 site_is in omega (arith, known)
  below low numbered (in_both {a = a} site_is) = let known = below_in low numbered.0 site_is in omega (arith, known)
  below low numbered (after_then {a = a} site_is) = let known = below (low + act_size a) numbered.1 site_is in omega (arith, known)
  below low numbered (after_both {a = a} site_is) = let known = below (low + act_size a) numbered.1 site_is in omega (arith, known)

  below_in : {vs ws : List Act} {a : Act} {u : Term} (low : ℕ) → NumberedAct vs low a → StandsIn vs a ws u → site (head u) < low + act_size a
  below_in low numbered (in_yes s) = let known = below (low + 1) numbered.1 s in omega (arith, known)
  below_in low numbered (in_no {t = t} s) = let known = below (low + (1 + size t)) numbered.2 s in omega (arith, known)
  below_in low numbered (in_when s) = let known = below (low + 1) numbered.1 s in omega (arith, known)
  below_in low numbered (in_block s) = let known = below (low + 1) numbered.1 s in omega (arith, known)

pub site_below : (body u : Term) (scope : List Act) → Numbered [] 0 body → Stands [] body scope u → site (head u) < size body
site_below body u scope numbered stands = let known = below 0 numbered stands in omega (arith, known)
