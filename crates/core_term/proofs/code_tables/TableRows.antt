-- Rows of the code against rows of the table that it stands for.
use Rattle.std.proofs.Common.{◌≡◌, ℕ, ◌<◌, ◌≤◌, refl, sym, ap, arith, List, [], ◌∷◌, length, map, get_or, slice_set, zero, suc}
use Rattle.core_term.specs.declared.term.SourceAtom.{SourceAtom}
use Rattle.core_term.specs.AtomTables.{row_at, put_row}

module _ {V : Type 0} (items : V → List SourceAtom) where
  pub row_inside : (rows : List V) (site : ℕ) (row : V) → site < length rows → row ≡ get_or rows site row → row_at (map items rows) site ≡ items row
  row_inside [] site row short is = absurd (omega arith)
  row_inside (first ∷ rest) zero row short is = ap items (sym is)
  row_inside (first ∷ rest) (suc site) row short is = row_inside rest site row (omega arith) is

  pub row_outside : (rows : List V) (site : ℕ) → length rows ≤ site → row_at (map items rows) site ≡ []
  row_outside [] site long = refl
  row_outside (first ∷ rest) zero long = absurd (omega arith)
  row_outside (first ∷ rest) (suc site) long = row_outside rest site (omega arith)

  pub put_inside : (rows : List V) (place : ℕ) (row : V) → place < length rows → map items (slice_set rows place row) ≡ put_row (map items rows) place (items row)
  put_inside [] place row short = absurd (omega arith)
  put_inside (first ∷ rest) zero row short = refl
  put_inside (first ∷ rest) (suc place) row short = ap (λ z. items first ∷ z) (put_inside rest place row (omega arith))

  pub put_outside : (rows : List V) (place : ℕ) (row : List SourceAtom) → length rows ≤ place → put_row (map items rows) place row ≡ map items rows
  put_outside [] place row long = refl
  put_outside (first ∷ rest) zero row long = absurd (omega arith)
  put_outside (first ∷ rest) (suc place) row long = ap (λ z. items first ∷ z) (put_outside rest place row (omega arith))
