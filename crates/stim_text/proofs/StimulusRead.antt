-- The rows of a stimulus, read line by line: what stands of the text when so many lines were read.
use Rattle.std.proofs.Common.{◌≡◌, ℕ, ◌+◌, ◌-◌, ◌<◌, ◌≤◌, Bool, true, false, List, [], ◌∷◌, ◌++◌, length, map, zero, suc, refl, ap, sym, subst, ◌∙◌, arith, append_assoc, append-nil, nat_lt, Option, Some, None}
use Rattle.std.proofs.lemmas.Bool.Decides.{nat_tests}
use Rattle.std.specs.Prelude.{codes}
use Rattle.core_term.specs.declared.rows.InCell.{InCell}
use Rattle.core_term.specs.declared.rows.Row.{Row}
use Rattle.core_term.specs.Process.{Port}
use Rattle.core_term.specs.StimulusText.{IsRowText, IsStimulus, no_more, last_piece, by_feed, by_return_and_feed}
use Rattle.stim_text.specs.Lines.{lines_of, nth_line}
use Rattle.stim_text.specs.Answers.{IsRow, cells_of, AreRowsOf, IsFirstBadLine, HasTooManyRows}
use Rattle.stim_text.specs.Cut as cut
use Rattle.stim_text.specs.Cut.{IsCut, CutsLine}

-- Lists of lines.

nth_left : (xs ys : List (List ℕ)) (k : ℕ) → k < length xs → nth_line (xs ++ ys) k ≡ nth_line xs k
nth_left [] ys k less = absurd (omega arith)
nth_left (x ∷ xs) ys zero less = refl
nth_left (x ∷ xs) ys (suc k) less = nth_left xs ys k (omega arith)

nth_here : (xs ys : List (List ℕ)) (line : List ℕ) (k : ℕ) → k ≡ length xs → nth_line (xs ++ line ∷ ys) k ≡ Some line
nth_here [] ys line k here = rw here refl
nth_here (x ∷ xs) ys line zero here = absurd (omega arith)
nth_here (x ∷ xs) ys line (suc k) here = nth_here xs ys line k (omega arith)

nth_within : (xs : List (List ℕ)) (k : ℕ) (line : List ℕ) → nth_line xs k ≡ Some line → k < length xs
nth_within [] k line is = absurd cc
nth_within (x ∷ xs) zero line is = omega arith
nth_within (x ∷ xs) (suc k) line is = let rest = nth_within xs k line is in omega arith

length-more : {X : Type 0} (xs ys : List X) → length (xs ++ ys) ≡ length xs + length ys
length-more [] ys = omega arith
length-more (x ∷ xs) ys = let rest = length-more xs ys in omega arith

map-more : (rows : List Row) (row : Row) → map cells_of (rows ++ row ∷ []) ≡ map cells_of rows ++ cells_of row ∷ []
map-more [] row = refl
map-more (first ∷ rows) row = ap (λ rest. cells_of first ∷ rest) (map-more rows row)

-- A line ahead of a stimulus.

-- no row is of no text
none_left : (ports : List Port) (tail : List (List InCell)) (text : List ℕ) → IsStimulus ports tail text → text ≡ [] → tail ≡ []
none_left ports tail text no_more none = refl
none_left ports tail text (last_piece is some) none = absurd (some none)
none_left ports tail text (by_feed {line = []} is rest) none = absurd cc
none_left ports tail text (by_feed {line = byte ∷ line} is rest) none = absurd cc
none_left ports tail text (by_return_and_feed {line = []} is rest) none = absurd cc
none_left ports tail text (by_return_and_feed {line = byte ∷ line} is rest) none = absurd cc

ahead_of : (ports : List Port) (text line rest : List ℕ) (cells : List InCell) (tail : List (List InCell)) → IsCut text line rest → IsRowText ports cells line → IsStimulus ports tail rest → IsStimulus ports (cells ∷ tail) text
ahead_of ports text line rest cells tail (cut.last_piece some) is later =
    subst (λ rows. IsStimulus ports (cells ∷ rows) line) (sym (none_left ports tail [] later refl)) (last_piece is some)
ahead_of ports text line rest cells tail cut.by_feed is later = by_feed is later
ahead_of ports text line rest cells tail cut.by_return_and_feed is later = by_return_and_feed is later

-- What stands when these rows were read and this text is left.
pub record Reading (ports : List Port) (text : List ℕ) (rows : List Row) (rest : List ℕ) : Type 0 where
  pub done : List (List ℕ)
  pub lines : lines_of text ≡ done ++ lines_of rest
  pub count : length done ≡ length rows
  pub are_rows : (k : ℕ) (line : List ℕ) → nth_line done k ≡ Some line → IsRow ports line
  pub few : length rows ≤ 10000
  pub joins : (tail : List (List InCell)) → IsStimulus ports tail rest → IsStimulus ports (map cells_of rows ++ tail) text

pub reads_none : (ports : List Port) (text : List ℕ) → Reading ports text [] text
reads_none ports text = record { done = []; lines = refl; count = refl; are_rows = λ k line is. absurd cc; few = omega arith; joins = λ tail is. is }

module _ (ports : List Port) (text : List ℕ) (rows : List Row) (rest : List ℕ) (so_far : Reading ports text rows rest) where
  pub reads_all : rest ≡ [] → AreRowsOf ports text rows
  reads_all none = record {
    stimulus = subst (λ all. IsStimulus ports all text) (append-nil (map cells_of rows)) (so_far.joins [] (subst (IsStimulus ports []) (sym none) no_more));
    few = so_far.few;
  }

  module _ (line behind : List ℕ) (cuts : CutsLine rest line behind) where
    all_lines : lines_of text ≡ so_far.done ++ line ∷ lines_of behind
    all_lines = so_far.lines ∙ ap (λ lines. so_far.done ++ lines) cuts.lines

    row_before : (k : ℕ) (other : List ℕ) → k < length rows → nth_line (lines_of text) k ≡ Some other → IsRow ports other
    row_before k other less is =
        let count = so_far.count in
        so_far.are_rows k other (sym (nth_left so_far.done (line ∷ lines_of behind) k (omega arith)) ∙ (ap (λ lines. nth_line lines k) (sym all_lines) ∙ is))

    pub too_many : 10000 ≤ length rows → HasTooManyRows ports text
    too_many many =
        let count = so_far.count in
        let long = ap (λ lines. length lines) all_lines ∙ length-more so_far.done (line ∷ lines_of behind) in
        record { more = omega arith; rows = λ k other less is. row_before k other (omega arith) is }

    pub bad_line : length rows < 10000 → (IsRow ports line → ⊥) → IsFirstBadLine ports text (length rows)
    bad_line some none = record {
      looked_at = some;
      line = line;
      is = ap (λ lines. nth_line lines (length rows)) all_lines ∙ nth_here so_far.done (lines_of behind) line (length rows) (sym so_far.count);
      no_row = none;
      before = row_before;
    }

    pub reads_one : (row : Row) (later : List Row) → length rows < 10000 → later ≡ rows ++ row ∷ [] → IsRowText ports row.cells.items line → Reading ports text later behind
    reads_one row later some pushed is = rw pushed (record {
      done = so_far.done ++ line ∷ [];
      lines = all_lines ∙ sym (append_assoc so_far.done (line ∷ []) (lines_of behind));
      count = length-more so_far.done (line ∷ []) ∙ (let count = so_far.count in let later = length-more rows (row ∷ []) in omega arith);
      are_rows = λ k other there. each k other there (nat_lt k (length so_far.done)) refl;
      few = (let later = length-more rows (row ∷ []) in omega arith);
      joins = λ tail stimulus.
          subst (λ all. IsStimulus ports all text) (sym (ap (λ front. front ++ tail) (map-more rows row) ∙ append_assoc (map cells_of rows) (cells_of row ∷ []) tail))
          (so_far.joins (cells_of row ∷ tail) (ahead_of ports rest line behind (cells_of row) tail cuts.cut is stimulus));
    })
      where
        each : (k : ℕ) (other : List ℕ) → nth_line (so_far.done ++ line ∷ []) k ≡ Some other → (b : Bool) → nat_lt k (length so_far.done) ≡ b → IsRow ports other
        each k other there true test =
            let less : k < length so_far.done = grind (arith, nat_tests) in
            so_far.are_rows k other (sym (nth_left so_far.done (line ∷ []) k less) ∙ there)
        each k other there false test =
            let since : length so_far.done ≤ k = grind (arith, nat_tests) in
            let within = nth_within (so_far.done ++ line ∷ []) k other there in
            let count = length-more so_far.done (line ∷ []) in
            let here : k ≡ length so_far.done = omega arith in
            let same : line ≡ other = same_line (sym (nth_here so_far.done [] line k here) ∙ there) in
            (row.cells.items, subst (IsRowText ports row.cells.items) same is)
          where
            same_line : Some line ≡ Some other → line ≡ other
            same_line e = cc
