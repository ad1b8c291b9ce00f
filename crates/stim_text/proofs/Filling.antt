-- Loops that write the items of a list one after the other, and the lists of a watch at an index.
--
-- A loop has made so much of a target list, and the items that it has not reached are as they were.
use Rattle.std.proofs.Common.{◌≡◌, ℕ, ◌+◌, ◌<◌, ◌≤◌, arith, refl, sym, ◌∙◌, ap, List, [], ◌∷◌, ◌++◌, length, take, drop, get_or, Bool, false, zero, suc, Option, Some, None}
use Rattle.std.specs.Prelude.{slice_set, slice_index_or}
use Rattle.std.specs.List.{slice_get}
use Rattle.std.proofs.Math.Seq.{drop-cons}
use Rattle.std.proofs.lemmas.List.{take_all}
use Rattle.core_term.specs.declared.rows.InCell.{InCell}
use Rattle.core_term.specs.declared.rows.OutCell.{OutCell}
use Rattle.core_term.specs.Process.{LifeEnd}
use Rattle.exchanges.specs.declared.latest.Latest.{Latest}
use Rattle.exchanges.specs.Broken.{no_latest}
use Rattle.exchanges.specs.Next.{next}
use Rattle.stim_text.specs.LogLine.{wires_at}
use Rattle.stim_text.specs.Passing.{AreNone, meets, all_meet, shows, all_show, all_next}

module _ {X : Type 0} where
  first_of : X → List X → X
  first_of d [] = d
  first_of d (x ∷ rest) = x

  rest_of : List X → List X
  rest_of [] = []
  rest_of (x ∷ rest) = rest

  filled : (out target : List X) (i : ℕ) (v : X) → i < length out → i < length target → take i out ≡ take i target → get_or target i v ≡ v → take (suc i) (slice_set out i v) ≡ take (suc i) target
  unfolding first_of rest_of
  filled [] target i v l m k e = absurd (omega arith)
  filled (x ∷ out) [] i v l m k e = absurd (omega arith)
  filled (x ∷ out) (y ∷ target) zero v l m k e = ap (λ z. z ∷ []) (sym e)
  filled (x ∷ out) (y ∷ target) (suc i) v l m k e =
      let head : x ≡ y = ap (first_of x) k in
      let tail : take i out ≡ take i target = ap rest_of k in
      ap (λ z. z ∷ take (suc i) (slice_set out i v)) head ∙ ap (λ rest. y ∷ rest) (filled out target i v (omega arith) (omega arith) tail e)

  pub fill_step : (out target : List X) (i later : ℕ) (v : X) → later ≡ suc i → i < length out → length out ≡ length target → take i out ≡ take i target → get_or target i v ≡ v → take later (slice_set out i v) ≡ take later target
  fill_step out target i later v e l same k here = rw e (filled out target i v l (omega arith) k here)

  pub fill_done : (out target : List X) (i : ℕ) → length out ≤ i → length out ≡ length target → take i out ≡ take i target → out ≡ target
  fill_done out target i l same k = sym (take_all i out l) ∙ (k ∙ take_all i target (omega arith))

-- an item that is still as it was
pub still_at : {X : Type 0} (xs initial : List X) (i : ℕ) (x : X) → i < length xs → length xs ≡ length initial → drop i xs ≡ drop i initial → x ≡ get_or xs i x → x ≡ get_or initial i x
still_at xs initial i x l same k e =
    let a : get_or (drop i xs) 0 x ≡ get_or xs i x = ap (λ ys. get_or ys 0 x) (drop-cons xs i x l) in
    let b : get_or (drop i initial) 0 x ≡ get_or initial i x = ap (λ ys. get_or ys 0 x) (drop-cons initial i x (omega arith)) in
    e ∙ (sym a ∙ (ap (λ ys. get_or ys 0 x) k ∙ b))

drop_set : {X : Type 0} (xs : List X) (i : ℕ) (v : X) → drop (suc i) (slice_set xs i v) ≡ drop (suc i) xs
drop_set [] i v = refl
drop_set (x ∷ xs) zero v = refl
drop_set (x ∷ xs) (suc i) v = drop_set xs i v

drop_rest : {X : Type 0} (xs ys : List X) (i : ℕ) (d : X) → i < length xs → i < length ys → drop i xs ≡ drop i ys → drop (suc i) xs ≡ drop (suc i) ys
drop_rest xs ys i d l m k = ap (λ zs. drop 1 zs) (sym (drop-cons xs i d l) ∙ (k ∙ drop-cons ys i d m))

pub rest_step : {X : Type 0} (xs initial : List X) (i later : ℕ) (v : X) → later ≡ suc i → i < length xs → length xs ≡ length initial → drop i xs ≡ drop i initial → drop later (slice_set xs i v) ≡ drop later initial
rest_step xs initial i later v e l same k = rw e (drop_set xs i v ∙ drop_rest xs initial i v l (omega arith) k)

-- what is found in a list
pub get_within : {X : Type 0} (xs : List X) (i : ℕ) (x : X) → slice_get xs i ≡ Some x → i < length xs
get_within [] i x found = absurd cc
get_within (first ∷ xs) zero x found = omega arith
get_within (first ∷ xs) (suc i) x found = let rest = get_within xs i x found in omega arith

pub same_found : {X : Type 0} {one other : X} → Some one ≡ Some other → one ≡ other
same_found {one = one} e = ap (λ (found : Option _). elim found [ None ↦ one | Some x ↦ x ]) e

-- The lists that a cycle of a watch makes.

pub met_count : (cells : List InCell) (outs : List OutCell) → length outs ≡ length cells → length (all_meet cells outs) ≡ length cells
met_count [] outs e = refl
met_count (cell ∷ cells) [] e = absurd (omega arith)
met_count (cell ∷ cells) (out ∷ outs) e = ap suc (met_count cells outs (omega arith))

pub met_at : (cells : List InCell) (outs : List OutCell) (i : ℕ) (cell : InCell) (out : OutCell) (default : Bool) → length outs ≡ length cells → i < length cells → cell ≡ get_or cells i cell → out ≡ get_or outs i out → get_or (all_meet cells outs) i default ≡ meets cell out
met_at [] outs i cell out default e l c k = absurd (omega arith)
met_at (x ∷ cells) [] i cell out default e l c k = absurd (omega arith)
met_at (x ∷ cells) (y ∷ outs) zero cell out default e l c k = rw (sym c, sym k) refl
met_at (x ∷ cells) (y ∷ outs) (suc i) cell out default e l c k = met_at cells outs i cell out default (omega arith) (omega arith) c k

pub shown_count : (cells : List InCell) (outs : List OutCell) (latests : List Latest) → length outs ≡ length cells → length latests ≡ length cells → length (all_show cells outs latests) ≡ length cells
shown_count [] outs latests a b = refl
shown_count (cell ∷ cells) [] latests a b = absurd (omega arith)
shown_count (cell ∷ cells) (out ∷ outs) [] a b = absurd (omega arith)
shown_count (cell ∷ cells) (out ∷ outs) (latest ∷ latests) a b = ap suc (shown_count cells outs latests (omega arith) (omega arith))

pub shown_at : (cells : List InCell) (outs : List OutCell) (latests : List Latest) (i : ℕ) (cell : InCell) (out : OutCell) (latest : Latest) (default : Bool) → length outs ≡ length cells → length latests ≡ length cells → i < length cells
    → cell ≡ get_or cells i cell → out ≡ get_or outs i out → latest ≡ get_or latests i latest → get_or (all_show cells outs latests) i default ≡ shows cell out latest
shown_at [] outs latests i cell out latest default a b l e f g = absurd (omega arith)
shown_at (x ∷ cells) [] latests i cell out latest default a b l e f g = absurd (omega arith)
shown_at (x ∷ cells) (y ∷ outs) [] i cell out latest default a b l e f g = absurd (omega arith)
shown_at (x ∷ cells) (y ∷ outs) (z ∷ latests) zero cell out latest default a b l e f g = rw (sym e, sym f, sym g) refl
shown_at (x ∷ cells) (y ∷ outs) (z ∷ latests) (suc i) cell out latest default a b l e f g = shown_at cells outs latests i cell out latest default (omega arith) (omega arith) (omega arith) e f g

pub nexts_count : (all rest : List Bool) (lives : List (List LifeEnd)) (cells : List InCell) (outs : List OutCell) (latests : List Latest) → length rest ≡ length lives → length cells ≡ length lives → length outs ≡ length lives → length latests ≡ length lives
    → length (all_next all rest lives cells outs latests) ≡ length lives
nexts_count all [] [] cells outs latests a b c d = refl
nexts_count all [] (life ∷ lives) cells outs latests a b c d = absurd (omega arith)
nexts_count all (x ∷ rest) [] cells outs latests a b c d = absurd (omega arith)
nexts_count all (x ∷ rest) (life ∷ lives) [] outs latests a b c d = absurd (omega arith)
nexts_count all (x ∷ rest) (life ∷ lives) (cell ∷ cells) [] latests a b c d = absurd (omega arith)
nexts_count all (x ∷ rest) (life ∷ lives) (cell ∷ cells) (out ∷ outs) [] a b c d = absurd (omega arith)
nexts_count all (x ∷ rest) (life ∷ lives) (cell ∷ cells) (out ∷ outs) (z ∷ latests) a b c d = ap suc (nexts_count all rest lives cells outs latests (omega arith) (omega arith) (omega arith) (omega arith))

pub nexts_at : (all rest : List Bool) (lives : List (List LifeEnd)) (cells : List InCell) (outs : List OutCell) (latests : List Latest) (i : ℕ) (life : List LifeEnd) (cell : InCell) (out : OutCell) (latest default : Latest)
    → length rest ≡ length lives → length cells ≡ length lives → length outs ≡ length lives → length latests ≡ length lives → i < length lives → slice_get lives i ≡ Some life → cell ≡ get_or cells i cell → out ≡ get_or outs i out → latest ≡ get_or latests i latest
    → get_or (all_next all rest lives cells outs latests) i default ≡ next all life (slice_index_or rest i false) (wires_at cell out).number latest
nexts_at all [] lives cells outs latests i life cell out latest default a b c d l h e f k = absurd (omega arith)
nexts_at all (x ∷ rest) [] cells outs latests i life cell out latest default a b c d l h e f k = absurd (omega arith)
nexts_at all (x ∷ rest) (first ∷ lives) [] outs latests i life cell out latest default a b c d l h e f k = absurd (omega arith)
nexts_at all (x ∷ rest) (first ∷ lives) (y ∷ cells) [] latests i life cell out latest default a b c d l h e f k = absurd (omega arith)
nexts_at all (x ∷ rest) (first ∷ lives) (y ∷ cells) (o ∷ outs) [] i life cell out latest default a b c d l h e f k = absurd (omega arith)
nexts_at all (x ∷ rest) (first ∷ lives) (y ∷ cells) (o ∷ outs) (z ∷ latests) zero life cell out latest default a b c d l h e f k = let same : first ≡ life = cc in rw (sym e, sym f, sym k, same) refl
nexts_at all (x ∷ rest) (first ∷ lives) (y ∷ cells) (o ∷ outs) (z ∷ latests) (suc i) life cell out latest default a b c d l h e f k =
    nexts_at all rest lives cells outs latests i life cell out latest default (omega arith) (omega arith) (omega arith) (omega arith) (omega arith) h e f k

pub none_more : (latests later : List Latest) → later ≡ latests ++ no_latest ∷ [] → AreNone latests → AreNone later
none_more latests later is none m = ap (λ all. (slice_index_or all m no_latest).lives) is ∙ each latests m none
  where
    each : (latests : List Latest) (m : ℕ) → AreNone latests → (slice_index_or (latests ++ no_latest ∷ []) m no_latest).lives ≡ false
    each [] zero none = refl
    each [] (suc m) none = refl
    each (latest ∷ latests) zero none = none 0
    each (latest ∷ latests) (suc m) none = each latests m (λ n. none (suc n))
