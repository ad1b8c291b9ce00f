-- The places of a body are as many as its acts, whatever the widths.
use Rattle.std.proofs.Common.{◌≡◌, ℕ, ◌+◌, [], ◌∷◌, ◌++◌, refl, arith, suc, length, Some, None}
use Rattle.std.proofs.lemmas.List.{length-append}
use Rattle.core_term.specs.declared.term.CoreTerm.{CoreTerm, One', Then', Both'}
use Rattle.core_term.specs.declared.term.CoreKind.{CoreKind, Cycle, Set, Send, Recv, If', Block', Wait, Pure, Unit, None', Some'}
use Rattle.core_term.specs.Widths.{Widths}
use Rattle.core_term.specs.Numbering.{size, act_size}
use Rattle.core_term.specs.View.{term_of, act_of, after_act, places_of, places_in}

mutual
  pub counted : (widths : Widths) (t : CoreTerm) → length (places_of t) ≡ size (term_of widths t)
  counted widths (One' site place kind) = counted_in widths site kind
  counted widths (Then' site place kind q rest) =
      let whole : length ((place ∷ places_in kind) ++ places_of rest) ≡ length (place ∷ places_in kind) + length (places_of rest) = length-append (place ∷ places_in kind) (places_of rest) in
      let first = counted_in widths site kind in
      let later = counted (after_act widths (act_of widths site kind)) rest in
      omega (arith, whole, first, later)
  counted widths (Both' site place kind q rest) =
      let whole : length ((place ∷ places_in kind) ++ places_of rest) ≡ length (place ∷ places_in kind) + length (places_of rest) = length-append (place ∷ places_in kind) (places_of rest) in
      let first = counted_in widths site kind in
      let later = counted (after_act widths (act_of widths site kind)) rest in
      omega (arith, whole, first, later)

  -- an act has its own place before those inside it
  pub counted_in : (widths : Widths) (site : ℕ) (kind : CoreKind) → suc (length (places_in kind)) ≡ act_size (act_of widths site kind)
  counted_in widths site (Cycle n) = refl
  counted_in widths site (Set r e) = refl
  counted_in widths site (Send m e) = refl
  counted_in widths site (Recv m) = refl
  counted_in widths site (If' e p one None' word) =
      let whole : length (places_of one ++ []) ≡ length (places_of one) + 0 = length-append (places_of one) [] in
      let first = counted widths one in
      omega (arith, whole, first)
  counted_in widths site (If' e p one (Some' q other) None) =
      let whole : length (places_of one ++ places_of other) ≡ length (places_of one) + length (places_of other) = length-append (places_of one) (places_of other) in
      let first = counted widths one in
      let second = counted widths other in
      omega (arith, whole, first, second)
  counted_in widths site (If' e p one (Some' q other) (Some n)) =
      let whole : length (places_of one ++ places_of other) ≡ length (places_of one) + length (places_of other) = length-append (places_of one) (places_of other) in
      let first = counted widths one in
      let second = counted widths other in
      omega (arith, whole, first, second)
  counted_in widths site (Block' p inner) = let by_counted = counted widths inner in omega (arith, by_counted)
  counted_in widths site (Wait y) = refl
  counted_in widths site (Pure e) = refl
  counted_in widths site Unit = refl
