-- A measure of terms of the code that falls along the walk: each act and each part counts, so a part has less than the whole.
use Rattle.std.proofs.Common.{◌≡◌, ℕ, ◌+◌, ◌<◌, arith, ap, Option, Box, Global}
use Rattle.core_term.specs.declared.term.CoreExpr.{CoreExpr}
use Rattle.core_term.specs.declared.term.CoreTerm.{CoreTerm, One', Then', Both'}
use Rattle.core_term.specs.declared.term.CoreKind as core
use Rattle.core_term.specs.declared.term.CoreKind.{CoreKind, Cycle, Set, Send, Recv, If', Block', Wait, Pure, Held-CoreKind-If-2, None', Some'}

mutual
  pub weight : CoreTerm → ℕ
  weight (One' s p k) = weight_in k + 2
  weight (Then' s p k q t) = (weight_in k + 3) + weight t
  weight (Both' s p k q t) = (weight_in k + 3) + weight t

  pub weight_in : CoreKind → ℕ
  weight_in (Cycle n) = 0
  weight_in (Set r e) = 0
  weight_in (Send m e) = 0
  weight_in (Recv m) = 0
  weight_in (If' e p t u w) = (weight t + weight_else u) + 2
  weight_in (Block' p t) = weight t + 1
  weight_in (Wait y) = 0
  weight_in (Pure e) = 0
  weight_in core.Unit = 0

  pub weight_else : Held-CoreKind-If-2 → ℕ
  weight_else None' = 0
  weight_else (Some' p t) = weight t

pub one_falls : (term : CoreTerm) (s at : ℕ) (k : CoreKind) (t : ℕ) → term ≡ One' s at k → weight term ≡ t → weight_in k + 1 < t
unfolding weight
one_falls term s at k t e f = let g : weight term ≡ weight_in k + 2 = ap weight e in omega arith

pub then_falls : (term : CoreTerm) (s at : ℕ) (k : CoreKind) (p : Box (Unit {0}) Global) (value rest : CoreTerm) (t : ℕ) → term ≡ Then' s at k p value → rest ≡ value → weight term ≡ t → (weight_in k + 2) + weight rest < t
unfolding weight
then_falls term s at k p value rest t e r f = let g : weight term ≡ (weight_in k + 3) + weight value = ap weight e in let h = ap weight r in omega arith

pub both_falls : (term : CoreTerm) (s at : ℕ) (k : CoreKind) (p : Box (Unit {0}) Global) (value rest : CoreTerm) (t : ℕ) → term ≡ Both' s at k p value → rest ≡ value → weight term ≡ t → (weight_in k + 2) + weight rest < t
unfolding weight
both_falls term s at k p value rest t e r f = let g : weight term ≡ (weight_in k + 3) + weight value = ap weight e in let h = ap weight r in omega arith

pub block_falls : (k : CoreKind) (p : Box (Unit {0}) Global) (value inner : CoreTerm) (t : ℕ) → k ≡ Block' p value → inner ≡ value → weight_in k ≡ t → weight inner < t
unfolding weight weight_in
block_falls k p value inner t e r f = let g : weight_in k ≡ weight value + 1 = ap weight_in e in let h = ap weight r in omega arith

pub none_falls : (k : CoreKind) (c : CoreExpr) (p : Box (Unit {0}) Global) (value inner : CoreTerm) (v : Option ℕ) (t : ℕ) → k ≡ If' c p value None' v → inner ≡ value → weight_in k ≡ t → weight inner + 1 < t
unfolding weight weight_in weight_else
none_falls k c p value inner v t e r f = let g : weight_in k ≡ (weight value + 0) + 2 = ap weight_in e in let h = ap weight r in omega arith

pub some_falls : (k : CoreKind) (c : CoreExpr) (p q : Box (Unit {0}) Global) (value inner another other : CoreTerm) (v : Option ℕ) (t : ℕ) → k ≡ If' c p value (Some' q another) v → inner ≡ value → other ≡ another → weight_in k ≡ t → (weight inner + weight other) + 1 < t
unfolding weight weight_in weight_else
some_falls k c p q value inner another other v t e r s f = let g : weight_in k ≡ (weight value + weight another) + 2 = ap weight_in e in let h = ap weight r in let i = ap weight s in omega arith
