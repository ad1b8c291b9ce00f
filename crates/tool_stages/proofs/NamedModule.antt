-- The module of a name among those that are left.
--
-- The claim: where the modules that are left have the one that is found among all, so have those behind the first of them, or the first
-- is found. The argument is by the list.
use Rattle.std.proofs.Common.{◌≡◌, ◌∙◌, ℕ, zero, suc, ◌+◌, ◌<◌, true, false, List, [], ◌∷◌, length, get_or, drop, Some, refl, ap, sym, arith}
use Rattle.std.specs.Prelude.{bytes_eq}
use Rattle.sv_tree.specs.Module.{Module}
use Rattle.tool_stages.specs.RunModule.{module_named}

dropped : (modules : List Module) (n : ℕ) (tree : Module) → n < length modules → tree ≡ get_or modules n tree → drop n modules ≡ tree ∷ drop (n + 1) modules
dropped [] n tree inside is = absurd (omega arith)
dropped (first ∷ modules) zero tree inside is = ap (λ one. one ∷ modules) (sym is)
dropped (first ∷ modules) (suc n) tree inside is =
    let later : suc (n + 1) ≡ suc n + 1 = omega arith in
    dropped modules n tree (omega arith) is ∙ ap (λ k. tree ∷ drop k (first ∷ modules)) later

module _ (name : List ℕ) (modules : List Module) (n : ℕ) (tree : Module) (inside : n < length modules) (is : tree ≡ get_or modules n tree)
    (left : module_named name (drop n modules) ≡ module_named name modules) where
  at_head : module_named name (tree ∷ drop (n + 1) modules) ≡ module_named name modules
  at_head = ap (module_named name) (sym (dropped modules n tree inside is)) ∙ left

  pub found_here : bytes_eq tree.proc name ≡ true → module_named name modules ≡ Some tree
  found_here test = sym at_head ∙ rw test refl

  pub not_here : bytes_eq tree.proc name ≡ false → module_named name (drop (n + 1) modules) ≡ module_named name modules
  not_here test = let there = at_head in rw test at there

pub same_item : (modules : List Module) (n : ℕ) (tree default : Module) → n < length modules → tree ≡ get_or modules n tree → get_or modules n default ≡ tree
same_item [] n tree default inside is = absurd (omega arith)
same_item (first ∷ modules) zero tree default inside is = sym is
same_item (first ∷ modules) (suc n) tree default inside is = same_item modules n tree default (omega arith) is
