-- The things of a file that are counted, in the order in which they begin in the text, and their number with one owner.
use Rattle.std.specs.Prelude.{◌≡◌, ℕ, ◌+◌, List, [], ◌∷◌, ◌++◌}
use Rattle.anvil_tree.specs.Few.{most_nodes, most_acts, most_threads, most_parts}
use Rattle.anvil_grammar.specs.declared.error.Counted.{Counted}
use Rattle.anvil_grammar.specs.declared.error.Counted.TheVariants as counted

-- a thing, with the place of the token by which it begins; a node has the place of its own token
pub record Begin : Type 0 where
  pub kind : Counted
  pub at : ℕ

-- the most things of a kind that one owner may have
abbrev pub most : Counted → ℕ
most counted.Expr = most_nodes
most counted.Act = most_acts
most counted.Thread = most_threads
most kind = most_parts

-- How many things of a kind the present owner has after one more thing, of so many before it. Messages are counted in
-- their class, endpoints, registers and threads in their process, acts in their thread, and nodes in their act, which
-- has one expression at most.
abbrev pub count_after : Counted → Counted → ℕ → ℕ
count_after counted.Class counted.Class many = many + 1
count_after counted.Message counted.Class many = 0
count_after counted.Message counted.Message many = many + 1
count_after counted.Process counted.Process many = many + 1
count_after counted.Endpoint counted.Process many = 0
count_after counted.Endpoint counted.Endpoint many = many + 1
count_after counted.Register counted.Process many = 0
count_after counted.Register counted.Register many = many + 1
count_after counted.Thread counted.Process many = 0
count_after counted.Thread counted.Thread many = many + 1
count_after counted.Act counted.Thread many = 0
count_after counted.Act counted.Act many = many + 1
count_after counted.Expr counted.Act many = 0
count_after counted.Expr counted.Expr many = many + 1
count_after kind begun many = many

-- how many things of a kind the last owner has after these, of so many before them
abbrev pub count : Counted → ℕ → List Begin → ℕ
count kind many [] = many
count kind many (begin ∷ begun) = count kind (count_after kind begin.kind many) begun

-- one thing of the kind begins at the place, and as many as may be began before it with the same owner
pub record HasOnePast (kind : Counted) (place : ℕ) (begun : List Begin) : Type 0 where
  pub before : List Begin
  pub after : List Begin
  pub joined : begun ≡ before ++ (record { kind = kind; at = place } ∷ after)
  pub full : count kind 0 before ≡ most kind
