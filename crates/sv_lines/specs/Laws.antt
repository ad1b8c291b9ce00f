-- The law over the texts of modules.
use Rattle.std.specs.Prelude.{◌≡◌, ℕ, List}
use Rattle.sv_tree.specs.Module.{Module}
use Rattle.sv_tree.specs.Text.{IsTextOf}

-- a text is that of at most one list of modules
abbrev pub HasOneList : Type 0
HasOneList = (text : List ℕ) (one other : List Module) → IsTextOf text one → IsTextOf text other → one ≡ other
