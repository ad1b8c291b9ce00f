-- The entries of a shelf over memory, as it was handed them: each a name, which is a string's bytes, and a vector's bytes.
use Rattle.std.specs.Prelude.{ℕ, List, map, Vec, String, string_bytes}
use Rattle.std.specs.declared.alloc.Global.{Global}
use Rattle.anvil_io.specs.Memory.{Entry}

-- one entry
abbrev pub entry_of : String Global × Vec ℕ Global → Entry
entry_of file = record { name = string_bytes file.0; bytes = file.1.items }

-- all entries, in order
abbrev pub entries_of : List (String Global × Vec ℕ Global) → List Entry
entries_of files = map entry_of files
