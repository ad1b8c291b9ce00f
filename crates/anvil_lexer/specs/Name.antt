-- How long a name may be.
use Rattle.std.specs.Prelude.{ℕ}

-- the most bytes that a name may have: the one limit
abbrev pub longest_name : ℕ
longest_name = 64
