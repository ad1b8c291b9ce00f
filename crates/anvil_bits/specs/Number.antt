-- A number of a stated width, as contracts see it, and the widest one.
use Rattle.std.specs.Prelude.{ℕ}

-- how many bits a number has, and which number it is
pub record Number : Type 0 where
  pub width : ℕ
  pub value : ℕ

-- the most bits that a number may have: the one limit
abbrev pub widest : ℕ
widest = 64
