-- The limits that an emitted module keeps: `widest`, the most bits of a port, register, net or literal; `longest_name`,
-- the most bytes of a name; and the number below which the counts of ports, registers and nets stay.
use Rattle.std.specs.Prelude.{ℕ, ◌^◌}
pub use Rattle.anvil_bits.specs.Number.{widest}
pub use Rattle.anvil_lexer.specs.Name.{longest_name}

abbrev pub too_many : ℕ
too_many = 2 ^ 32
