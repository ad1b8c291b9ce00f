-- How many state bits a module has: the sum of the widths of its registers.
use Rattle.std.specs.Prelude.{ℕ, sum, map}
use Rattle.sv_tree.specs.Module.{Module}

abbrev pub register_bits : Module → ℕ
register_bits tree = sum (map (λ r. r.width) tree.regs)
