-- The counts of one cycle more.
use Rattle.std.proofs.Common.{◌≡◌, ◌+◌, ℕ, suc, ap, arith}
use Rattle.core_term.specs.Process.{Process}
use Rattle.run_log.specs.Shown.{Shown}
use Rattle.run_counts.specs.Counts.{exchanges_at, exchanges_in, registers_at, registers_last}

pub exchanges_more : (p : Process) (seen : Shown) (n : ℕ) → exchanges_in p seen (n + 1) ≡ exchanges_in p seen n + exchanges_at seen n 0 p.ports
exchanges_more p seen n =
    let next : n + 1 ≡ suc n = omega arith in
    ap (exchanges_in p seen) next

pub last_more : (p : Process) (seen : Shown) (n : ℕ) → registers_last p seen (n + 1) ≡ registers_at p seen n
last_more p seen n =
    let next : n + 1 ≡ suc n = omega arith in
    ap (registers_last p seen) next
