use Rattle.std.proofs.Common.{◌+◌, arith, subst, ◌≡◌}
use Rattle.process_machine.specs.StateBits.{KeepsLive}
use Rattle.process_machine.proofs.StateBits.{threads_within}
use Rattle.process_machine.proofs.laws.state_bits_are_bounded.Goals as goal

pub returns : goal.returns
returns c = λ digits one_digit p nodes live.
    let within = threads_within digits one_digit nodes 0 p.threads (λ number thread is_thread. let from_zero : number ≡ 0 + number = omega arith in subst (λ n. KeepsLive thread.body (nodes n)) from_zero (live number thread is_thread)) in
    omega (arith, within)
