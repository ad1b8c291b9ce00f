use Rattle.std.proofs.Common.{◌^◌, ◌≤◌, arith}
use Rattle.std.proofs.Math.Nat.{pow-le-pow_right}
use Rattle.pulse_nets.proofs.forms.draw_delay.Goals as goal

pub new-requires-clause-fits : goal.new-requires-clause-fits
new-requires-clause-fits c =
    let two : 2 ^ 1 ≤ 2 ^ c.args.counter.now.width = pow-le-pow_right (omega arith) c.requires.some in
    omega (arith, two)
