use Rattle.std.proofs.Common.{◌^◌, ◌≤◌, ◌∙◌, ap, arith}
use Rattle.std.proofs.Math.Nat.{pow-le-pow_right}
use Rattle.module_nets.proofs.Growing.{of_later}
use Rattle.module_nets.proofs.BitsTold.{shown_within}
use Rattle.pulse_nets.proofs.Counting.{one_less_shown}
use Rattle.pulse_nets.proofs.states.draw_less.Goals as goal

pub new-requires-2-clause-fits : goal.new-requires-2-clause-fits
new-requires-2-clause-fits c =
    let two : 2 ^ 1 ≤ 2 ^ c.args.counter.now.width = pow-le-pow_right (omega arith) c.requires.some in
    omega (arith, two)

pub bin-requires-clause-right : goal.bin-requires-clause-right
bin-requires-clause-right c = c.literal-zero.ensures.stands c.args.netlist.now

pub bin-requires-2-clause-right : goal.bin-requires-2-clause-right
bin-requires-2-clause-right c = c.literal-one.ensures.stands c.bin.new.self

pub choose-requires-clause-second : goal.choose-requires-clause-second
choose-requires-clause-second c = c.literal-zero.ensures.stands c.bin-2.new.self

pub returns-clause-shows : goal.returns-clause-shows
returns-clause-shows c =
    λ now of.
    let second = of_later _ _ now c.in_ok-down.ensures.extends of in
    let first = of_later _ _ now c.in_ok-less.ensures.extends second in
    let start = of_later _ _ now c.in_ok-some.ensures.extends first in
    let none = c.literal-zero.ensures.shows now ∙ ap (λ number. number.value) c.new.ensures in
    let one = c.literal-one.ensures.shows now ∙ ap (λ number. number.value) c.new-2.ensures in
    let below = shown_within c.args.netlist.now now c.args.counter.now c.requires start in
    c.in_ok-down.ensures.shows now of ∙ one_less_shown c.args.counter.now.width _ _ _ _ _ none one below (c.in_ok-some.ensures.shows now first) (c.in_ok-less.ensures.shows now second)
