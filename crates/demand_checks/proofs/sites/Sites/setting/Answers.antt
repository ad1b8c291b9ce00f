-- All numbers are there.
use Rattle.std.proofs.Common.{ap, ◌∙◌}
use Rattle.demand_checks.specs.Sites.{places_from, register_of}
use Rattle.demand_checks.proofs.Loops.{numbers_of}
use Rattle.demand_checks.proofs.sites.Sites.setting.Goals as goal

pub returns : goal.returns
returns c = λ number.
    c.in_ok-sites.ensures number
    ∙ ap (λ numbers. places_from number 0 numbers) (c.deref.ensures.value ∙ numbers_of register_of c.args.deeds.now c.loop-deed.deed-index _ c.loop-deed-test.false c.loop-deed.invariant)
