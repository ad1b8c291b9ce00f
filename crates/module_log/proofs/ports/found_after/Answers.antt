-- A state is passed over.
use Rattle.std.proofs.Common.{◌≡◌, ◌∙◌, false, drop, sym}
use Rattle.sv_tree.specs.Sources.{is_source}
use Rattle.module_log.proofs.Compared.{state_passed}
use Rattle.module_log.proofs.ports.found_after.Goals as goal

pub returns-then-not-of_source : goal.returns-then-not-of_source
returns-then-not-of_source c = λ others.
    let state : is_source c.args.other.now.name ≡ false = sym c.of_source.ensures ∙ c.if-not-of_source.true in
    (c.requires, state_passed (drop c.args.found c.args.regs.now) c.args.other.now others state)
