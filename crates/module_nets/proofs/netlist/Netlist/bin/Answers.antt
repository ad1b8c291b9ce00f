use Rattle.std.proofs.Common.{◌∙◌}
use Rattle.core_term.specs.Widths.{result_width}
use Rattle.module_nets.proofs.Growing.{bin_shown}
use Rattle.module_nets.proofs.Outcomes.{IfOk-joined}
use Rattle.module_nets.proofs.netlist.Netlist.bin.Goals as goal

pub returns-clause-shows : goal.returns-clause-shows
returns-clause-shows c =
    let width = c.width_of-width.ensures.width in
    let wide = result_width c.args.op c.args.left.now.width c.args.right.now.width in
    IfOk-joined c.add.result _ _ _
    (λ drawn extends shows now of. (rw width at (shows now of)) ∙ bin_shown c.args.self.now c.add.new.self now c.args.op wide c.args.left.now c.args.right.now extends c.requires.right of)
    c.add.ensures.extends
    c.add.ensures.shows
