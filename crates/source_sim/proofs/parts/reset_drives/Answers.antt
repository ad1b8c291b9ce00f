-- Nothing is driven on one port more.
use Rattle.std.proofs.Common.{◌≡◌, ◌+◌, ◌∙◌, sym, ap, arith, map, false}
use Rattle.core_term.specs.ProcessView.{port_of}
use Rattle.core_term.specs.Rows.{number_of}
use Rattle.sim_laws.specs.declared.drive.Drive.{Drive}
use Rattle.sim_laws.specs.Stands.{no_drives}
use Rattle.source_sim.proofs.Fills.{fill_step, fill_done, no_drive_at, port_wide}
use Rattle.sim_laws.proofs.Counts.{no_drives_count}
use Rattle.source_sim.proofs.parts.reset_drives.Goals as goal

pub new-number-requires-clause-at_least : goal.new-number-requires-clause-at_least
new-number-requires-clause-at_least c = (port_wide c.args.ports.now c.loop-index.index c.index-ports-index.result (omega (arith, c.requires.all)) c.index-ports-index.is c.requires.fit).0

pub new-number-requires-clause-at_most : goal.new-number-requires-clause-at_most
new-number-requires-clause-at_most c = (port_wide c.args.ports.now c.loop-index.index c.index-ports-index.result (omega (arith, c.requires.all)) c.index-ports-index.is c.requires.fit).1

pub loop-index-preserved : goal.loop-index-preserved
loop-index-preserved c =
    let count = no_drives_count c.args.ports.now in
    let v : Drive = record { offered = false; number = c.new-number.result } in
    let here = no_drive_at c.args.ports.now c.loop-index.index c.index-ports-index.result v (omega (arith, c.requires.all)) c.index-ports-index.is in
    let same : v ≡ record { offered = false; number = number_of c.index-ports-index.result.width 0 } =
    ap (λ n. let d : Drive = record { offered = false; number = n } in d) c.new-number.ensures ∙ ap (λ port. let d : Drive = record { offered = false; number = number_of port.width 0 } in d) (sym c.index-ports-index.is) in
    fill_step c.loop-index.drives (no_drives (map port_of c.args.ports.now)) c.loop-index.index (c.loop-index.index + 1) v (omega arith) (omega (arith, c.loop-index.auto.drives)) (omega (arith, c.loop-index.auto.drives, c.requires.all, count)) c.loop-index.invariant
    (here ∙ sym same)

pub returns : goal.returns
returns c =
    let count = no_drives_count c.args.ports.now in
    fill_done c.loop-index.drives (no_drives (map port_of c.args.ports.now)) c.loop-index.index (omega (arith, c.loop-index.auto.drives, c.loop-index-test.false)) (omega (arith, c.loop-index.auto.drives, c.requires.all, count)) c.loop-index.invariant
