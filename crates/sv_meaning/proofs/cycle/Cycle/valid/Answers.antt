use Rattle.std.proofs.Common.{◌≡◌, subst}
use Rattle.std.specs.Prelude.{Some}
use Rattle.core_term.specs.Rows.{nth_cell}
use Rattle.sv_meaning.proofs.Cells.{received_cell, received_cell_within}
use Rattle.sv_meaning.proofs.cycle.Cycle.valid.Goals as goal

pub cell-requires : goal.cell-requires
cell-requires c = received_cell_within _ _ c.requires.cycle.0 c.args.port c.requires.received

pub unreachable-requires : goal.unreachable-requires
unreachable-requires c = received_cell _ _ c.args.port _ _ c.requires.cycle.0 c.requires.received c.cell.ensures c.in-Sent.is

pub returns : goal.returns
returns c =
    let there = subst (λ cell. nth_cell c.args.self.now.cells.now c.args.port ≡ Some cell) c.in-Received.is c.cell.ensures in
    rw there c.bit.ensures
