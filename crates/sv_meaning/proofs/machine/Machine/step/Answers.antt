use Rattle.std.proofs.Common.{◌≡◌, List, length, map, sym, ap, subst, arith, vec_capacity}
use Rattle.anvil_bits.specs.Number.{Number}
use Rattle.sv_tree.specs.Clocked.{net_values}
use Rattle.sv_tree.proofs.WellFormedPoints.{output_count, next_count, points_of}
use Rattle.sv_meaning.specs.declared.cycle.Cycle.{Cycle}
use Rattle.sv_meaning.specs.Cycle.{in_cells, values, widths}
use Rattle.sv_meaning.specs.Shown.{source_count}
use Rattle.sv_meaning.proofs.Moves.{nexts_wide, registers_count, sources_within, outs_of_step, registers_of_step, sources_of_step, written_back, written_length}
use Rattle.sv_meaning.proofs.machine.Machine.step.Goals as goal

pub show_outs-requires-clause-cells : goal.show_outs-requires-clause-cells
show_outs-requires-clause-cells c =
    let tree : c.self.inside.module.now ≡ c.args.self.now.tree = ap (λ machine. machine.tree) c.self.view_is in
    let ports : length c.args.out.now.cells.items ≡ length c.self.inside.module.now.ports =
    subst (λ some_tree. length c.args.out.now.cells.items ≡ length some_tree.ports) (sym tree) c.requires.places.0 in
    let outs = output_count c.self.inside.module.now c.value_nets.ensures.well_formed in
    let long : length c.as_mut_slice.result.now ≡ c.args.out.now.cells.len = c.as_mut_slice.ensures.len in
    let items : c.args.out.now.cells.len ≡ length c.args.out.now.cells.items = c.args.out.now.cells.ok.0 in
    omega (arith, ports, outs, long, items)

pub show_sources-requires : goal.show_sources-requires
show_sources-requires c =
    let tree : c.self.inside.module.now ≡ c.args.self.now.tree = ap (λ machine. machine.tree) c.self.view_is in
    let sources : length c.args.out.now.regs.items ≡ source_count c.self.inside.module.now.regs =
    subst (λ some_tree. length c.args.out.now.regs.items ≡ source_count some_tree.regs) (sym tree) c.requires.places.1 in
    let within = sources_within c.self.inside.module.now.regs in
    let count = registers_count c.self.inside.module.now c.self.inside.registers.items c.self.invariant.0 in
    let numbers = ap (λ list. length list) c.as_slice-3.ensures.value in
    let long : length c.as_mut_slice-2.result.now ≡ c.args.out.now.regs.len = c.as_mut_slice-2.ensures.len in
    let items : c.args.out.now.regs.len ≡ length c.args.out.now.regs.items = c.args.out.now.regs.ok.0 in
    omega (arith, sources, within, count, numbers, long, items)

pub value_nexts-requires-clause-room : goal.value_nexts-requires-clause-room
value_nexts-requires-clause-room c =
    let count = next_count c.self.inside.module.now c.value_nets.ensures.well_formed in
    let room = c.self.invariant.3 in
    omega (arith, count, room)

now : goal.After-swap → Cycle
now c = record { «module» = c.self.inside.module; cells = c.as_slice.result; registers = c.as_slice-2.result }

nets : goal.After-swap → List Number
nets c = c.as_slice-nets.result.now

pub invariant_of-self : goal.invariant_of-self
unfolding now nets
invariant_of-self c =
    let wide = nexts_wide (now c) (nets c) c.self.inside.module.now.regs c.self.inside.module.now.nexts (points_of c.self.inside.module.now c.value_nets.ensures.well_formed).nexts in
    let moved : widths c.swap.new.x.items ≡ map (λ reg. reg.width) c.self.inside.module.now.regs =
    rw c.swap.ensures.x_after (rw c.value_nexts.ensures.nexts wide) in
    let moved_room = ap (λ given. vec_capacity given) c.swap.ensures.x_after in
    let kept_room = ap (λ given. vec_capacity given) c.swap.ensures.y_after in (
      moved,
      omega (arith, c.value_nets.ensures.room, c.self.invariant.1),
      omega (arith, moved_room, c.value_nexts.ensures.room, c.self.invariant.3),
      omega (arith, kept_room, c.self.invariant.2),
    )

valued : (c : goal.After-swap) → values (nets c) ≡ net_values (now c).module.now (in_cells (now c).cells.now) 0 (values (now c).registers.now)
unfolding now nets
valued c = rw c.as_slice-nets.ensures.value c.value_nets.ensures.values

seen : (c : goal.After-swap) → c.args.self.now ≡ record { tree = (now c).module.now; registers = values (now c).registers.now }
unfolding now
seen c = rw c.as_slice-2.ensures.value (sym c.self.view_is)

pub returns-clause-stands : goal.returns-clause-stands
unfolding now nets
returns-clause-stands c rows stands inputs begins =
    let moved =
    registers_of_step c.args.self.now (now c) (nets c) c.args.row.now (seen c) c.as_slice.ensures.value (valued c) c.value_nets.ensures.well_formed rows stands inputs begins in
    rw c.swap.ensures.x_after (rw c.value_nexts.ensures.nexts moved)

pub returns-clause-cells : goal.returns-clause-cells
unfolding now nets
returns-clause-cells c rows stands inputs begins =
    let shown =
    outs_of_step c.args.self.now (now c) (nets c) c.args.row.now (seen c) c.as_slice.ensures.value (valued c) c.value_nets.ensures.well_formed rows stands inputs begins in
    let long : length c.as_mut_slice.result.now ≡ c.args.out.now.cells.len = c.as_mut_slice.ensures.len in
    let kept : length c.show_outs.new.cells ≡ length c.as_mut_slice.result.now = c.show_outs.auto.cells in
    let count : length c.show_outs.new.cells ≡ c.args.out.now.cells.len = omega (arith, long, kept) in
    written_back _ _ _ _ count (rw c.show_outs.ensures shown)

pub returns-clause-regs : goal.returns-clause-regs
unfolding now nets
returns-clause-regs c rows stands inputs begins =
    let wide : widths c.as_slice-2.result.now ≡ map (λ reg. reg.width) c.self.inside.module.now.regs = rw c.as_slice-2.ensures.value c.self.invariant.0 in
    let shown =
    sources_of_step c.args.self.now (now c) (nets c) c.args.row.now (seen c) c.as_slice.ensures.value (valued c) c.value_nets.ensures.well_formed rows stands inputs begins wide in
    let here = rw c.as_slice-2.ensures.value at shown in
    let long : length c.as_mut_slice-2.result.now ≡ c.args.out.now.regs.len = c.as_mut_slice-2.ensures.len in
    let items : c.args.out.now.regs.len ≡ length c.args.out.now.regs.items = c.args.out.now.regs.ok.0 in
    let kept : length c.show_sources.new.shown ≡ length c.as_mut_slice-2.result.now = c.show_sources.auto.shown in
    let sources : length c.as_mut_slice-2.result.now ≡ source_count c.args.self.now.tree.regs = omega (arith, long, items, c.requires.places.1) in
    let count : length c.show_sources.new.shown ≡ c.args.out.now.regs.len = omega (arith, long, kept) in
    written_back _ _ _ _ count (rw c.show_sources.ensures (rw sources (rw c.as_slice-3.ensures.value here)))

pub returns-clause-places : goal.returns-clause-places
returns-clause-places c =
    let tree : c.self.inside.module.now ≡ c.args.self.now.tree = ap (λ machine. machine.tree) c.self.view_is in
    let ports : length c.args.out.now.cells.items ≡ length c.self.inside.module.now.ports =
    subst (λ some_tree. length c.args.out.now.cells.items ≡ length some_tree.ports) (sym tree) c.requires.places.0 in
    let sources : length c.args.out.now.regs.items ≡ source_count c.self.inside.module.now.regs =
    subst (λ some_tree. length c.args.out.now.regs.items ≡ source_count some_tree.regs) (sym tree) c.requires.places.1 in
    let cells_long : length c.as_mut_slice.result.now ≡ c.args.out.now.cells.len = c.as_mut_slice.ensures.len in
    let regs_long : length c.as_mut_slice-2.result.now ≡ c.args.out.now.regs.len = c.as_mut_slice-2.ensures.len in
    let cells_items : c.args.out.now.cells.len ≡ length c.args.out.now.cells.items = c.args.out.now.cells.ok.0 in
    let regs_items : c.args.out.now.regs.len ≡ length c.args.out.now.regs.items = c.args.out.now.regs.ok.0 in
    let cells_count : length c.show_outs.new.cells ≡ c.args.out.now.cells.len = omega (arith, cells_long, c.show_outs.auto.cells) in
    let regs_count : length c.show_sources.new.shown ≡ c.args.out.now.regs.len = omega (arith, regs_long, c.show_sources.auto.shown) in
    (written_length _ _ _ _ cells_count (omega (arith, cells_items, ports)), written_length _ _ _ _ regs_count (omega (arith, regs_items, sources)))
