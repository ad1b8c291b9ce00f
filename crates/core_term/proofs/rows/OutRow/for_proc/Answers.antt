use Rattle.std.proofs.Common.{IsTrue, subst, sym, map}
use Rattle.std.specs.List.{list_all}
use Rattle.core_term.specs.ProcessView.{port_of}
use Rattle.core_term.specs.Sized.{port_fits, register_fits}
use Rattle.core_term.proofs.code_tables.Ports.{ports_fit, registers_fit}
use Rattle.core_term.proofs.rows.OutRow.for_proc.Goals as goal

pub zero_cells_of-requires : goal.zero_cells_of-requires
zero_cells_of-requires c =
    let proc = c.args.proc.now in
    subst (λ ports. IsTrue (list_all port_fits (map port_of ports))) (sym c.as_slice.ensures.value) (ports_fit proc.name proc.ports.items proc.regs.items proc.threads.items proc.sized)

pub zero_registers_of-requires : goal.zero_registers_of-requires
zero_registers_of-requires c =
    let proc = c.args.proc.now in
    subst (λ registers. IsTrue (list_all register_fits registers)) (sym c.as_slice-2.ensures.value) (registers_fit proc.name proc.ports.items proc.regs.items proc.threads.items proc.sized)
