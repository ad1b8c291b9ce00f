-- What was compared are the lists of the process and the module.
use Rattle.std.proofs.Common.{◌≡◌, ◌∙◌, true, false, sym, ap}
use Rattle.std.proofs.lemmas.Bool.{false≢true}
use Rattle.module_log.specs.Compared.{are_same_ports, are_same_registers}
use Rattle.module_log.proofs.Compared.{ports_same, same_ports, registers_same, same_registers}
use Rattle.module_log.proofs.ports.matches.Goals as goal

pub returns-then-same_ports-clause-same : goal.returns-then-same_ports-clause-same
returns-then-same_ports-clause-same c = λ e.
    let proc = c.args.proc.now in
    let tree = c.args.module.now in
    let ports : are_same_ports proc.ports.items tree.ports ≡ true =
    sym (λ i. are_same_ports (c.as_slice.ensures.value i) (c.ports.ensures.ports i)) ∙ (sym c.same_ports.ensures ∙ c.if-same_ports.true) in
    let registers : are_same_registers proc.regs.items tree.regs ≡ true =
    sym (λ i. are_same_registers (c.as_slice-then-same_ports.ensures.value i) (c.regs.ensures.regs i)) ∙ (sym c.same_registers.ensures ∙ e) in
    record { ports = ports_same proc.ports.items tree.ports ports; registers = registers_same proc.regs.items tree.regs registers }

pub returns-then-same_ports-clause-other : goal.returns-then-same_ports-clause-other
returns-then-same_ports-clause-other c = λ e same.
    let proc = c.args.proc.now in
    let tree = c.args.module.now in
    let registers : are_same_registers proc.regs.items tree.regs ≡ false =
    sym (λ i. are_same_registers (c.as_slice-then-same_ports.ensures.value i) (c.regs.ensures.regs i)) ∙ (sym c.same_registers.ensures ∙ e) in
    false≢true (sym registers ∙ same_registers proc.regs.items tree.regs same.registers)

pub returns-else-same_ports-clause-other : goal.returns-else-same_ports-clause-other
returns-else-same_ports-clause-other c = λ e same.
    let proc = c.args.proc.now in
    let tree = c.args.module.now in
    let ports : are_same_ports proc.ports.items tree.ports ≡ false =
    sym (λ i. are_same_ports (c.as_slice.ensures.value i) (c.ports.ensures.ports i)) ∙ (sym c.same_ports.ensures ∙ e) in
    false≢true (sym ports ∙ (ap (λ others. are_same_ports proc.ports.items others) same.ports ∙ same_ports proc.ports.items))
