-- A process from its parts, and where one of them fails.
use Rattle.std.proofs.Common.{◌∙◌, ap, sym, refl}
use Rattle.anvil_lexer.specs.GoodName.{is_good_name}
use Rattle.anvil_tree.specs.View.{process_of}
use Rattle.width_check.proofs.ProcessSteps.{classes_within, endpoints_stop, registers_stop, threads_stop, parts_read, is_sized_of, is_owned_of, placed_is}
use Rattle.width_check.proofs.process.read_process.Goals as goal

pub read_endpoints-requires : goal.read_endpoints-requires
read_endpoints-requires c = classes_within c.args.classes.now c.requires.classes

pub returns-in-Err : goal.returns-in-Err
returns-in-Err c =
    let good = ap is_good_name (sym c.bytes.ensures.bytes) ∙ sym c.is_good_name.ensures ∙ c.if-not-is_good_name.false in
    let fresh = sym c.contains.ensures ∙ c.if-contains.false in
    endpoints_stop c.args.classes.now c.args.names.now.keys (process_of c.args.process.now) c.in-Err.fault good fresh (rw c.deref.ensures.value at c.in-Err.ensures)

pub returns-in-Err-read_registers : goal.returns-in-Err-read_registers
returns-in-Err-read_registers c =
    let good = ap is_good_name (sym c.bytes.ensures.bytes) ∙ sym c.is_good_name.ensures ∙ c.if-not-is_good_name.false in
    let fresh = sym c.contains.ensures ∙ c.if-contains.false in
    registers_stop c.args.classes.now c.args.names.now.keys (process_of c.args.process.now) c.in-Ok.endpoints.keys c.in-Ok.ports c.in-Err-read_registers.fault good fresh (rw c.deref.ensures.value at c.in-Ok.ensures)
    (rw c.deref-in-Ok.ensures.value at c.in-Err-read_registers.ensures)

pub returns-in-Err-read_threads : goal.returns-in-Err-read_threads
returns-in-Err-read_threads c =
    let good = ap is_good_name (sym c.bytes.ensures.bytes) ∙ sym c.is_good_name.ensures ∙ c.if-not-is_good_name.false in
    let fresh = sym c.contains.ensures ∙ c.if-contains.false in
    threads_stop c.args.classes.now c.args.names.now.keys (process_of c.args.process.now) c.in-Ok.endpoints.keys c.in-Ok.ports c.in-Ok-read_registers.registers c.in-Err-read_threads.fault good fresh (rw c.deref.ensures.value at c.in-Ok.ensures) (rw c.deref-in-Ok.ensures.value at c.in-Ok-read_registers.ensures)
    (rw c.deref-in-Ok-read_registers.ensures.value at c.in-Err-read_threads.ensures)

pub invariant_of-result : goal.invariant_of-result
invariant_of-result c =
    let good = ap is_good_name (sym c.bytes.ensures.bytes) ∙ sym c.is_good_name.ensures ∙ c.if-not-is_good_name.false in
    let fresh = sym c.contains.ensures ∙ c.if-contains.false in
    let parts =
    parts_read c.args.classes.now c.args.names.now.keys (process_of c.args.process.now) c.copy.result c.in-Ok.endpoints.keys c.into_ports.result.items c.into_registers.result.items
    c.in-Ok-read_threads.threads.items good fresh c.copy.ensures (rw c.into_ports.ensures.ports (rw c.deref.ensures.value at c.in-Ok.ensures))
    (rw c.into_registers.ensures.registers (rw c.deref-in-Ok.ensures.value at c.in-Ok-read_registers.ensures))
    (rw (c.into_ports.ensures.ports, c.into_registers.ensures.registers) (rw c.deref-in-Ok-read_registers.ensures.value at c.in-Ok-read_threads.ensures)) in
    record {
      sized = is_sized_of c.args.classes.now c.args.names.now.keys (process_of c.args.process.now) c.copy.result c.into_ports.result.items c.into_registers.result.items c.in-Ok-read_threads.threads.items c.requires.classes c.requires.few parts;
      owned = is_owned_of c.args.classes.now c.args.names.now.keys (process_of c.args.process.now) c.copy.result c.into_ports.result.items c.into_registers.result.items c.in-Ok-read_threads.threads.items c.requires.classes c.requires.few parts;
    }

pub returns-in-Ok-read_threads : goal.returns-in-Ok-read_threads
returns-in-Ok-read_threads c =
    let good = ap is_good_name (sym c.bytes.ensures.bytes) ∙ sym c.is_good_name.ensures ∙ c.if-not-is_good_name.false in
    let fresh = sym c.contains.ensures ∙ c.if-contains.false in
    let parts =
    parts_read c.args.classes.now c.args.names.now.keys (process_of c.args.process.now) c.copy.result c.in-Ok.endpoints.keys c.into_ports.result.items c.into_registers.result.items
    c.in-Ok-read_threads.threads.items good fresh c.copy.ensures (rw c.into_ports.ensures.ports (rw c.deref.ensures.value at c.in-Ok.ensures))
    (rw c.into_registers.ensures.registers (rw c.deref-in-Ok.ensures.value at c.in-Ok-read_registers.ensures))
    (rw (c.into_ports.ensures.ports, c.into_registers.ensures.registers) (rw c.deref-in-Ok-read_registers.ensures.value at c.in-Ok-read_threads.ensures)) in
    record { passes = parts.passes; same = placed_is c.args.classes.now c.args.names.now.keys (process_of c.args.process.now) c.copy.result c.into_ports.result.items c.into_registers.result.items c.in-Ok-read_threads.threads.items _ refl parts }
