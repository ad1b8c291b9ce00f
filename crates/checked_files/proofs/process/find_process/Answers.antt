-- The process at hand, or one of those that are left.
use Rattle.std.proofs.Common.{◌≡◌, ◌∙◌, get_or, true, false, Some, ap, sym, subst, arith}
use Rattle.std.specs.Prelude.{bytes_eq}
use Rattle.core_file.specs.CoreFile.{placed_of}
use Rattle.core_term.specs.declared.process.CoreProc.{CoreProc}
use Rattle.checked_files.proofs.Processes.{found_here, not_here, same_item}
use Rattle.checked_files.proofs.process.find_process.Goals as goal

pub returns-then-eq : goal.returns-then-eq
returns-then-eq c =
    let procs = c.args.core.now.procs.items in
    let proc = c.index-procs-index.result in
    let is : proc ≡ get_or procs c.loop-index.index proc = rw c.as_slice-procs.ensures.value at c.index-procs-index.is in
    let name_is : c.bytes.result.now ≡ proc.name = c.bytes.ensures.bytes ∙ ap (λ (one : CoreProc). one.name) (sym c.index-procs-index.is) in
    let test : bytes_eq proc.name c.args.name.now ≡ true = subst (λ n. bytes_eq n c.args.name.now ≡ true) name_is (sym c.if-eq.ensures) in (
      omega arith,
      λ default. found_here c.args.name.now procs c.loop-index.index proc (omega arith) is c.loop-index.invariant test
          ∙ ap (λ (one : CoreProc). Some (placed_of one).process) (sym (same_item procs c.loop-index.index proc default (omega arith) is)),
    )

pub loop-index-preserved : goal.loop-index-preserved
loop-index-preserved c =
    let procs = c.args.core.now.procs.items in
    let proc = c.index-procs-index.result in
    let is : proc ≡ get_or procs c.loop-index.index proc = rw c.as_slice-procs.ensures.value at c.index-procs-index.is in
    let name_is : c.bytes.result.now ≡ proc.name = c.bytes.ensures.bytes ∙ ap (λ (one : CoreProc). one.name) (sym c.index-procs-index.is) in
    let test : bytes_eq proc.name c.args.name.now ≡ false = subst (λ n. bytes_eq n c.args.name.now ≡ false) name_is (sym c.if-eq.ensures) in
    not_here c.args.name.now procs c.loop-index.index proc (omega arith) is c.loop-index.invariant test
