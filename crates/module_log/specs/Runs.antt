-- The process whose module is run.
use Rattle.core_term.specs.Process.{Process}
use Rattle.core_term.specs.ProcessView.{process_of}
use Rattle.module_log.specs.declared.run.ModuleRun.{ModuleRun}

abbrev pub process_in : ModuleRun → Process
process_in run =
    process_of run.proc.now.name run.proc.now.ports.items run.proc.now.regs.items run.proc.now.threads.items
