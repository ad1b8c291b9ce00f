-- The processes before keep their demands, and this one too or it has the first violation.
use Rattle.std.proofs.Common.{refl, subst, Option, length}
use Rattle.std.proofs.lemmas.Option.{slice_get_read}
use Rattle.core_term.specs.AcceptedFile.{process_in}
use Rattle.timing_check.specs.declared.files.InProcess.{InProcess}
use Rattle.timing_check.specs.OfFile.{IsFirstOfProcess}
use Rattle.timing_check.proofs.Processes.{next_process, all_processes, nth_there}
use Rattle.timing_check.proofs.files.first_of_file.Goals as goal

pub returns-in-Some : goal.returns-in-Some
returns-in-Some c =
    let proc = c.index-procs-process.result in
    let procs = c.args.procs.now in
    let process = c.loop-process.process in
    let First : Option InProcess → Type 0 = λ first. IsFirstOfProcess (process_in proc) first in
    record {
      process = process_in proc;
      is_process = nth_there procs process proc (slice_get_read procs (length procs) process proc refl c.loop-process-test.true c.index-procs-process.is);
      is_first = subst First c.in-Some.is c.in_ok-found.ensures;
      before = c.loop-process.invariant;
    }

pub loop-process-preserved : goal.loop-process-preserved
loop-process-preserved c =
    let proc = c.index-procs-process.result in
    let procs = c.args.procs.now in
    let process = c.loop-process.process in
    let First : Option InProcess → Type 0 = λ first. IsFirstOfProcess (process_in proc) first in
    next_process procs process proc (slice_get_read procs (length procs) process proc refl c.loop-process-test.true c.index-procs-process.is) c.loop-process.invariant (subst First c.in_default.is c.in_ok-found.ensures)

pub returns : goal.returns
returns c = all_processes c.args.procs.now c.loop-process.process c.loop-process-test.false c.loop-process.invariant
