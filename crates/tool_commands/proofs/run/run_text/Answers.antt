-- The stage refuses, or the log is put: whole, in front, or up to a broken promise.
use Rattle.std.proofs.Common.{[], ◌∷◌, length, refl, arith}
use Rattle.std.proofs.Math.ListN.{length-map}
use Rattle.core_term.specs.Process.{nth_port}
use Rattle.core_term.specs.AcceptedFile.{process_in}
use Rattle.core_term.specs.ProcessView.{port_of}
use Rattle.stim_text.specs.Answers.{AreRowsOf}
use Rattle.run_log.specs.Log.{IsCut, IsNothing, IsStopped, IsWhole, log_to}
use Rattle.run_log.proofs.PortWires.{received_within}
use Rattle.source_log.specs.Log.{shown_on}
use Rattle.tool_answers.proofs.Steps.{breaks_text, cuts_text, puts_text, stage_refuses, wants_memory}
use Rattle.tool_stages.specs.Logs.{breach_line}
use Rattle.tool_stages.specs.Run.{HasRun}
use Rattle.tool_stages.specs.Stages.{run_stages}
use Rattle.tool_stages.proofs.SourceRuns.{kept_run, run_exact}
use Rattle.tool_commands.proofs.run.run_text.Goals as goal

pub returns-in-Err : goal.returns-in-Err
returns-in-Err g c = λ told faults taken bytes name is.
    stage_refuses (run_stages name) (run_exact name) (bytes ∷ c.args.text.now ∷ []) [] _ _ _ _ (record { same = refl; fine = refl }) refl c.in-Err.refusal
    (λ not_memory. record { process = _; of_file = is; refused = c.in-Err.ensures.refused not_memory }) c.complain_refusal.ensures

pub returns-in-Ok-None : goal.returns-in-Ok-None
returns-in-Ok-None g c = λ told faults taken bytes name is.
    let p = process_in c.args.proc.now in
    let rows = c.deref.result.now in
    let are : AreRowsOf p.ports c.args.text.now rows = rw c.deref.ensures.value c.in-Ok.ensures.rows in
    let has : HasRun bytes name c.args.text.now = record { process = p; of_file = is; of_text = record { rows = rows; are = are } } in
    let whole : IsWhole p (shown_on p rows) (length rows) (g.O.Sink.held c.args.out.now) (g.O.Sink.held c.put_log.new.out) (g.O.Sink.faults c.args.out.now) (g.O.Sink.faults c.put_log.new.out) = rw c.in-Ok-None.field-0-is at c.in-Ok-None.ensures in
    puts_text (run_stages name) (run_exact name) (bytes ∷ c.args.text.now ∷ []) has _ _ _ _ refl refl (log_to p (shown_on p rows) (length rows))
    (record { process = p; of_file = is; log = record { rows = rows; are = are; kept = whole.kept; is = refl } }) whole.appended whole.fine (record { same = refl; fine = refl })
    (kept_run bytes name c.args.text.now p is rows are whole.kept)

pub complain_breach-requires : goal.complain_breach-requires
complain_breach-requires g c =
    let p = process_in c.args.proc.now in
    let rows = c.deref.result.now in
    let stopped : IsStopped p (shown_on p rows) c.in-Ok-Some.broken (g.O.Sink.held c.args.out.now) (g.O.Sink.held c.put_log.new.out) (g.O.Sink.faults c.args.out.now) (g.O.Sink.faults c.put_log.new.out) = rw c.in-Ok-Some.field-0-is at c.in-Ok-Some.ensures in
    let within = received_within p.ports c.in-Ok-Some.broken.port stopped.first.received in
    let count = length-map c.args.proc.now.ports.items port_of in
    omega (arith, within, count)

pub returns-in-Ok-Some : goal.returns-in-Ok-Some
returns-in-Ok-Some g c = λ told faults taken bytes name is.
    let p = process_in c.args.proc.now in
    let rows = c.deref.result.now in
    let broken = c.in-Ok-Some.broken in
    let are : AreRowsOf p.ports c.args.text.now rows = rw c.deref.ensures.value c.in-Ok.ensures.rows in
    let has : HasRun bytes name c.args.text.now = record { process = p; of_file = is; of_text = record { rows = rows; are = are } } in
    let stopped : IsStopped p (shown_on p rows) broken (g.O.Sink.held c.args.out.now) (g.O.Sink.held c.put_log.new.out) (g.O.Sink.faults c.args.out.now) (g.O.Sink.faults c.put_log.new.out) = rw c.in-Ok-Some.field-0-is at c.in-Ok-Some.ensures in
    breaks_text (run_stages name) (run_exact name) (bytes ∷ c.args.text.now ∷ []) has _ _ _ _ refl (log_to p (shown_on p rows) broken.cycle) (breach_line broken.cycle (nth_port p.ports broken.port))
    (record { process = p; of_file = is; log = record { rows = rows; are = are; cycle = broken.cycle; port = broken.port; first = stopped.first; is = refl; told = refl } })
    stopped.appended stopped.fine c.complain_breach.ensures

pub returns-in-Err-Fault : goal.returns-in-Err-Fault
returns-in-Err-Fault g c = λ told faults taken bytes name is.
    let p = process_in c.args.proc.now in
    let rows = c.deref.result.now in
    let are : AreRowsOf p.ports c.args.text.now rows = rw c.deref.ensures.value c.in-Ok.ensures.rows in
    let has : HasRun bytes name c.args.text.now = record { process = p; of_file = is; of_text = record { rows = rows; are = are } } in
    let cut : IsCut p (shown_on p rows) (length rows) (g.O.Sink.held c.args.out.now) (g.O.Sink.held c.put_log.new.out) (g.O.Sink.faults c.args.out.now) (g.O.Sink.faults c.put_log.new.out) = rw c.in-Err-Fault.field-0-is at c.in-Err-Fault.ensures in
    cuts_text (run_stages name) (run_exact name) (bytes ∷ c.args.text.now ∷ []) has _ _ _ _ refl refl (log_to p (shown_on p rows) cut.lines)
    (record { process = p; of_file = is; log = record { rows = rows; are = are; lines = cut.lines; within = cut.within; kept = cut.kept; is = refl } }) cut.part cut.cause (record { same = refl; fine = refl })

pub returns : goal.returns
returns g c = λ told faults taken bytes name is.
    let p = process_in c.args.proc.now in
    let nothing : IsNothing (g.O.Sink.held c.args.out.now) (g.O.Sink.held c.put_log.new.out) (g.O.Sink.faults c.args.out.now) (g.O.Sink.faults c.put_log.new.out) = rw c.in-Err-NoMemory.field-0-is at c.in-Err-NoMemory.ensures in
    wants_memory (record { of = run_stages name; loaded = bytes ∷ c.args.text.now ∷ []; loads = [] }) _ _ _ _ (record { same = nothing.same; fine = nothing.fine }) refl c.complain_memory.ensures
