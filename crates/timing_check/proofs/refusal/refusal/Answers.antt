-- The violation is one of a thread of the file, and its sites are those of acts.
use Rattle.std.proofs.Common.{refl, arith, length}
use Rattle.std.proofs.lemmas.Option.{slice_get_read}
use Rattle.timing_check.proofs.Processes.{nth_below}
use Rattle.timing_check.proofs.Places.{thread_inside, sites_there, rejected}
use Rattle.timing_check.proofs.refusal.refusal.Goals as goal

pub index-requires : goal.index-requires
index-requires c =
    let procs = c.args.file.now.procs in
    let whole = procs.ok.0 in
    let below = nth_below procs.items c.args.found.now.process c.requires.process c.requires.is_process in
    omega arith

pub index-thread-requires : goal.index-thread-requires
index-thread-requires c =
    let procs = c.args.file.now.procs.items in
    let found = c.args.found.now in
    let proc = c.index.result.now in
    let at = slice_get_read procs (length procs) found.process proc refl (nth_below procs found.process c.requires.process c.requires.is_process) c.index.ensures in
    let whole = proc.threads.ok.0 in
    let below = thread_inside procs found c.requires proc at in
    omega arith

pub place-requires : goal.place-requires
place-requires c =
    let procs = c.args.file.now.procs.items in
    let found = c.args.found.now in
    let proc = c.index.result.now in
    let at = slice_get_read procs (length procs) found.process proc refl (nth_below procs found.process c.requires.process c.requires.is_process) c.index.ensures in
    let core = c.index-thread.result.now in
    let threads = proc.threads.items in
    let core_at = slice_get_read threads (length threads) found.found.thread core refl (thread_inside procs found c.requires proc at) c.index-thread.ensures in
    (sites_there procs found c.requires proc at core core_at c.body-body.ensures.body).0

pub place-requires-2 : goal.place-requires-2
place-requires-2 c =
    let procs = c.args.file.now.procs.items in
    let found = c.args.found.now in
    let proc = c.index.result.now in
    let at = slice_get_read procs (length procs) found.process proc refl (nth_below procs found.process c.requires.process c.requires.is_process) c.index.ensures in
    let core = c.index-thread.result.now in
    let threads = proc.threads.items in
    let core_at = slice_get_read threads (length threads) found.found.thread core refl (thread_inside procs found c.requires proc at) c.index-thread.ensures in
    (sites_there procs found c.requires proc at core core_at c.body-body.ensures.body).1

pub returns : goal.returns
returns c =
    let procs = c.args.file.now.procs.items in
    let found = c.args.found.now in
    let proc = c.index.result.now in
    let at = slice_get_read procs (length procs) found.process proc refl (nth_below procs found.process c.requires.process c.requires.is_process) c.index.ensures in
    let core = c.index-thread.result.now in
    let threads = proc.threads.items in
    let core_at = slice_get_read threads (length threads) found.found.thread core refl (thread_inside procs found c.requires proc at) c.index-thread.ensures in
    rejected procs found c.requires proc at core core_at c.body-body.ensures.body c.place.result c.place-2.result c.place.ensures c.place-2.ensures
