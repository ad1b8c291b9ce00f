-- Each item goes by as the invariant says, by the lemmas of `FileSteps`.
use Rattle.std.proofs.Common.{◌+◌, ap, sym, drop, map}
use Rattle.anvil_tree.specs.View.{file_of, process_of, class_of, item_of}
use Rattle.width_check.proofs.FileSteps.{begins, past_class, past_process, process_stops, next, ends}
use Rattle.width_check.proofs.files.resolve.Goals as goal
use Rattle.width_check.proofs.files.resolve.Goals.{in-Chan, in-Proc+in-Ok+in-Ok-insert+in-Ok-push}

pub loop-item-init : goal.loop-item-init
loop-item-init c =
    begins c.args.classes.now (file_of c.args.file.now) c.new-names.result.keys c.new-procs.result.items c.new-names.ensures.empty c.new-procs.ensures.items
    c.requires.few c.requires.in_order

pub read_process-requires-clause-classes : goal.read_process-requires-clause-classes
read_process-requires-clause-classes c =
    record { file = file_of c.args.file.now; are = c.requires.classes; pass = c.requires.pass; few = c.requires.few }

pub read_process-requires-clause-few : goal.read_process-requires-clause-few
read_process-requires-clause-few c =
    let at = rw c.in-Proc.is at (next c.args.classes.now (file_of c.args.file.now) c.loop-item.names.keys c.loop-item.procs.items c.deref-item-items.result.now c.loop-item.item-index c.item-item.result
    (ap (map item_of) (sym c.deref-item-items.ensures.value)) c.loop-item-test.true c.item-item.is c.loop-item.invariant) in
    at.few.0

pub read_process-requires-clause-in_order : goal.read_process-requires-clause-in_order
read_process-requires-clause-in_order c =
    let at = rw c.in-Proc.is at (next c.args.classes.now (file_of c.args.file.now) c.loop-item.names.keys c.loop-item.procs.items c.deref-item-items.result.now c.loop-item.item-index c.item-item.result
    (ap (map item_of) (sym c.deref-item-items.ensures.value)) c.loop-item-test.true c.item-item.is c.loop-item.invariant) in
    at.in_order.0

pub returns-in-Err : goal.returns-in-Err
returns-in-Err c =
    let at = rw c.in-Proc.is at (next c.args.classes.now (file_of c.args.file.now) c.loop-item.names.keys c.loop-item.procs.items c.deref-item-items.result.now c.loop-item.item-index c.item-item.result
    (ap (map item_of) (sym c.deref-item-items.ensures.value)) c.loop-item-test.true c.item-item.is c.loop-item.invariant) in
    let why = process_stops c.args.classes.now (file_of c.args.file.now) c.loop-item.names.keys c.loop-item.procs.items (process_of c.in-Proc.process) (drop (c.loop-item.item-index + 1) (file_of c.args.file.now)) c.in-Err.fault at
    c.in-Err.ensures in
    rw c.requires.classes at why

pub loop-item-preserved : goal.loop-item-preserved
loop-item-preserved c =
    let at = next c.args.classes.now (file_of c.args.file.now) c.loop-item.names.keys c.loop-item.procs.items c.deref-item-items.result.now c.loop-item.item-index c.item-item.result
    (ap (map item_of) (sym c.deref-item-items.ensures.value)) c.loop-item-test.true c.item-item.is c.loop-item.invariant in
    let rest = drop (c.loop-item.item-index + 1) (file_of c.args.file.now) in
    elim c.match-item.branch [
      | in-Chan w ↦ rw (w.names-is, w.procs-is) (past_class c.args.classes.now (file_of c.args.file.now) c.loop-item.names.keys c.loop-item.procs.items (class_of w.in-Chan.field-0) rest (rw w.in-Chan.is at at))
      | in-Proc+in-Ok+in-Ok-insert+in-Ok-push w ↦ rw (w.names-is, w.procs-is)
          (past_process c.args.classes.now (file_of c.args.file.now) c.loop-item.names.keys w.insert.new.self.keys c.loop-item.procs.items w.push.new.items.items (process_of w.in-Proc.process) w.in-Ok.read rest (rw w.in-Proc.is at at)
          w.in-Ok.ensures (rw w.copy.ensures at w.in-Ok-insert.ensures.keys) w.in-Ok-push.ensures)
    ]

pub returns : goal.returns
returns c =
    let resolved =
    ends (file_of c.args.file.now) c.loop-item.names.keys c.loop-item.procs.items c.deref-item-items.result.now c.loop-item.item-index
    (ap (map item_of) (sym c.deref-item-items.ensures.value)) c.loop-item-test.false c.requires.pass c.requires.few c.requires.in_order
    (rw c.requires.classes at c.loop-item.invariant) in
    (resolved.passes, resolved.same, resolved.few, resolved.differ)
