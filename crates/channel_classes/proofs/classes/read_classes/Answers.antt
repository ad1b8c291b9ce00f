-- Each item goes by as the invariant says, by the lemmas of `Standing`.
use Rattle.std.proofs.Common.{◌∙◌, ◌+◌, ap, sym, drop, map, inl, inr, arith}
use Rattle.anvil_tree.specs.View.{file_of, class_of, process_of, item_of}
use Rattle.channel_classes.proofs.Standing.{past_process, past_class, class_stops, next}
use Rattle.channel_classes.proofs.classes.read_classes.Goals as goal
use Rattle.channel_classes.proofs.classes.read_classes.Goals.{in-Proc, in-Chan+in-Ok}

pub read_class-requires-clause-few : goal.read_class-requires-clause-few
read_class-requires-clause-few c =
    let at = rw c.in-Chan.is at (next (file_of c.args.file.now) c.loop-item.classes c.deref-item-items.result.now c.loop-item.item-index c.item-item.result
    (ap (map item_of) (sym c.deref-item-items.ensures.value)) c.loop-item-test.true c.item-item.is c.loop-item.invariant) in
    at.each.0

pub read_class-requires-clause-room : goal.read_class-requires-clause-room
read_class-requires-clause-room c =
    let at = rw c.in-Chan.is at (next (file_of c.args.file.now) c.loop-item.classes c.deref-item-items.result.now c.loop-item.item-index c.item-item.result
    (ap (map item_of) (sym c.deref-item-items.ensures.value)) c.loop-item-test.true c.item-item.is c.loop-item.invariant) in
    omega (arith, at.room)

pub returns-in-Err : goal.returns-in-Err
returns-in-Err c =
    let at = rw c.in-Chan.is at (next (file_of c.args.file.now) c.loop-item.classes c.deref-item-items.result.now c.loop-item.item-index c.item-item.result
    (ap (map item_of) (sym c.deref-item-items.ensures.value)) c.loop-item-test.true c.item-item.is c.loop-item.invariant) in
    elim c.in-Err.ensures [
      | inl none ↦ inl none
      | inr fails ↦ inr (class_stops (file_of c.args.file.now) c.loop-item.classes (class_of c.in-Chan.class) (drop (c.loop-item.item-index + 1) (file_of c.args.file.now)) c.in-Err.fault at fails)
    ]

pub loop-item-preserved : goal.loop-item-preserved
loop-item-preserved c =
    let at = next (file_of c.args.file.now) c.loop-item.classes c.deref-item-items.result.now c.loop-item.item-index c.item-item.result
    (ap (map item_of) (sym c.deref-item-items.ensures.value)) c.loop-item-test.true c.item-item.is c.loop-item.invariant in
    let rest = drop (c.loop-item.item-index + 1) (file_of c.args.file.now) in
    elim c.match-item.branch [
      | in-Proc w ↦ rw w.classes-is (past_process (file_of c.args.file.now) c.loop-item.classes (process_of w.in-Proc.field-0) rest (rw w.in-Proc.is at at))
      | in-Chan+in-Ok w ↦ past_class (file_of c.args.file.now) c.loop-item.classes c.match-item.classes (class_of w.in-Chan.class) rest (rw w.in-Chan.is at at) w.in-Ok.ensures.0 (w.classes-is ∙ w.in-Ok.ensures.1)
    ]
