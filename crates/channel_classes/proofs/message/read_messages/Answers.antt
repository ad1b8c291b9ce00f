-- One message more, and one that fails.
use Rattle.std.proofs.Common.{◌∙◌, [], ◌∷◌, ◌++◌, inr, ap}
use Rattle.channel_classes.proofs.Messages.{one_passes, one_stops, one_read}
use Rattle.channel_classes.proofs.message.read_messages.Goals as goal

pub returns-in-Err : goal.returns-in-Err
returns-in-Err c =
    inr (c.loop-index.invariant.0 ∙ one_stops c.args.messages.now c.loop-index.index c.index-messages-index.result c.in-Err.fault c.loop-index-test.true c.index-messages-index.is c.in-Err.ensures)

pub loop-index-preserved : goal.loop-index-preserved
loop-index-preserved c =
    let all = c.args.messages.now in
    let read = one_read all c.loop-index.index c.index-messages-index.result c.loop-index.read.items c.loop-index-test.true c.index-messages-index.is c.loop-index.invariant.1 in (
      c.loop-index.invariant.0 ∙ one_passes all c.loop-index.index c.index-messages-index.result c.loop-index-test.true c.index-messages-index.is c.in-Ok.ensures.0,
      c.in-Ok-push.ensures.items ∙ ap (λ m. c.loop-index.read.items ++ (m ∷ [])) c.in-Ok.ensures.1 ∙ read,
    )
