use Rattle.std.proofs.Common.{sym, subst}
use Rattle.accepted_file.proofs.CountingAccepted.{Counts, one_thread}
use Rattle.accepted_file.proofs.accepted_example.accepted_counter.Goals as goal

pub of-requires-3 : goal.of-requires-3
of-requires-3 c =
    one_thread _ _ _ _ _ c.in_ok-push-3.ensures.items c.new-procs.ensures.items c.in_ok-push.ensures.items c.new-threads.ensures.items
    (subst Counts (sym c.in_ok-new.ensures) (0, c.in_ok-counting_body.ensures.term))
