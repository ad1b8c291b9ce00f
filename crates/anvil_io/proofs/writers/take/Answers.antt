-- Where no room was left, a write that fails after what was kept was written adds a front part of the piece behind that.
use Rattle.std.proofs.Common.{ap}
use Rattle.std.specs.Prelude.{Result, Ok, Err, OnErr}
use Rattle.std.specs.Io.KnownBytes.{Appends}
use Rattle.anvil_io.proofs.PieceLemmas.{prefix_then}
use Rattle.anvil_io.proofs.writers.take.Goals as goal

-- what follows from a fact at `Err` holds at `Err`
on_err : {T E : Type 0} (result : Result T E) (P Q : Type 0) → (P → Q) → OnErr result P → OnErr result Q
on_err (Ok value) P Q next here = tt
on_err (Err error) P Q next here = next here

pub returns-in_default-clause-part : goal.returns-in_default-clause-part
returns-in_default-clause-part g c =
    let kept : Appends (g.W.Write.contents c.args.to.now) (g.W.Write.contents c.write_kept.new.to) c.args.line.now.items =
    rw (← ap (λ line. line.items) c.in_default.ensures.err) c.in_ok-write_kept.ensures.whole in
    on_err c.write_whole.result _ _ (λ part. prefix_then _ (g.W.Write.contents c.write_kept.new.to) _ _ _ kept part) c.write_whole.ensures.part
