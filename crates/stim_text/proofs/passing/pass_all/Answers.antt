-- One port more goes on.
use Rattle.std.proofs.Common.{◌≡◌, ◌+◌, ◌<◌, ◌≤◌, ◌∙◌, refl, sym, subst, ap, arith, length, map, ℕ, Bool, true, false, nat_lt, List, Some}
use Rattle.std.proofs.lemmas.Bool.Decides.{nat_tests}
use Rattle.std.specs.List.{slice_get}
use Rattle.std.specs.Prelude.{slice_index_or}
use Rattle.core_term.specs.Process.{LifeEnd}
use Rattle.core_term.specs.ProcessView.{end_of_life}
use Rattle.exchanges.specs.Next.{Bounded, next}
use Rattle.core_term.specs.declared.rows.InCell.{InCell}
use Rattle.core_term.specs.declared.rows.OutCell.{OutCell}
use Rattle.stim_text.specs.LogLine.{wires_at}
use Rattle.stim_text.specs.Passing.{all_next as latests_next}
use Rattle.stim_text.proofs.Filling.{fill_step, fill_done, rest_step, still_at, nexts_count, nexts_at, get_within, same_found}
use Rattle.stim_text.proofs.passing.pass_all.Goals as goal

pub loop-index-preserved : goal.loop-index-preserved
loop-index-preserved c =
    let lives = c.args.lives.now in
    let count = nexts_count c.args.exchanged.now c.args.exchanged.now lives c.args.cells.now c.args.outs.now c.args.latests.now c.requires.exchanged c.requires.cells c.requires.outs c.requires.latests in
    let less : c.loop-index.index < length c.loop-index.latests = omega (arith, c.loop-index.auto.latests) in
    let still = still_at c.loop-index.latests c.args.latests.now c.loop-index.index c.index-latests-index.result less c.loop-index.auto.latests c.loop-index.invariant.rest c.index-latests-index.is in
    let here =
    nexts_at c.args.exchanged.now c.args.exchanged.now lives c.args.cells.now c.args.outs.now c.args.latests.now c.loop-index.index (map end_of_life c.ends-ends.result.now) c.index-cells-index.result c.index-outs-index.result c.index-latests-index.result c.after.result
    c.requires.exchanged c.requires.cells c.requires.outs c.requires.latests (omega (arith, c.requires.latests)) c.ends-ends.ensures c.index-cells-index.is c.index-outs-index.is still in
    record {
      done = fill_step c.loop-index.latests (latests_next c.args.exchanged.now c.args.exchanged.now lives c.args.cells.now c.args.outs.now c.args.latests.now) c.loop-index.index (c.loop-index.index + 1) c.after.result (omega arith) less
          (omega (arith, c.loop-index.auto.latests, c.requires.latests, count)) c.loop-index.invariant.done
          (here ∙ (ap (λ number. next c.args.exchanged.now (map end_of_life c.ends-ends.result.now) (slice_index_or c.args.exchanged.now c.loop-index.index false) number c.index-latests-index.result) (sym c.data_of-number.ensures) ∙ sym c.after.ensures.next));
      rest = rest_step c.loop-index.latests c.args.latests.now c.loop-index.index (c.loop-index.index + 1) c.after.result (omega arith) less c.loop-index.auto.latests c.loop-index.invariant.rest;
      bounded = λ port life less there. bound c port life less there (nat_lt port c.loop-index.index) refl;
    }
  where
    bound : (c : goal.After-after) (port : ℕ) (life : List LifeEnd) → port < c.loop-index.index + 1 → slice_get c.args.lives.now port ≡ Some life → (b : Bool) → nat_lt port c.loop-index.index ≡ b → Bounded life
    bound c port life less there true test = let before : port < c.loop-index.index = grind (arith, nat_tests) in c.loop-index.invariant.bounded port life before there
    bound c port life less there false test =
        let since : c.loop-index.index ≤ port = grind (arith, nat_tests) in
        let here : port ≡ c.loop-index.index = omega arith in
        let found : slice_get c.args.lives.now c.loop-index.index ≡ Some life = ap (slice_get c.args.lives.now) (sym here) ∙ there in
        let same : map end_of_life c.ends-ends.result.now ≡ life = same_found (sym c.ends-ends.ensures ∙ found) in
        subst Bounded same c.after.ensures.bounded

pub returns-clause-next : goal.returns-clause-next
returns-clause-next c =
    let lives = c.args.lives.now in
    let count = nexts_count c.args.exchanged.now c.args.exchanged.now lives c.args.cells.now c.args.outs.now c.args.latests.now c.requires.exchanged c.requires.cells c.requires.outs c.requires.latests in
    fill_done c.loop-index.latests (latests_next c.args.exchanged.now c.args.exchanged.now lives c.args.cells.now c.args.outs.now c.args.latests.now) c.loop-index.index (omega (arith, c.loop-index.auto.latests, c.loop-index-test.false))
    (omega (arith, c.loop-index.auto.latests, c.requires.latests, count)) c.loop-index.invariant.done

pub returns-clause-bounded : goal.returns-clause-bounded
returns-clause-bounded c = λ port life there.
    let within : port < length c.args.lives.now = get_within c.args.lives.now port life there in
    c.loop-index.invariant.bounded port life (omega (arith, c.loop-index.auto.latests, c.requires.latests, c.loop-index-test.false)) there
