-- The next lag takes its place in the row, and what the ends say of later events stays.
use Rattle.std.proofs.Common.{◌≡◌, ◌<◌, ◌∙◌, ℕ, refl, subst, arith, length, length-set}
use Rattle.lifetimes.specs.Ends.{endings_of}
use Rattle.lifetimes.specs.Tables.{IsFilledTo}
use Rattle.lifetimes.proofs.Rows.{filled_next, ends_next}
use Rattle.lifetimes.proofs.row.go_on.Goals as goal

pub loop-event-preserved : goal.loop-event-preserved
loop-event-preserved c =
    let graph = c.args.graph.now in
    let from = c.args.life.now.from in
    let ends = endings_of c.args.life.now.ends.now in
    let event = c.loop-event.event in
    let row = c.loop-event.row in
    let before = c.loop-event.invariant in
    let count = c.count-event-end.ensures.count in
    let test = c.loop-event-test.true in
    let whole = before.0 in
    let within : event < length row = omega arith in
    let same = length-set row event c.next_lag.result in (
      same ∙ whole,
      ends_next graph from ends event row _ c.next_lag.result same refl before.1,
      filled_next graph from ends event row _ c.next_lag.result within refl before.2 c.next_lag.ensures,
    )

pub returns : goal.returns
returns c =
    let count = c.count-event-end.ensures.count in
    let done = c.loop-event-test.false in
    let last = c.loop-event.auto.event-end in
    let all : c.loop-event.event ≡ length c.args.graph.now = omega arith in
    let Filled : ℕ → Type 0 = λ to. IsFilledTo to c.args.graph.now c.args.life.now.from (endings_of c.args.life.now.ends.now) c.loop-event.row in
    subst Filled all c.loop-event.invariant.2
