-- One end more is looked at.
use Rattle.std.proofs.Common.{◌≡◌, ℕ, ◌≤◌, ap, sym, subst, arith, List, length, take, take_all}
use Rattle.order_rules.specs.Last.{Ending}
use Rattle.lifetimes.specs.declared.life.End.{End}
use Rattle.lifetimes.specs.Ends.{endings_of}
use Rattle.lifetimes.specs.Tables.{AreEndsFrom, AreShort}
use Rattle.lifetimes.proofs.Rows.{endings_step, short_step}
use Rattle.lifetimes.proofs.ends.add_ends.Goals as goal

pub loop-end-preserved : goal.loop-end-preserved
loop-end-preserved c =
    let ends = c.args.life.now.ends.now in
    let k = c.loop-end.end-index in
    let before = c.loop-end.invariant in
    let same = c.add_end.auto.row in
    let step = sym (endings_step ends k _ c.loop-end-test.true) in
    let Said : List (Ending ℕ) → Type 0 = λ seen. AreEndsFrom 0 c.args.graph.now c.args.life.now.from seen c.add_end.new.row in (
      omega arith,
      subst Said step (c.add_end.ensures.said (endings_of (take k ends)) before.1),
      subst AreShort step (short_step (endings_of (take k ends)) _ before.2 c.add_end.ensures.short),
    )

all_ends : (ends : List End) (k : ℕ) → length ends ≤ k → endings_of (take k ends) ≡ endings_of ends
all_ends ends k past = ap endings_of (take_all k ends past)

pub returns-clause-said : goal.returns-clause-said
returns-clause-said c =
    let Said : List (Ending ℕ) → Type 0 = λ seen. AreEndsFrom 0 c.args.graph.now c.args.life.now.from seen c.loop-end.row in
    subst Said (all_ends c.args.life.now.ends.now c.loop-end.end-index c.loop-end-test.false) c.loop-end.invariant.1

pub returns-clause-short : goal.returns-clause-short
returns-clause-short c = subst AreShort (all_ends c.args.life.now.ends.now c.loop-end.end-index c.loop-end-test.false) c.loop-end.invariant.2
