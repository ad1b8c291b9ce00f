-- One end more of the life.
use Rattle.std.proofs.Common.{◌≤◌, arith, sym, take_all, ap, ◌∙◌, length}
use Rattle.core_term.specs.View.{term_of}
use Rattle.core_term.specs.Process.{life_of}
use Rattle.core_term.specs.AcceptedFile.{process_in}
use Rattle.event_points.specs.Nodes.{node_of}
use Rattle.event_points.specs.Endings.{endings}
use Rattle.lifetimes.specs.Ends.{endings_of}
use Rattle.life_tables.proofs.EndsAdded.{life_step}
use Rattle.life_tables.proofs.LastsFilled.{no_life}
use Rattle.life_tables.proofs.ends.port_ends.Goals as goal

pub loop-index-preserved : goal.loop-index-preserved
loop-index-preserved c = λ widths.
    life_step (term_of widths c.args.thread.now) (life_of (process_in c.args.proc.now) c.args.port) c.loop-index.index _ c.end.ensures c.loop-index.ends.items _ (c.loop-index.invariant widths) (c.in_ok-add_end.ensures widths)

pub returns : goal.returns
returns c = λ widths.
    let body = term_of widths c.args.thread.now in
    let lives = life_of (process_in c.args.proc.now) c.args.port in
    let count = c.end_count-index-end.ensures in
    let done = c.loop-index-test.false in
    let past : length lives ≤ c.loop-index.index = omega arith in
    ap endings_of c.into_bump_slice.ensures ∙ (c.loop-index.invariant widths ∙ ap (endings body (node_of body)) (take_all c.loop-index.index lives past))

pub returns-then-port-len : goal.returns-then-port-len
returns-then-port-len c = λ widths.
    let body = term_of widths c.args.thread.now in
    let ports = c.args.proc.now.ports in
    let count = c.len.ensures in
    let whole = ports.ok.0 in
    let test = c.if-port-len.true in
    let past : length ports.items ≤ c.args.port = omega arith in
    sym (ap (endings body (node_of body)) (no_life ports.items c.args.port past))
