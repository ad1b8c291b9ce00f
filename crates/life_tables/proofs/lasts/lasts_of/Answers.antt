-- One site more; at the end each send has its table.
use Rattle.std.proofs.Common.{◌<◌, ◌≤◌, refl, sym, ap, arith, length}
use Rattle.std.proofs.lemmas.Option.{slice_get_read}
use Rattle.core_term.specs.Numbering.{size}
use Rattle.demand_checks.specs.Deeds.{deed_or}
use Rattle.life_tables.specs.declared.lasts.Setting.{Setting}
use Rattle.life_tables.specs.Lives.{body_in}
use Rattle.life_tables.proofs.EndsAdded.{no_widths}
use Rattle.life_tables.proofs.LastsFilled.{next_site, all_sites}
use Rattle.life_tables.proofs.lasts.lasts_of.Goals as goal

pub index-requires : goal.index-requires
index-requires c =
    let deeds = c.in_ok-deeds.deeds in
    let whole = deeds.ok.0 in
    let count = (c.in_ok-deeds.ensures.deeds no_widths).count in
    let acts = c.count-site-end.ensures.size no_widths in
    let test = c.loop-site-test.true in
    omega arith

pub loop-site-preserved : goal.loop-site-preserved
loop-site-preserved c =
    let setting : Setting = record { arena = c.args.arena; proc = c.args.proc; thread = c.args.thread; elab = c.args.elab; order = c.args.order } in
    let deeds = c.in_ok-deeds.deeds.items in
    let site = c.loop-site.site in
    let count = (c.in_ok-deeds.ensures.deeds no_widths).count in
    let acts = c.count-site-end.ensures.size no_widths in
    let test = c.loop-site-test.true in
    let inside : site < length deeds = omega arith in
    let here = sym (ap deed_or (slice_get_read deeds (length deeds) site c.index.result.now refl inside c.index.ensures)) in
    next_site setting deeds site c.loop-site.lasts c.add_act.new.lasts c.index.result.now here c.loop-site.invariant c.in_ok-add_act.ensures.added c.in_ok-add_act.ensures.others

pub returns : goal.returns
returns c = λ widths.
    let setting : Setting = record { arena = c.args.arena; proc = c.args.proc; thread = c.args.thread; elab = c.args.elab; order = c.args.order } in
    let acts = c.count-site-end.ensures.size widths in
    let done = c.loop-site-test.false in
    let past : size (body_in widths setting) ≤ c.loop-site.site = omega arith in
    all_sites setting widths c.in_ok-deeds.deeds.items (c.in_ok-deeds.ensures.numbered widths) (c.in_ok-deeds.ensures.deeds widths) c.loop-site.site c.loop-site.lasts past c.loop-site.invariant
