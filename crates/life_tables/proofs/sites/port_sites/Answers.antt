-- The body is numbered, and what is read off it are its sites on the port.
use Rattle.std.proofs.Common.{arith, subst, sym}
use Rattle.core_term.specs.View.{term_of}
use Rattle.life_tables.specs.Sites.{AreSites}
use Rattle.life_tables.proofs.SitesRead.{sites_read, sites_inside}
use Rattle.life_tables.proofs.sites.port_sites.Goals as goal

pub returns-clause-same : goal.returns-clause-same
returns-clause-same c = λ widths. grind (arith, c.in_ok-add_sites.ensures, c.body.ensures.same, c.new-sites.ensures.items, sites_read c.args.port widths c.args.thread.now)

pub returns-clause-inside : goal.returns-clause-inside
returns-clause-inside c = λ widths.
    let body = term_of widths c.args.thread.now in
    subst (AreSites body) (sym (returns-clause-same c widths)) (sites_inside c.args.port body (c.body.ensures.body.numbered widths))
