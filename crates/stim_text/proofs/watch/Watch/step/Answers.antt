-- A cycle, in its parts: what the calls have made is gathered once, as `Taken`, and the laws of the watch speak of that.
use Rattle.std.proofs.Common.{◌≡◌, ◌∙◌, ◌++◌, ◌∷◌, [], refl, sym, subst, ap, List, true, ℕ}
use Rattle.core_term.specs.declared.rows.Row.{Row}
use Rattle.core_term.specs.declared.rows.OutRow.{OutRow}
use Rattle.core_term.specs.Process.{Process}
use Rattle.core_term.specs.Rows.{cells_fit}
use Rattle.exchanges.specs.Broken.{IsFirstBroken, NoneBroken}
use Rattle.stim_text.specs.Passing.{all_meet, all_show, all_next}
use Rattle.stim_text.specs.Watching.{Watching, StandsAfter, out_cells_fit}
use Rattle.stim_text.proofs.WatchSteps.{Taken, stands_later, broken_here, none_found, first_found}
use Rattle.stim_text.proofs.watch.Watch.step.Goals as goal

abbrev before : (c : goal.After-of) → Watching
before c = record { lives = c.self.inside.lives; latests = c.self.inside.latests.items; shown = c.self.inside.shown.items }

abbrev later : (c : goal.After-of) → Watching
later c = record { lives = c.self.inside.lives; latests = c.pass.new.latests.items; shown = c.show.new.shown.items }

taken : (c : goal.After-of) (p : Process) (rows : List Row) (outs : List OutRow) → cells_fit p.ports c.args.row.now.cells.items ≡ true → out_cells_fit p.ports c.args.out.now.cells.items ≡ true → StandsAfter p rows outs c.args.self.now
    → Taken p rows outs c.args.row.now c.args.out.now (before c) (later c)
taken c p rows outs fits out_fits stands = record {
  fits = fits;
  out_fits = out_fits;
  stands = subst (StandsAfter p rows outs) (sym c.self.view_is) stands;
  latest_count = c.self.invariant.latests;
  bounded = c.pass.ensures.bounded;
  lives = refl;
  shown = rw (c.as_slice-cells.ensures.value, c.as_slice-outs.ensures.value, c.as_slice.ensures.value) at c.show.ensures.next;
  latests = (rw (c.as_slice-cells.ensures.value, c.as_slice-outs.ensures.value, c.as_slice-3.ensures.value) at c.pass.ensures.next)
      ∙ ap (λ exchanged. all_next exchanged exchanged c.self.inside.lives c.args.row.now.cells.items c.args.out.now.cells.items c.self.inside.latests.items) (rw (c.as_slice-cells.ensures.value, c.as_slice-outs.ensures.value) at c.meet.ensures.next);
}

pub returns-clause-kept : goal.returns-clause-kept
returns-clause-kept c = λ p rows outs fits out_fits stands kept.
    let found = rw (c.as_slice-cells.ensures.value, c.as_slice-2.ensures.value) at c.first_broken-broken.ensures in
    let none : NoneBroken c.args.row.now.cells.items c.self.inside.latests.items = none_found c.first_broken-broken.result _ (IsFirstBroken c.args.row.now.cells.items c.self.inside.latests.items) found (sym c.of.ensures ∙ kept) in
    stands_later p rows outs c.args.row.now c.args.out.now (before c) (later c) (taken c p rows outs fits out_fits stands) none

pub returns-clause-broken : goal.returns-clause-broken
returns-clause-broken c = λ p rows outs port fits out_fits stands broken wires showing.
    let found = rw (c.as_slice-cells.ensures.value, c.as_slice-2.ensures.value) at c.first_broken-broken.ensures in
    let first : IsFirstBroken c.args.row.now.cells.items c.self.inside.latests.items port =
    first_found c.first_broken-broken.result (NoneBroken c.args.row.now.cells.items c.self.inside.latests.items) (IsFirstBroken c.args.row.now.cells.items c.self.inside.latests.items) port found (sym c.of.ensures ∙ broken) in
    broken_here p rows outs c.args.row.now c.args.out.now (before c) (later c) (taken c p rows outs fits out_fits stands) wires showing port first
