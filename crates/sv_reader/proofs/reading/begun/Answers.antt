-- A name that is not taken begins a module.
use Rattle.std.proofs.Common.{◌≡◌, ◌∙◌, ap, sym, false, map, Some}
use Rattle.std.specs.Prelude.{bytes_eq}
use Rattle.std.specs.List.{list_any}
use Rattle.sv_tree.specs.Module.{Module}
use Rattle.sv_lines.specs.Pieces.{◌>>=◌}
use Rattle.sv_lines.specs.State.{clock_wanted, inside}
use Rattle.sv_lines.specs.Step as step
use Rattle.sv_reader.proofs.reading.begun.Goals as goal

pub returns : goal.returns
returns c =
    let whole = c.args.whole.now in
    let fresh : list_any (bytes_eq c.in-Some.name) (map (λ (tree : Module). tree.proc) whole) ≡ false = cc in
    ap (λ found. found >>= step.begun whole) c.in-Some.ensures ∙ rw fresh (ap (λ draft. Some (inside whole draft clock_wanted)) (sym c.new.ensures))
