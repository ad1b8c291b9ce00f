-- What the fields so far and the text that is left give is what the whole line gives.
use Rattle.std.proofs.Common.{◌≡◌, [], true, map, drop, ◌==◌}
use Rattle.core_term.specs.ProcessView.{port_of}
use Rattle.stim_text.specs.Fields.{fields_from}
use Rattle.stim_text.proofs.fields.read_row.Given as goal

abbrev pub invariant-loop-index : goal.invariant-loop-index
invariant-loop-index l = fields_from (map port_of (drop l.index l.ports)) (l.index == 0) l.cells.items l.rest ≡ fields_from (map port_of l.ports) true [] l.line
