-- No row so far is spelled so.
use Rattle.std.proofs.Common.{◌≡◌, map, drop}
use Rattle.anvil_lexer.specs.Scan.{spelled_in}
use Rattle.anvil_lexer.proofs.table.find.Given as goal

abbrev pub invariant-loop-row : goal.invariant-loop-row
invariant-loop-row g l = spelled_in (map (λ row. (row.0.now, row.1)) (drop l.row-index l.table)) l.text ≡ spelled_in
    (map (λ row. (row.0.now, row.1)) l.table) l.text
