use Rattle.std.proofs.Common.{◌≡◌, arith, length, map, ap, sym, ◌∙◌, Some}
use Rattle.std.specs.List.{slice_get}
use Rattle.core_term.specs.Process.{nth_port}
use Rattle.core_term.specs.ProcessView.{port_of, end_of_life}
use Rattle.core_term.proofs.code_tables.Ports.{end_at, one_end}
use Rattle.core_term.proofs.process.CoreProc.end.Goals as goal

pub returns : goal.returns
returns c =
    let ports = c.args.self.now.ports.items in
    let few : 1 ≡ length (nth_port (map port_of ports) c.args.port).life = one_end ports c.args.port c.requires.port in
    let first : c.args.index ≡ 0 = let by_index = c.requires.index in omega arith in
    ap (λ i. slice_get (nth_port (map port_of ports) c.args.port).life i) first
    ∙ (end_at ports c.args.port c.index.result.now c.requires.port ∙ ap (λ port. Some (end_of_life port.life)) (sym c.index.ensures))
