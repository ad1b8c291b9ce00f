-- The fields of the ports so far were put whole.
use Rattle.std.proofs.Common.{flat_map, take}
use Rattle.std.specs.List.{enumerate_from}
use Rattle.stim_text.specs.LogLine.{fields_of, gapped}
use Rattle.stim_text.proofs.PutParts.{LinesPut}
use Rattle.stim_text.proofs.log.put_ports.Given as goal

abbrev pub invariant-loop-index : goal.invariant-loop-index
invariant-loop-index g l = LinesPut (g.W.Sink.held l.fn.to) (g.W.Sink.held l.to) (g.W.Sink.faults l.fn.to) (g.W.Sink.faults l.to) (flat_map gapped (take l.index (enumerate_from 0 (fields_of l.ports l.cells l.outs l.shown))))
