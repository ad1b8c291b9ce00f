-- One endpoint more, and one that fails.
use Rattle.std.proofs.Common.{◌+◌, drop}
use Rattle.width_check.proofs.EndpointSteps.{past, one_fails, next}
use Rattle.width_check.proofs.endpoints.read_endpoints.Goals as goal

pub returns-in-Err : goal.returns-in-Err
returns-in-Err c =
    let all = c.args.endpoints.now in
    one_fails c.args.classes.now all c.loop-endpoint.names.keys c.loop-endpoint.table c.endpoint-item.result (drop (c.loop-endpoint.endpoint-index + 1) all) c.in-Err.fault
    (next c.args.classes.now all c.loop-endpoint.names.keys c.loop-endpoint.table c.loop-endpoint.endpoint-index c.endpoint-item.result c.loop-endpoint-test.true
    c.endpoint-item.is c.loop-endpoint.invariant) c.in-Err.ensures

pub loop-endpoint-preserved : goal.loop-endpoint-preserved
loop-endpoint-preserved c =
    let all = c.args.endpoints.now in
    past c.args.classes.now all c.loop-endpoint.names.keys c.insert.new.self.keys c.loop-endpoint.table c.read_endpoint.new.table c.endpoint-item.result
    (drop (c.loop-endpoint.endpoint-index + 1) all)
    (next c.args.classes.now all c.loop-endpoint.names.keys c.loop-endpoint.table c.loop-endpoint.endpoint-index c.endpoint-item.result c.loop-endpoint-test.true
    c.endpoint-item.is c.loop-endpoint.invariant) c.in-Ok.ensures (rw c.copy.ensures at c.in-Ok-insert.ensures.keys)
