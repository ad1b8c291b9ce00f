-- The endpoints so far are read, and the checks of those that are left decide.
use Rattle.std.proofs.Common.{drop}
use Rattle.width_check.proofs.EndpointSteps.{Standing}
use Rattle.width_check.proofs.endpoints.read_endpoints.Given as goal

abbrev pub invariant-loop-endpoint : goal.invariant-loop-endpoint
invariant-loop-endpoint l = Standing l.classes l.fn.endpoints l.names.keys l.table (drop l.endpoint-index l.fn.endpoints)
