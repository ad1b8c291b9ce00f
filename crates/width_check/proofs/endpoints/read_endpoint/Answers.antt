use Rattle.std.proofs.Common.{sym, subst}
use Rattle.std.specs.List.{AllByRecursion}
use Rattle.width_check.specs.ReadEndpoints.{EndsWithin}
use Rattle.width_check.proofs.EndpointSteps.{messages_within}
use Rattle.width_check.proofs.endpoints.read_endpoint.Goals as goal

pub push_ports-requires-clause-within : goal.push_ports-requires-clause-within
push_ports-requires-clause-within c =
    subst (AllByRecursion EndsWithin) (sym c.in-Some.ensures.1) (messages_within c.args.classes.now c.args.endpoint.now.class c.requires)
