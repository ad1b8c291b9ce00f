-- The nodes stay those of a graph, whether the node was pushed or not.
use Rattle.std.proofs.Common.{◌≡◌, ℕ, List, length, subst, sym, arith}
use Rattle.event_graph.proofs.Drawn.{still_drawn, length_events}
use Rattle.event_graph.specs.Event.{Event, events_of, ArePreds}
use Rattle.event_graph.proofs.builder.Builder.add.Goals as goal

pub invariant_of-self : goal.invariant_of-self
invariant_of-self c =
    let old = c.self.inside.nodes.items in
    let seen : events_of old ≡ c.args.self.now = c.self.view_is in
    let Given : List Event → Type 0 = λ events. ArePreds c.args.kind (length events) c.args.preds.now in
    let Copied : List ℕ → Type 0 = λ preds. ArePreds c.args.kind (length (events_of old)) preds in
    let preds = subst Copied (sym c.in-Ok.ensures) (subst Given (sym seen) c.requires) in
    still_drawn old _ _ _ c.push.ensures.items (omega (arith, length_events old)) c.self.invariant.1 preds
