use Rattle.std.proofs.Common.{List, [], ◌∷◌, ◌++◌, length, ap, ◌∙◌}
use Rattle.event_graph.specs.Event.{Event}
use Rattle.event_points.specs.Nodes.{start, second_events}
use Rattle.core_term.specs.View.{term_of}
use Rattle.elaborator.proofs.Elaborates.{no_widths, room_left, once_is, twice_is, once_short, twice_short}
use Rattle.elaborator.proofs.elab.elaborate.Goals as goal

pub add_turn-requires-2-clause-begin : goal.add_turn-requires-2-clause-begin
add_turn-requires-2-clause-begin c = (room_left 1 _ (term_of no_widths c.args.thread.now) _ _ _ (c.in_ok-start.ensures.1 ∙ ap (λ (z : List Event). z ++ start ∷ []) c.new-builder.ensures) (c.in_ok-first.ensures no_widths)).0

pub add_turn-requires-2-clause-room : goal.add_turn-requires-2-clause-room
add_turn-requires-2-clause-room c = (room_left 1 _ (term_of no_widths c.args.thread.now) _ _ _ (c.in_ok-start.ensures.1 ∙ ap (λ (z : List Event). z ++ start ∷ []) c.new-builder.ensures) (c.in_ok-first.ensures no_widths)).1

pub returns-then-turns-eq1-clause-once : goal.returns-then-turns-eq1-clause-once
returns-then-turns-eq1-clause-once c = λ e w. once_is (term_of w c.args.thread.now) _ _ _ _ _ (c.in_ok-start.ensures.1 ∙ ap (λ (z : List Event). z ++ start ∷ []) c.new-builder.ensures) (c.in_ok-start.ensures.0 ∙ ap (λ (z : List Event). length z) c.new-builder.ensures) (c.in_ok-first.ensures w) c.finish.ensures

pub returns-then-turns-eq1-clause-short : goal.returns-then-turns-eq1-clause-short
returns-then-turns-eq1-clause-short c = once_short (term_of no_widths c.args.thread.now) _ _ _ _ _ (c.in_ok-start.ensures.1 ∙ ap (λ (z : List Event). z ++ start ∷ []) c.new-builder.ensures) (c.in_ok-first.ensures no_widths) c.finish.ensures

pub returns-clause-twice : goal.returns-clause-twice
returns-clause-twice c = λ e w. twice_is (term_of w c.args.thread.now) _ _ _ _ _ _ _ (c.in_ok-start.ensures.1 ∙ ap (λ (z : List Event). z ++ start ∷ []) c.new-builder.ensures) (c.in_ok-start.ensures.0 ∙ ap (λ (z : List Event). length z) c.new-builder.ensures) (c.in_ok-first.ensures w) (c.in_ok-second.ensures w) c.finish-2.ensures

pub returns-clause-short : goal.returns-clause-short
returns-clause-short c = twice_short (term_of no_widths c.args.thread.now) _ _ _ _ _ _ _ _ (c.in_ok-start.ensures.1 ∙ ap (λ (z : List Event). z ++ start ∷ []) c.new-builder.ensures) (c.in_ok-first.ensures no_widths) (c.in_ok-second.ensures no_widths) c.finish-2.ensures

-- the nodes of one turn are the first nodes
pub returns-clause-grows : goal.returns-clause-grows
returns-clause-grows c = λ e w. (second_events (term_of w c.args.thread.now), (twice_is (term_of w c.args.thread.now) _ _ _ _ _ _ _ (c.in_ok-start.ensures.1 ∙ ap (λ (z : List Event). z ++ start ∷ []) c.new-builder.ensures) (c.in_ok-start.ensures.0 ∙ ap (λ (z : List Event). length z) c.new-builder.ensures) (c.in_ok-first.ensures w) (c.in_ok-second.ensures w) c.finish-2.ensures).graph)
