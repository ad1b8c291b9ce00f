use Rattle.event_points.specs.Table.{arms_in}
use Rattle.event_points.specs.Nodes.{first_table}
use Rattle.event_points.proofs.InTable.{body_told}
use Rattle.event_points.proofs.TextOrder.{arms_of_sides}
use Rattle.event_points.proofs.laws.sides_have_arms.Goals as goal

pub returns : goal.returns
returns c = λ body n scope u s. arms_of_sides 1 (arms_in 1 (first_table body)) body (body_told 1 1 0 body n).1 scope u s
