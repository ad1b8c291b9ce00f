use Rattle.std.proofs.Common.{arith}
use Rattle.event_points.specs.Table.{node_in}
use Rattle.event_points.specs.Nodes.{first_table}
use Rattle.event_points.proofs.InTable.{body_told, body_begin}
use Rattle.event_points.proofs.TextOrder.{in_order}
use Rattle.event_points.proofs.laws.sides_in_text_order.Goals as goal

pub returns : goal.returns
returns c = λ body n b q p i l. in_order (node_in (first_table body)) 1 body n (body_told 1 1 0 body n).0 (let e = body_begin 1 1 0 body n in omega arith) b q p i l
