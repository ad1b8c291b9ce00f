-- The nodes of the tail are those that are reached back from the end of the body through the forms Same, Join and
-- Merge.
--
-- So a machine finds them without the text, by one loop downwards over the nodes.
use Rattle.std.specs.Prelude.{ℕ, ◌≡◌, ◌↔◌, Bool, true}
use Rattle.order_rules.specs.Form.{Form, Same, Join, Merge}
use Rattle.core_term.specs.Term.{Term, site, head}
use Rattle.core_term.specs.Points.{Spot, TermEnd}
use Rattle.core_term.specs.Graph.{StandsOnce}
use Rattle.turn_machine.specs.OneTurn.{IsTurnBody, turn_graph}

-- reached back from the node last
pub data IsReached (form : ℕ → Form ℕ) (last : ℕ) : ℕ → Type 0 where
  at_last : IsReached form last last
  by_same : {node from : ℕ} → form node ≡ Same from → IsReached form last node → IsReached form last from
  by_join : {node first second : ℕ} → form node ≡ Join first second → IsReached form last node
      → IsReached form last first
  by_other_join : {node first second : ℕ} → form node ≡ Join first second → IsReached form last node
      → IsReached form last second
  by_merge : {node first second : ℕ} → form node ≡ Merge first second → IsReached form last node
      → IsReached form last first
  by_other_merge : {node first second : ℕ} → form node ≡ Merge first second → IsReached form last node
      → IsReached form last second

abbrev pub TailIsReached : Type 0
TailIsReached =
    (body : Term) → IsTurnBody body
    → (form : ℕ → Form ℕ) (apart : ℕ → ℕ → Bool) (node_of : Spot → ℕ) → StandsOnce body form apart node_of
    → (node : ℕ) → (turn_graph body form node_of).live node ≡ true
    → ((turn_graph body form node_of).tail node ≡ true) ↔ IsReached form (node_of (TermEnd (site (head body)))) node
