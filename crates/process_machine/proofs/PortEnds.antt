-- An act on a port ends where its wire is 1, and no later than any such cycle of the list from its begin on.
use Rattle.std.proofs.Common.{◌≡◌, ℕ, ◌-◌, ◌<◌, ◌≤◌, arith, ap, [], ◌∷◌, true, Some}
use Rattle.core_term.specs.Inputs.{Inputs}
use Rattle.core_term.specs.Term.{Act, Cycle, Set, Send, Recv, If, When, Block, Wait, Pure, Nothing}
use Rattle.core_term.specs.Value.{Value, Outcome, Done, Wire, nothing}
use Rattle.core_term.specs.Ends.{Sees, act_ends, found}
use Rattle.core_term.specs.Acts.{OnPort, Sends}
use Rattle.run_laws.specs.TurnLaws.{answer}
use Rattle.run_laws.proofs.source_runs.Offers.{first_by, found_is}

-- a `send` is an act on its port
pub on_its_port : (act : Act) (port : ℕ) → Sends act port → OnPort act port
on_its_port (Send p target value) port sends = sends
on_its_port (Recv p source) port sends = elim sends [ ]
on_its_port (Cycle p count) port sends = elim sends [ ]
on_its_port (Set p register value) port sends = elim sends [ ]
on_its_port (If p condition first second valued) port sends = elim sends [ ]
on_its_port (When p condition first) port sends = elim sends [ ]
on_its_port (Block p inner) port sends = elim sends [ ]
on_its_port (Wait p variable) port sends = elim sends [ ]
on_its_port (Pure p value) port sends = elim sends [ ]
on_its_port (Nothing p) port sends = elim sends [ ]

module _ (inputs : Inputs) (view : Sees) where
  pub port_answered : (scope : ℕ → Outcome) (start port : ℕ) (act : Act) (end : ℕ) (value : Value) → OnPort act port → act_ends inputs view scope start act ≡ Done end value → (answer inputs act end ≡ true) × (start ≤ end)
  port_answered scope start port (Send p target used) end value on ends = let first = found_is (inputs.ack target) start (inputs.count - start) (λ cycle. nothing) end value ends in (first.0, first.2)
  port_answered scope start port (Recv p source) end value on ends = let first = found_is (inputs.valid source) start (inputs.count - start) _ end value ends in (first.0, first.2)
  port_answered scope start port (Cycle p count) end value on ends = elim on [ ]
  port_answered scope start port (Set p register used) end value on ends = elim on [ ]
  port_answered scope start port (If p condition first second valued) end value on ends = elim on [ ]
  port_answered scope start port (When p condition first) end value on ends = elim on [ ]
  port_answered scope start port (Block p inner) end value on ends = elim on [ ]
  port_answered scope start port (Wait p variable) end value on ends = elim on [ ]
  port_answered scope start port (Pure p used) end value on ends = elim on [ ]
  port_answered scope start port (Nothing p) end value on ends = elim on [ ]

  found_some : (option : _) (cycle : ℕ) (value : ℕ → Value) → option ≡ Some cycle → found option value ≡ Done cycle (value cycle)
  found_some option cycle value some = ap (λ option. found option value) some

  pub port_ends_by : (scope : ℕ → Outcome) (start port : ℕ) (act : Act) (cycle : ℕ) → OnPort act port → start ≤ cycle → cycle < inputs.count → answer inputs act cycle ≡ true → (end : ℕ) × (value : Value) × (end ≤ cycle) × (act_ends inputs view scope start act ≡ Done end value)
  port_ends_by scope start port (Send p target used) cycle on since within answered =
      let first = first_by (inputs.ack target) start (inputs.count - start) cycle since (omega arith) answered in (first.0, nothing, first.1, found_some _ first.0 (λ cycle. nothing) first.2)
  port_ends_by scope start port (Recv p source) cycle on since within answered =
      let first = first_by (inputs.valid source) start (inputs.count - start) cycle since (omega arith) answered in
      (first.0, _, first.1, found_some _ first.0 (λ cycle. record { number = inputs.data_at source cycle; atoms = Wire source cycle ∷ [] }) first.2)
  port_ends_by scope start port (Cycle p count) cycle on since within answered = elim on [ ]
  port_ends_by scope start port (Set p register used) cycle on since within answered = elim on [ ]
  port_ends_by scope start port (If p condition first second valued) cycle on since within answered = elim on [ ]
  port_ends_by scope start port (When p condition first) cycle on since within answered = elim on [ ]
  port_ends_by scope start port (Block p inner) cycle on since within answered = elim on [ ]
  port_ends_by scope start port (Wait p variable) cycle on since within answered = elim on [ ]
  port_ends_by scope start port (Pure p used) cycle on since within answered = elim on [ ]
  port_ends_by scope start port (Nothing p) cycle on since within answered = elim on [ ]
