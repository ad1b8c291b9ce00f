-- The exchanges of one cycle, by what comes in and goes out on each port.
use Rattle.std.specs.Prelude.{ℕ, ◌+◌, ◌&&◌, Bool, false, List, [], ◌∷◌}
use Rattle.anvil_bits.specs.Operators.{truth}
use Rattle.core_term.specs.declared.rows.InCell.{InCell}
use Rattle.core_term.specs.declared.rows.InCell.TheVariants as incoming
use Rattle.core_term.specs.declared.rows.OutCell.{OutCell}
use Rattle.core_term.specs.declared.rows.OutCell.TheVariants as outgoing

-- both are of one side, with `valid` and `ack`
abbrev pub is_met : InCell → OutCell → Bool
is_met (incoming.Received valid number) (outgoing.Received ack) = valid && ack
is_met (incoming.Received valid number) (outgoing.Sent other value) = false
is_met (incoming.Sent ack) (outgoing.Received other) = false
is_met (incoming.Sent ack) (outgoing.Sent valid number) = valid && ack

-- on how many ports
abbrev pub meetings : List InCell → List OutCell → ℕ
meetings [] goes = 0
meetings (came ∷ rest) [] = 0
meetings (came ∷ rest) (goes ∷ others) = truth (is_met came goes) + meetings rest others
