-- A row that fits the ports: at a received port stands a received cell of its width, and at a sent port a sent one.
use Rattle.std.proofs.Common.{◌≡◌, ℕ, zero, suc, ◌<◌, Bool, true, List, [], ◌∷◌, length, map, get_or, refl, subst, arith, IsTrue}
use Rattle.std.specs.Prelude.{Option, None, Some, slice_get, slice_index}
use Rattle.std.proofs.lemmas.Bool.{and_parts, eqb-true, false≢true}
use Rattle.anvil_bits.specs.Number.{Number}
use Rattle.core_term.specs.declared.rows.InCell.{InCell}
use Rattle.core_term.specs.declared.rows.InCell.TheVariants as incoming
use Rattle.core_term.specs.Rows.{number_of, cell_fits, cells_fit, nth_cell, data_in}
use Rattle.sv_tree.specs.declared.tree.SvPort.{SvPort}
use Rattle.sv_tree.specs.WellFormed.{is_received, is_sent}
use Rattle.sv_meaning.specs.Rows.{port_of}

-- a received cell with a value of this width
abbrev pub IsReceivedOf : (width : ℕ) → InCell → Type 0
IsReceivedOf width (incoming.Received valid v) = v.width ≡ width
IsReceivedOf width (incoming.Sent ack) = ⊥

abbrev pub IsSent : InCell → Type 0
IsSent (incoming.Received valid v) = ⊥
IsSent (incoming.Sent ack) = Unit {0}

pub nth_cell_at : (cells : List InCell) (k : ℕ) (d : InCell) → k < length cells → nth_cell cells k ≡ Some (get_or cells k d)
nth_cell_at [] k d inside = absurd (omega (arith, inside))
nth_cell_at (cell ∷ cells) zero d inside = refl
nth_cell_at (cell ∷ cells) (suc k) d inside =
    let shorter : k < length cells = omega (arith, inside) in
    nth_cell_at cells k d shorter

pub data_read :
    (cells : List InCell) (k width : ℕ) (valid : Bool) (v : Number)
    → nth_cell cells k ≡ Some (incoming.Received valid v) → v.width ≡ width → v ≡ number_of width (data_in (nth_cell cells k))
data_read cells k width valid v there wide = rw there (subst (λ bits. v ≡ number_of bits v.value) wide refl)

received_fits : (port : SvPort) (cell : InCell) → IsTrue (cell_fits (port_of port) cell) → port.received ≡ true → IsReceivedOf port.width cell
received_fits port (incoming.Received valid v) fits received = eqb-true _ _ (and_parts _ _ (and_parts _ _ fits).1).0
received_fits port (incoming.Sent ack) fits received = false≢true (grind (arith, fits, received))

sent_fits : (port : SvPort) (cell : InCell) → IsTrue (cell_fits (port_of port) cell) → is_sent (Some port) ≡ true → IsSent cell
sent_fits port (incoming.Received valid v) fits sent =
    let received : port.received ≡ true = (and_parts _ _ fits).0 in
    false≢true (grind (arith, received, sent))
sent_fits port (incoming.Sent ack) fits sent = tt

pub received_cell_within :
    (ports : List SvPort) (cells : List InCell) → IsTrue (cells_fit (map port_of ports) cells)
    → (k : ℕ) → is_received (slice_get ports k) ≡ true → k < length cells
received_cell_within [] cells fits k received = absurd (false≢true received)
received_cell_within (port ∷ ports) [] fits k received = absurd (false≢true fits)
received_cell_within (port ∷ ports) (cell ∷ cells) fits zero received = omega arith
received_cell_within (port ∷ ports) (cell ∷ cells) fits (suc k) received =
    let rest : k < length cells =
    received_cell_within ports cells (and_parts (cell_fits (port_of port) cell) (cells_fit (map port_of ports) cells) fits).1 k received in
    omega (arith, rest)

abbrev ReceivesOf : (width : ℕ) → Option InCell → Type 0
ReceivesOf width None = ⊥
ReceivesOf width (Some cell) = IsReceivedOf width cell

receives :
    (ports : List SvPort) (cells : List InCell) → IsTrue (cells_fit (map port_of ports) cells)
    → (k : ℕ) → is_received (slice_get ports k) ≡ true → ReceivesOf (slice_index (map (λ port. port.width) ports) k) (nth_cell cells k)
receives [] cells fits k received = absurd (false≢true received)
receives (port ∷ ports) [] fits k received = absurd (false≢true fits)
receives (port ∷ ports) (cell ∷ cells) fits zero received = received_fits port cell (and_parts _ _ fits).0 received
receives (port ∷ ports) (cell ∷ cells) fits (suc k) received = receives ports cells (and_parts _ _ fits).1 k received

pub received_cell :
    (ports : List SvPort) (cells : List InCell) (k : ℕ) (read cell : InCell) → IsTrue (cells_fit (map port_of ports) cells)
    → is_received (slice_get ports k) ≡ true → nth_cell cells k ≡ Some read → read ≡ cell
    → IsReceivedOf (slice_index (map (λ port. port.width) ports) k) cell
received_cell ports cells k read cell fits received there is =
    let width = slice_index (map (λ port. port.width) ports) k in
    subst (IsReceivedOf width) is (subst (ReceivesOf width) there (receives ports cells fits k received))

pub sent_cell_within :
    (ports : List SvPort) (cells : List InCell) → IsTrue (cells_fit (map port_of ports) cells)
    → (k : ℕ) → is_sent (slice_get ports k) ≡ true → k < length cells
sent_cell_within [] cells fits k sent = absurd (false≢true sent)
sent_cell_within (port ∷ ports) [] fits k sent = absurd (false≢true fits)
sent_cell_within (port ∷ ports) (cell ∷ cells) fits zero sent = omega arith
sent_cell_within (port ∷ ports) (cell ∷ cells) fits (suc k) sent =
    let rest : k < length cells =
    sent_cell_within ports cells (and_parts (cell_fits (port_of port) cell) (cells_fit (map port_of ports) cells) fits).1 k sent in
    omega (arith, rest)

abbrev Sends : Option InCell → Type 0
Sends None = ⊥
Sends (Some cell) = IsSent cell

sends :
    (ports : List SvPort) (cells : List InCell) → IsTrue (cells_fit (map port_of ports) cells)
    → (k : ℕ) → is_sent (slice_get ports k) ≡ true → Sends (nth_cell cells k)
sends [] cells fits k sent = absurd (false≢true sent)
sends (port ∷ ports) [] fits k sent = absurd (false≢true fits)
sends (port ∷ ports) (cell ∷ cells) fits zero sent = sent_fits port cell (and_parts _ _ fits).0 sent
sends (port ∷ ports) (cell ∷ cells) fits (suc k) sent = sends ports cells (and_parts _ _ fits).1 k sent

pub sent_cell :
    (ports : List SvPort) (cells : List InCell) (k : ℕ) (read cell : InCell) → IsTrue (cells_fit (map port_of ports) cells)
    → is_sent (slice_get ports k) ≡ true → nth_cell cells k ≡ Some read → read ≡ cell → IsSent cell
sent_cell ports cells k read cell fits sent there is = subst IsSent is (subst Sends there (sends ports cells fits k sent))
