-- The fields of a line of a stimulus, read from its front.
use Rattle.std.specs.Prelude.{ℕ, ◌^◌, nat_lt, Bool, true, false, List, [], ◌∷◌, ◌++◌, Option, Some, None, if◌then◌else◌}
use Rattle.core_term.specs.declared.rows.InCell.{InCell}
use Rattle.core_term.specs.declared.rows.InCell.TheVariants as incoming
use Rattle.core_term.specs.Process.{Port}
use Rattle.core_term.specs.Rows.{number_of}
use Rattle.stim_text.specs.Pieces.{◌>>=◌, after_byte, bit_at, number_at}

-- `V:D`, of a received port of the width
abbrev pub received_by : (width : ℕ) (valid : Bool) (number : ℕ) → List ℕ → Option (InCell × List ℕ)
received_by width valid number rest = if nat_lt number (2 ^ width) then Some (incoming.Received valid (number_of width number), rest) else None

abbrev pub received_at : (width : ℕ) → List ℕ → Option (InCell × List ℕ)
received_at width text =
    bit_at text >>= (λ bit. after_byte 58 bit.1 >>= (λ rest. number_at rest >>= (λ found. received_by width bit.0 found.0 found.1)))

-- `A`, of a sent port
abbrev pub sent_at : List ℕ → Option (InCell × List ℕ)
sent_at text = bit_at text >>= (λ bit. Some (incoming.Sent bit.0, bit.1))

abbrev pub field_at : (received : Bool) (width : ℕ) → List ℕ → Option (InCell × List ℕ)
field_at true width text = received_at width text
field_at false width text = sent_at text

-- a space stands before each field but the first
abbrev pub gap_at : (first : Bool) → List ℕ → Option (List ℕ)
gap_at true text = Some text
gap_at false text = after_byte 32 text

-- nothing is left
abbrev pub closed : List InCell → List ℕ → Option (List InCell)
closed cells [] = Some cells
closed cells (byte ∷ rest) = None

-- the field of a port with the space before it
abbrev pub next_field : Port → (first : Bool) → List ℕ → Option (InCell × List ℕ)
next_field port first text = gap_at first text >>= (λ rest. field_at port.received port.width rest)

-- the fields of the ports that are left, after those of the cells
abbrev pub fields_from : List Port → (first : Bool) → List InCell → List ℕ → Option (List InCell)
fields_from [] first cells text = closed cells text
fields_from (port ∷ ports) first cells text = next_field port first text >>= (λ found. fields_from ports false (cells ++ found.0 ∷ []) found.1)

-- the cells of a line
abbrev pub row_of : List Port → List ℕ → Option (List InCell)
row_of ports line = fields_from ports true [] line
