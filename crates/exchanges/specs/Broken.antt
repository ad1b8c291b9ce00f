-- The first received port, in port order, of which the data of a cycle breaks the promise of the latest exchange.
use Rattle.std.specs.Prelude.{ℕ, ◌≡◌, ◌<◌, Bool, true, false, List, slice_index_or}
use Rattle.core_term.specs.declared.rows.InCell.{InCell}
use Rattle.core_term.specs.declared.rows.InCell.TheVariants as incoming
use Rattle.core_term.specs.Rows.{number_of}
use Rattle.exchanges.specs.declared.latest.Latest.{Latest}
use Rattle.exchanges.specs.Promise.{differs}

abbrev pub no_latest : Latest
no_latest = record { lives = false; age = 0; number = number_of 1 0 }

abbrev pub broken_in : InCell → Latest → Bool
broken_in (incoming.Received valid v) latest = differs latest v.value
broken_in (incoming.Sent ack) latest = false

abbrev pub broken_at : List InCell → List Latest → ℕ → Bool
broken_at cells latests m = broken_in (slice_index_or cells m (incoming.Sent false)) (slice_index_or latests m no_latest)

-- the first port whose data breaks a promise
abbrev pub IsFirstBroken : List InCell → List Latest → ℕ → Type 0
IsFirstBroken cells latests port = (broken_at cells latests port ≡ true) × ((m : ℕ) → m < port → broken_at cells latests m ≡ false)

abbrev pub NoneBroken : List InCell → List Latest → Type 0
NoneBroken cells latests = (m : ℕ) → broken_at cells latests m ≡ false
