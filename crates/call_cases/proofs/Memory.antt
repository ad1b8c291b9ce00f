-- Computed examples of the shelf and the sink over memory, so that a wrong definition does not check. All are worked out by hand.
use Rattle.std.proofs.Common.{◌≡◌, ℕ, Bool, true, false, List, [], ◌∷◌, Some, None, codes, refl}
use Rattle.anvil_io.specs.Memory.{SinkState, put_fails, after_put, ShelfState, first_named, load_fails, after_load}

-- a shelf of three entries, two of one name, before the load of a number; the loads 3 and 5 fail
abbrev shelf : ℕ → ShelfState
shelf loads = record {
  files =
      (record { name = codes "a"; bytes = codes "abc" })
      ∷ (record { name = codes "b"; bytes = [] })
      ∷ (record { name = codes "a"; bytes = codes "second" })
      ∷ [];
  failing = 3 ∷ 5 ∷ [];
  loads = loads;
  faults = 0;
  taken = 0;
}

first_entry_of_a_name : first_named (shelf 0).files (codes "a") ≡ Some (codes "abc")
first_entry_of_a_name = refl

entry_of_no_bytes : first_named (shelf 0).files (codes "b") ≡ Some []
entry_of_no_bytes = refl

no_entry : first_named (shelf 0).files (codes "c") ≡ None
no_entry = refl

-- by the number of the load, and by the name
failing_loads :
    load_fails (shelf 0) (codes "a")
    ∷ load_fails (shelf 2) (codes "b")
    ∷ load_fails (shelf 3) (codes "a")
    ∷ load_fails (shelf 4) (codes "c")
    ∷ load_fails (shelf 5) (codes "a")
    ∷ load_fails (shelf 6) (codes "a")
    ∷ []
    ≡ false ∷ false ∷ true ∷ true ∷ true ∷ false ∷ []
failing_loads = refl

-- three bytes within a limit of 3, and two of them, one past it, within a limit of 1; a fault takes none
after_loads :
    after_load (shelf 0) (codes "a") 3 ∷ after_load (shelf 1) (codes "a") 1 ∷ after_load (shelf 3) (codes "a") 3 ∷ []
    ≡ (record (shelf 1) { taken = 3 }) ∷ (record (shelf 2) { taken = 2 }) ∷ (record (shelf 4) { faults = 1 }) ∷ []
after_loads = refl

-- a sink with room for 10 bytes, whose puts 1 and 4 fail
abbrev empty : SinkState
empty = record { bytes = []; room = 10; failing = 1 ∷ 4 ∷ []; puts = 0; faults = 0 }

abbrev one : SinkState
one = after_put empty (codes "ab")

abbrev two : SinkState
two = after_put one (codes "cdefg")

abbrev three : SinkState
three = after_put two []

abbrev four : SinkState
four = after_put three (codes "xyz")

abbrev five : SinkState
five = after_put four (codes "0123456789")

abbrev six : SinkState
six = after_put five []

failing_puts :
    put_fails empty (codes "ab")
    ∷ put_fails one (codes "cdefg")
    ∷ put_fails two []
    ∷ put_fails three (codes "xyz")
    ∷ put_fails four (codes "0123456789")
    ∷ put_fails five []
    ∷ put_fails six (codes "!")
    ∷ []
    ≡ false ∷ true ∷ false ∷ false ∷ true ∷ false ∷ true ∷ []
failing_puts = refl

-- half of five bytes, rounded down; half of ten, cut to the room; an empty piece where no room is left; no byte past the room
held_after_puts : one.bytes ∷ two.bytes ∷ three.bytes ∷ four.bytes ∷ five.bytes ∷ six.bytes ∷ (after_put six (codes "!")).bytes ∷ []
    ≡ codes "ab"
    ∷ codes "abcd"
    ∷ codes "abcd"
    ∷ codes "abcdxyz"
    ∷ codes "abcdxyz012"
    ∷ codes "abcdxyz012"
    ∷ codes "abcdxyz012"
    ∷ []
held_after_puts = refl

faults_after_puts : (after_put six (codes "!")).faults ≡ 3
faults_after_puts = refl
