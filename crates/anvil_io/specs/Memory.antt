-- The sink and the shelf over memory: what they keep, which of their calls fail, and how each call leaves them.
-- Calls are numbered from 0. All counts stop at the end of their type.
use Rattle.std.specs.Prelude.{ℕ, ◌+◌, ◌-◌, ◌/◌, min, Bool, if◌then◌else◌, List, [], ◌∷◌, ◌++◌, length, take, nat_lt, nat_eq, is_none, bytes_eq, ◌||◌}
use Rattle.std.specs.List.{list_any}
use Rattle.std.specs.declared.option.Option.{Option}
use Rattle.std.specs.declared.option.Option.TheVariants.{None, Some}
use Rattle.anvil_io.specs.Causes.{raised}

-- the number of this call is among those that fail
abbrev pub is_failing : List ℕ → ℕ → Bool
is_failing failing number = list_any (λ n. nat_eq n number) failing

-- a sink over memory: its bytes, how many it has room for, which puts fail, and how many puts and faults there were
pub record SinkState : Type 0 where
  pub bytes : List ℕ
  pub room : ℕ
  pub failing : List ℕ
  pub puts : ℕ
  pub faults : ℕ

-- the room that is left
abbrev pub room_left : SinkState → ℕ
room_left sink = sink.room - length sink.bytes

-- a put fails: its number is among those that fail, or the piece is longer than the room that is left
abbrev pub put_fails : SinkState → List ℕ → Bool
put_fails sink piece = is_failing sink.failing sink.puts || nat_lt (room_left sink) (length piece)

-- how much of the piece a put takes: half of it where its number is among those that fail, else all of it, and never more
-- than the room that is left
abbrev pub put_takes : SinkState → List ℕ → ℕ
put_takes sink piece =
    min (room_left sink) (if is_failing sink.failing sink.puts then length piece / 2 else length piece)

-- a sink over memory after a put
abbrev pub after_put : SinkState → List ℕ → SinkState
after_put sink piece = record sink {
  bytes = sink.bytes ++ take (put_takes sink piece) piece;
  puts = raised sink.puts 1;
  faults = if put_fails sink piece then raised sink.faults 1 else sink.faults;
}

-- an entry of a shelf over memory: a name and the bytes under it
pub record Entry : Type 0 where
  pub name : List ℕ
  pub bytes : List ℕ

-- a shelf over memory: its entries, which loads fail, how many loads and faults there were, and how many bytes were taken
pub record ShelfState : Type 0 where
  pub files : List Entry
  pub failing : List ℕ
  pub loads : ℕ
  pub faults : ℕ
  pub taken : ℕ

-- the bytes of the first entry of a name
abbrev pub first_named : List Entry → List ℕ → Option (List ℕ)
first_named [] name = None
first_named (entry ∷ entries) name = if bytes_eq entry.name name then Some entry.bytes else first_named entries name

-- a load is a fault: its number is among those that fail, or no entry has the name
abbrev pub load_fails : ShelfState → List ℕ → Bool
load_fails shelf name = is_failing shelf.failing shelf.loads || is_none (first_named shelf.files name)

-- how many bytes a load takes: all of the entry, and never more than one past the limit
abbrev pub load_takes : ℕ → Option (List ℕ) → ℕ
load_takes limit None = 0
load_takes limit (Some bytes) = min (length bytes) (limit + 1)

-- a shelf over memory after a load; a fault takes no bytes
abbrev pub after_load : ShelfState → List ℕ → ℕ → ShelfState
after_load shelf name limit = record shelf {
  loads = raised shelf.loads 1;
  faults = if load_fails shelf name then raised shelf.faults 1 else shelf.faults;
  taken = if load_fails shelf name then shelf.taken else raised shelf.taken (load_takes limit (first_named shelf.files name));
}
