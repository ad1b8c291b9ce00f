-- What the outside promises with each answer: that a fault stands beside a count that rose, that a length past a limit
-- stands beside bytes that are so long, and that a text reached a sink whole or up to a point.
use Rattle.std.specs.Prelude.{◌≡◌, ℕ, ◌+◌, ◌-◌, ◌^◌, ◌<◌, ◌≤◌, min, List, length, take, IfSome, IfNone, Result, OnOk, OnErr, IsErrOf}
use Rattle.std.specs.declared.option.Option.{Option}
use Rattle.std.specs.Io.KnownBytes.{Appends, Consumes}
use Rattle.std.specs.Borrow.{Bor}
use Rattle.std.specs.List.{flat_map}
use Rattle.anvil_io.specs.declared.outside.SinkFault.{SinkFault}
use Rattle.anvil_io.specs.declared.outside.LoadErr.{LoadErr}
use Rattle.anvil_io.specs.declared.outside.LoadErr.TheVariants.{Fault, TooLong, NoMemory}

-- a count after so many more: counts stop at the end of their type
abbrev pub raised : ℕ → ℕ → ℕ
raised before more = min (before + more) (2 ^ 64 - 1)

-- the count rose, or stands at its end
abbrev pub Rose : ℕ → ℕ → Type 0
Rose before now = raised before 1 ≤ now

-- the count grew by more than the limit, or stands at its end
abbrev pub GrewPast : ℕ → ℕ → ℕ → Type 0
GrewPast limit before now = raised before (limit + 1) ≤ now

-- a load is a fault only where the count of faults rose, and every other answer leaves that count as it was
pub record FaultHasCause {T : Type 0} (before now : ℕ) (result : Result T LoadErr) : Type 0 where
  pub later : before ≤ now
  pub fault : IsErrOf result Fault → Rose before now
  pub ok : OnOk result (now ≡ before)
  pub too_long : IsErrOf result TooLong → now ≡ before
  pub no_memory : IsErrOf result NoMemory → now ≡ before

-- what an answer says of lengths. Where the bytes are told, a load that is no fault is `TooLong` exactly where they are more
-- than the limit; where they are not told, only where the bytes taken grew past it. No load takes more than one byte past it.
pub record LengthHasCause {T : Type 0} (told : Option (List ℕ)) (limit before now : ℕ) (result : Result T LoadErr) : Type 0 where
  pub told_long : IsErrOf result TooLong → IfSome told (λ bytes. limit < length bytes)
  pub told_fits : OnOk result (IfSome told (λ bytes. length bytes ≤ limit))
  pub told_no_memory : IsErrOf result NoMemory → IfSome told (λ bytes. length bytes ≤ limit)
  pub untold : IsErrOf result TooLong → IfNone told (GrewPast limit before now)
  pub later : before ≤ now
  pub at_most : now ≤ before + (limit + 1)

-- bytes that a reader had were taken, at most so many, and a count of bytes rose by their number
abbrev pub TakesCounted : Option (List ℕ) → Option (List ℕ) → ℕ → ℕ → ℕ → Type 0
TakesCounted old new most before now =
    (bytes : List ℕ) × Consumes old new bytes × (length bytes ≤ most) × (now ≡ raised before (length bytes))

-- a front part of the piece was appended to what is told
abbrev pub AppendsPrefix : Option (List ℕ) → Option (List ℕ) → List ℕ → Type 0
AppendsPrefix old new piece = (count : ℕ) × (count ≤ length piece) × Appends old new (take count piece)

-- a text was put whole and no put failed, or a front part of it was put and a put failed
pub record Puts {T : Type 0} (old new : Option (List ℕ)) (before now : ℕ) (text : List ℕ) (result : Result T SinkFault) : Type 0 where
  pub whole : OnOk result (Appends old new text)
  pub part : OnErr result (AppendsPrefix old new text)
  pub cause : OnErr result (Rose before now)
  pub fine : OnOk result (now ≡ before)
  pub later : before ≤ now

-- the texts of pieces, one after another
abbrev pub joined : List (Bor (List ℕ)) → List ℕ
joined pieces = flat_map (λ piece. piece.now) pieces
