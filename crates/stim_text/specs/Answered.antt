-- What a watch answers where a first port is found of which the promise is broken, and where none is.
use Rattle.std.specs.Prelude.{ℕ, Option, Some, None}
use Rattle.stim_text.specs.declared.seen.Seen.{Seen}
use Rattle.stim_text.specs.declared.seen.Seen.TheVariants.{Kept, Broken}

abbrev pub answered : Option ℕ → Seen
answered None = Kept
answered (Some port) = Broken port
