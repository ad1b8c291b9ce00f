-- What a `Watch` shows of what it holds, and what it keeps.
use Rattle.std.specs.Prelude.{◌≡◌, ◌≤◌, length}
use Rattle.stim_text.specs.declared.watch.Watch.TheInside.{Inside}
use Rattle.stim_text.specs.Watching.{Watching}

abbrev pub watching_of : Inside → Watching
watching_of w = record { lives = w.lives; latests = w.latests.items; shown = w.shown.items }

-- a latest exchange, a flag and room for another flag for each port, of which there are few
pub record IsWatch (w : Inside) : Type 0 where
  pub few : length w.lives ≤ 64
  pub latests : length w.latests.items ≡ length w.lives
  pub shown : length w.shown.items ≡ length w.lives
  pub exchanged : length w.exchanged.items ≡ length w.lives
