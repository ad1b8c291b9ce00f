-- One cycle of a watch, over what it keeps.
use Rattle.std.specs.Prelude.{ℕ, ◌≡◌, ◌&&◌, ◌||◌, Bool, false, List, [], ◌∷◌, slice_index_or}
use Rattle.core_term.specs.declared.rows.InCell.{InCell}
use Rattle.core_term.specs.declared.rows.OutCell.{OutCell}
use Rattle.core_term.specs.Process.{LifeEnd}
use Rattle.exchanges.specs.declared.latest.Latest.{Latest}
use Rattle.exchanges.specs.Broken.{no_latest}
use Rattle.exchanges.specs.Next.{next}
use Rattle.stim_text.specs.LogLine.{wires_at}

-- whether there is an exchange
abbrev pub meets : InCell → OutCell → Bool
meets cell out = (wires_at cell out).valid && (wires_at cell out).ack

abbrev pub all_meet : List InCell → List OutCell → List Bool
all_meet [] outs = []
all_meet (cell ∷ cells) [] = []
all_meet (cell ∷ cells) (out ∷ outs) = meets cell out ∷ all_meet cells outs

-- whether a port is offered or in the life of an exchange
abbrev pub shows : InCell → OutCell → Latest → Bool
shows cell out latest = (wires_at cell out).valid || latest.lives

abbrev pub all_show : List InCell → List OutCell → List Latest → List Bool
all_show [] outs latests = []
all_show (cell ∷ cells) [] latests = []
all_show (cell ∷ cells) (out ∷ outs) [] = []
all_show (cell ∷ cells) (out ∷ outs) (latest ∷ latests) = shows cell out latest ∷ all_show cells outs latests

-- the latest exchanges one cycle on; `exchanged` is of all ports, and `rest` of those that are left
abbrev pub all_next : (exchanged rest : List Bool) → List (List LifeEnd) → List InCell → List OutCell → List Latest → List Latest
all_next exchanged [] lives cells outs latests = []
all_next exchanged (now ∷ rest) [] cells outs latests = []
all_next exchanged (now ∷ rest) (life ∷ lives) [] outs latests = []
all_next exchanged (now ∷ rest) (life ∷ lives) (cell ∷ cells) [] latests = []
all_next exchanged (now ∷ rest) (life ∷ lives) (cell ∷ cells) (out ∷ outs) [] = []
all_next exchanged (now ∷ rest) (life ∷ lives) (cell ∷ cells) (out ∷ outs) (latest ∷ latests) =
    next exchanged life now (wires_at cell out).number latest ∷ all_next exchanged rest lives cells outs latests

-- no port has had an exchange
abbrev pub AreNone : List Latest → Type 0
AreNone latests = (m : ℕ) → (slice_index_or latests m no_latest).lives ≡ false
