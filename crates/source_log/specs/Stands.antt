-- Where a simulation stands in what is seen of the source run on rows.
use Rattle.std.specs.Prelude.{ℕ, ◌≡◌, List, take}
use Rattle.core_term.specs.declared.rows.Row.{Row}
use Rattle.run_log.specs.Shown.{Shown}
use Rattle.sim_laws.specs.Stands.{StandsAfter}
use Rattle.source_sim.specs.Seen.{Seen, process_in}
use Rattle.source_log.specs.Log.{shown_on}

-- before the cycle of the number n: it is the run of its process that is seen, and the simulation stands after n rows
pub record StandsBefore (sim : Seen) (rows : List Row) (shown : Shown) (n : ℕ) : Type 0 where
  pub same : shown ≡ shown_on (process_in sim) rows
  pub stands : StandsAfter (process_in sim) (take n rows) sim.state
