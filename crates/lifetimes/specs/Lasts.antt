-- Tables of lives under sites, seen as a map: at most one table a site.
use Rattle.std.specs.Prelude.{ℕ, ◌≡◌, List, Option, Some}
use Rattle.std.specs.Ordering.{nat_cmp}
use Rattle.std.specs.BTreeMap.{get}
use Rattle.order_rules.specs.Last.{Ending}
use Rattle.event_graph.specs.Event.{Event}
use Rattle.lifetimes.specs.declared.table.EndTable.{EndTable}
use Rattle.lifetimes.specs.declared.lasts.Lasts.{Lasts}
use Rattle.lifetimes.specs.Tables.{IsTableOf}

-- the table of a site, where it has one
abbrev pub table_of : Lasts → ℕ → Option EndTable
table_of lasts site = get nat_cmp lasts.tables site

-- the site has the table of a life from an event on, with these ends, over a graph of these events
abbrev pub HasTableOf : Lasts → ℕ → List Event → ℕ → List (Ending ℕ) → Type 0
HasTableOf lasts site events from ends =
    (table : EndTable) × (table_of lasts site ≡ Some table) × IsTableOf events from ends table
