-- The points of places: begins and ends of acts in two turns.
use Rattle.std.specs.Prelude.{if◌then◌else◌}
use Rattle.core_term.specs.Points.{Spot, Begin, End}
use Rattle.core_term.specs.Order.{Point, point}
use Rattle.demand_checks.specs.declared.place.Place.{Place}

abbrev pub spot_of : Place → Spot
spot_of place = if place.end then End place.site else Begin place.site

abbrev pub point_of : Place → Point
point_of place = point place.late (spot_of place)
