-- How the types for widths are seen as states.
use Rattle.parse_steps.specs.declared.width.Width.{Width}
use Rattle.parse_steps.specs.declared.width.WidthState.{WidthState}
use Rattle.parse_steps.specs.declared.width.WidthState.TheVariants as width_state
use Rattle.anvil_grammar.specs.State as states

abbrev pub width_of : Width → states.Width
width_of width = record { width = width.width; width_at = width.width_at }

abbrev pub width_state_of : WidthState → states.WidthState
width_state_of width_state.Logic = states.logic_wanted
width_state_of width_state.Opening = states.width_opening
width_state_of width_state.Number = states.width_number
width_state_of (width_state.Closing width) = states.width_closing (width_of width)
