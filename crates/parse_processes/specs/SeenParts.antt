-- How the types for endpoints and registers are seen as states.
use Rattle.std.specs.Prelude.{Some}
use Rattle.parse_processes.specs.declared.endpoint.EndpointWanted.{EndpointWanted}
use Rattle.parse_processes.specs.declared.endpoint.EndpointWanted.TheVariants as endpoint_wanted
use Rattle.parse_processes.specs.declared.endpoint.EndpointDraft.{EndpointDraft}
use Rattle.parse_processes.specs.declared.register.RegisterWanted.{RegisterWanted}
use Rattle.parse_processes.specs.declared.register.RegisterWanted.TheVariants as register_wanted
use Rattle.parse_processes.specs.declared.register.RegisterDraft.{RegisterDraft}
use Rattle.parse_processes.specs.declared.register.RegisterState.{RegisterState}
use Rattle.parse_processes.specs.declared.register.RegisterState.TheVariants as register_state
use Rattle.anvil_grammar.specs.State as states
use Rattle.anvil_grammar.specs.Step as step
use Rattle.parse_steps.specs.SeenWidth.{width_of, width_state_of}
use Rattle.parse_steps.specs.Seen.{label_of}

abbrev pub endpoint_at : states.Label → EndpointWanted → states.EndpointState
endpoint_at label endpoint_wanted.Colon = states.endpoint_colon label
endpoint_at label endpoint_wanted.Side = states.endpoint_side label
endpoint_at label (endpoint_wanted.Class side) = states.endpoint_class label side

abbrev pub endpoint_state_of : EndpointDraft → states.EndpointState
endpoint_state_of draft = endpoint_at (label_of draft.label) draft.wanted

abbrev pub register_at : states.Label → RegisterWanted → states.RegisterState
register_at label register_wanted.Colon = states.register_colon label
register_at label (register_wanted.Width state) = states.register_width label (width_state_of state)
register_at label (register_wanted.Reset width) = states.register_reset label (width_of width)
register_at label (register_wanted.Literal width) = states.register_literal label (width_of width)
register_at label (register_wanted.End width reset) =
    states.register_end (step.register_of label (width_of width) (Some reset))

abbrev pub register_draft_of : RegisterDraft → states.RegisterState
register_draft_of draft = register_at (label_of draft.label) draft.wanted

abbrev pub register_state_of : RegisterState → states.RegisterState
register_state_of register_state.Name = states.register_name
register_state_of (register_state.Labelled draft) = register_draft_of draft
