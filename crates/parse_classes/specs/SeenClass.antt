-- How the types for classes are seen as states.
use Rattle.anvil_tree.specs.declared.file.Side.{Side}
use Rattle.parse_classes.specs.declared.message.MessageWanted.{MessageWanted}
use Rattle.parse_classes.specs.declared.message.MessageWanted.TheVariants as message_wanted
use Rattle.parse_classes.specs.declared.message.MessageDraft.{MessageDraft}
use Rattle.parse_classes.specs.declared.message.MessageState.{MessageState}
use Rattle.parse_classes.specs.declared.message.MessageState.TheVariants as message_state
use Rattle.parse_classes.specs.declared.class.ClassWanted.{ClassWanted}
use Rattle.parse_classes.specs.declared.class.ClassWanted.TheVariants as class_wanted
use Rattle.parse_classes.specs.declared.class.ClassDraft.{ClassDraft}
use Rattle.parse_classes.specs.declared.class.ClassState.{ClassState}
use Rattle.parse_classes.specs.declared.class.ClassState.TheVariants as class_state
use Rattle.anvil_grammar.specs.State as states
use Rattle.anvil_grammar.specs.Step as step
use Rattle.parse_steps.specs.Seen.{label_of}
use Rattle.parse_steps.specs.SeenWidth.{width_of, width_state_of}

abbrev pub message_at : Side → states.Label → MessageWanted → states.MessageState
message_at side label message_wanted.Colon = states.message_colon side label
message_at side label message_wanted.Opening = states.message_opening side label
message_at side label (message_wanted.Width state) = states.message_width side label (width_state_of state)
message_at side label (message_wanted.At width) = states.message_at side label (width_of width)
message_at side label (message_wanted.Life width) = states.message_life side label (width_of width)
message_at side label (message_wanted.Count width) = states.message_count side label (width_of width)
message_at side label (message_wanted.Closing width life life_at) =
    states.message_closing (step.message_of side label (width_of width) life life_at)

abbrev pub message_draft_of : MessageDraft → states.MessageState
message_draft_of draft = message_at draft.toward (label_of draft.label) draft.wanted

abbrev pub message_state_of : MessageState → states.MessageState
message_state_of (message_state.Name side) = states.message_name side
message_state_of (message_state.Labelled draft) = message_draft_of draft

abbrev pub class_parts_of : ClassDraft → states.ClassDraft
class_parts_of draft = record { label = label_of draft.label; messages = draft.messages.items }

abbrev pub class_at : states.ClassDraft → ClassWanted → states.ClassState
class_at draft class_wanted.FirstMessage = states.first_message draft
class_at draft (class_wanted.InMessage state) = states.in_message draft (message_state_of state)
class_at draft class_wanted.AfterMessage = states.after_message draft
class_at draft class_wanted.AfterComma = states.after_comma draft

abbrev pub class_inside_of : ClassDraft → states.ClassState
class_inside_of draft = class_at (class_parts_of draft) draft.wanted

abbrev pub class_state_of : ClassState → states.ClassState
class_state_of class_state.Name = states.class_name
class_state_of (class_state.Opening label) = states.class_opening (label_of label)
class_state_of (class_state.Inside draft) = class_inside_of draft
