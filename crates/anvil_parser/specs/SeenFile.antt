-- How the types for files are seen.
use Rattle.std.specs.Prelude.{map, Vec}
use Rattle.std.specs.declared.alloc.Global.{Global}
use Rattle.anvil_tree.specs.declared.file.Item.{Item}
use Rattle.anvil_tree.specs.Tree.{File}
use Rattle.anvil_tree.specs.View.{item_of}
use Rattle.anvil_parser.specs.declared.state.State.{State}
use Rattle.anvil_parser.specs.declared.state.State.TheVariants as file_state
use Rattle.anvil_parser.specs.declared.state.Reading.{Reading}
use Rattle.anvil_grammar.specs.State as states
use Rattle.parse_classes.specs.SeenClass.{class_state_of}
use Rattle.parse_processes.specs.SeenProcess.{process_state_of}

abbrev pub items_of : Vec Item Global → File
items_of items = map item_of items.items

abbrev pub state_of : File → State → states.State
state_of items file_state.Between = states.between items
state_of items (file_state.InClass state) = states.in_class items (class_state_of state)
state_of items (file_state.InProcess state) = states.in_process items (process_state_of state)
state_of items file_state.Ended = states.ended items

abbrev pub reading_of : Reading → states.State
reading_of reading = state_of (items_of reading.items) reading.state
