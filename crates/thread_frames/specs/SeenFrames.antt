-- How the types of the crate are seen as frames, and an act with the term behind it.
use Rattle.std.specs.Prelude.{List, [], ◌∷◌, Option, Some, None}
use Rattle.anvil_tree.specs.Tree as tree
use Rattle.anvil_tree.specs.View.{expr_of, act_of, term_of}
use Rattle.anvil_grammar.specs.State as states
use Rattle.thread_frames.specs.declared.stack.Frame.{Frame}
use Rattle.thread_frames.specs.declared.stack.Frame.TheVariants as frame
use Rattle.thread_frames.specs.declared.stack.Link.{Link}
use Rattle.thread_frames.specs.declared.stack.Joint.{Joint}
use Rattle.thread_frames.specs.declared.stack.Joint.TheVariants as joint
use Rattle.thread_frames.specs.declared.stack.TermFrame.{TermFrame}
use Rattle.thread_frames.specs.declared.stack.TermFrame.TheVariants as term
use Rattle.thread_frames.specs.declared.stack.Stack.{Stack}

abbrev pub term_frame_of : TermFrame → states.Frame
term_frame_of (term.FirstSide at condition) = states.first_side at (expr_of condition)
term_frame_of (term.SecondSide at condition first) = states.second_side at (expr_of condition) (term_of first)
term_frame_of (term.Blocking at) = states.blocking at

abbrev pub joined_frame : Joint → Option tree.Name → tree.Act → states.Frame
joined_frame joint.Follow bound act = states.following bound act
joined_frame joint.Beside bound act = states.besides bound act

abbrev pub link_frame_of : Link → states.Frame
link_frame_of link = joined_frame link.joint link.bound (act_of link.act)

abbrev pub frame_of : Frame → states.Frame
frame_of (frame.Term part) = term_frame_of part
frame_of (frame.Link link) = link_frame_of link
frame_of (frame.Binding name) = states.binding name

-- the last frame of a vector is on top
abbrev pub frames_onto : List Frame → List states.Frame → List states.Frame
frames_onto [] stack = stack
frames_onto (frame ∷ frames) stack = frames_onto frames (frame_of frame ∷ stack)

abbrev pub stack_of : Stack → List states.Frame
stack_of stack = frames_onto stack.frames.items []

-- the variable that waits for an act, where one does, and the frames below it
abbrev pub bound_of : List states.Frame → Option tree.Name
bound_of (states.binding name ∷ stack) = Some name
bound_of stack = None

abbrev pub unbound : List states.Frame → List states.Frame
unbound (states.binding name ∷ stack) = stack
unbound stack = stack

-- the act with its joint and the term behind it
abbrev pub linked : Joint → Option tree.Name → tree.Act → tree.Term → tree.Term
linked joint.Follow bound act term = tree.follow bound act term
linked joint.Beside bound act term = tree.beside bound act term
