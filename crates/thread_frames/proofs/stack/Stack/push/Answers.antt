-- The last frame is on top of the others.
use Rattle.std.proofs.Common.{◌≡◌, List, [], ◌∷◌, ◌++◌, Result, Ok, Err}
use Rattle.std.specs.Prelude.{OnOk}
use Rattle.thread_frames.specs.declared.stack.Frame.{Frame}
use Rattle.thread_frames.specs.SeenFrames.{frame_of, frames_onto}
use Rattle.thread_frames.proofs.Stacks.{frames_onto_last}
use Rattle.thread_frames.proofs.stack.Stack.push.Goals as goal

pushed : {V E : Type 0} (result : Result V E) (old new : List Frame) (frame : Frame) → OnOk result (new ≡ old ++ (frame ∷ []))
    → OnOk result (frames_onto new [] ≡ frame_of frame ∷ frames_onto old [])
pushed (Ok value) old new frame is = rw is (frames_onto_last old frame [])
pushed (Err refusal) old new frame is = tt

pub returns-clause-pushed : goal.returns-clause-pushed
returns-clause-pushed c = pushed _ _ _ _ c.push.ensures.pushed
