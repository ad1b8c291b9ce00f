-- The last frame is on top of the others.
use Rattle.std.proofs.Common.{◌≡◌, ◌-◌, ◌<◌, ℕ, List, [], ◌∷◌, length, slice_get, Option, Some, None, refl, arith, sym, Bor}
use Rattle.std.specs.Prelude.{MatchOption}
use Rattle.std.proofs.lemmas.Option.{slice_get-get_or}
use Rattle.std.specs.Option.{option_copied}
use Rattle.thread_frames.specs.declared.stack.Frame.{Frame}
use Rattle.anvil_grammar.specs.State as states
use Rattle.thread_frames.specs.SeenFrames.{frame_of, frames_onto}
use Rattle.thread_frames.proofs.Stacks.{top_of}
use Rattle.thread_frames.proofs.stack.Stack.top.Goals as goal

got : (first : Frame) (frames : List Frame) (place : ℕ) → place < length (first ∷ frames) → None ≡ slice_get (first ∷ frames) place → ⊥
got first frames place within is =
    let found = slice_get-get_or (first ∷ frames) place first within in
    absurd cc

topped : (frames : List Frame) (result : Option (Bor Frame)) → option_copied result ≡ slice_get frames (length frames - 1)
    → MatchOption result (frames_onto frames [] ≡ []) (λ frame. (below : List states.Frame) × (frames_onto frames [] ≡ frame_of frame.now ∷ below))
topped [] None is = refl
topped [] (Some frame) is = absurd cc
topped (first ∷ frames) None is = absurd (got first frames (length (first ∷ frames) - 1) (omega arith) is)
topped (first ∷ frames) (Some frame) is =
    let before : length (first ∷ frames) - 1 ≡ length frames = omega arith in
    top_of first frames [] frame.now (sym (rw before at is))

pub returns : goal.returns
returns c = topped c.args.self.now.frames.items _ (rw c.deref.ensures.value at c.last.ensures.value)
