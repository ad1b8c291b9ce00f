-- The last frame is on top of the others.
use Rattle.std.proofs.Common.{◌≡◌, ◌+◌, ℕ, List, [], ◌∷◌, ◌++◌, length, Option, Some, None, refl, arith}
use Rattle.std.specs.Prelude.{MatchOption, option_to_list}
use Rattle.thread_frames.specs.declared.stack.Frame.{Frame}
use Rattle.thread_frames.specs.SeenFrames.{frame_of, frames_onto}
use Rattle.thread_frames.proofs.Stacks.{frames_onto_last}
use Rattle.thread_frames.proofs.stack.Stack.pop.Goals as goal

none_left : (frames : List Frame) → length frames ≡ 0 → frames_onto frames [] ≡ []
none_left [] none = refl
none_left (frame ∷ frames) none = absurd (omega (arith, none))

popped : (old new : List Frame) (many left : ℕ) (result : Option Frame) → many ≡ length old → left ≡ length new → old ≡ new ++ option_to_list result
    → MatchOption result ((many ≡ 0) × (left ≡ 0)) (λ frame. left + 1 ≡ many)
    → MatchOption result ((frames_onto old [] ≡ []) × (frames_onto new [] ≡ [])) (λ frame. frames_onto old [] ≡ frame_of frame ∷ frames_onto new [])
popped old new many left (Some frame) before after is lengths = rw is (frames_onto_last new frame [])
popped old new many left None before after is lengths =
    let none = lengths.0 in
    let none' = lengths.1 in
    (none_left old (omega (arith, before, none)), none_left new (omega (arith, after, none')))

pub returns : goal.returns
returns c = popped _ _ _ _ _ c.args.self.now.frames.ok.0 c.pop.new.self.ok.0 c.pop.ensures.items c.pop.ensures.cases
