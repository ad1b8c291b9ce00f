-- A frame that is pushed after the others lies on top of them, and the last frame lies on top of the others.
use Rattle.std.proofs.Common.{◌≡◌, ◌+◌, ℕ, List, [], ◌∷◌, ◌++◌, length, slice_get, Some, refl, arith}
use native.Mathlib.Numerals.{unary_clauses}
use Rattle.thread_frames.specs.declared.stack.Frame.{Frame}
use Rattle.anvil_grammar.specs.State as states
use Rattle.thread_frames.specs.SeenFrames.{frame_of, frames_onto}

pub frames_onto_last : (frames : List Frame) (last : Frame) (stack : List states.Frame)
    → frames_onto (frames ++ (last ∷ [])) stack ≡ frame_of last ∷ frames_onto frames stack
frames_onto_last [] last stack = refl
frames_onto_last (frame ∷ frames) last stack = frames_onto_last frames last (frame_of frame ∷ stack)

last_at : (first : Frame) (frames : List Frame) (many : ℕ) → slice_get (first ∷ frames) (many + 1) ≡ slice_get frames many
last_at first frames many = simp unary_clauses refl

last_of : (first next : Frame) (frames : List Frame) (top : Frame) → slice_get (first ∷ next ∷ frames) (length (next ∷ frames)) ≡ Some top
    → slice_get (next ∷ frames) (length frames) ≡ Some top
last_of first next frames top is = let same = last_at first (next ∷ frames) (length frames) in let count : length (next ∷ frames) ≡ length frames + 1 = omega arith in cc

-- the frame that is got last lies on top
pub top_of : (first : Frame) (frames : List Frame) (stack : List states.Frame) (top : Frame) → slice_get (first ∷ frames) (length frames) ≡ Some top
    → (below : List states.Frame) × (frames_onto (first ∷ frames) stack ≡ frame_of top ∷ below)
top_of first [] stack top is = let same : first ≡ top = cc in (stack, rw same refl)
top_of first (next ∷ frames) stack top is = top_of next frames (frame_of first ∷ stack) top (last_of first next frames top is)
