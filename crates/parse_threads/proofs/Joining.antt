-- An act that is whole goes on by its bound variable and the frames below that.
use Rattle.std.proofs.Common.{◌≡◌, List, ◌∷◌, Option, refl, sym}
use Rattle.anvil_lexer.specs.declared.token.TokenKind.{TokenKind}
use Rattle.anvil_lexer.specs.declared.token.TokenKind.TheVariants.{Mark}
use Rattle.anvil_lexer.specs.declared.token.Mark.TheVariants as mark
use Rattle.anvil_tree.specs.Tree.{Name, Act, Term}
use Rattle.thread_frames.specs.declared.stack.Joint.{Joint}
use Rattle.thread_frames.specs.declared.stack.Joint.TheVariants as joint
use Rattle.anvil_grammar.specs.State as states
use Rattle.anvil_grammar.specs.State.{Frame}
use Rattle.anvil_grammar.specs.Step.{act_step, term_ends}
use Rattle.thread_frames.specs.SeenFrames.{bound_of, unbound, joined_frame, linked}
use Rattle.parse_threads.specs.SeenThread.{joined_step}

goes_on_joined : (stack : List Frame) (act : Act) (kind : TokenKind) → act_step stack act kind ≡ joined_step (bound_of stack) (unbound stack) act kind
goes_on_joined (states.binding name ∷ stack) act (Mark mark.Chain) = refl
goes_on_joined (states.binding name ∷ stack) act (Mark mark.Semicolon) = refl
goes_on_joined (states.binding name ∷ stack) act kind = refl
goes_on_joined stack act (Mark mark.Chain) = refl
goes_on_joined stack act (Mark mark.Semicolon) = refl
goes_on_joined stack act (Mark mark.CloseBrace) = refl
goes_on_joined stack act kind = refl

pub act_joined : (stack : List Frame) (bound : Option Name) (below : List Frame) (act : Act) (kind : TokenKind) → bound ≡ bound_of stack → below ≡ unbound stack
    → joined_step bound below act kind ≡ act_step stack act kind
act_joined stack bound below act kind found left = rw found (rw left (sym (goes_on_joined stack act kind)))

-- a term that is whole is the end of the act that waits for it
pub link_ends : (joint : Joint) (bound : Option Name) (act : Act) (stack : List Frame) (term : Term)
    → term_ends (joined_frame joint bound act ∷ stack) term ≡ term_ends stack (linked joint bound act term)
link_ends joint.Follow bound act stack term = refl
link_ends joint.Beside bound act stack term = refl
