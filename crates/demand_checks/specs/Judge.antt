-- A thread as the checks ask about it: what they are given of it, and what its acts do.
use Rattle.std.specs.Prelude.{ℕ, ◌≡◌, ◌≤◌, Bool, List, [], length}
use Rattle.core_term.specs.Term.{Term}
use Rattle.core_term.specs.Numbering.{Numbered}
use Rattle.core_term.specs.Process.{Process}
use Rattle.core_term.specs.AcceptedFile.{process_in}
use Rattle.event_points.specs.Nodes.{node_of}
use Rattle.core_term.specs.Rules.{Claim}
use Rattle.demand_checks.specs.declared.judge.Judge.{Judge}
use Rattle.demand_checks.specs.declared.place.Pair.{Pair}
use Rattle.demand_checks.specs.declared.place.Place.{Place}
use Rattle.demand_checks.specs.Answers.{Answers, Tell, shows, all_shown}
use Rattle.demand_checks.specs.Deeds.{AreDeeds}
use Rattle.demand_checks.specs.Places.{point_of}
use Rattle.demand_checks.specs.Thread.{IsReady, body_of}
use Rattle.demand_checks.specs.Unshown.{unshown}

abbrev pub process_at : Judge → Process
process_at judge = process_in judge.proc.now

abbrev pub body_at : Judge → Term
body_at judge = body_of judge.proc.now judge.number

pub record IsJudge (judge : Judge) : Type 0 where
  pub ready : IsReady judge.proc.now judge.number judge.elab.now judge.order.now judge.lasts.now
  pub numbered : Numbered [] 0 (body_at judge)
  pub deeds : AreDeeds (body_at judge) judge.deeds.items
  pub few : length judge.deeds.items ≤ 512

-- the answers are right for the thread
abbrev pub TellOf : Judge → Answers → Type 0
TellOf judge answers = Tell (process_at judge) (body_at judge) answers

-- what is answered is what all right answers say: to a question, to a claim, to whether all of some claims hold
abbrev pub IsAnswer : Judge → (Answers → Bool) → Bool → Type 0
IsAnswer judge asked answer = (answers : Answers) → TellOf judge answers → answer ≡ asked answers

abbrev pub IsShown : Judge → Claim → Bool → Type 0
IsShown judge claim answer = (answers : Answers) → TellOf judge answers → answer ≡ shows answers claim

abbrev pub AreShown : Judge → List Claim → Bool → Type 0
AreShown judge claims answer = (answers : Answers) → TellOf judge answers → answer ≡ all_shown answers claims

-- the records of the items with a claim that is not shown
abbrev pub AreUnshown : {X : Type 0} → Judge → (X → Pair) → (X → List Claim) → List X → List Pair → Type 0
AreUnshown judge pair_of claims_of items pairs =
    (answers : Answers) → TellOf judge answers → pairs ≡ unshown pair_of claims_of answers items

-- the node of a place in the graph of two turns
abbrev pub node_at : Judge → Place → ℕ
node_at judge place = node_of (body_at judge) (point_of place)
