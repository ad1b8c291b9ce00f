-- Answers to judgements over the points of a body, as tables give them: what they show of a claim, and that they are
-- right.
use Rattle.std.specs.Prelude.{ℕ, ◌≡◌, ◌≤◌, ◌||◌, ◌&&◌, ℤ, Bool, true, false, List}
use Rattle.std.specs.List.{list_all}
use Rattle.order_rules.specs.Standing.{IsPoint}
use Rattle.core_term.specs.Term.{Term}
use Rattle.core_term.specs.Numbering.{size}
use Rattle.core_term.specs.Acts.{Sends, HasAct}
use Rattle.core_term.specs.Process.{Process, life_of}
use Rattle.core_term.specs.Order.{Point, HasForm, Precedes, spot_site}
use Rattle.core_term.specs.Lives.{LastPrecedes}
use Rattle.core_term.specs.Rules.{Claim, Order, Last, Either, Both}

-- order a d b: whether a + d <= b. last s d b: whether the last cycle of the life of what the send s sent, + d, is no
-- later than b
pub record Answers : Type 0 where
  pub order : Point → ℤ → Point → Bool
  pub last : ℕ → ℤ → Point → Bool

abbrev pub shows : Answers → Claim → Bool
shows answers (Order a d b) = answers.order a d b
shows answers (Last s m d b) = answers.last s d b
shows answers (Either one other) = shows answers one || shows answers other
shows answers (Both one other) = shows answers one && shows answers other

abbrev pub all_shown : Answers → List Claim → Bool
all_shown answers claims = list_all (shows answers) claims

-- it is true exactly where the claim holds
abbrev pub Decides : Bool → Type 0 → Type 0
Decides true Holds = Holds
Decides false Holds = Holds → ⊥

-- The answers are right for the acts of a body, and false for sites that have no such act.
pub record Tell (p : Process) (body : Term) (answers : Answers) : Type 0 where
  pub order : (a : Point) (d : ℤ) (b : Point) → IsPoint Point (HasForm body) a → IsPoint Point (HasForm body) b
      → Decides (answers.order a d b) (Precedes body a d b)
  pub no_first : (a : Point) (d : ℤ) (b : Point) → size body ≤ spot_site a.spot → answers.order a d b ≡ false
  pub no_second : (a : Point) (d : ℤ) (b : Point) → size body ≤ spot_site b.spot → answers.order a d b ≡ false
  pub last : (send m : ℕ) → HasAct body send (λ a. Sends a m) → (d : ℤ) (b : Point) → IsPoint Point (HasForm body) b
      → Decides (answers.last send d b) (LastPrecedes body (life_of p m) send d b)
  pub no_send : (send : ℕ) → ((m : ℕ) → HasAct body send (λ a. Sends a m) → ⊥) → (d : ℤ) (b : Point)
      → answers.last send d b ≡ false
  pub no_last : (send : ℕ) (d : ℤ) (b : Point) → size body ≤ spot_site b.spot → answers.last send d b ≡ false
