-- When the points of a turn occur, and the local rule of each form.
--
-- This speaks of one turn: what became of each of its acts tells at which cycle each point occurs, that it is lost
-- since an `if` around it has decided for the other side, or that it may still come. The local rule of a point goes
-- both ways: from a point that occurs to those that its form names, and from those to it, where they come within the
-- list.
use Rattle.std.specs.Prelude.{ℕ, ◌≡◌, ◌+◌, ◌<◌, ◌≤◌, ◌⊎◌, max, if◌then◌else◌, List, [], ◌∷◌}
use Rattle.order_rules.specs.Form.{Form, Start, Same, After, Sync, Join, Side, Merge}
use Rattle.core_term.specs.Inputs.{Inputs}
use Rattle.core_term.specs.Term.{Act, When, head}
use Rattle.core_term.specs.Value.{Outcome, Open, Done}
use Rattle.core_term.specs.Ends.{Sees, ends, act_ends}
use Rattle.core_term.specs.Fate.{Fate, Waits, Lost, Runs}
use Rattle.core_term.specs.Points.{Spot, TermBegin, TermEnd, Begin, End, NoSide, Formed}

-- Later: not in the list so far as it is known. Gone: lost, on a side that was not taken. At: in this cycle
pub data Occurrence : Type 0 where
  Later : Occurrence
  Gone : Occurrence
  At : ℕ → Occurrence

abbrev pub of_outcome : Outcome → Occurrence
of_outcome Open = Later
of_outcome (Done e v) = At e

-- of the begin of an act and of the term that it heads, from what became of the act
abbrev pub begin_at : Fate → Occurrence
begin_at Waits = Later
begin_at Lost = Gone
begin_at (Runs scope start t) = At start

-- of the end of the act
abbrev pub end_at : Inputs → Sees → Fate → Occurrence
end_at inputs view Waits = Later
end_at inputs view Lost = Gone
end_at inputs view (Runs scope start t) = of_outcome (act_ends inputs view scope start (head t))

-- of the end of the term that it heads
abbrev pub term_end_at : Inputs → Sees → Fate → Occurrence
term_end_at inputs view Waits = Later
term_end_at inputs view Lost = Gone
term_end_at inputs view (Runs scope start t) = of_outcome (ends inputs view scope start t)

-- of the missing side of an `if`
abbrev pub no_side : Sees → (ℕ → Outcome) → ℕ → Act → Occurrence
no_side view scope start (When p e t) = if view.decide p start scope e then Gone else At start
no_side view scope start a = Later

abbrev pub no_side_at : Sees → Fate → Occurrence
no_side_at view Waits = Later
no_side_at view Lost = Gone
no_side_at view (Runs scope start t) = no_side view scope start (head t)

-- of each point of a turn, from what became of its acts
abbrev pub occurrence : Inputs → Sees → (ℕ → Fate) → Spot → Occurrence
occurrence inputs view run (TermBegin p) = begin_at (run p)
occurrence inputs view run (Begin p) = begin_at (run p)
occurrence inputs view run (End p) = end_at inputs view (run p)
occurrence inputs view run (TermEnd p) = term_end_at inputs view (run p)
occurrence inputs view run (NoSide p) = no_side_at view (run p)

-- The local rules, over a list of T cycles: b has the form, c and e are the points that it names.

pub record SameRule (T : ℕ) (b c : Occurrence) : Type 0 where
  pub up : (t : ℕ) → b ≡ At t → c ≡ At t
  pub down : (t : ℕ) → t < T → c ≡ At t → b ≡ At t
  pub lost : c ≡ Gone → b ≡ Gone

-- b comes with c, or is lost there
pub record SideRule (T : ℕ) (b c : Occurrence) : Type 0 where
  pub up : (t : ℕ) → b ≡ At t → c ≡ At t
  pub down : (t : ℕ) → t < T → c ≡ At t → (b ≡ Gone) ⊎ (b ≡ At t)
  pub lost : c ≡ Gone → b ≡ Gone

pub record AfterRule (T n : ℕ) (b c : Occurrence) : Type 0 where
  pub up : (t : ℕ) → b ≡ At t → (start : ℕ) × (start + n ≡ t) × (c ≡ At start)
  pub down : (start : ℕ) → start < T → c ≡ At start → b ≡ At (start + n)
  pub lost : c ≡ Gone → b ≡ Gone

-- b may never come
pub record SyncRule (T : ℕ) (b c : Occurrence) : Type 0 where
  pub up : (t : ℕ) → b ≡ At t → (start : ℕ) × (start ≤ t) × (c ≡ At start)

pub record JoinRule (T : ℕ) (b c e : Occurrence) : Type 0 where
  pub up : (t : ℕ) → b ≡ At t → (start u : ℕ) × (max start u ≡ t) × (c ≡ At start) × (e ≡ At u)
  pub down : (start u : ℕ) → start < T → u < T → c ≡ At start → e ≡ At u → b ≡ At (max start u)
  pub lost : (c ≡ Gone) ⊎ (e ≡ Gone) → b ≡ Gone

pub record MergeRule (T : ℕ) (b c e : Occurrence) : Type 0 where
  pub up : (t : ℕ) → b ≡ At t → (c ≡ At t) ⊎ (e ≡ At t)
  pub first : (t : ℕ) → t < T → c ≡ At t → b ≡ At t
  pub second : (t : ℕ) → t < T → e ≡ At t → b ≡ At t
  pub lost : c ≡ Gone → e ≡ Gone → b ≡ Gone

-- the point b of this form keeps its rule
abbrev pub LocalRule : ℕ → (Spot → Occurrence) → Spot → Form Spot → Type 0
LocalRule T at b Start = Unit {0}
LocalRule T at b (Same c) = SameRule T (at b) (at c)
LocalRule T at b (Side c) = SideRule T (at b) (at c)
LocalRule T at b (After n c) = AfterRule T n (at b) (at c)
LocalRule T at b (Sync c) = SyncRule T (at b) (at c)
LocalRule T at b (Join c e) = JoinRule T (at b) (at c) (at e)
LocalRule T at b (Merge c e) = MergeRule T (at b) (at c) (at e)

abbrev pub Obeys : ℕ → (Spot → Occurrence) → List Formed → Type 0
Obeys T at [] = Unit {0}
Obeys T at (f ∷ fs) = LocalRule T at f.spot f.form × Obeys T at fs
