-- A graph whose nodes stand for points, where a point of the form Same may stand for its predecessor.
--
-- So a node stands for a chain of points that come together. What is asked of the graph is asked for the points of the
-- text alone.
use Rattle.std.specs.Prelude.{◌≡◌, ℕ, ◌⊎◌}
use Rattle.order_rules.specs.Form.{Form, Start, Same, After, Sync, Join, Side, Merge}
use Rattle.order_rules.specs.Last.{Ending, Within, At}

abbrev pub map_form : {P Q : Type 0} → (P → Q) → Form P → Form Q
map_form node Start = Start
map_form node (Same c) = Same (node c)
map_form node (After n c) = After n (node c)
map_form node (Sync c) = Sync (node c)
map_form node (Join c e) = Join (node c) (node e)
map_form node (Side c) = Side (node c)
map_form node (Merge c e) = Merge (node c) (node e)

-- r is reached from b by Same points
pub data Chain (P : Type 0) (HasForm : P → Form P → Type 0) (r : P) : P → Type 0 where
  stop : Chain P HasForm r r
  same : {b c : P} → HasForm b (Same c) → Chain P HasForm r c → Chain P HasForm r b

-- a point of the text: it has a form
abbrev pub IsPoint : (P : Type 0) → (P → Form P → Type 0) → P → Type 0
IsPoint P HasForm b = (f : Form P) × HasForm b f

-- each predecessor is such
abbrev pub AllOf : {P : Type 0} → (P → Type 0) → Form P → Type 0
AllOf Q Start = Unit {0}
AllOf Q (Same c) = Q c
AllOf Q (After n c) = Q c
AllOf Q (Sync c) = Q c
AllOf Q (Join c e) = Q c × Q e
AllOf Q (Side c) = Q c
AllOf Q (Merge c e) = Q c × Q e

-- The node of a point stands for it, for all points of the text: those that a form names are points of the text; a
-- point has the form of its node, or is a Same point that shares the node of its predecessor; each form of a node is
-- that of a point that ends the chain; two points of one node are reached from one point by Same points; and exclusion
-- is the same on both sides.
pub record Stands (P Q : Type 0) (HasForm : P → Form P → Type 0) (HasForm' : Q → Form Q → Type 0)
    (Apart : P → P → Type 0) (Apart' : Q → Q → Type 0) (node : P → Q) : Type 0 where
  pub pred : (b : P) (f : Form P) → HasForm b f → AllOf (IsPoint P HasForm) f
  pub step : (b : P) (f : Form P) → HasForm b f
      → ((c : P) × (f ≡ Same c) × (node b ≡ node c)) ⊎ HasForm' (node b) (map_form node f)
  pub root : (b : P) → IsPoint P HasForm b → (g : Form Q) → HasForm' (node b) g
      → (r : P) × (f : Form P) × Chain P HasForm r b × HasForm r f × (map_form node f ≡ g)
  pub one : (a b : P) → IsPoint P HasForm a → IsPoint P HasForm b → node a ≡ node b
      → (r : P) × Chain P HasForm r a × Chain P HasForm r b
  pub apart : (a b : P) → IsPoint P HasForm a → IsPoint P HasForm b → Apart a b → Apart' (node a) (node b)
  pub apart_back : (a b : P) → IsPoint P HasForm a → IsPoint P HasForm b → Apart' (node a) (node b) → Apart a b

-- the ends of a life on the graph are those on the points; an end stands for itself
pub record EndsStand (P Q : Type 0) (HasForm : P → Form P → Type 0) (node : P → Q) (HasEnding : Ending P → Type 0)
    (HasEnding' : Ending Q → Type 0) : Type 0 where
  pub within : (n : ℕ) → HasEnding (Within n) → HasEnding' (Within n)
  pub within_back : (n : ℕ) → HasEnding' (Within n) → HasEnding (Within n)
  pub at : (b : P) → HasEnding (At b) → HasEnding' (At (node b))
  pub at_back : (v : Q) → HasEnding' (At v) → (b : P) × IsPoint P HasForm b × HasEnding (At b) × (node b ≡ v)
  pub root : (b c : P) → HasEnding (At b) → IsPoint P HasForm c → node c ≡ node b → Chain P HasForm b c
