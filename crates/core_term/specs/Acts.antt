-- What an act does, told from its text: the port it is on, the register it sets, the variables it reads, the value it
-- uses.
use Rattle.std.specs.Prelude.{ℕ, ◌≡◌, ◌<◌, List, []}
use Rattle.core_term.specs.Term.{Expr, Term, Act, Set, Send, Recv, If, When, Pure, site, head}
use Rattle.core_term.specs.Numbering.{Mentions, Numbered, size}
use Rattle.core_term.specs.Stands.{Stands}

abbrev pub OnPort : Act → ℕ → Type 0
OnPort (Send p m e) n = m ≡ n
OnPort (Recv p m) n = m ≡ n
OnPort a n = ⊥

abbrev pub Receives : Act → ℕ → Type 0
Receives (Recv p m) n = m ≡ n
Receives a n = ⊥

abbrev pub Sends : Act → ℕ → Type 0
Sends (Send p m e) n = m ≡ n
Sends a n = ⊥

abbrev pub Sets : Act → ℕ → Type 0
Sets (Set p r e) q = r ≡ q
Sets a q = ⊥

-- the variable y stands in an expression of the act. A wait has no expression
abbrev pub Reads : Act → ℕ → Type 0
Reads (Set p r e) y = Mentions e y
Reads (Send p m e) y = Mentions e y
Reads (If p e t u w) y = Mentions e y
Reads (When p e t) y = Mentions e y
Reads (Pure p e) y = Mentions e y
Reads a y = ⊥

-- the act uses the value of an expression
abbrev pub Uses : Act → Expr → Type 0
Uses (Set p r f) e = f ≡ e
Uses (Send p m f) e = f ≡ e
Uses (If p f t u w) e = f ≡ e
Uses (When p f t) e = f ≡ e
Uses a e = ⊥

-- the act is an `if` with this condition
abbrev pub Asks : Act → Expr → Type 0
Asks (If p e t u w) f = e ≡ f
Asks (When p e t) f = e ≡ f
Asks a f = ⊥

-- the act of the site w stands in a body, with what is asked of it
abbrev pub HasAct : Term → ℕ → (Act → Type 0) → Type 0
HasAct body w Asked = (scope : List Act) × (u : Term) × Stands [] body scope u × (site (head u) ≡ w) × Asked (head u)

-- the site w has an act on the port m
abbrev pub ActOn : Term → ℕ → ℕ → Type 0
ActOn body w m = HasAct body w (λ a. OnPort a m)

-- the site w sets the register r
abbrev pub SetAt : Term → ℕ → ℕ → Type 0
SetAt body w r = HasAct body w (λ a. Sets a r)

-- the site w is that of an act of a body, which heads a term
pub record IsAt (body : Term) (w : ℕ) : Type 0 where
  pub scope : List Act
  pub term : Term
  pub stands : Stands [] body scope term
  pub is_site : site (head term) ≡ w

-- Each number below the count of its acts is the site of an act of a numbered body.
abbrev pub EachSiteHasAnAct : Type 0
EachSiteHasAnAct = (body : Term) → Numbered [] 0 body → (w : ℕ) → w < size body → IsAt body w
