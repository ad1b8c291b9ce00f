-- The places of a tree from left to right, each part at the token that it is named by: what stands before what in the text. An
-- operator stands between its operands, a function before them. The places are in order where they never fall.
use Rattle.std.specs.Prelude.{⊤, ℕ, ◌≤◌, List, [], ◌∷◌, ◌++◌, map}
use Rattle.std.specs.List.{AllByRecursion}
use Rattle.anvil_tree.specs.declared.expr.BinOp.{BinOp}
use Rattle.anvil_tree.specs.declared.expr.BinOp.TheVariants as operator
use Rattle.anvil_tree.specs.declared.file.Endpoint.{Endpoint}
use Rattle.anvil_tree.specs.declared.file.Message.{Message}
use Rattle.anvil_tree.specs.declared.file.Register.{Register}
use Rattle.anvil_tree.specs.Tree as tree
use Rattle.anvil_tree.specs.Tree.{Expr, Term, Act, Class, Process, Item, File}

-- the root's place among those of its operands
abbrev pub with_root : ℕ → BinOp → List ℕ → List ℕ → List ℕ
with_root place operator.Shl first second = place ∷ (first ++ second)
with_root place operator.Shr first second = place ∷ (first ++ second)
with_root place operator.Cat first second = place ∷ (first ++ second)
with_root place sign first second = first ++ (place ∷ second)

-- the nodes of an expression
abbrev pub nodes_of : Expr → List ℕ
nodes_of (tree.literal place width value) = place ∷ []
nodes_of (tree.variable place name) = place ∷ []
nodes_of (tree.shown place register) = place ∷ []
nodes_of (tree.inverse place operand) = place ∷ nodes_of operand
nodes_of (tree.binary place sign first second) = with_root place sign (nodes_of first) (nodes_of second)
nodes_of (tree.slice place name high low) = place ∷ []
nodes_of (tree.choice place condition first second) = nodes_of condition ++ (place ∷ (nodes_of first ++ nodes_of second))
nodes_of (tree.unit place) = place ∷ []

-- the acts of a term, each before the acts inside it, with the nodes of their expressions. An act that is an expression has the
-- place of its root node, which stands among the nodes.
abbrev mutual
  pub places_of_term : Term → List ℕ
  places_of_term (tree.single act) = places_of_act act
  places_of_term (tree.follow bound act term) = places_of_act act ++ places_of_term term
  places_of_term (tree.beside bound act term) = places_of_act act ++ places_of_term term

  pub places_of_act : Act → List ℕ
  places_of_act (tree.cycle place count count_at) = place ∷ []
  places_of_act (tree.set place register register_at value) = place ∷ nodes_of value
  places_of_act (tree.send place endpoint endpoint_at message message_at value) = place ∷ nodes_of value
  places_of_act (tree.receive place endpoint endpoint_at message message_at) = place ∷ []
  places_of_act (tree.when place condition first) = place ∷ (nodes_of condition ++ places_of_term first)
  places_of_act (tree.either place condition first second) = place ∷ (nodes_of condition ++ (places_of_term first ++ places_of_term second))
  places_of_act (tree.block place term) = place ∷ places_of_term term
  places_of_act (tree.pure place expr) = nodes_of expr

-- the acts alone, in the order of the tree, each before the acts inside it
abbrev mutual
  pub acts_of_term : Term → List ℕ
  acts_of_term (tree.single act) = acts_of_act act
  acts_of_term (tree.follow bound act term) = acts_of_act act ++ acts_of_term term
  acts_of_term (tree.beside bound act term) = acts_of_act act ++ acts_of_term term

  pub acts_of_act : Act → List ℕ
  acts_of_act (tree.cycle place count count_at) = place ∷ []
  acts_of_act (tree.set place register register_at value) = place ∷ []
  acts_of_act (tree.send place endpoint endpoint_at message message_at value) = place ∷ []
  acts_of_act (tree.receive place endpoint endpoint_at message message_at) = place ∷ []
  acts_of_act (tree.when place condition first) = place ∷ acts_of_term first
  acts_of_act (tree.either place condition first second) = place ∷ (acts_of_term first ++ acts_of_term second)
  acts_of_act (tree.block place term) = place ∷ acts_of_term term
  acts_of_act (tree.pure place expr) = place ∷ []

abbrev pub places_of_terms : List Term → List ℕ
places_of_terms [] = []
places_of_terms (term ∷ terms) = places_of_term term ++ places_of_terms terms

-- the name of an item, and then its parts
abbrev pub places_of_item : Item → List ℕ
places_of_item (tree.class class) = class.at ∷ map (λ (message : Message). message.at) class.messages
places_of_item (tree.process process) =
    process.at ∷ (map (λ (endpoint : Endpoint). endpoint.at) process.endpoints
    ++ (map (λ (register : Register). register.at) process.registers ++ places_of_terms process.threads))

abbrev pub places_of_file : File → List ℕ
places_of_file [] = []
places_of_file (item ∷ items) = places_of_item item ++ places_of_file items

-- no place falls behind the one before it
abbrev pub NeverFall : List ℕ → Type 0
NeverFall [] = ⊤
NeverFall (place ∷ []) = ⊤
NeverFall (place ∷ later ∷ places) = (place ≤ later) × NeverFall (later ∷ places)

-- in each thread of the item, no act falls behind the act before it, or behind the act that it is inside
abbrev pub ActsNeverFallIn : Item → Type 0
ActsNeverFallIn (tree.class class) = ⊤
ActsNeverFallIn (tree.process process) = AllByRecursion (λ term. NeverFall (acts_of_term term)) process.threads

abbrev pub ActsNeverFall : File → Type 0
ActsNeverFall file = AllByRecursion ActsNeverFallIn file
