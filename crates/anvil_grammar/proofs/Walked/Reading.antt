-- Reading in a thread: the reading of a file, from a state in some thread of some process. Most lemmas say that reading from
-- here comes to reading from there, behind the things that begin between.
use Rattle.std.proofs.Common.{◌≡◌, List, [], ◌∷◌, ◌++◌, refl, subst, append_assoc}
use Rattle.anvil_lexer.specs.declared.token.Token.{Token}
use Rattle.anvil_tree.specs.Tree as tree
use Rattle.anvil_tree.specs.Tree.{Expr, File}
use Rattle.anvil_grammar.specs.Begun.{Begin}
use Rattle.anvil_grammar.specs.State.{Frame, ThreadState, ProcessDraft, in_process, in_thread, between, threads_wanted}
use Rattle.anvil_grammar.specs.Step.{within, quietly, Threaded, at_state, with_thread, Walk, behind, walk_on, walk}

-- what begins first and then, ahead of a reading
behind_behind : (first then : List Begin) (after : Walk) → behind first (behind then after) ≡ behind (first ++ then) after
behind_behind first then after = rw (append_assoc first then after.begun) refl

-- one reading comes to another behind the things that begin between
pub record Comes (here : Walk) (begun : List Begin) (there : Walk) : Type 0 where
  pub same : here ≡ behind begun there

pub stays : {here there : Walk} → here ≡ there → Comes here [] there
stays is = record { same = is }

pub on : {here there far : Walk} {begun others : List Begin} → Comes here begun there → Comes there others far → Comes here (begun ++ others) far
on {far = far} {begun = begun} {others = others} one two = record { same = rw one.same (rw two.same (behind_behind begun others far)) }

-- with nothing begun on the second way
pub on_to : {here there far : Walk} {begun : List Begin} → Comes here begun there → there ≡ far → Comes here begun far
on_to one is = record { same = rw one.same (rw is refl) }

-- by a first step, to there
pub step_to : {here far : Walk} {others : List Begin} (begun : List Begin) (there : Walk) → here ≡ behind begun there → Comes there others far
    → Comes here (begun ++ others) far
step_to {far = far} {others = others} begun there one two = record { same = rw one (rw two.same (behind_behind begun others far)) }

pub move_to : {here far : Walk} {others : List Begin} (there : Walk) → here ≡ there → Comes there others far → Comes here others far
move_to there one two = record { same = rw one two.same }

-- the things that begin, said another way
pub as_begun : {here there : Walk} {begun others : List Begin} → Comes here begun there → begun ≡ others → Comes here others there
as_begun {here = here} {there = there} one is = subst (λ these. Comes here these there) is one

module _ (items : File) (draft : ProcessDraft) where
  abbrev pub reading : List Frame → ThreadState → List Token → Walk
  reading stack state tokens = walk (in_process items (in_thread draft (at_state stack state))) tokens

  -- reading from where a step in the thread comes to
  abbrev pub reading_on : Threaded → Token → List Token → Walk
  reading_on now token rest =
      walk_on (λ next. walk next rest) token (within (in_process items) (λ process. quietly (between (items ++ (tree.process process ∷ []))))
      (within (in_thread draft) (λ term. quietly (threads_wanted (with_thread draft term))) now))
