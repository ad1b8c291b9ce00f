-- The ends of a life are added one by one, and those at the acts on a port act by act.
use Rattle.std.proofs.Common.{◌≡◌, ℕ, ◌+◌, ◌<◌, arith, refl, sym, ◌∙◌, ap, List, [], ◌∷◌, ◌++◌, append_assoc, length, take, get_or, zero, suc, slice_get, Option, Some, None, Bool, false, true}
use Rattle.order_rules.specs.Last.{Ending, Within, At}
use Rattle.core_term.specs.Term.{Term}
use Rattle.core_term.specs.Numbering.{size}
use Rattle.core_term.specs.Widths.{Widths}
use Rattle.core_term.specs.Points.{End}
use Rattle.core_term.specs.Order.{Point, point}
use Rattle.core_term.specs.Process.{LifeEnd, Cycles, Until}
use Rattle.event_points.specs.Endings.{sites_on, ends_at, endings}
use Rattle.event_points.specs.Nodes.{node_of, turn_number}
use Rattle.elaborator.specs.declared.points.Points.{Points}
use Rattle.elaborator.specs.declared.elab.Elab.{Elab}
use Rattle.elaborator.specs.Seen.{points_in}
use Rattle.elaborator.specs.Turns.{IsTwice}
use Rattle.lifetimes.specs.declared.life.End as life
use Rattle.lifetimes.specs.declared.life.End.TheVariants as ends
use Rattle.lifetimes.specs.Ends.{ending_of, endings_of}
use Rattle.life_tables.specs.Ends.{AddsActs, AddsEnd}

-- widths that say nothing: what does not depend on widths is told with them
abbrev pub no_widths : Widths
no_widths = record { registers = λ r. 0; ports = λ m. 0; variables = λ y. 0 }

-- the nodes of an act in a turn
end_in : Option Points → ℕ
end_in None = 0
end_in (Some points) = points.end

pub end_is : (body : Term) (elab : Elab) → IsTwice body elab → (late : Bool) (site : ℕ) → site < size body → (points : Points)
    → points_in elab (turn_number late) site ≡ Some points → points.end ≡ node_of body (point late (End site))
unfolding end_in
end_is body elab twice late site inside points read = ap end_in (sym read ∙ twice.acts late site inside)

-- an end after some
pushed : (old : List life.End) (end : life.End) → endings_of (old ++ end ∷ []) ≡ endings_of old ++ ending_of end ∷ []
pushed [] end = refl
pushed (first ∷ old) end = ap (λ (rest : List (Ending ℕ)). ending_of first ∷ rest) (pushed old end)

pub one_added : (old new : List life.End) (end : life.End) → new ≡ old ++ end ∷ [] → endings_of new ≡ endings_of old ++ ending_of end ∷ []
one_added old new end is = ap endings_of is ∙ pushed old end

two : {A : Type 0} (old : List A) (one other : A) → (old ++ one ∷ []) ++ other ∷ [] ≡ old ++ one ∷ other ∷ []
two old one other = append_assoc old (one ∷ []) (other ∷ [])

pub act_added : (body : Term) (elab : Elab) → IsTwice body elab → (site : ℕ) → site < size body
    → (old middle new : List life.End) (first second : Points)
    → points_in elab 1 site ≡ Some first → points_in elab 2 site ≡ Some second
    → middle ≡ old ++ ends.At first.end ∷ [] → new ≡ middle ++ ends.At second.end ∷ [] → AddsActs body (site ∷ []) old new
act_added body elab twice site inside old middle new first second first_read second_read one_is other_is =
    one_added middle new (ends.At second.end) other_is
    ∙ (ap (λ (before : List (Ending ℕ)). before ++ At second.end ∷ []) (one_added old middle (ends.At first.end) one_is)
    ∙ (two (endings_of old) (At first.end) (At second.end)
    ∙ rw (end_is body elab twice false site inside first first_read, end_is body elab twice true site inside second second_read) refl))

-- some ends after others
then_added : {A : Type 0} (old middle new one other : List A) → middle ≡ old ++ one → new ≡ middle ++ other → new ≡ old ++ (one ++ other)
then_added {A = A} old middle new one other first second = second ∙ (ap (λ (before : List A). before ++ other) first ∙ append_assoc old one other)

-- the acts of a list of which one more is looked at
acts_further : (node : Point → ℕ) (sites : List ℕ) (k default : ℕ) → k < length sites
    → ends_at node (take (suc k) sites) ≡ ends_at node (take k sites) ++ ends_at node (get_or sites k default ∷ [])
acts_further node [] k default within = absurd (omega arith)
acts_further node (site ∷ sites) zero default within = refl
acts_further node (site ∷ sites) (suc k) default within =
    ap (λ (rest : List (Ending ℕ)). At (node (point false (End site))) ∷ At (node (point true (End site))) ∷ rest) (acts_further node sites k default (omega arith))

pub acts_step : (body : Term) (sites : List ℕ) (k default : ℕ) → k < length sites → (old middle new : List life.End)
    → AddsActs body (take k sites) old middle → AddsActs body (get_or sites k default ∷ []) middle new → AddsActs body (take (k + 1) sites) old new
acts_step body sites k default within old middle new first second =
    let next : k + 1 ≡ suc k = omega arith in
    rw next
    (then_added (endings_of old) (endings_of middle) (endings_of new) (ends_at (node_of body) (take k sites)) (ends_at (node_of body) (get_or sites k default ∷ [])) first second
    ∙ ap (λ (more : List (Ending ℕ)). endings_of old ++ more) (sym (acts_further (node_of body) sites k default within)))

-- the ends of a life of which one more is looked at
life_further : (body : Term) (node : Point → ℕ) (lives : List LifeEnd) (k : ℕ) (end : LifeEnd) → slice_get lives k ≡ Some end
    → endings body node (take (suc k) lives) ≡ endings body node (take k lives) ++ endings body node (end ∷ [])
life_further body node [] k end at = absurd cc
life_further body node (first ∷ lives) zero end at = ap (λ (e : LifeEnd). endings body node (e ∷ [])) (let it : first ≡ end = cc in it)
life_further body node (Cycles cycles ∷ lives) (suc k) end at = ap (λ (rest : List (Ending ℕ)). Within cycles ∷ rest) (life_further body node lives k end at)
life_further body node (Until port ∷ lives) (suc k) end at =
    ap (λ (rest : List (Ending ℕ)). ends_at node (sites_on port body) ++ rest) (life_further body node lives k end at)
    ∙ sym (append_assoc (ends_at node (sites_on port body)) (endings body node (take k lives)) (endings body node (end ∷ [])))

pub life_step : (body : Term) (lives : List LifeEnd) (k : ℕ) (end : LifeEnd) → slice_get lives k ≡ Some end → (middle new : List life.End)
    → endings_of middle ≡ endings body (node_of body) (take k lives) → AddsEnd body end middle new
    → endings_of new ≡ endings body (node_of body) (take (k + 1) lives)
life_step body lives k end at middle new first second =
    let next : k + 1 ≡ suc k = omega arith in
    rw next
    (second ∙ (ap (λ (before : List (Ending ℕ)). before ++ endings body (node_of body) (end ∷ [])) first ∙ sym (life_further body (node_of body) lives k end at)))
