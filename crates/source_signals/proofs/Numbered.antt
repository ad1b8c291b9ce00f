-- Signals that are numbered one after the other.
use Rattle.std.proofs.Common.{◌≡◌, ℕ, zero, suc, ◌+◌, ◌<◌, List, [], ◌∷◌, ◌++◌, get_or, length, refl, sym, ◌∙◌, ap, arith}
use Rattle.std.specs.Prelude.{slice_get, Some}
use Rattle.std.proofs.Math.ListN.{take}
use Rattle.std.proofs.lemmas.List.{length-take-le, take_more}
use Rattle.module_nets.specs.declared.signal.Signal.{Signal}
use Rattle.source_signals.specs.Sources.{numbered}

pub numbered_count : {A : Type 0} (signal : ℕ → A → Signal) (first : ℕ) (items : List A) → length (numbered signal first items) ≡ length items
numbered_count signal first [] = refl
numbered_count signal first (item ∷ items) = let rest = numbered_count signal (suc first) items in omega (arith, rest)

pub numbered_more : {A : Type 0} (signal : ℕ → A → Signal) (first place : ℕ) (items : List A) (item : A) → length items ≡ place
    → numbered signal first (items ++ item ∷ []) ≡ numbered signal first items ++ signal (first + place) item ∷ []
numbered_more signal first zero [] item count = ap (λ place. signal place item ∷ []) (omega arith)
numbered_more signal first (suc place) [] item count = absurd (omega (arith, count))
numbered_more signal first zero (other ∷ items) item count = absurd (omega (arith, count))
numbered_more signal first (suc place) (other ∷ items) item count =
    ap (λ rest. signal first other ∷ rest)
    (numbered_more signal (suc first) place items item (omega (arith, count)) ∙ ap (λ place. numbered signal (suc first) items ++ signal place item ∷ []) (omega arith))

-- the signal of an item, by its number
pub numbered_get : {A : Type 0} (signal : ℕ → A → Signal) (first place : ℕ) (items : List A) (item : A) (none : Signal) → slice_get items place ≡ Some item
    → get_or (numbered signal first items) place none ≡ signal (first + place) item
numbered_get signal first place [] item none there = absurd cc
numbered_get signal first zero (other ∷ items) item none there =
    let same : other ≡ item = cc in ap (λ item. signal first item) same ∙ ap (λ place. signal place item) (omega arith)
numbered_get signal first (suc place) (other ∷ items) item none there =
    let moved : suc first + place ≡ first + suc place = omega arith in numbered_get signal (suc first) place items item none there ∙ ap (λ number. signal number item) moved

-- one signal more, of the next item of a list
pub next_numbered : {A : Type 0} (signal : ℕ → A → Signal) (items : List A) (place : ℕ) (signals longer : List Signal) (made : Signal) (item : A) → place < length items
    → signals ≡ numbered signal 0 (take place items) → longer ≡ signals ++ made ∷ [] → made ≡ signal place item → item ≡ get_or items place item
    → longer ≡ numbered signal 0 (take (place + 1) items)
next_numbered signal items place signals longer made item inside before after is read =
    let taken = take_more items place item inside in
    let count : length (take place items) ≡ place = length-take-le place items (omega (arith, inside)) in
    after
    ∙ (ap (λ list. list ++ made ∷ []) before
    ∙ (ap (λ made. numbered signal 0 (take place items) ++ made ∷ []) (is ∙ ap (λ item. signal place item) read)
    ∙ (ap (λ number. numbered signal 0 (take place items) ++ signal number (get_or items place item) ∷ []) (omega arith)
    ∙ (sym (numbered_more signal 0 place (take place items) (get_or items place item) count)
    ∙ ap (λ list. numbered signal 0 list) (sym taken)))))
