-- What an outcome says of the outcomes that it was made from: where a chain, an `if`, a wait or a found wire is done, so are
-- its parts, and with which values.
use Rattle.std.proofs.Common.{◌≡◌, ℕ, refl, sym, ◌∙◌, ap, ◌∷◌, Bool, true, false, nat_lt, Option, Some, None}
use Rattle.core_term.specs.Value.{Value, Outcome, Open, Done, nothing, Choice}
use Rattle.core_term.specs.Inputs.{Inputs}
use Rattle.core_term.specs.Ends.{found, after_end, later, decided, waited}

pub chain_done : (inputs : Inputs) (r : Outcome) (k : ℕ → Value → Outcome) (e : ℕ) (v : Value) → after_end inputs r k ≡ Done e v → (c : ℕ) × (w : Value) × (r ≡ Done c w) × (nat_lt c inputs.count ≡ true) × (k c w ≡ Done e v)
chain_done inputs Open k e v q = absurd cc
chain_done inputs (Done c w) k e v q = go (nat_lt c inputs.count) refl
  where
    go : (b : Bool) → nat_lt c inputs.count ≡ b → (c' : ℕ) × (w' : Value) × (Done c w ≡ Done c' w') × (nat_lt c' inputs.count ≡ true) × (k c' w' ≡ Done e v)
    go true i = (c, w, refl, i, rw i at q)
    go false i = let equal : Open ≡ Done e v = rw i at q in absurd cc

pub both_done : (r u : Outcome) (e : ℕ) (v : Value) → later r u ≡ Done e v → (d : ℕ) × (u ≡ Done d v)
both_done Open u e v q = absurd cc
both_done (Done a b) Open e v q = absurd cc
both_done (Done a b) (Done c d) e v q = let next_equal : d ≡ v = cc in (c, rw next_equal refl)

pub decided_done : (p s : ℕ) (o : Outcome) (e : ℕ) (v : Value) → decided true p s o ≡ Done e v → (w : Value) × (o ≡ Done e w) × (v ≡ record { number = w.number; atoms = Choice p s ∷ w.atoms })
decided_done p s Open e v q = absurd cc
decided_done p s (Done a b) e v q = let last_equal : a ≡ e = cc in (b, rw last_equal refl, cc)

pub unit_done : (p s : ℕ) (o : Outcome) (e : ℕ) (v : Value) → decided false p s o ≡ Done e v → v ≡ nothing
unit_done p s Open e v q = absurd cc
unit_done p s (Done a b) e v q = cc

pub waited_done : (s : ℕ) (o : Outcome) (e : ℕ) (v : Value) → waited s o ≡ Done e v → (a : ℕ) × (o ≡ Done a v)
waited_done s Open e v q = absurd cc
waited_done s (Done a b) e v q = let other_equal : b ≡ v = cc in (a, rw other_equal refl)

pub found_done : (r : Option ℕ) (f : ℕ → Value) (e : ℕ) (v : Value) → found r f ≡ Done e v → v ≡ f e
found_done None f e v q = absurd cc
found_done (Some u) f e v q = let more_equal : u ≡ e = cc in let further_equal : f u ≡ v = cc in sym further_equal ∙ ap f more_equal
