-- Lives of exchanges and a broken promise, computed.
use Rattle.std.proofs.Common.{◌≡◌, ℕ, ◌<◌, arith, refl, sym, ap, subst, true, false, List, [], ◌∷◌, ◌==◌, zero, suc}
use Rattle.core_term.specs.Inputs.{Inputs}
use Rattle.core_term.specs.Process.{LifeEnd, Cycles, Until, is_received, life_of}
use Rattle.core_term.specs.Wires.{Wires, Exchange, InLife, IsKept}
use Rattle.core_term.specs.History.{history}
use Rattle.core_term.specs.Outputs.{alive, wires}
use Rattle.core_term.specs.Breach.{IsFirstBreach}
use Rattle.run_laws.proofs.examples.ExampleProcesses.{echo, given}

-- a life that ends at the next exchange of the port 1 or after 8 cycles, whichever is first
abbrev either : List LifeEnd
either = Until 1 ∷ Cycles 8 ∷ []

never_ends : (alive (λ m t. false) either 0 7 ∷ alive (λ m t. false) either 0 8 ∷ []) ≡ true ∷ false ∷ []
never_ends = refl

-- an exchange of the port 1 in cycle 3 ends it there, and its own cycle is still in the life
ends_early : (alive (λ m t. t == 3) either 0 3 ∷ alive (λ m t. t == 3) either 0 4 ∷ []) ≡ true ∷ false ∷ []
ends_early = refl

-- one in the cycle of the exchange itself ends it there
ends_at_once : (alive (λ m t. t == 0) either 0 0 ∷ alive (λ m t. t == 0) either 0 1 ∷ []) ≡ true ∷ false ∷ []
ends_at_once = refl

-- The request that was taken in cycle 1 is promised to stay until the answer is taken in cycle 2, and changes there.
abbrev changed : Inputs
changed = given 4 ((0 ∷ 1 ∷ 0 ∷ 0 ∷ []) ∷ (0 ∷ 0 ∷ 1 ∷ 0 ∷ []) ∷ []) ((0 ∷ 7 ∷ 9 ∷ 0 ∷ []) ∷ [])

abbrev shown : Wires
shown = wires echo changed (history echo changed)

-- the answer is not taken in cycle 1
not_taken : Exchange shown 1 1 → ⊥
not_taken e = let decided : false ≡ true = e.2 in absurd cc

differ : (n : ℕ) → n ≡ 9 → n ≡ 7 → ⊥
differ n k l = omega arith

breaks : IsKept shown (life_of echo 0) 0 2 → ⊥
breaks kept =
    let life : InLife shown (life_of echo 0) 1 2 = (omega arith, ((λ c low high e. not_taken (let equal : c ≡ 1 = omega arith in subst (λ z. Exchange shown 1 z) equal e)), tt)) in
    let taken : Exchange shown 0 1 = (omega arith, refl, refl) in
    differ (shown.data_at 0 2) refl (kept 1 2 taken (omega arith) life)

-- up to cycle 1 there is one exchange, in that cycle
kept_before : (t : ℕ) → t < 2 → IsKept shown (life_of echo 0) 0 t
kept_before t l zero cycle e m life = let next_decided : false ≡ true = e.1 in absurd cc
kept_before t l (suc s) cycle e m life = let next_equal : cycle ≡ suc s = let by_life = life.0 in omega arith in ap (λ c. shown.data_at 0 c) next_equal

first_port : (m : ℕ) → is_received echo m ≡ true → m ≡ 0
first_port zero k = refl
first_port (suc zero) k = absurd cc
first_port (suc (suc m)) k = absurd cc

breach : IsFirstBreach echo shown 2 0
breach = record {
  within = omega arith;
  before = λ t l m k. let last_equal : 0 ≡ m = sym (first_port m k) in subst (λ n. IsKept shown (life_of echo n) n t) last_equal (kept_before t l);
  received = refl;
  broken = breaks;
  first = λ m l k. absurd (omega arith);
}
