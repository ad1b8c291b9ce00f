-- What is demanded of two sites by the rules on two acts that do the same, by rule.
use Rattle.std.proofs.Common.{◌≡◌, ℕ, ◌<◌, ◌⊎◌, inl, inr, refl, pos}
use Rattle.core_term.specs.declared.rules.Rule.{Rule}
use Rattle.core_term.specs.declared.rules.Rule.TheVariants.{V3, V4, V5}
use Rattle.core_term.specs.Term.{Term}
use Rattle.core_term.specs.Acts.{Receives, Sends, HasAct, SetAt}
use Rattle.core_term.specs.Process.{Process}
use Rattle.core_term.specs.Rules.{Claim, Order, Last, Either, Demands, begin_of, end_of, next_begin_of}
use Rattle.core_term.specs.Rules.{made, sets, receives, sends, sends_next, wire_within, wire_until, set_elsewhere, set_here, choice}

pub record OfSets (body : Term) (q r : ℕ) (claim : Claim) : Type 0 where
  pub register : ℕ
  pub first : SetAt body q register
  pub second : SetAt body r register
  pub less : q < r
  pub is : claim ≡ Either (Order (end_of q) (pos 0) (begin_of r)) (Order (end_of r) (pos 0) (begin_of q))

pub record OfReceives (body : Term) (q r : ℕ) (claim : Claim) : Type 0 where
  pub port : ℕ
  pub first : HasAct body q (λ a. Receives a port)
  pub second : HasAct body r (λ a. Receives a port)
  pub less : q < r
  pub is : claim ≡ Either (Order (end_of q) (pos 1) (begin_of r)) (Order (end_of r) (pos 1) (begin_of q))

pub record OfSends (body : Term) (q r : ℕ) (claim : Claim) : Type 0 where
  pub port : ℕ
  pub first : HasAct body q (λ a. Sends a port)
  pub second : HasAct body r (λ a. Sends a port)
  pub is : ((q < r) × (claim ≡ Either (Last q port (pos 1) (begin_of r)) (Last r port (pos 1) (begin_of q))))
      ⊎ (claim ≡ Last q port (pos 1) (next_begin_of r))

pub sets_of : (p : Process) (j : ℕ) (body : Term) (rule : Rule) (q r : ℕ) (claim : Claim) → Demands p j body rule q r claim → rule ≡ V3 → OfSets body q r claim
sets_of p j body _ _ _ _ (sets q r register one other less) is = record { register = register; first = one; second = other; less = less; is = refl }
sets_of p j body _ _ _ _ (made scope u y stands reads) is = absurd cc
sets_of p j body _ _ _ _ (receives q r m one other less) is = absurd cc
sets_of p j body _ _ _ _ (sends q r m one other less) is = absurd cc
sets_of p j body _ _ _ _ (sends_next q r m one other) is = absurd cc
sets_of p j body _ _ _ _ (wire_within u q m k rests received has) is = absurd cc
sets_of p j body _ _ _ _ (wire_until u q m n w rests received has on) is = absurd cc
sets_of p j body _ _ _ _ (set_elsewhere u q r i w other rests thread differs written) is = absurd cc
sets_of p j body _ _ _ _ (set_here u q r w rests written) is = absurd cc
sets_of p j body _ _ _ _ (choice u q rests) is = absurd cc

pub receives_of : (p : Process) (j : ℕ) (body : Term) (rule : Rule) (q r : ℕ) (claim : Claim) → Demands p j body rule q r claim → rule ≡ V4 → OfReceives body q r claim
receives_of p j body _ _ _ _ (receives q r m one other less) is = record { port = m; first = one; second = other; less = less; is = refl }
receives_of p j body _ _ _ _ (made scope u y stands reads) is = absurd cc
receives_of p j body _ _ _ _ (sets q r register one other less) is = absurd cc
receives_of p j body _ _ _ _ (sends q r m one other less) is = absurd cc
receives_of p j body _ _ _ _ (sends_next q r m one other) is = absurd cc
receives_of p j body _ _ _ _ (wire_within u q m k rests received has) is = absurd cc
receives_of p j body _ _ _ _ (wire_until u q m n w rests received has on) is = absurd cc
receives_of p j body _ _ _ _ (set_elsewhere u q r i w other rests thread differs written) is = absurd cc
receives_of p j body _ _ _ _ (set_here u q r w rests written) is = absurd cc
receives_of p j body _ _ _ _ (choice u q rests) is = absurd cc

pub sends_of : (p : Process) (j : ℕ) (body : Term) (rule : Rule) (q r : ℕ) (claim : Claim) → Demands p j body rule q r claim → rule ≡ V5 → OfSends body q r claim
sends_of p j body _ _ _ _ (sends q r m one other less) is = record { port = m; first = one; second = other; is = inl (less, refl) }
sends_of p j body _ _ _ _ (sends_next q r m one other) is = record { port = m; first = one; second = other; is = inr refl }
sends_of p j body _ _ _ _ (made scope u y stands reads) is = absurd cc
sends_of p j body _ _ _ _ (sets q r register one other less) is = absurd cc
sends_of p j body _ _ _ _ (receives q r m one other less) is = absurd cc
sends_of p j body _ _ _ _ (wire_within u q m k rests received has) is = absurd cc
sends_of p j body _ _ _ _ (wire_until u q m n w rests received has on) is = absurd cc
sends_of p j body _ _ _ _ (set_elsewhere u q r i w other rests thread differs written) is = absurd cc
sends_of p j body _ _ _ _ (set_here u q r w rests written) is = absurd cc
sends_of p j body _ _ _ _ (choice u q rests) is = absurd cc
