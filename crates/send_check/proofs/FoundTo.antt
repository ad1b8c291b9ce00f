-- The records of a rule, pair of sites by pair of sites.
use Rattle.std.proofs.Common.{◌≡◌, ℕ, ◌+◌, ◌<◌, ◌≤◌, ◌⊎◌, inl, inr, arith, refl, sym, subst, true, false, List, [], ◌∷◌, ◌++◌, length}
use Rattle.core_term.specs.declared.rules.Rule.{Rule}
use Rattle.core_term.specs.declared.rules.Rule.TheVariants.{V2, V3, V4, V5, V6, V7, V8}
use Rattle.core_term.specs.Lists.{Has}
use Rattle.core_term.specs.Term.{Act, Term}
use Rattle.core_term.specs.Acts.{HasAct, Sets, Receives, Sends}
use Rattle.core_term.specs.Numbering.{size, Numbered}
use Rattle.core_term.specs.Rules.{Claim, Holds, Demands}
use Rattle.demand_checks.specs.declared.judge.Judge.{Judge}
use Rattle.demand_checks.specs.declared.place.Pair.{Pair}
use Rattle.demand_checks.specs.Found.{Fails, AreFound}
use Rattle.demand_checks.specs.Judge.{IsJudge, process_at, body_at}
use Rattle.demand_checks.proofs.Listed.{has_left, has_right, has_either}
use Rattle.demand_checks.proofs.Numbers.{site_below}
use Rattle.send_check.specs.Settled.{IsOwn, Settles, IsBefore, AreFoundTo}
use Rattle.send_check.proofs.Demanded.{sets_of, receives_of, sends_of}

pub none_to : (judge : Judge) (rule : Rule) → AreFoundTo judge rule 0 0 []
none_to judge rule =
    record {
      sound = λ one has. elim has [ ];
      whole = λ first second before claim demanded. absurd (elim before [ inl less ↦ (let z : ⊥ = omega arith in z) | inr at ↦ (let less = at.1 in let z : ⊥ = omega arith in z) ]);
    }

-- the next pair is settled, and stands in the list where it has to
before_next : (first second q r : ℕ) → IsBefore first second q (r + 1) → IsBefore first second q r ⊎ ((first ≡ q) × (second ≡ r))
before_next first second q r (inl less) = inl (inl less)
before_next first second q r (inr at) = elim (two_ways second r at.1) [ inl less ↦ inl (inr (at.0, less)) | inr same ↦ inr (at.0, same) ]
  where
    two_ways : (k n : ℕ) → k < n + 1 → (k < n) ⊎ (k ≡ n)
    two_ways k n within = grind arith

pub next_broken : (judge : Judge) (rule : Rule) (q r : ℕ) (old new : List Pair) → AreFoundTo judge rule q r old → Settles judge rule q r true
    → new ≡ old ++ record { first = q; second = r } ∷ [] → AreFoundTo judge rule q (r + 1) new
next_broken judge rule q r old new found fails is =
    record {
      sound = λ one has. sound one (let In : List Pair → Type 0 = λ pairs. Has pairs one in subst In is has);
      whole = λ first second before claim demanded. whole first second claim demanded (before_next first second q r before);
    }
  where
    sound : (one : Pair) → Has (old ++ record { first = q; second = r } ∷ []) one → Fails (process_at judge) judge.number (body_at judge) rule one.first one.second
    sound one has =
        elim (has_either old (record { first = q; second = r } ∷ []) one has) [
          | inl there ↦ found.sound one there
          | inr (inl same) ↦ (let Failing : Pair → Type 0 = λ pair. Fails (process_at judge) judge.number (body_at judge) rule pair.first pair.second in subst Failing (sym same) fails)
          | inr (inr none) ↦ elim none [ ]
        ]

    whole : (first second : ℕ) (claim : Claim) → Demands (process_at judge) judge.number (body_at judge) rule first second claim → IsBefore first second q r ⊎ ((first ≡ q) × (second ≡ r))
        → Holds (process_at judge) (body_at judge) claim ⊎ Has new (record { first = first; second = second })
    whole first second claim demanded (inl before) =
        elim (found.whole first second before claim demanded) [
          | inl holds ↦ inl holds
          | inr has ↦ inr (let In : List Pair → Type 0 = λ pairs. Has pairs (record { first = first; second = second }) in subst In (sym is) (has_left old (record { first = q; second = r } ∷ []) (record { first = first; second = second }) has))
        ]
    whole first second claim demanded (inr at) =
        let In : List Pair → Type 0 = λ pairs. Has pairs (record { first = first; second = second }) in
        let same : record { first = first; second = second } ≡ record { first = q; second = r } = rw (at.0, at.1) refl in
        inr (subst In (sym is) (has_right old (record { first = q; second = r } ∷ []) (record { first = first; second = second }) (inl same)))

pub next_kept : (judge : Judge) (rule : Rule) (q r : ℕ) (pairs : List Pair) → AreFoundTo judge rule q r pairs → Settles judge rule q r false → AreFoundTo judge rule q (r + 1) pairs
next_kept judge rule q r pairs found keeps =
    record { sound = found.sound; whole = λ first second before claim demanded. whole first second claim demanded (before_next first second q r before) }
  where
    whole : (first second : ℕ) (claim : Claim) → Demands (process_at judge) judge.number (body_at judge) rule first second claim → IsBefore first second q r ⊎ ((first ≡ q) × (second ≡ r))
        → Holds (process_at judge) (body_at judge) claim ⊎ Has pairs (record { first = first; second = second })
    whole first second claim demanded (inl before) = found.whole first second before claim demanded
    whole first second claim demanded (inr at) =
        let Demanded : ℕ → ℕ → Type 0 = λ f s. Demands (process_at judge) judge.number (body_at judge) rule f s claim in
        let here : Demanded q r = subst (λ (f : ℕ). Demanded f r) at.0 (subst (λ (s : ℕ). Demanded first s) at.1 demanded) in
        inl (keeps claim here)

-- sites of demands are those of acts
has_below : (body : Term) → Numbered [] 0 body → (w : ℕ) (Asked : Act → Type 0) → HasAct body w Asked → w < size body
has_below body numbered w Asked has = let Below : ℕ → Type 0 = λ q. q < size body in subst Below has.3 (site_below body has.1 has.0 numbered has.2)

pub sites_below : (judge : Judge) → IsJudge judge → (rule : Rule) → IsOwn rule → (first second : ℕ) (claim : Claim) → Demands (process_at judge) judge.number (body_at judge) rule first second claim
    → (first < length judge.deeds.items) × (second < length judge.deeds.items)
sites_below judge is V2 own first second claim demanded = elim own [ ]
sites_below judge is V3 own first second claim demanded =
    let of = sets_of (process_at judge) judge.number (body_at judge) V3 first second claim demanded refl in
    let one = has_below (body_at judge) is.numbered first (λ a. Sets a of.register) of.first in
    let other = has_below (body_at judge) is.numbered second (λ a. Sets a of.register) of.second in
    let count = is.deeds.count in (omega arith, omega arith)
sites_below judge is V4 own first second claim demanded =
    let of = receives_of (process_at judge) judge.number (body_at judge) V4 first second claim demanded refl in
    let one = has_below (body_at judge) is.numbered first (λ a. Receives a of.port) of.first in
    let other = has_below (body_at judge) is.numbered second (λ a. Receives a of.port) of.second in
    let count = is.deeds.count in (omega arith, omega arith)
sites_below judge is V5 own first second claim demanded =
    let of = sends_of (process_at judge) judge.number (body_at judge) V5 first second claim demanded refl in
    let one = has_below (body_at judge) is.numbered first (λ a. Sends a of.port) of.first in
    let other = has_below (body_at judge) is.numbered second (λ a. Sends a of.port) of.second in
    let count = is.deeds.count in (omega arith, omega arith)
sites_below judge is V6 own first second claim demanded = elim own [ ]
sites_below judge is V7 own first second claim demanded = elim own [ ]
sites_below judge is V8 own first second claim demanded = elim own [ ]

-- a first site is done, and all are
pub row_done : (judge : Judge) → IsJudge judge → (rule : Rule) → IsOwn rule → (q r : ℕ) (pairs : List Pair) → length judge.deeds.items ≤ r → AreFoundTo judge rule q r pairs → AreFoundTo judge rule (q + 1) 0 pairs
row_done judge is rule own q r pairs past found =
    record {
      sound = found.sound;
      whole = λ first second before claim demanded.
          let below = (sites_below judge is rule own first second claim demanded).1 in
          found.whole first second (elim before [ inl less ↦ elim (two_ways first q less) [ inl earlier ↦ inl earlier | inr same ↦ inr (same, omega arith) ] | inr at ↦ absurd (let none = at.1 in let z : ⊥ = omega arith in z) ]) claim demanded;
    }
  where
    two_ways : (k n : ℕ) → k < n + 1 → (k < n) ⊎ (k ≡ n)
    two_ways k n within = grind arith

pub all_done : (judge : Judge) → IsJudge judge → (rule : Rule) → IsOwn rule → (q : ℕ) (pairs : List Pair) → length judge.deeds.items ≤ q → AreFoundTo judge rule q 0 pairs
    → AreFound (process_at judge) judge.number (body_at judge) rule pairs
all_done judge is rule own q pairs past found =
    record {
      sound = found.sound;
      whole = λ first second claim demanded. let below = (sites_below judge is rule own first second claim demanded).0 in found.whole first second (inl (omega arith)) claim demanded;
    }
