-- What is kept of acts that begin is what it is meant to be.
use Rattle.std.specs.Prelude.{ℕ, ◌≡◌, ◌<◌, ◌≤◌, ◌↔◌, Bool, true, false}
use Rattle.turn_pulses.specs.Latest.{IsLatest, IsNewest, BeganLast, first_shown, last_write}

-- The choice of the latest begin is shown until the act begins again, and before its first begin nothing is.
abbrev pub LatestIsShown : Type 0
LatestIsShown = (begun choice shown kept : ℕ → Bool) → IsLatest begun choice shown kept
    → ((start cycle : ℕ) → start ≤ cycle → begun start ≡ true
    → ((later : ℕ) → start < later → later ≤ cycle → begun later ≡ false) → shown cycle ≡ choice start)
    × ((cycle : ℕ) → ((earlier : ℕ) → earlier ≤ cycle → begun earlier ≡ false) → shown cycle ≡ false)

-- The act that is shown is the one that began last.
abbrev pub NewestBeganLast : Type 0
NewestBeganLast = (count : ℕ) (begun shown kept : ℕ → ℕ → Bool) → IsNewest count begun shown kept
    → (act cycle : ℕ) → act < count → (shown act cycle ≡ true) ↔ ((start : ℕ) × BeganLast count begun act start cycle)

-- So the value that is shown is that of the act that began last, or the other one where no act has begun.
abbrev pub NewestValueIsShown : Type 0
NewestValueIsShown = (count : ℕ) (begun shown kept : ℕ → ℕ → Bool) → IsNewest count begun shown kept
    → (value : ℕ → ℕ) (other cycle : ℕ)
    → ((act : ℕ) → act < count → (start : ℕ) × BeganLast count begun act start cycle
    → first_shown (λ k. shown k cycle) value other 0 count ≡ value act)
    × (((act : ℕ) → act < count → (start : ℕ) × BeganLast count begun act start cycle → ⊥)
    → first_shown (λ k. shown k cycle) value other 0 count ≡ other)

-- Of several writes in a cycle the last in text order counts.
abbrev pub LastWriteCounts : Type 0
LastWriteCounts = (begun : ℕ → Bool) (value : ℕ → ℕ) (old count : ℕ)
    → ((act : ℕ) → act < count → begun act ≡ true → ((later : ℕ) → act < later → later < count → begun later ≡ false)
    → last_write begun value old count ≡ value act)
    × (((act : ℕ) → act < count → begun act ≡ false) → last_write begun value old count ≡ old)
