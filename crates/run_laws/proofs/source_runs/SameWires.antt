-- Two runs over input lists with the same rows before the cycle n have the same wires before n.
--
-- The offered acts of a cycle are the same, with variables that are the same by that cycle; so the wires that the process drives
-- are, so the exchanges, so the latest exchange and whether it lives, and so the data.
use Rattle.std.proofs.Common.{◌≡◌, ℕ, ◌+◌, ◌-◌, ◌<◌, ◌≤◌, arith, refl, ◌∙◌, ap, List, [], ◌∷◌, Bool, true, false, if◌then◌else◌, ◌&&◌, nat_le, zero, suc, Option, Some, None}
use Rattle.std.proofs.lemmas.Bool.Decides.{nat_tests}
use Rattle.core_term.specs.Inputs.{Inputs}
use Rattle.core_term.specs.Term.{Act, Cycle, Set, Send, Recv, If, When, Block, Wait, Pure, Nothing, head}
use Rattle.core_term.specs.Value.{Value, Outcome, Open, Done}
use Rattle.core_term.specs.Ends.{sees, act_ends}
use Rattle.core_term.specs.Fate.{Fate, Waits, Lost, Runs}
use Rattle.core_term.specs.Process.{LifeEnd, Cycles, Until, Thread, Process, life_of}
use Rattle.core_term.specs.History.{or_else, greatest, IsHistory}
use Rattle.core_term.specs.Outputs.{least, on_port, pending, Offer, offered_by, offered, has, driven, valid_wire, ack_wire, exchange, none_in, alive, sent_value, data_of, latest, kept, shown_data, wires}
use Rattle.run_laws.specs.OneRun.{SameRows, SameWires}
use Rattle.run_laws.proofs.source_runs.Causal.{SameScope, SameTo, value_same, act_same, SameFate, Late}
use Rattle.run_laws.proofs.source_runs.SameRuns.{Together, together, run_same, greatest_same, registers_same}

-- the same act is offered in cycle t, or none is
abbrev SameOffer : ℕ → Option Offer → Option Offer → Type 0
SameOffer t None None = Unit {0}
SameOffer t (Some a) (Some b) = SameScope t a.scope b.scope × (a.begin ≡ b.begin) × (a.act ≡ b.act) × (a.begin ≤ t)
SameOffer t None (Some b) = ⊥
SameOffer t (Some a) None = ⊥

else_same : (t : ℕ) (a a' b b' : Option Offer) → SameOffer t a a' → SameOffer t b b' → SameOffer t (or_else a b) (or_else a' b')
else_same t None None b b' k l = l
else_same t (Some x) (Some y) b b' k l = k
else_same t None (Some y) b b' k l = absurd k
else_same t (Some x) None b b' k l = absurd k

greatest_offer : (t : ℕ) (f g : ℕ → Option Offer) (n : ℕ) → ((q : ℕ) → SameOffer t (f q) (g q)) → SameOffer t (greatest f n) (greatest g n)
greatest_offer t f g zero k = tt
greatest_offer t f g (suc n) k = else_same t (f n) (g n) (greatest f n) (greatest g n) (k n) (greatest_offer t f g n k)

least_offer : (t : ℕ) (f g : ℕ → Option Offer) (low n : ℕ) → ((q : ℕ) → SameOffer t (f q) (g q)) → SameOffer t (least f low n) (least g low n)
least_offer t f g low zero k = tt
least_offer t f g low (suc n) k = else_same t (f low) (g low) (least f (low + 1) n) (least g (low + 1) n) (k low) (least_offer t f g (low + 1) n k)

-- whether an act that has begun by t is offered at t
pending_same : (t s : ℕ) (o o' : Outcome) → SameTo t o o' → pending t s o ≡ pending t s o'
pending_same t s Open Open k = refl
pending_same t s Open (Done e v) k = go (nat_le t e) refl
  where
    go : (b : Bool) → nat_le t e ≡ b → nat_le s t ≡ (nat_le s t && nat_le t e)
    go true f = rw f (and_true (nat_le s t))
      where
        and_true : (b : Bool) → b ≡ (b && true)
        and_true true = refl
        and_true false = refl
    go false f = let at_most : e ≤ t = grind (arith, nat_tests) in let equal : Open ≡ Done e v = k.back e v at_most refl in absurd cc
pending_same t s (Done e v) Open k = go (nat_le t e) refl
  where
    go : (b : Bool) → nat_le t e ≡ b → (nat_le s t && nat_le t e) ≡ nat_le s t
    go true f = rw f (and_true (nat_le s t))
      where
        and_true : (b : Bool) → (b && true) ≡ b
        and_true true = refl
        and_true false = refl
    go false f = let next_at_most : e ≤ t = grind (arith, nat_tests) in let next_equal : Open ≡ Done e v = k.there e v next_at_most refl in absurd cc
pending_same t s (Done e v) (Done e' v') k = go (nat_le e t) refl (nat_le e' t) refl
  where
    go : (b : Bool) → nat_le e t ≡ b → (b' : Bool) → nat_le e' t ≡ b' → (nat_le s t && nat_le t e) ≡ (nat_le s t && nat_le t e')
    go true f b' f' = let last_at_most : e ≤ t = grind (arith, nat_tests) in let last_equal : Done e' v' ≡ Done e v = k.there e v last_at_most refl in let other_equal : e' ≡ e = cc in rw other_equal refl
    go false f true f' = let other_at_most : e' ≤ t = grind (arith, nat_tests) in let more_equal : Done e v ≡ Done e' v' = k.back e' v' other_at_most refl in let further_equal : e ≡ e' = cc in rw further_equal refl
    go false f false f' =
        let decided : nat_le t e ≡ true = grind (arith, nat_tests) in
        let i' : nat_le t e' ≡ true = grind (arith, nat_tests) in
        rw (decided, i') refl

not_pending : (t s : ℕ) (o : Outcome) → t < s → pending t s o ≡ false
not_pending t s Open l = grind (arith, nat_tests)
not_pending t s (Done e v) l = let next_decided : nat_le s t ≡ false = grind (arith, nat_tests) in rw next_decided refl

and_false : (b : Bool) → (b && false) ≡ false
and_false true = refl
and_false false = refl

module _ (t : ℕ) (x x' : Inputs) (h h' : ℕ → ℕ → ℕ) (both : Together t x x' h h') (m : ℕ) where
  offered_late : (y : Inputs) (g : ℕ → ℕ → ℕ) (f : Fate) → Late t f → offered_by y g m t f ≡ None
  offered_late y g Waits k = refl
  offered_late y g Lost k = refl
  offered_late y g (Runs scope s u) k = go (nat_le s t) refl
    where
      go : (b : Bool) → nat_le s t ≡ b → offered_by y g m t (Runs scope s u) ≡ None
      go true e = let at_most : s ≤ t = grind (arith, nat_tests) in absurd (k scope s u refl at_most)
      go false e =
          let is_less : t < s = grind (arith, nat_tests) in
          rw (not_pending t s (act_ends y (sees g) scope s (head u)) is_less, and_false (on_port m (head u))) refl

  none_both : (o o' : Option Offer) → o ≡ None → o' ≡ None → SameOffer t o o'
  none_both o o' e e' = rw (e, e') tt

  fate_offer : (f f' : Fate) → SameFate t f f' → SameOffer t (offered_by x h m t f) (offered_by x' h' m t f')
  fate_offer Waits f' k = none_both None (offered_by x' h' m t f') refl (offered_late x' h' f' (λ scope s u e l. let by_back = k.back scope s u e l in absurd cc))
  fate_offer Lost f' k = none_both None (offered_by x' h' m t f') refl (offered_late x' h' f' (λ scope s u e l. let next_by_back = k.back scope s u e l in absurd cc))
  fate_offer (Runs scope s u) f' k = go (nat_le s t) refl
    where
      go : (b : Bool) → nat_le s t ≡ b → SameOffer t (offered_by x h m t (Runs scope s u)) (offered_by x' h' m t f')
      go true e =
          let next_at_most : s ≤ t = grind (arith, nat_tests) in
          let by_there = k.there scope s u refl next_at_most in
          rw (by_there.1, ← pending_same t s _ _ (act_same t x x' (sees h) (sees h') both.alike scope by_there.0 s next_at_most by_there.2 (head u)))
          (at (on_port m (head u) && pending t s (act_ends x (sees h) scope s (head u))) by_there.0 by_there.2 next_at_most)
        where
          at : (b : Bool) (scope' : ℕ → Outcome) → SameScope t scope scope' → s ≤ t → SameOffer t (if b then Some (record { scope = scope; begin = s; act = head u }) else None) (if b then Some (record { scope = scope'; begin = s; act = head u }) else None)
          at true scope' j l = (j, refl, refl, l)
          at false scope' j l = tt
      go false e =
          let is_less : t < s = grind (arith, nat_tests) in
          none_both (offered_by x h m t (Runs scope s u)) (offered_by x' h' m t f')
          (offered_late x h (Runs scope s u) (λ scope' s' u' i l. let equal : s ≡ s' = cc in absurd (omega arith)))
          (offered_late x' h' f' (λ scope' s' u' i l. let last_by_back = k.back scope' s' u' i l in let next_equal : s ≡ s' = cc in absurd (omega arith)))

  pub offer_same : (threads : List Thread) → SameOffer t (offered x h threads m t) (offered x' h' threads m t)
  offer_same [] = tt
  offer_same (thread ∷ threads) =
      else_same t _ _ _ _
      (least_offer t _ _ 0 thread.count (λ q. greatest_offer t _ _ (t + 1) (λ i. fate_offer _ _ (run_same t thread.body x x' (sees h) (sees h') both.alike i q))))
      (offer_same threads)

has_same : (t : ℕ) (o o' : Option Offer) → SameOffer t o o' → has o ≡ has o'
has_same t None None k = refl
has_same t (Some a) (Some b) k = refl
has_same t None (Some b) k = absurd k
has_same t (Some a) None k = absurd k

module _ (t : ℕ) (h h' : ℕ → ℕ → ℕ) (same : (u r : ℕ) → u ≤ t → h u r ≡ h' u r) where
  sent_same : (s : ℕ) (scope scope' : ℕ → Outcome) (a : Act) → s ≤ t → SameScope t scope scope' → sent_value h s scope a ≡ sent_value h' s scope' a
  sent_same s scope scope' (Send p m e) l k = ap (λ (v : Value). v.number) (value_same t h h' scope scope' s (λ r. same s r l) l k e)
  sent_same s scope scope' (Set p q e) l k = refl
  sent_same s scope scope' (Cycle p n) l k = refl
  sent_same s scope scope' (Recv p m) l k = refl
  sent_same s scope scope' (If p e u v w) l k = refl
  sent_same s scope scope' (When p e u) l k = refl
  sent_same s scope scope' (Block p u) l k = refl
  sent_same s scope scope' (Wait p y) l k = refl
  sent_same s scope scope' (Pure p e) l k = refl
  sent_same s scope scope' (Nothing p) l k = refl

  pub data_same : (o o' : Option Offer) → SameOffer t o o' → data_of h o ≡ data_of h' o'
  data_same None None k = refl
  data_same (Some a) (Some b) k = rw (← k.1, ← k.2) (sent_same a.begin a.scope b.scope a.act k.3 k.0)
  data_same None (Some b) k = absurd k
  data_same (Some a) None k = absurd k

none_in_same : (e e' : ℕ → Bool) (u n : ℕ) → ((c : ℕ) → u ≤ c → c < u + n → e c ≡ e' c) → none_in e u n ≡ none_in e' u n
none_in_same e e' u zero k = refl
none_in_same e e' u (suc n) k = rw (k u (omega arith) (omega arith), none_in_same e e' (u + 1) n (λ c i j. k c (omega arith) (omega arith))) refl

pub alive_same : (ex ex' : ℕ → ℕ → Bool) (life : List LifeEnd) (u t : ℕ) → ((m c : ℕ) → c < t → ex m c ≡ ex' m c) → alive ex life u t ≡ alive ex' life u t
alive_same ex ex' [] u t k = refl
alive_same ex ex' (Cycles n ∷ more) u t k = rw (alive_same ex ex' more u t k) refl
alive_same ex ex' (Until m ∷ more) u t k = rw (none_in_same (ex m) (ex' m) u (t - u) (λ c i j. k m c (omega arith)), alive_same ex ex' more u t k) refl

-- the latest cycle is one of those that were looked at
latest_within : (e : ℕ → Bool) (n v : ℕ) → greatest (λ u. if e u then Some u else None) n ≡ Some v → v < n
latest_within e zero v k = absurd cc
latest_within e (suc n) v k = go (e n) k (latest_within e n v)
  where
    go : (b : Bool) → or_else (if b then Some n else None) (greatest (λ u. if e u then Some u else None) n) ≡ Some v → (greatest (λ u. if e u then Some u else None) n ≡ Some v → v < n) → v < suc n
    go true i j = let equal : n ≡ v = cc in omega arith
    go false i j = let part = j i in omega arith

module _ (p : Process) (x x' : Inputs) (h h' : ℕ → ℕ → ℕ) (k : IsHistory p x h) (k' : IsHistory p x' h') (n : ℕ) (rows : SameRows n x x') where
  same : (t r : ℕ) → t ≤ n → h t r ≡ h' t r
  same t r l = registers_same p x x' h h' k k' n rows t r l

  rows_to : (t : ℕ) → t < n → SameRows (t + 1) x x'
  rows_to t l = record {
    long = let by_long = rows.long in omega arith;
    other_long = let by_other_long = rows.other_long in omega arith;
    valid = λ m u i. rows.valid m u (omega arith);
    data_at = λ m u i. rows.data_at m u (omega arith);
    ack = λ m u i. rows.ack m u (omega arith);
  }

  both : (t : ℕ) → t < n → Together t x x' h h'
  both t l = together t x x' h h' (rows_to t l) (λ u r m. same u r (omega arith))

  offers : (m t : ℕ) → t < n → SameOffer t (offered x h p.threads m t) (offered x' h' p.threads m t)
  offers m t l = offer_same t x x' h h' (both t l) m p.threads

  driven_same : (m t : ℕ) → t < n → driven p x h m t ≡ driven p x' h' m t
  driven_same m t l = has_same t _ _ (offers m t l)

  valid_same : (m t : ℕ) → t < n → valid_wire p x h m t ≡ valid_wire p x' h' m t
  valid_same m t l = rw (rows.valid m t l, driven_same m t l) refl

  ack_same : (m t : ℕ) → t < n → ack_wire p x h m t ≡ ack_wire p x' h' m t
  ack_same m t l = rw (rows.ack m t l, driven_same m t l) refl

  exchange_same : (m t : ℕ) → t < n → exchange p x h m t ≡ exchange p x' h' m t
  exchange_same m t l = rw (valid_same m t l, ack_same m t l) refl

  offered_data : (m t : ℕ) → t < n → data_of h (offered x h p.threads m t) ≡ data_of h' (offered x' h' p.threads m t)
  offered_data m t l = data_same t h h' (λ u r i. same u r (omega arith)) _ _ (offers m t l)

  kept_same : (m t : ℕ) → t < n → (o : Option ℕ) → ((u : ℕ) → o ≡ Some u → u ≤ t) → kept p x h m t o ≡ kept p x' h' m t o
  kept_same m t l None i = refl
  kept_same m t l (Some u) i =
      let at_most : u ≤ t = i u refl in
      rw (alive_same (exchange p x h) (exchange p x' h') (life_of p m) u t (λ q c a. exchange_same q c (omega arith)), offered_data m u (omega arith)) refl

  latest_same : (m t : ℕ) → t < n → latest (exchange p x h m) t ≡ latest (exchange p x' h' m) t
  latest_same m t l = greatest_same _ _ (t + 1) (λ u i. rw (exchange_same m u (omega arith)) refl)

  shown_same : (m t : ℕ) → t < n → (o o' : Option Offer) → SameOffer t o o' → shown_data p x h m t o ≡ shown_data p x' h' m t o'
  shown_same m t l None None i =
      kept_same m t l (latest (exchange p x h m) t) (λ u e. let is_less : u < t + 1 = latest_within (exchange p x h m) (t + 1) u e in omega arith) ∙ ap (kept p x' h' m t) (latest_same m t l)
  shown_same m t l (Some a) (Some b) i = data_same t h h' (λ u r j. same u r (omega arith)) (Some a) (Some b) i
  shown_same m t l None (Some b) i = absurd i
  shown_same m t l (Some a) None i = absurd i

  pub wires_same : (t : ℕ) → t < n → SameWires (wires p x h) (wires p x' h') t
  wires_same t l = record {
    valid = λ m. valid_same m t l;
    ack = λ m. ack_same m t l;
    data_at = λ m. rw (rows.data_at m t l, shown_same m t l _ _ (offers m t l)) refl;
  }
