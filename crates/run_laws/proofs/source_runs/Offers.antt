-- What the wires of a run say of its acts: an act on a port is offered exactly where the process drives the wire of the port.
--
-- The wire is computed by a search over all sites and the turns that may have begun. The search finds each act that is
-- offered, since a turn takes at least a cycle, and what it finds is one. The hard case is its bound: by cycle t at most t + 1
-- turns have begun.
use Rattle.std.proofs.Common.{◌≡◌, ℕ, ◌+◌, ◌<◌, ◌≤◌, ◌⊎◌, inl, inr, arith, refl, sym, ◌∙◌, ap, subst, List, [], ◌∷◌, Bool, true, false, if◌then◌else◌, ◌&&◌, nat_lt, nat_le, zero, suc, Option, Some, None}
use Rattle.std.proofs.lemmas.Bool.Decides.{nat_tests}
use Rattle.core_term.specs.Term.{Term, Act, Cycle, Set, Send, Recv, If, When, Block, Wait, Pure, Nothing, site, head}
use Rattle.core_term.specs.Value.{Value, Outcome, Open, Done}
use Rattle.core_term.specs.Inputs.{Inputs}
use Rattle.core_term.specs.Ends.{sees, ends, act_ends, first, found}
use Rattle.core_term.specs.Fate.{Fate, Waits, Lost, Runs}
use Rattle.core_term.specs.Occurs.{At, of_outcome, begin_at}
use Rattle.core_term.specs.Numbering.{size, Numbered}
use Rattle.core_term.specs.Turns.{begins, run_of, no_variable, next_begin}
use Rattle.core_term.specs.Tail.{IsTail}
use Rattle.core_term.specs.Stands.{Stands}
use Rattle.core_term.specs.Process.{Process, Thread, IsThread, IsProcess}
use Rattle.core_term.specs.Acts.{OnPort, HasAct}
use Rattle.core_term.specs.History.{or_else, greatest}
use Rattle.core_term.specs.Outputs.{least, on_port, pending, Offer, offered_by, offered, has, driven}
use Rattle.core_term.specs.Log.{Begun}
use Rattle.run_laws.proofs.source_runs.Causal.{first_from}
use Rattle.run_laws.proofs.turn_points.Order.{body_end, next_from}
use Rattle.run_laws.proofs.turn_points.Strict.{takes}
use Rattle.run_laws.proofs.turn_points.Placed.{Ran, some_start, place, site_is, begin_since}
use Rattle.run_laws.proofs.rereading.Decide.{within}

pub or_some : {A : Type 0} (o u : Option A) (a : A) → or_else o u ≡ Some a → (o ≡ Some a) ⊎ (u ≡ Some a)
or_some None u a k = inr k
or_some (Some b) u a k = inl k

pub greatest_some : {A : Type 0} (f : ℕ → Option A) (n : ℕ) (a : A) → greatest f n ≡ Some a → (q : ℕ) × (q < n) × (f q ≡ Some a)
greatest_some f zero a k = absurd cc
greatest_some f (suc n) a k = elim (or_some (f n) (greatest f n) a k) [
  | inl e ↦ (n, omega arith, e)
  | inr e ↦ let by_greatest_some = greatest_some f n a e in (by_greatest_some.0, omega (arith, by_greatest_some.1), by_greatest_some.2)
]

least_some : {A : Type 0} (f : ℕ → Option A) (k n : ℕ) (a : A) → least f k n ≡ Some a → (q : ℕ) × (q < k + n) × (f q ≡ Some a)
least_some f k zero a e = absurd cc
least_some f k (suc n) a e = elim (or_some (f k) (least f (k + 1) n) a e) [
  | inl i ↦ (k, omega arith, i)
  | inr i ↦ let by_least_some = least_some f (k + 1) n a i in (by_least_some.0, omega (arith, by_least_some.1), by_least_some.2)
]

pub or_first : {A : Type 0} (o u : Option A) → has o ≡ true → has (or_else o u) ≡ true
or_first None u k = absurd cc
or_first (Some a) u k = refl

pub or_second : {A : Type 0} (o u : Option A) → has u ≡ true → has (or_else o u) ≡ true
or_second None u k = k
or_second (Some a) u k = refl

pub greatest_has : {A : Type 0} (f : ℕ → Option A) (n q : ℕ) → q < n → has (f q) ≡ true → has (greatest f n) ≡ true
greatest_has f zero q l k = absurd (omega arith)
greatest_has f (suc n) q l k = go (nat_lt q n) refl (λ m. greatest_has f n q m k)
  where
    go : (b : Bool) → nat_lt q n ≡ b → (q < n → has (greatest f n) ≡ true) → has (greatest f (suc n)) ≡ true
    go true e r = let is_less : q < n = grind (arith, nat_tests) in or_second (f n) (greatest f n) (r is_less)
    go false e r = let at_most : n ≤ q = grind (arith, nat_tests) in let m' : q ≡ n = omega arith in or_first (f n) (greatest f n) (subst (λ z. has (f z) ≡ true) m' k)

least_has : {A : Type 0} (f : ℕ → Option A) (k n q : ℕ) → k ≤ q → q < k + n → has (f q) ≡ true → has (least f k n) ≡ true
least_has f k zero q l m e = absurd (omega arith)
least_has f k (suc n) q l m e = go (nat_lt k q) refl (λ y z. least_has f (k + 1) n q y z e)
  where
    go : (b : Bool) → nat_lt k q ≡ b → (k + 1 ≤ q → q < k + 1 + n → has (least f (k + 1) n) ≡ true) → has (least f k (suc n)) ≡ true
    go true i r = let next_is_less : k < q = grind (arith, nat_tests) in or_second (f k) (least f (k + 1) n) (r (omega arith) (omega arith))
    go false i r = let next_at_most : q ≤ k = grind (arith, nat_tests) in let z' : q ≡ k = omega arith in or_first (f k) (least f (k + 1) n) (subst (λ next_at_most. has (f next_at_most) ≡ true) z' e)

pub and_first : (a b : Bool) → a && b ≡ true → a ≡ true
and_first true b k = refl
and_first false b k = k

pub and_second : (a b : Bool) → a && b ≡ true → b ≡ true
and_second true b k = k
and_second false b k = absurd cc

pub and_both : (a b : Bool) → a ≡ true → b ≡ true → a && b ≡ true
and_both a b k l = rw (k, l) refl

on_is : (m : ℕ) (a : Act) → on_port m a ≡ true → OnPort a m
on_is m (Send p n e) k = grind (arith, nat_tests)
on_is m (Recv p n) k = grind (arith, nat_tests)
on_is m (Cycle p n) k = absurd cc
on_is m (Set p r e) k = absurd cc
on_is m (If p e t u w) k = absurd cc
on_is m (When p e t) k = absurd cc
on_is m (Block p t) k = absurd cc
on_is m (Wait p y) k = absurd cc
on_is m (Pure p e) k = absurd cc
on_is m (Nothing p) k = absurd cc

is_on : (m : ℕ) (a : Act) → OnPort a m → on_port m a ≡ true
is_on m (Send p n e) k = let equal : n ≡ m = k in grind (arith, nat_tests)
is_on m (Recv p n) k = let next_equal : n ≡ m = k in grind (arith, nat_tests)
is_on m (Cycle p n) k = elim k [ ]
is_on m (Set p r e) k = elim k [ ]
is_on m (If p e t u w) k = elim k [ ]
is_on m (When p e t) k = elim k [ ]
is_on m (Block p t) k = elim k [ ]
is_on m (Wait p y) k = elim k [ ]
is_on m (Pure p e) k = elim k [ ]
is_on m (Nothing p) k = elim k [ ]

-- begun by t, and not ended before t
pub record IsPending (t s : ℕ) (o : Outcome) : Type 0 where
  pub begun : s ≤ t
  pub not_ended : (e : ℕ) (v : Value) → o ≡ Done e v → t ≤ e

pending_is : (t s : ℕ) (o : Outcome) → pending t s o ≡ true → IsPending t s o
pending_is t s Open k = record { begun = grind (arith, nat_tests); not_ended = λ e v q. absurd cc }
pending_is t s (Done a b) k =
    let by_and_first = and_first (nat_le s t) (nat_le t a) k in
    let by_and_second = and_second (nat_le s t) (nat_le t a) k in
    record { begun = grind (arith, nat_tests); not_ended = λ e v q. let at_most : t ≤ a = grind (arith, nat_tests) in let last_equal : a ≡ e = cc in omega arith }

is_pending : (t s : ℕ) (o : Outcome) → IsPending t s o → pending t s o ≡ true
is_pending t s Open k = let next_at_most : s ≤ t = k.begun in grind (arith, nat_tests)
is_pending t s (Done a b) k =
    let last_at_most : s ≤ t = k.begun in
    let other_at_most : t ≤ a = k.not_ended a b refl in
    and_both (nat_le s t) (nat_le t a) (grind (arith, nat_tests)) (grind (arith, nat_tests))

first_is : (p : ℕ → Bool) (s n u : ℕ) → first p s n ≡ Some u → (p u ≡ true) × (u < s + n)
first_is p s zero u k = absurd cc
first_is p s (suc n) u k = go (p s) refl k (first_is p (s + 1) n u)
  where
    go : (b : Bool) → p s ≡ b → (if b then Some s else first p (s + 1) n) ≡ Some u → (first p (s + 1) n ≡ Some u → (p u ≡ true) × (u < s + 1 + n)) → (p u ≡ true) × (u < s + suc n)
    go true e i r = let equal : s ≡ u = cc in (subst (λ y. p y ≡ true) equal e, omega arith)
    go false e i r = let part = r i in (part.0, omega (arith, part.1))

pub first_by : (p : ℕ → Bool) (s n t : ℕ) → s ≤ t → t < s + n → p t ≡ true → (u : ℕ) × (u ≤ t) × (first p s n ≡ Some u)
first_by p s zero t l m k = absurd (omega arith)
first_by p s (suc n) t l m k = go (p s) refl (λ y z. first_by p (s + 1) n t y z k)
  where
    go : (b : Bool) → p s ≡ b → (s + 1 ≤ t → t < s + 1 + n → (u : ℕ) × (u ≤ t) × (first p (s + 1) n ≡ Some u)) → (u : ℕ) × (u ≤ t) × ((if b then Some s else first p (s + 1) n) ≡ Some u)
    go true e r = (s, l, refl)
    go false e r = more (nat_lt s t) refl
      where
        more : (b : Bool) → nat_lt s t ≡ b → (u : ℕ) × (u ≤ t) × (first p (s + 1) n ≡ Some u)
        more true i = let is_less : s < t = grind (arith, nat_tests) in r (omega arith) (omega arith)
        more false i = let at_most : t ≤ s = grind (arith, nat_tests) in let z' : t ≡ s = omega arith in let decided : p s ≡ true = subst (λ w. p w ≡ true) z' k in let next_decided : true ≡ false = sym decided ∙ e in absurd cc

pub found_is : (p : ℕ → Bool) (s n : ℕ) (v : ℕ → Value) (t : ℕ) (w : Value) → found (first p s n) v ≡ Done t w → (p t ≡ true) × (t < s + n) × (s ≤ t)
found_is p s n v t w k = go (first p s n) refl k
  where
    go : (r : Option ℕ) → first p s n ≡ r → found r v ≡ Done t w → (p t ≡ true) × (t < s + n) × (s ≤ t)
    go None e i = absurd cc
    go (Some u) e i = let next_equal : u ≡ t = cc in let by_first_is = first_is p s n u e in let y' = first_from p s n u e in (subst (λ by_first_is. p by_first_is ≡ true) next_equal by_first_is.0, omega (arith, by_first_is.1), omega arith)

pub found_by : (p : ℕ → Bool) (s n : ℕ) (v : ℕ → Value) (t : ℕ) → s ≤ t → t < s + n → p t ≡ true → IsPending t s (found (first p s n) v) → found (first p s n) v ≡ Done t (v t)
found_by p s n v t l m k q =
    let by_first_by = first_by p s n t l m k in
    let equal : found (first p s n) v ≡ Done by_first_by.0 (v by_first_by.0) = ap (λ r. found r v) by_first_by.2 in
    let next_at_most : t ≤ by_first_by.0 = q.not_ended by_first_by.0 (v by_first_by.0) equal in
    let last_equal : by_first_by.0 ≡ t = omega (arith, by_first_by.1) in
    equal ∙ ap (λ u. Done u (v u)) last_equal

module _ (inputs : Inputs) (registers : ℕ → ℕ → ℕ) (body : Term) (numbered : Numbered [] 0 body) where
  pub ran : (i q : ℕ) (b : Begun inputs registers body i q) → Ran inputs (sees registers) body numbered i q b.scope b.begin b.term
  ran i q b = record { inside = within inputs body numbered (sees registers) i q b.scope b.begin b.term b.runs; runs = b.runs }

  pub begun_site : (i q : ℕ) (b : Begun inputs registers body i q) → site (head b.term) ≡ q
  begun_site i q b = site_is inputs (sees registers) body numbered i q b.scope b.begin b.term (ran i q b)

  pub begun_stands : (i q : ℕ) (b : Begun inputs registers body i q) → (vs : List Act) × Stands [] body vs b.term
  begun_stands i q b = let by_place = place inputs (sees registers) body numbered i q b.scope b.begin b.term (ran i q b) in (by_place.1, by_place.3.stands)

  -- where it stands in the text
  pub begun_act : (P : Act → Type 0) (i q : ℕ) (b : Begun inputs registers body i q) → P (head b.term) → HasAct body q P
  begun_act P i q b k =
      let next_by_place = place inputs (sees registers) body numbered i q b.scope b.begin b.term (ran i q b) in
      (next_by_place.1, b.term, next_by_place.3.stands, begun_site i q b, k)

  -- as many cycles as turns have gone by
  pub turns_take : IsTail body → (i b : ℕ) → begins inputs (sees registers) body i ≡ Some b → i ≤ b
  turns_take tail zero b k = omega arith
  turns_take tail (suc i) b k = go (begins inputs (sees registers) body i) refl k (turns_take tail i)
    where
      go : (o : Option ℕ) → begins inputs (sees registers) body i ≡ o → next_begin inputs (sees registers) body o ≡ Some b → ((a : ℕ) → begins inputs (sees registers) body i ≡ Some a → i ≤ a) → suc i ≤ b
      go None e f r = absurd cc
      go (Some a) e f r =
          let equal : of_outcome (ends inputs (sees registers) no_variable a body) ≡ At b = sym (body_end inputs (sees registers) body numbered a) ∙ next_from inputs (sees registers) body numbered (Some a) b f in
          let is_less : a < b = takes inputs (sees registers) no_variable a body b tail equal in
          let at_most : i ≤ a = r a e in
          omega arith

  pub turn_by : IsTail body → (i q : ℕ) (b : Begun inputs registers body i q) → i ≤ b.begin
  turn_by tail i q b =
      let by_some_start = some_start inputs (sees registers) body numbered (begins inputs (sees registers) body i) q b.scope b.begin b.term b.runs in
      let by_begin_since = begin_since inputs (sees registers) body numbered (begins inputs (sees registers) body i) by_some_start.0 q b.begin by_some_start.1 (ap begin_at b.runs) in
      let by_turns_take = turns_take tail i by_some_start.0 by_some_start.1 in
      omega arith

some_is : {b c : Offer} → Some b ≡ Some c → c ≡ b
some_is k = cc

module _ (inputs : Inputs) (registers : ℕ → ℕ → ℕ) where
  -- an act that is offered on the port m in cycle t
  pub record OfferedIn (threads : List Thread) (m t : ℕ) : Type 0 where
    pub j : ℕ
    pub thread : Thread
    pub is : IsThread threads j thread
    pub turn : ℕ
    pub place : ℕ
    pub act : Begun inputs registers thread.body turn place
    pub on : OnPort (head act.term) m
    pub pending : IsPending t act.begin (act_ends inputs (sees registers) act.scope act.begin (head act.term))

  offer_is : (thread : Thread) (m t i q : ℕ) (w : Fate) (a : Offer) → run_of inputs (sees registers) thread.body i q ≡ w → offered_by inputs registers m t w ≡ Some a
      → (b : Begun inputs registers thread.body i q) × OnPort (head b.term) m × IsPending t b.begin (act_ends inputs (sees registers) b.scope b.begin (head b.term)) × (a ≡ record { scope = b.scope; begin = b.begin; act = head b.term })
  offer_is thread m t i q Waits a e k = absurd cc
  offer_is thread m t i q Lost a e k = absurd cc
  offer_is thread m t i q (Runs scope s u) a e k = go (on_port m (head u)) refl (pending t s (act_ends inputs (sees registers) scope s (head u))) refl k
    where
      go : (c : Bool) → on_port m (head u) ≡ c → (d : Bool) → pending t s (act_ends inputs (sees registers) scope s (head u)) ≡ d → (if c && d then Some (record { scope = scope; begin = s; act = head u }) else None) ≡ Some a
          → (b : Begun inputs registers thread.body i q) × OnPort (head b.term) m × IsPending t b.begin (act_ends inputs (sees registers) b.scope b.begin (head b.term)) × (a ≡ record { scope = b.scope; begin = b.begin; act = head b.term })
      go true f true g z = (record { scope = scope; begin = s; term = u; runs = e }, on_is m (head u) f, pending_is t s _ g, some_is z)
      go true f false g z = absurd cc
      go false f d g z = absurd cc

  -- the act that is shown as offered
  pub offered_as : (threads : List Thread) (m t : ℕ) (a : Offer) → offered inputs registers threads m t ≡ Some a → (o : OfferedIn threads m t) × (a ≡ record { scope = o.act.scope; begin = o.act.begin; act = head o.act.term })
  offered_as [] m t a k = absurd cc
  offered_as (thread ∷ more) m t a k =
      elim (or_some (least (λ q. greatest (λ i. offered_by inputs registers m t (run_of inputs (sees registers) thread.body i q)) (t + 1)) 0 thread.count) (offered inputs registers more m t) a k) [
        | inl e ↦
            let by_least_some = least_some _ 0 thread.count a e in
            let by_greatest_some = greatest_some _ (t + 1) a by_least_some.2 in
            let by_offer_is = offer_is thread m t by_greatest_some.0 by_least_some.0 _ a refl by_greatest_some.2 in
            (record { j = 0; thread = thread; is = refl; turn = by_greatest_some.0; place = by_least_some.0; act = by_offer_is.0; on = by_offer_is.1; pending = by_offer_is.2 }, by_offer_is.3)
        | inr e ↦
            let by_offered_as = offered_as more m t a e in
            let by_by_offered_as = by_offered_as.0 in
            (record { j = suc by_by_offered_as.j; thread = by_by_offered_as.thread; is = by_by_offered_as.is; turn = by_by_offered_as.turn; place = by_by_offered_as.place; act = by_by_offered_as.act; on = by_by_offered_as.on; pending = by_by_offered_as.pending }, by_offered_as.1)
      ]

  pub offered_is : (threads : List Thread) (m t : ℕ) (a : Offer) → offered inputs registers threads m t ≡ Some a → OfferedIn threads m t
  offered_is threads m t a k = (offered_as threads m t a k).0

  pub driven_is : (p : Process) (m t : ℕ) → driven p inputs registers m t ≡ true → OfferedIn p.threads m t
  driven_is p m t k = go (offered inputs registers p.threads m t) refl k
    where
      go : (o : Option Offer) → offered inputs registers p.threads m t ≡ o → has o ≡ true → OfferedIn p.threads m t
      go None e f = absurd cc
      go (Some a) e f = offered_is p.threads m t a e

  has_offer : (threads : List Thread) (m t : ℕ) → (j : ℕ) (thread : Thread) → IsThread threads j thread → (i q : ℕ) → i < t + 1 → q < thread.count → (b : Begun inputs registers thread.body i q) → OnPort (head b.term) m
      → IsPending t b.begin (act_ends inputs (sees registers) b.scope b.begin (head b.term)) → has (offered inputs registers threads m t) ≡ true
  has_offer [] m t j thread is i q l n b on still_offered = elim is [ ]
  has_offer (a ∷ more) m t zero thread is i q l n b on still_offered =
      or_first _ (offered inputs registers more m t) (subst (λ z. has (least (λ q. greatest (λ i. offered_by inputs registers m t (run_of inputs (sees registers) z.body i q)) (t + 1)) 0 z.count) ≡ true) (sym is)
      (least_has _ 0 thread.count q (omega arith) (omega arith) (greatest_has _ (t + 1) i l one)))
    where
      one : has (offered_by inputs registers m t (run_of inputs (sees registers) thread.body i q)) ≡ true
      one =
          let decided : on_port m (head b.term) && pending t b.begin (act_ends inputs (sees registers) b.scope b.begin (head b.term)) ≡ true = and_both _ _ (is_on m (head b.term) on) (is_pending t b.begin _ still_offered) in
          let equal : offered_by inputs registers m t (Runs b.scope b.begin b.term) ≡ Some (record { scope = b.scope; begin = b.begin; act = head b.term }) = rw decided refl in
          ap (λ w. has (offered_by inputs registers m t w)) b.runs ∙ ap has equal
  has_offer (a ∷ more) m t (suc j) thread is i q l n b on still_offered = or_second _ (offered inputs registers more m t) (has_offer more m t j thread is i q l n b on still_offered)

  module _ (p : Process) (process : IsProcess p) where
    pub is_driven : (m t : ℕ) → OfferedIn p.threads m t → driven p inputs registers m t ≡ true
    is_driven m t o =
        let by_numbered = process.numbered o.j o.thread o.is in
        let next_equal : o.thread.count ≡ size o.thread.body = process.counted o.j o.thread o.is in
        let at_most : o.turn ≤ o.act.begin = turn_by inputs registers o.thread.body by_numbered (process.takes_time o.j o.thread o.is) o.turn o.place o.act in
        let is_less : o.place < size o.thread.body = (ran inputs registers o.thread.body by_numbered o.turn o.place o.act).inside in
        has_offer p.threads m t o.j o.thread o.is o.turn o.place (omega (arith, o.pending.begun)) (omega arith) o.act o.on o.pending
