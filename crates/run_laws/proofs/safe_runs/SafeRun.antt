-- An accepted process runs safely: the parts of its threads put together, and the promise of each sent port.
--
-- A port and a register are in the hands of one thread, so what two acts do to one of them is what two acts of one thread do.
-- The hard case is the promise of a sent port: while the exchange of a `send` lives nothing is offered on its port, so the
-- latest exchange stays the same, and the port goes on to show what it showed in the exchange.
use Rattle.std.proofs.Common.{◌≡◌, ℕ, ◌+◌, ◌-◌, ◌<◌, ◌≤◌, ◌⊎◌, inl, inr, arith, refl, sym, ◌∙◌, ap, subst, List, [], ◌∷◌, Bool, true, false, if◌then◌else◌, not, nat_lt, zero, suc, Option, Some, None}
use Rattle.std.proofs.lemmas.Bool.Decides.{nat_tests}
use Rattle.core_term.specs.Term.{head}
use Rattle.core_term.specs.Value.{Register, Choice}
use Rattle.core_term.specs.Inputs.{Inputs}
use Rattle.core_term.specs.Ends.{sees, act_ends}
use Rattle.core_term.specs.Process.{LifeEnd, Cycles, Until, Process, Thread, IsThread, life_of, is_received, IsProcess}
use Rattle.core_term.specs.Acts.{OnPort, Sends, Sets}
use Rattle.core_term.specs.Wires.{Exchange, WithinAll, InLife, IsKept}
use Rattle.core_term.specs.History.{greatest, or_else}
use Rattle.core_term.specs.Outputs.{none_in, alive, latest, exchange, valid_wire, ack_wire, data_wire, shown_data, kept, data_of, Offer, offered, driven, has, wires}
use Rattle.core_term.specs.Rules.{KeepsDemands}
use Rattle.core_term.specs.Violations.{IsNth, HasNoViolations}
use Rattle.core_term.specs.Log.{Begun, EndsIn, UsedIn}
use Rattle.core_term.specs.Safe.{MadeBeforeRead, UsedWithinLife, RegisterUnchanged, SideUnchanged, OneEach, IsSafe}
use Rattle.run_laws.proofs.source_runs.Offers.{IsPending, OfferedIn, offered_is, begun_act, and_both, and_first, and_second}
use Rattle.run_laws.proofs.source_runs.Exchanges.{ended_by, side_begun}
use Rattle.run_laws.proofs.safe_runs.UseLaw.{same_thread}
use Rattle.run_laws.proofs.safe_runs.ThreadUses.{made_row, received, register_here, register_elsewhere, choice}
use Rattle.run_laws.proofs.safe_runs.ThreadEnds.{once, quiet, one_set}

greatest_at : (f : ℕ → Option ℕ) (n t : ℕ) → t < n → f t ≡ Some t → ((v : ℕ) → t < v → v < n → f v ≡ None) → greatest f n ≡ Some t
greatest_at f zero t l k g = absurd (omega arith)
greatest_at f (suc n) t l k g = go (nat_lt t n) refl (λ m. greatest_at f n t m k (λ v a b. g v a (omega arith)))
  where
    go : (b : Bool) → nat_lt t n ≡ b → (t < n → greatest f n ≡ Some t) → or_else (f n) (greatest f n) ≡ Some t
    go true e r = let is_less : t < n = grind (arith, nat_tests) in rw (g n is_less (omega arith)) (r is_less)
    go false e r = let at_most : n ≤ t = grind (arith, nat_tests) in let m' : t ≡ n = omega arith in let k' : f n ≡ Some t = subst (λ z. f z ≡ Some t) m' k in rw k' refl

none_is : (e : ℕ → Bool) (u n : ℕ) → ((c : ℕ) → u ≤ c → c < u + n → e c ≡ true → ⊥) → none_in e u n ≡ true
none_is e u zero k = refl
none_is e u (suc n) k = and_both (not (e u)) (none_in e (u + 1) n) (go (e u) refl) (none_is e (u + 1) n (λ c a b. k c (omega arith) (omega arith)))
  where
    go : (b : Bool) → e u ≡ b → not b ≡ true
    go false f = refl
    go true f = absurd (k u (omega arith) (omega arith) f)

module _ (p : Process) (process : IsProcess p) (accepted : KeepsDemands p) (inputs : Inputs) (registers : ℕ → ℕ → ℕ) where
  is_exchange : (m t : ℕ) → t < inputs.count → exchange p inputs registers m t ≡ true → Exchange (wires p inputs registers) m t
  is_exchange m t l k = (l, and_first (valid_wire p inputs registers m t) (ack_wire p inputs registers m t) k, and_second (valid_wire p inputs registers m t) (ack_wire p inputs registers m t) k)

  alive_is : (life : List LifeEnd) (t u : ℕ) → t ≤ u → u < inputs.count → WithinAll (wires p inputs registers) t u life → alive (exchange p inputs registers) life t u ≡ true
  alive_is [] t u l s k = refl
  alive_is (Cycles n ∷ more) t u l s k = let next_is_less : u < t + n = k.0 in and_both (nat_lt u (t + n)) (alive (exchange p inputs registers) more t u) (grind (arith, nat_tests)) (alive_is more t u l s k.1)
  alive_is (Until n ∷ more) t u l s k =
      and_both (none_in (exchange p inputs registers n) t (u - t)) (alive (exchange p inputs registers) more t u) (none_is (exchange p inputs registers n) t (u - t) (λ c a b e. k.0 c a (omega arith) (is_exchange n c (omega arith) e))) (alive_is more t u l s k.1)

  -- a life has no gaps
  down : (life : List LifeEnd) (t u v : ℕ) → v ≤ u → WithinAll (wires p inputs registers) t u life → WithinAll (wires p inputs registers) t v life
  down [] t u v l k = tt
  down (Cycles n ∷ more) t u v l k = let is_less : u < t + n = k.0 in (omega arith, down more t u v l k.1)
  down (Until n ∷ more) t u v l k = ((λ c a b e. k.0 c a (omega arith) e), down more t u v l k.1)

  quiet_wire : (m t v : ℕ) → is_received p m ≡ false → Exchange (wires p inputs registers) m t → t < v → InLife (wires p inputs registers) (life_of p m) t v → OfferedIn inputs registers p.threads m v → ⊥
  quiet_wire m t v side exchanging less life o =
      let by_ended_by = ended_by inputs registers p process m t exchanging in
      let then_ended_by = by_ended_by.0 in
      let act_e = begun_act inputs registers then_ended_by.thread.body (process.numbered then_ended_by.j then_ended_by.thread then_ended_by.is) (λ a. OnPort a m) then_ended_by.turn then_ended_by.place then_ended_by.act then_ended_by.on in
      let act_o = begun_act inputs registers o.thread.body (process.numbered o.j o.thread o.is) (λ a. OnPort a m) o.turn o.place o.act o.on in
      let equal : o.j ≡ then_ended_by.j = process.one_talker o.j then_ended_by.j o.thread then_ended_by.thread o.place then_ended_by.place m m o.is then_ended_by.is act_o act_e refl in
      let next_equal : o.thread ≡ then_ended_by.thread = same_thread p.threads then_ended_by.j o.thread then_ended_by.thread (subst (λ by_ended_by. IsThread p.threads by_ended_by o.thread) equal o.is) then_ended_by.is in
      let Statement : Thread → Type 0 = λ by_ended_by. (turn place : ℕ) × (b : Begun inputs registers by_ended_by.body turn place) × OnPort (head b.term) m × IsPending v b.begin (act_ends inputs (sees registers) b.scope b.begin (head b.term)) in
      let fact = subst Statement next_equal (o.turn, o.place, o.act, o.on, o.pending) in
      quiet p process inputs registers then_ended_by.j then_ended_by.thread then_ended_by.is (accepted then_ended_by.j then_ended_by.thread then_ended_by.is) then_ended_by.turn then_ended_by.place fact.0 fact.1 m t v then_ended_by.act fact.2 (sent then_ended_by.j then_ended_by.thread then_ended_by.is then_ended_by.turn then_ended_by.place then_ended_by.act then_ended_by.on) then_ended_by.on (sent then_ended_by.j then_ended_by.thread then_ended_by.is fact.0 fact.1 fact.2 fact.3) fact.3 by_ended_by.1 less life fact.4
    where
      sent : (j : ℕ) (thread : Thread) (is : IsThread p.threads j thread) (turn place : ℕ) (b : Begun inputs registers thread.body turn place) → OnPort (head b.term) m → Sends (head b.term) m
      sent j thread is turn place b k = elim (side_begun inputs registers p process m j thread is turn place b k) [ inl y ↦ let decided : true ≡ false = sym y.0 ∙ side in absurd cc | inr y ↦ y.1 ]

  -- the promise of a sent port
  promise : (m : ℕ) → is_received p m ≡ false → IsKept (wires p inputs registers) (life_of p m) m (inputs.count - 1)
  promise m side t u exchanging l life = go (nat_lt t u) refl
    where
      short : u < inputs.count
      short = let is_less : t < inputs.count = exchanging.0 in omega arith

      shown : (v : ℕ) → data_wire p inputs registers m v ≡ shown_data p inputs registers m v (offered inputs registers p.threads m v)
      shown v = rw side refl

      -- what is shown in the exchange
      first : shown_data p inputs registers m t (offered inputs registers p.threads m t) ≡ data_of registers (offered inputs registers p.threads m t)
      first = with_offer (offered inputs registers p.threads m t) driven_then
        where
          driven_then : has (offered inputs registers p.threads m t) ≡ true
          driven_then = let next_decided : (if is_received p m then inputs.valid m t else driven p inputs registers m t) ≡ true = exchanging.1 in rw side at next_decided

          with_offer : (o : Option Offer) → has o ≡ true → shown_data p inputs registers m t o ≡ data_of registers o
          with_offer None k = absurd cc
          with_offer (Some a) k = refl

      none_after : (v : ℕ) → t < v → v ≤ u → OfferedIn inputs registers p.threads m v → ⊥
      none_after v a b o = quiet_wire m t v side exchanging a (omega arith, down (life_of p m) t u v b life.1) o

      no_exchange : (v : ℕ) → t < v → v < u + 1 → exchange p inputs registers m v ≡ true → ⊥
      no_exchange v a b e = none_after v a (omega arith) (ended_by inputs registers p process m v (is_exchange m v (let by_short = short in omega arith) e)).0

      latest_is : latest (exchange p inputs registers m) u ≡ Some t
      latest_is =
          let decided : exchange p inputs registers m t ≡ true = and_both (valid_wire p inputs registers m t) (ack_wire p inputs registers m t) exchanging.1 exchanging.2 in
          greatest_at (λ v. if exchange p inputs registers m v then Some v else None) (u + 1) t (omega (arith, life.0)) (rw decided refl) (λ v a b. not_then v (exchange p inputs registers m v) refl a b)
        where
          not_then : (v : ℕ) (b : Bool) → exchange p inputs registers m v ≡ b → t < v → v < u + 1 → (if b then Some v else None) ≡ None
          not_then v true e a b = absurd (no_exchange v a b e)
          not_then v false e a b = refl

      later : (o : Option Offer) → offered inputs registers p.threads m u ≡ o → t < u → shown_data p inputs registers m u o ≡ data_of registers (offered inputs registers p.threads m t)
      later (Some a) e c = absurd (none_after u c (omega arith) (offered_is inputs registers p.threads m u a e))
      later None e c =
          let next_decided : alive (exchange p inputs registers) (life_of p m) t u ≡ true = alive_is (life_of p m) t u (omega arith) short life.1 in
          ap (kept p inputs registers m u) latest_is ∙ ap (λ b. if b then data_of registers (offered inputs registers p.threads m t) else 0) next_decided

      go : (b : Bool) → nat_lt t u ≡ b → data_wire p inputs registers m u ≡ data_wire p inputs registers m t
      go true e = let is_less : t < u = grind (arith, nat_tests) in shown u ∙ (later (offered inputs registers p.threads m u) refl is_less ∙ (sym first ∙ sym (shown t)))
      go false e = let at_most : u ≤ t = grind (arith, nat_tests) in let c' : t ≤ u = life.0 in let equal : u ≡ t = omega arith in ap (data_wire p inputs registers m) equal

  -- the numbers of two threads with one act each that are one thread
  pub safe_set : (i j : ℕ) (thread thread' : Thread) (is : IsThread p.threads i thread) (is' : IsThread p.threads j thread') (turn place turn' place' r : ℕ) (b : Begun inputs registers thread.body turn place) (a : Begun inputs registers thread'.body turn' place') → Sets (head b.term) r → Sets (head a.term) r → b.begin ≡ a.begin → (i ≡ j) × (turn ≡ turn') × (place ≡ place')
  safe_set i j thread thread' is is' turn place turn' place' r b a k l e =
      let first_act = begun_act inputs registers thread.body (process.numbered i thread is) (λ a. Sets a r) turn place b k in
      let second_act = begun_act inputs registers thread'.body (process.numbered j thread' is') (λ a. Sets a r) turn' place' a l in
      let one_number : j ≡ i = sym (process.one_setter i j thread thread' place place' r is is' first_act second_act) in
      let next_equal : thread' ≡ thread = same_thread p.threads i thread' thread (subst (λ z. IsThread p.threads z thread') one_number is') is in
      let Statement : Thread → Type 0 = λ z. (c : Begun inputs registers z.body turn' place') × Sets (head c.term) r × (b.begin ≡ c.begin) in
      let a' = subst Statement next_equal (a, l, e) in
      let by_one_set = one_set p process inputs registers i thread is (accepted i thread is) turn place turn' place' r b a'.0 k a'.1 a'.2 in
      (sym one_number, by_one_set.0, by_one_set.1)

  safe_once : (i j : ℕ) (thread thread' : Thread) (is : IsThread p.threads i thread) (is' : IsThread p.threads j thread') (turn place turn' place' m t : ℕ) (b : Begun inputs registers thread.body turn place) (a : Begun inputs registers thread'.body turn' place') → OnPort (head b.term) m → OnPort (head a.term) m → EndsIn b t → EndsIn a t → (i ≡ j) × (turn ≡ turn') × (place ≡ place')
  safe_once i j thread thread' is is' turn place turn' place' m t b a k l e e' =
      let first_act = begun_act inputs registers thread.body (process.numbered i thread is) (λ a. OnPort a m) turn place b k in
      let second_act = begun_act inputs registers thread'.body (process.numbered j thread' is') (λ a. OnPort a m) turn' place' a l in
      let one_number : j ≡ i = sym (process.one_talker i j thread thread' place place' m m is is' first_act second_act refl) in
      let equal : thread' ≡ thread = same_thread p.threads i thread' thread (subst (λ z. IsThread p.threads z thread') one_number is') is in
      let next_Statement : Thread → Type 0 = λ z. (c : Begun inputs registers z.body turn' place') × OnPort (head c.term) m × EndsIn c t in
      let a' = subst next_Statement equal (a, l, e') in
      let by_once = once p process inputs registers i thread is (accepted i thread is) turn place turn' place' m t b a'.0 k a'.1 e a'.2 in
      (sym one_number, by_once.0, by_once.1)

  pub safe_register : (j turn place c r t : ℕ) → UsedIn p inputs registers j turn place c (Register r t) → (i : ℕ) (thread : Thread) → IsThread p.threads i thread → (turn' place' : ℕ) (a : Begun inputs registers thread.body turn' place') → Sets (head a.term) r → t ≤ a.begin → a.begin < c → ⊥
  safe_register j turn place c r t u i thread is turn' place' a sets l l' = go (same_or_not i j)
    where
      same_or_not : (a c : ℕ) → (a ≡ c) ⊎ (a ≡ c → ⊥)
      same_or_not a c = grind arith

      go : (i ≡ j) ⊎ (i ≡ j → ⊥) → ⊥
      go (inl e) =
          let next_equal : thread ≡ u.thread = same_thread p.threads j thread u.thread (subst (λ z. IsThread p.threads z thread) e is) u.is in
          let Statement : Thread → Type 0 = λ z. (c : Begun inputs registers z.body turn' place') × Sets (head c.term) r × (c.begin ≡ a.begin) in
          let a' = subst Statement next_equal (a, sets, refl) in
          register_here p process inputs registers j u.thread u.is (accepted j u.thread u.is) turn place c r t u.act (u.expr, u.uses, u.in_use, u.has) turn' place' a'.0 a'.1 (omega (arith, a'.2)) (omega (arith, a'.2))
      go (inr different) =
          let by_register_elsewhere = register_elsewhere p process inputs registers j u.thread u.is (accepted j u.thread u.is) turn place c r t u.act (u.expr, u.uses, u.in_use, u.has) i place' thread is different (begun_act inputs registers thread.body (process.numbered i thread is) (λ a. Sets a r) turn' place' a sets) in
          omega arith

  pub safe_side : (j turn place c q t : ℕ) (u : UsedIn p inputs registers j turn place c (Choice q t)) → (turn' : ℕ) (a : Begun inputs registers u.thread.body turn' q) → t < a.begin → a.begin ≤ c → ⊥
  safe_side j turn place c q t u turn' a l l' = choice p process inputs registers j u.thread u.is (accepted j u.thread u.is) turn place c q t u.act (u.expr, u.uses, u.in_use, u.has) turn' a l l'

  -- the parts in the words of the log's rows
  made_safe : MadeBeforeRead p inputs registers
  made_safe j thread is turn place y cycle (b, reads, now) =
      let by_made_row = made_row p process inputs registers j thread is (accepted j thread is) turn place b y reads in
      (by_made_row.0, by_made_row.1, by_made_row.2, omega (arith, now, by_made_row.3))

  life_safe : UsedWithinLife p inputs registers
  life_safe j turn place c m t u = received p process inputs registers j u.thread u.is (accepted j u.thread u.is) turn place c m t u.act (u.expr, u.uses, u.in_use, u.has)

  register_safe : RegisterUnchanged p inputs registers
  register_safe j turn place c r t u i thread is turn' place' cycle v (a, e, sets, uses, now, number) l l' =
      safe_register j turn place c r t u i thread is turn' place' a sets (omega (arith, now)) (omega (arith, now))

  side_safe : SideUnchanged p inputs registers
  side_safe j turn place c q t u turn' cycle side (a, condition, asks, now, decides) l l' =
      safe_side j turn place c q t u turn' a (omega (arith, now)) (omega (arith, now))

  each_safe : OneEach p inputs registers
  each_safe = record {
    exchanged = λ m t e. let by_ended_by = ended_by inputs registers p process m t e in (by_ended_by.0.j, by_ended_by.0.thread, by_ended_by.0.turn, by_ended_by.0.place, by_ended_by.0.is, (by_ended_by.0.act, by_ended_by.0.on, by_ended_by.1));
    once = safe_once;
    one_set = λ i j thread thread' is is' turn place turn' place' r cycle v w (b, e, sets, uses, now, number) (b', e', sets', uses', now', number'). safe_set i j thread thread' is is' turn place turn' place' r b b' sets sets' (now ∙ sym now');
  }

  -- the theorem
  pub safe : IsSafe p inputs registers
  safe = record {
    made_before_read = made_safe;
    used_within_life = life_safe;
    register_unchanged = register_safe;
    side_unchanged = side_safe;
    own_promises_kept = promise;
    one_each = each_safe;
  }

-- where the list of violations of a file is empty, each demand of each of its processes holds
pub no_violations : (file : List Process) → HasNoViolations file → (i : ℕ) (p : Process) → IsNth file i p → KeepsDemands p
no_violations file v i p nth j thread is rule first second claim d = elim (v.whole i j p thread nth is rule first second claim d) [ inl k ↦ k | inr k ↦ elim k [ ] ]
