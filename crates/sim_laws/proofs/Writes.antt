-- What the registers take after a cycle is what is written in it in the run.
use Rattle.std.proofs.Common.{◌≡◌, ℕ, ◌+◌, ◌<◌, arith, refl, sym, ◌∙◌, ap, subst, List, [], ◌∷◌, length, Bool, true, false, if◌then◌else◌, ◌==◌, ◌&&◌, nat_le, zero, suc, Option, Some, None}
use Rattle.std.specs.Prelude.{slice_set}
use Rattle.std.proofs.Common.{get_or-set_same, get_or-set_other, length-set}
use Rattle.std.proofs.lemmas.Bool.Decides.{nat_tests}
use Rattle.anvil_bits.specs.Number.{Number}
use Rattle.core_term.specs.Inputs.{Inputs}
use Rattle.core_term.specs.Term.{Act, Cycle, Set, Send, Recv, If, When, Block, Wait, Pure, Nothing, head}
use Rattle.core_term.specs.Value.{Outcome, value}
use Rattle.core_term.specs.Ends.{sees, act_ends}
use Rattle.core_term.specs.Fate.{Fate, Waits, Lost, Runs}
use Rattle.core_term.specs.Turns.{run_of}
use Rattle.core_term.specs.Acts.{Sets, SetAt}
use Rattle.core_term.specs.History.{or_else, greatest, get_else, set_by, set_at, written, written_by}
use Rattle.core_term.specs.Process.{Thread, IsThread}
use Rattle.run_laws.proofs.source_runs.Offers.{begun_act}
use Rattle.run_laws.proofs.source_runs.Written.{written_is, Writes}
use Rattle.core_term.specs.Log.{Begun}
use Rattle.sim_laws.specs.declared.act_state.ActState.{ActState}
use Rattle.sim_laws.specs.declared.act_state.Does.{Does}
use Rattle.sim_laws.specs.declared.act_state.Does.TheVariants as does
use Rattle.sim_laws.specs.Advance.{zero_bit, state_at, does_of}
use Rattle.sim_laws.specs.Remembers.{Takes, Shown, Chosen}
use Rattle.sim_laws.specs.Passes.{write_by, begins_now, write_all}
use Rattle.sim_laws.proofs.Sites.{IsSite}
use Rattle.sim_laws.specs.Present.{PresentTurn, Present}
use Rattle.sim_laws.specs.Stands.{number_at, write_threads}
use Rattle.sim_laws.proofs.Others.{greatest_only, other_sets, not_set}
use Rattle.sim_laws.proofs.Offered.{GoodThread, GoodThreads, present_sites, turn_short}

abbrev pub set_number : Bool → Does → ℕ → ℕ → Option ℕ
set_number false d v r = None
set_number true does.Nothing v r = None
set_number true (does.Sends m) v r = None
set_number true (does.Receives m) v r = None
set_number true (does.Sets q) v r = if q == r then Some v else None

abbrev pub state_set : ActState → ℕ → Option ℕ
state_set act r = set_number (begins_now act) act.does act.taken.value r

unbegun : (r : ℕ) (act : ActState) → act.begun ≡ false → state_set act r ≡ None
unbegun r act e = rw e refl

module _ (n : ℕ) (inputs : Inputs) (history : ℕ → ℕ → ℕ) where
  by_act : (r b : ℕ) (scope : ℕ → Outcome) (a : Act) (v : ℕ) → Takes history scope b a v → set_number (b == n) (does_of a) v r ≡ set_by history r n scope b a
  by_act r b scope (Set p q e) v takes = go (b == n) (q == r)
    where
      go : (c d : Bool) → set_number c (does.Sets q) v r ≡ (if (q == r) && c then Some (value history scope b e).number else None)
      go true d = more (q == r)
        where
          more : (d : Bool) → (if d then Some v else None) ≡ (if d && true then Some (value history scope b e).number else None)
          more true = ap Some takes
          more false = refl
      go false d = more (q == r)
        where
          more : (d : Bool) → None ≡ (if d && false then Some (value history scope b e).number else None)
          more true = refl
          more false = refl
  by_act r b scope (Send p k e) v takes = none (b == n)
    where
      none : (c : Bool) → set_number c (does.Sends k) v r ≡ None
      none true = refl
      none false = refl
  by_act r b scope (Recv p k) v takes = none (b == n)
    where
      none : (c : Bool) → set_number c (does.Receives k) v r ≡ None
      none true = refl
      none false = refl
  by_act r b scope (Cycle p k) v takes = nothing_set (b == n) r v
    where
      nothing_set : (c : Bool) (r v : ℕ) → set_number c does.Nothing v r ≡ None
      nothing_set true r v = refl
      nothing_set false r v = refl
  by_act r b scope (If p e t u w) v takes = nothing_set (b == n) r v
    where
      nothing_set : (c : Bool) (r v : ℕ) → set_number c does.Nothing v r ≡ None
      nothing_set true r v = refl
      nothing_set false r v = refl
  by_act r b scope (When p e t) v takes = nothing_set (b == n) r v
    where
      nothing_set : (c : Bool) (r v : ℕ) → set_number c does.Nothing v r ≡ None
      nothing_set true r v = refl
      nothing_set false r v = refl
  by_act r b scope (Block p t) v takes = nothing_set (b == n) r v
    where
      nothing_set : (c : Bool) (r v : ℕ) → set_number c does.Nothing v r ≡ None
      nothing_set true r v = refl
      nothing_set false r v = refl
  by_act r b scope (Wait p y) v takes = nothing_set (b == n) r v
    where
      nothing_set : (c : Bool) (r v : ℕ) → set_number c does.Nothing v r ≡ None
      nothing_set true r v = refl
      nothing_set false r v = refl
  by_act r b scope (Pure p e) v takes = nothing_set (b == n) r v
    where
      nothing_set : (c : Bool) (r v : ℕ) → set_number c does.Nothing v r ≡ None
      nothing_set true r v = refl
      nothing_set false r v = refl
  by_act r b scope (Nothing p) v takes = nothing_set (b == n) r v
    where
      nothing_set : (c : Bool) (r v : ℕ) → set_number c does.Nothing v r ≡ None
      nothing_set true r v = refl
      nothing_set false r v = refl

  -- one site: what is kept of it tells what it writes
  pub site_set : (r : ℕ) (w : Fate) (act : ActState) → IsSite n inputs history w act → state_set act r ≡ set_at history r n w
  site_set r Waits act k = unbegun r act k.is
  site_set r Lost act k = unbegun r act k.is
  site_set r (Runs scope b u) act k = go (nat_le b n) refl k.is
    where
      go : (c : Bool) → nat_le b n ≡ c → Chosen c (Shown n history scope b (act_ends inputs (sees history) scope b (head u)) (head u) act) (act.begun ≡ false) → state_set act r ≡ set_by history r n scope b (head u)
      go true e s = rw (s.begun, s.fresh, s.does) (by_act r b scope (head u) act.taken.value s.takes)
      go false e s = unbegun r act s ∙ sym (not_set n history r scope b (head u) (λ i. let y : n < b = grind (arith, nat_tests) in omega arith))

get_or : (a b : Option ℕ) (old : ℕ) → get_else (or_else a b) old ≡ get_else a (get_else b old)
get_or None b old = refl
get_or (Some v) b old = refl

or_assoc : (a b c : Option ℕ) → or_else (or_else a b) c ≡ or_else a (or_else b c)
or_assoc None b c = refl
or_assoc (Some a) b c = refl

or_none : (o : Option ℕ) → or_else o None ≡ o
or_none None = refl
or_none (Some a) = refl

greatest_front : (f : ℕ → Option ℕ) (k n : ℕ) → greatest (λ j. f (k + j)) (suc n) ≡ or_else (greatest (λ j. f (k + 1 + j)) n) (f k)
greatest_front f k zero = or_none (f (k + 0)) ∙ ap f (omega arith)
greatest_front f k (suc n) =
    ap (λ o. or_else (f (k + suc n)) o) (greatest_front f k n)
    ∙ (sym (or_assoc (f (k + suc n)) (greatest (λ j. f (k + 1 + j)) n) (f k)) ∙ ap (λ o. or_else (or_else o (greatest (λ j. f (k + 1 + j)) n)) (f k)) (ap f (omega arith)))

greatest_same : (f g : ℕ → Option ℕ) (n : ℕ) → ((q : ℕ) → q < n → f q ≡ g q) → greatest f n ≡ greatest g n
greatest_same f g zero e = refl
greatest_same f g (suc n) e = rw (e n (omega arith), greatest_same f g n (λ q l. e q (omega arith))) refl

module _ (r : ℕ) where
  pub write_long : (on : Bool) (d : Does) (v : Number) (nexts : List Number) → length (write_by on d v nexts) ≡ length nexts
  write_long false d v nexts = refl
  write_long true does.Nothing v nexts = refl
  write_long true (does.Sends m) v nexts = refl
  write_long true (does.Receives m) v nexts = refl
  write_long true (does.Sets q) v nexts = length-set nexts q v

  one_write : (on : Bool) (d : Does) (v : Number) (nexts : List Number) → r < length nexts → number_at (write_by on d v nexts) r ≡ get_else (set_number on d v.value r) (number_at nexts r)
  one_write false d v nexts l = refl
  one_write true does.Nothing v nexts l = refl
  one_write true (does.Sends m) v nexts l = refl
  one_write true (does.Receives m) v nexts l = refl
  one_write true (does.Sets q) v nexts l = go (q == r) refl
    where
      go : (c : Bool) → (q == r) ≡ c → number_at (slice_set nexts q v) r ≡ get_else (if c then Some v.value else None) (number_at nexts r)
      go true e = let z : q ≡ r = grind (arith, nat_tests) in rw z (ap (λ x. x.value) (get_or-set_same nexts r v zero_bit l))
      go false e = ap (λ x. x.value) (get_or-set_other nexts q r v zero_bit (λ i. let y : (q == r) ≡ true = grind (arith, nat_tests) in let x : true ≡ false = sym y ∙ e in cc))

  pub writes_long : (acts : List ActState) (nexts : List Number) → length (write_all acts nexts) ≡ length nexts
  writes_long [] nexts = refl
  writes_long (act ∷ acts) nexts = writes_long acts _ ∙ write_long (begins_now act) act.does act.taken nexts

  pub all_write : (acts : List ActState) (f : ℕ → Option ℕ) (k : ℕ) (nexts : List Number) → r < length nexts → ((j : ℕ) → j < length acts → state_set (state_at acts j) r ≡ f (k + j))
      → number_at (write_all acts nexts) r ≡ get_else (greatest (λ j. f (k + j)) (length acts)) (number_at nexts r)
  all_write [] f k nexts l each = refl
  all_write (act ∷ acts) f k nexts l each =
      let here : state_set act r ≡ f k = each 0 (omega arith) ∙ ap f (omega arith) in
      let long : length (write_by (begins_now act) act.does act.taken nexts) ≡ length nexts = write_long (begins_now act) act.does act.taken nexts in
      let y = all_write acts f (k + 1) (write_by (begins_now act) act.does act.taken nexts) (omega arith) (λ j less. each (suc j) (omega arith) ∙ ap f (omega arith)) in
      y
      ∙ (ap (λ w. get_else (greatest (λ j. f (k + 1 + j)) (length acts)) w) (one_write (begins_now act) act.does act.taken nexts l ∙ ap (λ o. get_else o (number_at nexts r)) here)
      ∙ (sym (get_or (greatest (λ j. f (k + 1 + j)) (length acts)) (f k) (number_at nexts r)) ∙ ap (λ o. get_else o (number_at nexts r)) (sym (greatest_front f k (length acts)))))

-- no two threads set one register
abbrev pub OneSetter : List Thread → Type 0
OneSetter threads = (i j : ℕ) (thread other : Thread) (w w' r : ℕ) → IsThread threads i thread → IsThread threads j other → SetAt thread.body w r → SetAt other.body w' r → i ≡ j

pub one_setter_rest : (thread : Thread) (threads : List Thread) → OneSetter (thread ∷ threads) → OneSetter threads
one_setter_rest first rest k i j thread other w w' r is is' at at' =
    let z : suc i ≡ suc j = k (suc i) (suc j) thread other w w' r is is' at at' in omega arith

module _ (n : ℕ) (inputs : Inputs) (history : ℕ → ℕ → ℕ) (short : n < inputs.count) where
  thread_write : (r : ℕ) (thread : Thread) (acts : List ActState) (nexts : List Number) → GoodThread thread → PresentTurn n inputs history thread.body acts → r < length nexts
      → number_at (write_all acts nexts) r ≡ get_else (written inputs history thread r n) (number_at nexts r)
  thread_write r thread acts nexts good present l =
      let long = present.long in
      let count = good.counted in
      let f : ℕ → Option ℕ = λ q. set_at history r n (run_of inputs (sees history) thread.body present.turn q) in
      let z =
      all_write r acts f 0 nexts l
      (λ j less. site_set n inputs history r (run_of inputs (sees history) thread.body present.turn j) (state_at acts j) (present_sites n inputs history short thread.body acts good.numbered present j (omega arith)) ∙ ap f (omega arith)) in
      let same : length acts ≡ thread.count = omega arith in
      let y : greatest (λ j. f (0 + j)) (length acts) ≡ written inputs history thread r n =
      ap (greatest (λ j. f (0 + j))) same
      ∙ greatest_same (λ j. f (0 + j)) _ thread.count (λ q a. ap f (omega arith) ∙ sym (greatest_only (λ i. set_at history r n (run_of inputs (sees history) thread.body i q)) (n + 1) present.turn
      (turn_short n inputs history short thread.body acts good.numbered good.takes_time present) (λ j other. other_sets n inputs history thread.body good.numbered good.takes_time acts present r j q other))) in
      z ∙ ap (λ o. get_else o (number_at nexts r)) y

  pub threads_write : (r : ℕ) (threads : List Thread) (states : List (List ActState)) (nexts : List Number) → GoodThreads threads → OneSetter threads → Present n inputs history threads states → r < length nexts
      → number_at (write_threads states nexts) r ≡ get_else (written_by inputs history threads r n) (number_at nexts r)
  threads_write r [] [] nexts good one present l = refl
  threads_write r [] (acts ∷ states) nexts good one present l = absurd present
  threads_write r (thread ∷ threads) [] nexts good one present l = absurd present
  threads_write r (thread ∷ threads) (acts ∷ states) nexts good one present l =
      let long : length (write_all acts nexts) ≡ length nexts = writes_long r acts nexts in
      let z = threads_write r threads states (write_all acts nexts) good.1 (one_setter_rest thread threads one) present.1 (omega arith) in
      let y = thread_write r thread acts nexts good.0 present.0 l in
      z ∙ (ap (λ w. get_else (written_by inputs history threads r n) w) y ∙ go (written inputs history thread r n) refl (written_by inputs history threads r n) refl)
    where
      go : (a : Option ℕ) → written inputs history thread r n ≡ a → (b : Option ℕ) → written_by inputs history threads r n ≡ b → get_else b (get_else a (number_at nexts r)) ≡ get_else (or_else a b) (number_at nexts r)
      go None e b f = refl
      go (Some v) e None f = refl
      go (Some v) e (Some v') f =
          let here : written_by inputs history (thread ∷ []) r n ≡ Some v = ap (λ o. or_else o None) e in
          let w = written_is inputs history (thread ∷ []) r n v here in
          let w' = written_is inputs history threads r n v' f in
          absurd (apart w.j w.thread w.is w.turn w.place w.act w.sets w')
        where
          apart : (j : ℕ) (other : Thread) → IsThread (thread ∷ []) j other → (i q : ℕ) → (act : Begun inputs history other.body i q) → Sets (head act.term) r → Writes inputs history threads r n v' → ⊥
          apart (suc j) other is i q act sets w' = is
          apart zero other is i q act sets w' =
              let numbered' = good_at threads w'.j w'.thread w'.is good.1 in
              let numbered = subst (λ t. GoodThread t) is good.0 in
              let a = begun_act inputs history other.body numbered.numbered (λ b. Sets b r) i q act sets in
              let b = begun_act inputs history w'.thread.body numbered'.numbered (λ b. Sets b r) w'.turn w'.place w'.act w'.sets in
              let z : 0 ≡ suc w'.j = one 0 (suc w'.j) other w'.thread q w'.place r is w'.is a b in
              omega arith
            where
              good_at : (threads : List Thread) (j : ℕ) (t : Thread) → IsThread threads j t → GoodThreads threads → GoodThread t
              good_at [] j t is good = absurd is
              good_at (first ∷ rest) zero t is good = subst (λ t. GoodThread t) is good.0
              good_at (first ∷ rest) (suc j) t is good = good_at rest j t is good.1
