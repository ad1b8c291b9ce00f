-- What the present turns drive on a port is what is offered there in the run.
use Rattle.std.proofs.Common.{◌≡◌, ℕ, ◌+◌, ◌<◌, ◌≤◌, arith, refl, sym, ◌∙◌, ap, subst, List, [], ◌∷◌, length, Bool, true, false, if◌then◌else◌, ◌==◌, ◌&&◌, nat_lt, nat_le, zero, suc, Option, Some, None}
use Rattle.std.specs.Prelude.{not, slice_set}
use Rattle.std.proofs.Common.{get_or-set_same, get_or-set_other, length-set}
use Rattle.std.proofs.lemmas.Bool.Decides.{nat_tests}
use Rattle.anvil_bits.specs.Number.{Number}
use Rattle.core_term.specs.Inputs.{Inputs}
use Rattle.core_term.specs.Term.{Term, Act, Cycle, Set, Send, Recv, If, When, Block, Wait, Pure, Nothing, head}
use Rattle.core_term.specs.Numbering.{size, Numbered}
use Rattle.core_term.specs.Tail.{IsTail}
use Rattle.core_term.specs.Value.{Outcome, Open, Done}
use Rattle.core_term.specs.Ends.{sees, act_ends}
use Rattle.core_term.specs.Fate.{Fate, Waits, Lost, Runs, fate}
use Rattle.core_term.specs.Turns.{run_from, run_of, no_variable}
use Rattle.core_term.specs.History.{or_else, greatest}
use Rattle.core_term.specs.Outputs.{least, on_port, pending, Offer, offered_by, offered, sent_value, has}
use Rattle.core_term.specs.Process.{Thread}
use Rattle.run_laws.proofs.source_runs.Offers.{turns_take}
use Rattle.sim_laws.specs.declared.act_state.ActState.{ActState}
use Rattle.sim_laws.specs.declared.act_state.Does.{Does}
use Rattle.sim_laws.specs.declared.act_state.Does.TheVariants as does
use Rattle.sim_laws.specs.declared.drive.Drive.{Drive}
use Rattle.sim_laws.specs.Advance.{state_at, does_of}
use Rattle.sim_laws.specs.Remembers.{over_by, Takes, Shown, Chosen}
use Rattle.sim_laws.specs.Passes.{no_drive, drive_at, offer_send, offer_receive, drive_by, is_offered, drive_all}
use Rattle.sim_laws.proofs.Sites.{IsSite, each_site}
use Rattle.sim_laws.specs.Present.{PresentTurn, Present}
use Rattle.sim_laws.specs.Stands.{drive_threads}
use Rattle.sim_laws.proofs.Others.{greatest_only, other_offers}

-- the number that an offer sends; 0 of a receive
abbrev pub offer_number : (ℕ → ℕ → ℕ) → Option Offer → Option ℕ
offer_number history None = None
offer_number history (Some offer) = Some (sent_value history offer.begin offer.scope offer.act)

abbrev pub site_number : Bool → Does → ℕ → ℕ → Option ℕ
site_number false d v m = None
site_number true does.Nothing v m = None
site_number true (does.Sends k) v m = if k == m then Some v else None
site_number true (does.Receives k) v m = if k == m then Some 0 else None
site_number true (does.Sets r) v m = None

abbrev pub state_number : ActState → ℕ → Option ℕ
state_number act m = site_number (is_offered act) act.does act.taken.value m

not_over : (n b : ℕ) (o : Outcome) → nat_le b n ≡ true → not (over_by n o) ≡ pending n b o
not_over n b Open e = sym e
not_over n b (Done c v) e = rw e (go (nat_lt c n) refl)
  where
    go : (d : Bool) → nat_lt c n ≡ d → not d ≡ nat_le n c
    go true f = let z : c < n = grind (arith, nat_tests) in let y : nat_le n c ≡ false = grind (arith, nat_tests) in sym y
    go false f = let z : n ≤ c = grind (arith, nat_tests) in let y : nat_le n c ≡ true = grind (arith, nat_tests) in sym y

not_begun : (n b : ℕ) (o : Outcome) → nat_le b n ≡ false → pending n b o ≡ false
not_begun n b Open e = e
not_begun n b (Done c v) e = rw e refl

module _ (n : ℕ) (inputs : Inputs) (history : ℕ → ℕ → ℕ) where
  by_act : (m b : ℕ) (scope : ℕ → Outcome) (a : Act) (d : Bool) (v : ℕ) → Takes history scope b a v
      → site_number d (does_of a) v m ≡ offer_number history (if on_port m a && d then Some (record { scope = scope; begin = b; act = a }) else None)
  by_act m b scope (Send p k e) false v takes = go (k == m)
    where
      go : (c : Bool) → None ≡ offer_number history (if c && false then Some (record { scope = scope; begin = b; act = Send p k e }) else None)
      go true = refl
      go false = refl
  by_act m b scope (Send p k e) true v takes = go (k == m)
    where
      go : (c : Bool) → (if c then Some v else None) ≡ offer_number history (if c && true then Some (record { scope = scope; begin = b; act = Send p k e }) else None)
      go true = ap Some takes
      go false = refl
  by_act m b scope (Recv p k) false v takes = go (k == m)
    where
      go : (c : Bool) → None ≡ offer_number history (if c && false then Some (record { scope = scope; begin = b; act = Recv p k }) else None)
      go true = refl
      go false = refl
  by_act m b scope (Recv p k) true v takes = go (k == m)
    where
      go : (c : Bool) → (if c then Some 0 else None) ≡ offer_number history (if c && true then Some (record { scope = scope; begin = b; act = Recv p k }) else None)
      go true = refl
      go false = refl
  by_act m b scope (Set p r e) true v takes = refl
  by_act m b scope (Set p r e) false v takes = refl
  by_act m b scope (Cycle p k) true v takes = refl
  by_act m b scope (Cycle p k) false v takes = refl
  by_act m b scope (If p e t u w) true v takes = refl
  by_act m b scope (If p e t u w) false v takes = refl
  by_act m b scope (When p e t) true v takes = refl
  by_act m b scope (When p e t) false v takes = refl
  by_act m b scope (Block p t) true v takes = refl
  by_act m b scope (Block p t) false v takes = refl
  by_act m b scope (Wait p y) true v takes = refl
  by_act m b scope (Wait p y) false v takes = refl
  by_act m b scope (Pure p e) true v takes = refl
  by_act m b scope (Pure p e) false v takes = refl
  by_act m b scope (Nothing p) true v takes = refl
  by_act m b scope (Nothing p) false v takes = refl

  unbegun : (m : ℕ) (act : ActState) → act.begun ≡ false → state_number act m ≡ None
  unbegun m act e = rw e refl

  -- one site: what is kept of it tells whether it is offered
  pub site_offer : (m : ℕ) (w : Fate) (act : ActState) → IsSite n inputs history w act → state_number act m ≡ offer_number history (offered_by inputs history m n w)
  site_offer m Waits act k = unbegun m act k.is
  site_offer m Lost act k = unbegun m act k.is
  site_offer m (Runs scope b u) act k = go (nat_le b n) refl k.is
    where
      a : Act
      a = head u

      go : (c : Bool) → nat_le b n ≡ c → Chosen c (Shown n history scope b (act_ends inputs (sees history) scope b (head u)) (head u) act) (act.begun ≡ false)
          → state_number act m ≡ offer_number history (if on_port m (head u) && pending n b (act_ends inputs (sees history) scope b (head u)) then Some (record { scope = scope; begin = b; act = head u }) else None)
      go true e s =
          let z = not_over n b (act_ends inputs (sees history) scope b (head u)) e in
          rw (s.begun, s.over, s.does, z) (by_act m b scope (head u) (pending n b (act_ends inputs (sees history) scope b (head u))) act.taken.value s.takes)
      go false e s = rw (not_begun n b (act_ends inputs (sees history) scope b (head u)) e) (unbegun m act s ∙ none (on_port m (head u)))
        where
          none : (c : Bool) → None ≡ offer_number history (if c && false then Some (record { scope = scope; begin = b; act = head u }) else None)
          none true = refl
          none false = refl

-- Drives.

abbrev pub or_zero : Option ℕ → ℕ
or_zero None = 0
or_zero (Some k) = k

-- what is driven on a port is what is offered there
pub record IsDrive (drive : Drive) (o : Option ℕ) : Type 0 where
  pub offered : drive.offered ≡ has o
  pub number : drive.number.value ≡ or_zero o

or_none : (o : Option ℕ) → or_else o None ≡ o
or_none None = refl
or_none (Some a) = refl

or_assoc : (a b c : Option ℕ) → or_else (or_else a b) c ≡ or_else a (or_else b c)
or_assoc None b c = refl
or_assoc (Some a) b c = refl

sent_drive : (drive : Drive) (o : Option ℕ) (v : Number) → IsDrive drive o → IsDrive (offer_send drive v) (or_else o (Some v.value))
sent_drive drive None v k = rw k.offered (record { offered = refl; number = refl })
sent_drive drive (Some a) v k = rw k.offered (record { offered = refl; number = k.number })

received_drive : (drive : Drive) (o : Option ℕ) → IsDrive drive o → IsDrive (offer_receive drive) (or_else o (Some 0))
received_drive drive None k = record { offered = refl; number = k.number }
received_drive drive (Some a) k = record { offered = refl; number = k.number }

module _ (m : ℕ) where
  pub drive_long : (on : Bool) (d : Does) (v : Number) (drives : List Drive) → length (drive_by on d v drives) ≡ length drives
  drive_long false d v drives = refl
  drive_long true does.Nothing v drives = refl
  drive_long true (does.Sends k) v drives = length-set drives k _
  drive_long true (does.Receives k) v drives = length-set drives k _
  drive_long true (does.Sets r) v drives = refl

  one_drive : (on : Bool) (d : Does) (v : Number) (drives : List Drive) (o : Option ℕ) → m < length drives → IsDrive (drive_at drives m) o → IsDrive (drive_at (drive_by on d v drives) m) (or_else o (site_number on d v.value m))
  one_drive false d v drives o l k = rw (or_none o) k
  one_drive true does.Nothing v drives o l k = rw (or_none o) k
  one_drive true (does.Sets r) v drives o l k = rw (or_none o) k
  one_drive true (does.Sends j) v drives o l k = go (j == m) refl
    where
      go : (c : Bool) → (j == m) ≡ c → IsDrive (drive_at (slice_set drives j (offer_send (drive_at drives j) v)) m) (or_else o (if c then Some v.value else None))
      go true e =
          let z : j ≡ m = grind (arith, nat_tests) in
          rw (z, get_or-set_same drives m (offer_send (drive_at drives m) v) no_drive l) (sent_drive (drive_at drives m) o v k)
      go false e =
          let P : Drive → Type 0 = λ drive. IsDrive drive (or_else o None) in
          subst P (sym (get_or-set_other drives j m _ no_drive (λ i. let y : (j == m) ≡ true = grind (arith, nat_tests) in let x : true ≡ false = sym y ∙ e in cc))) (rw (or_none o) k)
  one_drive true (does.Receives j) v drives o l k = go (j == m) refl
    where
      go : (c : Bool) → (j == m) ≡ c → IsDrive (drive_at (slice_set drives j (offer_receive (drive_at drives j))) m) (or_else o (if c then Some 0 else None))
      go true e =
          let z : j ≡ m = grind (arith, nat_tests) in
          rw (z, get_or-set_same drives m (offer_receive (drive_at drives m)) no_drive l) (received_drive (drive_at drives m) o k)
      go false e =
          let P : Drive → Type 0 = λ drive. IsDrive drive (or_else o None) in
          subst P (sym (get_or-set_other drives j m _ no_drive (λ i. let y : (j == m) ≡ true = grind (arith, nat_tests) in let x : true ≡ false = sym y ∙ e in cc))) (rw (or_none o) k)

  pub drives_long : (acts : List ActState) (drives : List Drive) → length (drive_all acts drives) ≡ length drives
  drives_long [] drives = refl
  drives_long (act ∷ acts) drives = drives_long acts _ ∙ drive_long (is_offered act) act.does act.taken drives

  pub all_drive : (acts : List ActState) (f : ℕ → Option ℕ) (k : ℕ) (drives : List Drive) (o : Option ℕ) → m < length drives → ((j : ℕ) → j < length acts → state_number (state_at acts j) m ≡ f (k + j)) → IsDrive (drive_at drives m) o
      → IsDrive (drive_at (drive_all acts drives) m) (or_else o (least f k (length acts)))
  all_drive [] f k drives o l each i = rw (or_none o) i
  all_drive (act ∷ acts) f k drives o l each i =
      let here : state_number act m ≡ f k = each 0 (omega arith) ∙ ap f (omega arith) in
      let long : length (drive_by (is_offered act) act.does act.taken drives) ≡ length drives = drive_long (is_offered act) act.does act.taken drives in
      let z = one_drive (is_offered act) act.does act.taken drives o l i in
      let y =
      all_drive acts f (k + 1) (drive_by (is_offered act) act.does act.taken drives) (or_else o (state_number act m)) (omega arith)
      (λ j less. each (suc j) (omega arith) ∙ ap f (omega arith)) z in
      subst (λ w. IsDrive (drive_at (drive_all acts (drive_by (is_offered act) act.does act.taken drives)) m) w) (or_assoc o (state_number act m) (least f (k + 1) (length acts)) ∙ ap (λ w. or_else o (or_else w (least f (k + 1) (length acts)))) here) y

number_or : (history : ℕ → ℕ → ℕ) (a b : Option Offer) → offer_number history (or_else a b) ≡ or_else (offer_number history a) (offer_number history b)
number_or history None b = refl
number_or history (Some a) b = refl

number_least : (history : ℕ → ℕ → ℕ) (f : ℕ → Option Offer) (k n : ℕ) → offer_number history (least f k n) ≡ least (λ q. offer_number history (f q)) k n
number_least history f k zero = refl
number_least history f k (suc n) = number_or history (f k) (least f (k + 1) n) ∙ ap (λ o. or_else (offer_number history (f k)) o) (number_least history f (k + 1) n)

least_same : (f g : ℕ → Option ℕ) (k n : ℕ) → ((q : ℕ) → k ≤ q → q < k + n → f q ≡ g q) → least f k n ≡ least g k n
least_same f g k zero e = refl
least_same f g k (suc n) e = rw (e k (omega arith) (omega arith), least_same f g (k + 1) n (λ q l m. e q (omega arith) (omega arith))) refl

-- the bodies are numbered and take time
pub record GoodThread (thread : Thread) : Type 0 where
  pub numbered : Numbered [] 0 thread.body
  pub counted : thread.count ≡ size thread.body
  pub takes_time : IsTail thread.body

abbrev pub GoodThreads : List Thread → Type 0
GoodThreads [] = Unit {0}
GoodThreads (thread ∷ threads) = GoodThread thread × GoodThreads threads

module _ (n : ℕ) (inputs : Inputs) (history : ℕ → ℕ → ℕ) (short : n < inputs.count) where
  pub present_sites : (body : Term) (acts : List ActState) → Numbered [] 0 body → (present : PresentTurn n inputs history body acts) → (q : ℕ) → q < size body → IsSite n inputs history (run_of inputs (sees history) body present.turn q) (state_at acts q)
  present_sites body acts numbered present q l =
      let P : Option ℕ → Type 0 = λ o. IsSite n inputs history (run_from inputs (sees history) body o q) (state_at acts q) in
      subst P (sym present.begin_is)
      (each_site n inputs history acts short (fate inputs (sees history) no_variable present.start body) [] 0 no_variable present.start body present.since numbered (record { each = λ q i j. refl }) present.remembers q (omega arith) (omega arith))

  pub turn_short : (body : Term) (acts : List ActState) → Numbered [] 0 body → IsTail body → (present : PresentTurn n inputs history body acts) → present.turn < n + 1
  turn_short body acts numbered tail present =
      let z = turns_take inputs history body numbered tail present.turn present.start present.begin_is in
      let y = present.since in
      omega arith

  -- the drives after a thread
  thread_drive : (m : ℕ) (thread : Thread) (acts : List ActState) (drives : List Drive) (o : Option ℕ) → GoodThread thread → PresentTurn n inputs history thread.body acts → m < length drives → IsDrive (drive_at drives m) o
      → IsDrive (drive_at (drive_all acts drives) m) (or_else o (offer_number history (least (λ q. greatest (λ i. offered_by inputs history m n (run_of inputs (sees history) thread.body i q)) (n + 1)) 0 thread.count)))
  thread_drive m thread acts drives o good present l k =
      let long = present.long in
      let count = good.counted in
      let f : ℕ → Option ℕ = λ q. offer_number history (offered_by inputs history m n (run_of inputs (sees history) thread.body present.turn q)) in
      let z =
      all_drive m acts f 0 drives o l
      (λ j less. site_offer n inputs history m (run_of inputs (sees history) thread.body present.turn j) (state_at acts j) (present_sites thread.body acts good.numbered present j (omega arith)) ∙ ap f (omega arith)) k in
      let same : length acts ≡ thread.count = omega arith in
      let y : least f 0 (length acts) ≡ offer_number history (least (λ q. greatest (λ i. offered_by inputs history m n (run_of inputs (sees history) thread.body i q)) (n + 1)) 0 thread.count) =
      ap (least f 0) same
      ∙ (least_same f _ 0 thread.count (λ q a b. ap (offer_number history) (sym (greatest_only (λ i. offered_by inputs history m n (run_of inputs (sees history) thread.body i q)) (n + 1) present.turn
      (turn_short thread.body acts good.numbered good.takes_time present) (λ j other. other_offers n inputs history thread.body good.numbered good.takes_time acts present m j q other))))
      ∙ sym (number_least history (λ q. greatest (λ i. offered_by inputs history m n (run_of inputs (sees history) thread.body i q)) (n + 1)) 0 thread.count)) in
      subst (λ w. IsDrive (drive_at (drive_all acts drives) m) (or_else o w)) y z

  pub threads_drive : (m : ℕ) (threads : List Thread) (states : List (List ActState)) (drives : List Drive) (o : Option ℕ) → GoodThreads threads → Present n inputs history threads states → m < length drives → IsDrive (drive_at drives m) o
      → IsDrive (drive_at (drive_threads states drives) m) (or_else o (offer_number history (offered inputs history threads m n)))
  threads_drive m [] [] drives o good present l k = rw (or_none o) k
  threads_drive m [] (acts ∷ states) drives o good present l k = absurd present
  threads_drive m (thread ∷ threads) [] drives o good present l k = absurd present
  threads_drive m (thread ∷ threads) (acts ∷ states) drives o good present l k =
      let first = least (λ q. greatest (λ i. offered_by inputs history m n (run_of inputs (sees history) thread.body i q)) (n + 1)) 0 thread.count in
      let z = thread_drive m thread acts drives o good.0 present.0 l k in
      let long : length (drive_all acts drives) ≡ length drives = drives_long m acts drives in
      let y = threads_drive m threads states (drive_all acts drives) (or_else o (offer_number history first)) good.1 present.1 (omega arith) z in
      subst (λ w. IsDrive (drive_at (drive_threads states (drive_all acts drives)) m) w)
      (or_assoc o (offer_number history first) (offer_number history (offered inputs history threads m n)) ∙ ap (λ w. or_else o w) (sym (number_or history first (offered inputs history threads m n)))) y
