-- A core process that is sized and owned stands for a process.
--
-- What a test asks of a body it asks of each term that stands in it, with the widths in scope there; so each act on a port is on
-- its right side. The ports that a body names are those of its acts, so two threads that name ports of one endpoint are one.
use Rattle.std.proofs.Common.{◌≡◌, ℕ, ◌+◌, ◌<◌, ◌⊎◌, inl, inr, arith, refl, sym, ap, subst, Bool, true, false, ◌&&◌, not, ◌==◌, nat_lt, nat_le, IsTrue, List, [], ◌∷◌, ◌++◌, length, map, bytes_eq, zero, suc}
use Rattle.std.proofs.lemmas.Bool.Decides.{nat_tests}
use Rattle.std.proofs.lemmas.Slice.Eq.{bytes_eq-Decides}
use Rattle.std.specs.List.{list_all}
use Rattle.core_term.specs.declared.term.CoreTerm.{CoreTerm}
use Rattle.core_term.specs.declared.process.CorePort.{CorePort}
use Rattle.core_term.specs.declared.process.CoreReg.{CoreReg}
use Rattle.core_term.specs.Lists.{Has}
use Rattle.core_term.specs.Term.{Term, One, Then, Both, Act, Cycle, Set, Send, Recv, If, When, Block, Wait, Pure, Nothing, head}
use Rattle.core_term.specs.Numbering.{size, Numbered}
use Rattle.core_term.specs.Tail.{IsTail, CyclesTakeTime}
use Rattle.core_term.specs.Stands.{Stands, StandsIn, here, in_one, in_then, after_then, in_both, after_both, in_yes, in_no, in_when, in_block}
use Rattle.core_term.specs.Acts.{OnPort, Receives, Sends, Sets, HasAct}
use Rattle.core_term.specs.Process.{LifeEnd, Cycles, Until, Port, Thread, Process, nth_port, life_of, is_received, endpoint_of, IsThread, IsProcess}
use Rattle.core_term.specs.Widths.{Widths}
use Rattle.core_term.specs.View.{after_act}
use Rattle.core_term.specs.Body.{IsBody}
use Rattle.core_term.specs.ProcessView.{widths_of, thread_of, process_of}
use Rattle.core_term.specs.Limits.{most_ports, most_threads}
use Rattle.core_term.specs.Names.{is_good_name, has_no_twice}
use Rattle.core_term.specs.Sized.{is_sized, is_owned, process_fits, port_fits, is_same_port, term_fits, act_fits, end_fits, life_fits, lives_fit, ports_named, ports_named_in, registers_set, registers_set_in, none_shared, are_apart, each_apart}
use Rattle.core_term.proofs.code_tables.Ports.{first_part, second_part}

-- Items of lists that were tested.

pub all_of : {A : Type 0} (test : A → Bool) (items : List A) (a : A) → IsTrue (list_all test items) → Has items a → IsTrue (test a)
all_of test [] a k i = elim i [ ]
all_of test (b ∷ rest) a k (inl i) = subst (λ z. IsTrue (test z)) (sym i) (first_part _ _ k)
all_of test (b ∷ rest) a k (inr i) = all_of test rest a (second_part (test b) _ k) i

pub has_left : {A : Type 0} (xs ys : List A) (a : A) → Has xs a → Has (xs ++ ys) a
has_left [] ys a i = elim i [ ]
has_left (x ∷ xs) ys a (inl i) = inl i
has_left (x ∷ xs) ys a (inr i) = inr (has_left xs ys a i)

pub has_right : {A : Type 0} (xs ys : List A) (a : A) → Has ys a → Has (xs ++ ys) a
has_right [] ys a i = i
has_right (x ∷ xs) ys a i = inr (has_right xs ys a i)

pub has_either : {A : Type 0} (these those : List A) (a : A) → Has (these ++ those) a → Has these a ⊎ Has those a
has_either [] those a k = inr k
has_either (c ∷ these) those a (inl e) = inl (inl e)
has_either (c ∷ these) those a (inr k) = elim (has_either these those a k) [ inl m ↦ inl (inr m) | inr m ↦ inr m ]

-- Terms that stand in a body.

module _ (p : Process) where
  mutual
    pub standing_fits : (scope inner : List Act) (widths : Widths) (t u : Term) → Stands scope t inner u → IsTrue (term_fits p widths t) → (w : Widths) × IsTrue (term_fits p w u)
    standing_fits scope inner widths t u here k = (widths, k)
    standing_fits scope inner widths (One a) u (in_one s) k = standing_fits_in scope inner widths a u s k
    standing_fits scope inner widths (Then a t) u (in_then s) k = standing_fits_in scope inner widths a u s (first_part _ _ k)
    standing_fits scope inner widths (Then a t) u (after_then s) k = standing_fits (a ∷ scope) inner (after_act widths a) t u s (second_part (act_fits p widths a) _ k)
    standing_fits scope inner widths (Both a t) u (in_both s) k = standing_fits_in scope inner widths a u s (first_part _ _ k)
    standing_fits scope inner widths (Both a t) u (after_both s) k = standing_fits (a ∷ scope) inner (after_act widths a) t u s (second_part (act_fits p widths a) _ k)

    pub standing_fits_in : (scope inner : List Act) (widths : Widths) (a : Act) (u : Term) → StandsIn scope a inner u → IsTrue (act_fits p widths a) → (w : Widths) × IsTrue (term_fits p w u)
    standing_fits_in scope inner widths (If q e t f w) u (in_yes s) k = standing_fits scope inner widths t u s (first_part _ _ (second_part _ _ k))
    standing_fits_in scope inner widths (If q e t f w) u (in_no s) k = standing_fits scope inner widths f u s (first_part _ _ (second_part _ _ (second_part _ _ k)))
    standing_fits_in scope inner widths (When q e t) u (in_when s) k = standing_fits scope inner widths t u s (second_part _ _ k)
    standing_fits_in scope inner widths (Block q t) u (in_block s) k = standing_fits scope inner widths t u s k
    standing_fits_in scope inner widths (Cycle q n) u s k = elim s [ ]
    standing_fits_in scope inner widths (Set q n e) u s k = elim s [ ]
    standing_fits_in scope inner widths (Send q n e) u s k = elim s [ ]
    standing_fits_in scope inner widths (Recv q n) u s k = elim s [ ]
    standing_fits_in scope inner widths (Wait q y) u s k = elim s [ ]
    standing_fits_in scope inner widths (Pure q e) u s k = elim s [ ]
    standing_fits_in scope inner widths (Nothing q) u s k = elim s [ ]

  pub head_fits : (widths : Widths) (u : Term) → IsTrue (term_fits p widths u) → IsTrue (act_fits p widths (head u))
  head_fits widths (One a) k = k
  head_fits widths (Then a t) k = first_part _ _ k
  head_fits widths (Both a t) k = first_part _ _ k

  pub receives_side : (widths : Widths) (a : Act) (m : ℕ) → IsTrue (act_fits p widths a) → Receives a m → is_received p m ≡ true
  receives_side widths (Recv q n) m k r = subst (λ z. is_received p z ≡ true) r (second_part (nat_lt n (length p.ports)) (is_received p n) k)
  receives_side widths (Cycle q n) m k r = elim r [ ]
  receives_side widths (Set q n e) m k r = elim r [ ]
  receives_side widths (Send q n e) m k r = elim r [ ]
  receives_side widths (If q e t u w) m k r = elim r [ ]
  receives_side widths (When q e t) m k r = elim r [ ]
  receives_side widths (Block q t) m k r = elim r [ ]
  receives_side widths (Wait q y) m k r = elim r [ ]
  receives_side widths (Pure q e) m k r = elim r [ ]
  receives_side widths (Nothing q) m k r = elim r [ ]

  is_not : (b : Bool) → IsTrue (not b) → b ≡ false
  is_not true k = absurd cc
  is_not false k = refl

  pub sends_side : (widths : Widths) (a : Act) (m : ℕ) → IsTrue (act_fits p widths a) → Sends a m → is_received p m ≡ false
  sends_side widths (Send q n e) m k r = subst (λ z. is_received p z ≡ false) r (is_not (is_received p n) (first_part _ _ (second_part (nat_lt n (length p.ports)) _ k)))
  sends_side widths (Recv q n) m k r = elim r [ ]
  sends_side widths (Cycle q n) m k r = elim r [ ]
  sends_side widths (Set q n e) m k r = elim r [ ]
  sends_side widths (If q e t u w) m k r = elim r [ ]
  sends_side widths (When q e t) m k r = elim r [ ]
  sends_side widths (Block q t) m k r = elim r [ ]
  sends_side widths (Wait q y) m k r = elim r [ ]
  sends_side widths (Pure q e) m k r = elim r [ ]
  sends_side widths (Nothing q) m k r = elim r [ ]

-- The ports that a body names and the registers that it sets.

pub act_named : (a : Act) (m : ℕ) → OnPort a m → Has (ports_named_in a) m
act_named (Send q n e) m k = inl (sym k)
act_named (Recv q n) m k = inl (sym k)
act_named (Cycle q n) m k = elim k [ ]
act_named (Set q n e) m k = elim k [ ]
act_named (If q e t u w) m k = elim k [ ]
act_named (When q e t) m k = elim k [ ]
act_named (Block q t) m k = elim k [ ]
act_named (Wait q y) m k = elim k [ ]
act_named (Pure q e) m k = elim k [ ]
act_named (Nothing q) m k = elim k [ ]

pub head_named : (u : Term) (m : ℕ) → OnPort (head u) m → Has (ports_named u) m
head_named (One a) m k = act_named a m k
head_named (Then a t) m k = has_left _ _ m (act_named a m k)
head_named (Both a t) m k = has_left _ _ m (act_named a m k)

mutual
  pub standing_named : (scope inner : List Act) (t u : Term) (m : ℕ) → Stands scope t inner u → Has (ports_named u) m → Has (ports_named t) m
  standing_named scope inner t u m here k = k
  standing_named scope inner (One a) u m (in_one s) k = standing_named_in scope inner a u m s k
  standing_named scope inner (Then a t) u m (in_then s) k = has_left _ _ m (standing_named_in scope inner a u m s k)
  standing_named scope inner (Then a t) u m (after_then s) k = has_right (ports_named_in a) _ m (standing_named (a ∷ scope) inner t u m s k)
  standing_named scope inner (Both a t) u m (in_both s) k = has_left _ _ m (standing_named_in scope inner a u m s k)
  standing_named scope inner (Both a t) u m (after_both s) k = has_right (ports_named_in a) _ m (standing_named (a ∷ scope) inner t u m s k)

  pub standing_named_in : (scope inner : List Act) (a : Act) (u : Term) (m : ℕ) → StandsIn scope a inner u → Has (ports_named u) m → Has (ports_named_in a) m
  standing_named_in scope inner (If q e t f w) u m (in_yes s) k = has_left _ _ m (standing_named scope inner t u m s k)
  standing_named_in scope inner (If q e t f w) u m (in_no s) k = has_right (ports_named t) _ m (standing_named scope inner f u m s k)
  standing_named_in scope inner (When q e t) u m (in_when s) k = standing_named scope inner t u m s k
  standing_named_in scope inner (Block q t) u m (in_block s) k = standing_named scope inner t u m s k
  standing_named_in scope inner (Cycle q n) u m s k = elim s [ ]
  standing_named_in scope inner (Set q n e) u m s k = elim s [ ]
  standing_named_in scope inner (Send q n e) u m s k = elim s [ ]
  standing_named_in scope inner (Recv q n) u m s k = elim s [ ]
  standing_named_in scope inner (Wait q y) u m s k = elim s [ ]
  standing_named_in scope inner (Pure q e) u m s k = elim s [ ]
  standing_named_in scope inner (Nothing q) u m s k = elim s [ ]

pub act_set : (a : Act) (r : ℕ) → Sets a r → Has (registers_set_in a) r
act_set (Set q n e) r k = inl (sym k)
act_set (Send q n e) r k = elim k [ ]
act_set (Recv q n) r k = elim k [ ]
act_set (Cycle q n) r k = elim k [ ]
act_set (If q e t u w) r k = elim k [ ]
act_set (When q e t) r k = elim k [ ]
act_set (Block q t) r k = elim k [ ]
act_set (Wait q y) r k = elim k [ ]
act_set (Pure q e) r k = elim k [ ]
act_set (Nothing q) r k = elim k [ ]

pub head_set : (u : Term) (r : ℕ) → Sets (head u) r → Has (registers_set u) r
head_set (One a) r k = act_set a r k
head_set (Then a t) r k = has_left _ _ r (act_set a r k)
head_set (Both a t) r k = has_left _ _ r (act_set a r k)

mutual
  pub standing_set : (scope inner : List Act) (t u : Term) (r : ℕ) → Stands scope t inner u → Has (registers_set u) r → Has (registers_set t) r
  standing_set scope inner t u r here k = k
  standing_set scope inner (One a) u r (in_one s) k = standing_set_in scope inner a u r s k
  standing_set scope inner (Then a t) u r (in_then s) k = has_left _ _ r (standing_set_in scope inner a u r s k)
  standing_set scope inner (Then a t) u r (after_then s) k = has_right (registers_set_in a) _ r (standing_set (a ∷ scope) inner t u r s k)
  standing_set scope inner (Both a t) u r (in_both s) k = has_left _ _ r (standing_set_in scope inner a u r s k)
  standing_set scope inner (Both a t) u r (after_both s) k = has_right (registers_set_in a) _ r (standing_set (a ∷ scope) inner t u r s k)

  pub standing_set_in : (scope inner : List Act) (a : Act) (u : Term) (r : ℕ) → StandsIn scope a inner u → Has (registers_set u) r → Has (registers_set_in a) r
  standing_set_in scope inner (If q e t f w) u r (in_yes s) k = has_left _ _ r (standing_set scope inner t u r s k)
  standing_set_in scope inner (If q e t f w) u r (in_no s) k = has_right (registers_set t) _ r (standing_set scope inner f u r s k)
  standing_set_in scope inner (When q e t) u r (in_when s) k = standing_set scope inner t u r s k
  standing_set_in scope inner (Block q t) u r (in_block s) k = standing_set scope inner t u r s k
  standing_set_in scope inner (Cycle q n) u r s k = elim s [ ]
  standing_set_in scope inner (Set q n e) u r s k = elim s [ ]
  standing_set_in scope inner (Send q n e) u r s k = elim s [ ]
  standing_set_in scope inner (Recv q n) u r s k = elim s [ ]
  standing_set_in scope inner (Wait q y) u r s k = elim s [ ]
  standing_set_in scope inner (Pure q e) u r s k = elim s [ ]
  standing_set_in scope inner (Nothing q) u r s k = elim s [ ]

-- Threads that are apart.

pub none_of : (shared : ℕ → ℕ → Bool) (one other : List ℕ) (m n : ℕ) → IsTrue (none_shared shared one other) → Has one m → Has other n → IsTrue (not (shared m n))
none_of shared one other m n k i j = all_of (λ n. not (shared m n)) other n (all_of (λ m. list_all (λ n. not (shared m n)) other) one m k i) j

pub thread_of_all : (test : Thread → Bool) (threads : List Thread) (j : ℕ) (thread : Thread) → IsThread threads j thread → IsTrue (list_all test threads) → IsTrue (test thread)
thread_of_all test [] j thread i k = elim i [ ]
thread_of_all test (a ∷ rest) zero thread i k = subst (λ z. IsTrue (test z)) i (first_part _ _ k)
thread_of_all test (a ∷ rest) (suc j) thread i k = thread_of_all test rest j thread i (second_part (test a) _ k)

-- two threads are one, or they are apart, in their order
pub pair : (p : Process) (threads : List Thread) → IsTrue (each_apart p threads) → (i j : ℕ) (one other : Thread) → IsThread threads i one → IsThread threads j other → (i ≡ j) ⊎ (IsTrue (are_apart p one other) ⊎ IsTrue (are_apart p other one))
pair p [] k i j one other a b = elim a [ ]
pair p (first ∷ rest) k zero zero one other a b = inl refl
pair p (first ∷ rest) k zero (suc j) one other a b = inr (inl (subst (λ z. IsTrue (are_apart p z other)) a (thread_of_all (are_apart p first) rest j other b (first_part _ _ k))))
pair p (first ∷ rest) k (suc i) zero one other a b = inr (inr (subst (λ z. IsTrue (are_apart p z one)) b (thread_of_all (are_apart p first) rest i one a (first_part _ _ k))))
pair p (first ∷ rest) k (suc i) (suc j) one other a b =
    elim (pair p rest (second_part (list_all (are_apart p first) rest) _ k) i j one other a b) [
      | inl e ↦ inl (ap suc e)
      | inr l ↦ inr l
    ]

-- Lives.

pub nth_life : (p : Process) (n m : ℕ) (ports : List Port) → IsTrue (lives_fit p n ports) → (e : LifeEnd) → Has (nth_port ports m).life e → IsTrue (end_fits p (n + m) e)
nth_life p n m [] k e i = elim i [ ]
nth_life p n zero (port ∷ ports) k e i =
    subst (λ z. IsTrue (end_fits p z e)) (omega arith) (all_of (end_fits p n) port.life e (first_part _ _ (second_part _ _ (second_part _ _ (first_part (life_fits p n port.life) _ k)))) i)
nth_life p n (suc m) (port ∷ ports) k e i =
    subst (λ z. IsTrue (end_fits p z e)) (omega arith) (nth_life p (n + 1) m ports (second_part (life_fits p n port.life) _ k) e i)

pub end_lasts : (p : Process) (m k : ℕ) → IsTrue (end_fits p m (Cycles k)) → 0 < k
end_lasts p m k l = let decided : nat_le 1 k ≡ true = first_part (nat_le 1 k) _ l in grind (arith, nat_tests)

pub same_bytes : (xs ys : List ℕ) → IsTrue (bytes_eq xs ys) → xs ≡ ys
same_bytes xs ys k = (bytes_eq-Decides xs ys).0 k

bytes_same : (xs ys : List ℕ) → xs ≡ ys → IsTrue (bytes_eq xs ys)
bytes_same xs ys k = (bytes_eq-Decides xs ys).1 k

numbers_same : (m n : ℕ) → m ≡ n → IsTrue (m == n)
numbers_same m n k = grind (arith, nat_tests)

pub end_same : (p : Process) (m n : ℕ) → IsTrue (end_fits p m (Until n)) → endpoint_of p n ≡ endpoint_of p m
end_same p m n l = same_bytes (endpoint_of p n) (endpoint_of p m) (second_part (not (n == m)) _ (second_part (nat_lt n (length p.ports)) _ l))

contradicts : (b : Bool) → IsTrue b → IsTrue (not b) → ⊥
contradicts true k l = absurd cc
contradicts false k l = absurd cc

-- a thread of the process is that of a body
pub from_body : (widths : Widths) (bodies : List CoreTerm) (j : ℕ) (thread : Thread) → IsThread (map (thread_of widths) bodies) j thread → (body : CoreTerm) × Has bodies body × (thread_of widths body ≡ thread)
from_body widths [] j thread i = elim i [ ]
from_body widths (body ∷ rest) zero thread i = (body, inl refl, i)
from_body widths (body ∷ rest) (suc j) thread i = let by_from_body = from_body widths rest j thread i in (by_from_body.0, inr by_from_body.1, by_from_body.2)

module _ (name : List ℕ) (ports : List CorePort) (registers : List CoreReg) (threads : List CoreTerm) (sized : IsTrue (is_sized name ports registers threads)) (owned : IsTrue (is_owned name ports registers threads))
    (bodies : (body : CoreTerm) → Has threads body → IsBody body) where
  abbrev pub p : Process
  p = process_of name ports registers threads

  abbrev pub widths : Widths
  widths = widths_of p.ports p.registers

  rest : IsTrue (lives_fit p 0 p.ports && (nat_le (length p.threads) most_threads && list_all (λ thread. term_fits p widths thread.body) p.threads))
  rest =
      let fits : IsTrue (process_fits p) = first_part (process_fits p) _ sized in
      let after_name = second_part (is_good_name p.name) _ fits in
      let after_count = second_part (nat_le (length p.ports) most_ports) _ after_name in
      let after_ports = second_part (list_all port_fits p.ports) _ after_count in
      second_part (has_no_twice is_same_port p.ports) _ after_ports

  pub lives : IsTrue (lives_fit p 0 p.ports)
  lives = first_part (lives_fit p 0 p.ports) _ rest

  pub terms : IsTrue (list_all (λ thread. term_fits p widths thread.body) p.threads)
  terms = second_part (nat_le (length p.threads) most_threads) _ (second_part (lives_fit p 0 p.ports) _ rest)

  pub life_end : (m : ℕ) (e : LifeEnd) → Has (life_of p m) e → IsTrue (end_fits p m e)
  life_end m e i = subst (λ z. IsTrue (end_fits p z e)) (omega arith) (nth_life p 0 m p.ports lives e i)

  pub act_of_thread : (j : ℕ) (thread : Thread) (w : ℕ) (Asked : Act → Type 0) → IsThread p.threads j thread → HasAct thread.body w Asked → (inner : Widths) × (a : Act) × IsTrue (act_fits p inner a) × Asked a
  act_of_thread j thread w Asked i (scope, u, s, e, asked) =
      let by_standing_fits = standing_fits p [] scope widths thread.body u s (thread_of_all (λ thread. term_fits p widths thread.body) p.threads j thread i terms) in
      (by_standing_fits.0, head u, head_fits p by_standing_fits.0 u by_standing_fits.1, asked)

  pub named : (thread : Thread) (w m : ℕ) → HasAct thread.body w (λ a. OnPort a m) → Has (ports_named thread.body) m
  named thread w m (scope, u, s, e, k) = standing_named [] scope thread.body u m s (head_named u m k)

  pub set : (thread : Thread) (w r : ℕ) → HasAct thread.body w (λ a. Sets a r) → Has (registers_set thread.body) r
  set thread w r (scope, u, s, e, k) = standing_set [] scope thread.body u r s (head_set u r k)

  pub body_of : (j : ℕ) (thread : Thread) (Q : Thread → Type 0) → ((body : CoreTerm) → IsBody body → Q (thread_of widths body)) → IsThread p.threads j thread → Q thread
  body_of j thread Q k i = let by_from_body = from_body widths threads j thread i in subst Q by_from_body.2 (k by_from_body.0 (bodies by_from_body.0 by_from_body.1))

  pub is_process : IsProcess p
  is_process = record {
    numbered = λ j thread i. body_of j thread (λ t. Numbered [] 0 t.body) (λ body k. k.numbered widths) i;
    counted = λ j thread i. body_of j thread (λ t. t.count ≡ size t.body) (λ body k. refl) i;
    takes_time = λ j thread i. body_of j thread (λ t. IsTail t.body) (λ body k. k.tail widths) i;
    cycles = λ j thread i. body_of j thread (λ t. CyclesTakeTime t.body) (λ body k. k.cycles widths) i;
    lasts = λ m k i. end_lasts p m k (life_end m (Cycles k) i);
    same_endpoint = λ m n i. end_same p m n (life_end m (Until n) i);
    receives = λ j thread w m i k. let by_act_of_thread = act_of_thread j thread w (λ a. Receives a m) i k in receives_side p by_act_of_thread.0 by_act_of_thread.1 m by_act_of_thread.2 by_act_of_thread.3;
    sends = λ j thread w m i k. let next_by_act_of_thread = act_of_thread j thread w (λ a. Sends a m) i k in sends_side p next_by_act_of_thread.0 next_by_act_of_thread.1 m next_by_act_of_thread.2 next_by_act_of_thread.3;
    one_talker = one_talker;
    one_setter = one_setter;
  }
    where
      one_talker : (i j : ℕ) (thread other : Thread) (w w' m m' : ℕ) → IsThread p.threads i thread → IsThread p.threads j other → HasAct thread.body w (λ a. OnPort a m) → HasAct other.body w' (λ a. OnPort a m') → endpoint_of p m ≡ endpoint_of p m' → i ≡ j
      one_talker i j thread other w w' m m' a b k l e =
          elim (pair p p.threads owned i j thread other a b) [
            | inl z ↦ z
            | inr (inl z) ↦ absurd (contradicts _ (bytes_same _ _ e) (none_of _ (ports_named thread.body) (ports_named other.body) m m' (first_part _ _ z) (named thread w m k) (named other w' m' l)))
            | inr (inr z) ↦ absurd (contradicts _ (bytes_same _ _ (sym e)) (none_of _ (ports_named other.body) (ports_named thread.body) m' m (first_part _ _ z) (named other w' m' l) (named thread w m k)))
          ]

      one_setter : (i j : ℕ) (thread other : Thread) (w w' r : ℕ) → IsThread p.threads i thread → IsThread p.threads j other → HasAct thread.body w (λ a. Sets a r) → HasAct other.body w' (λ a. Sets a r) → i ≡ j
      one_setter i j thread other w w' r a b k l =
          elim (pair p p.threads owned i j thread other a b) [
            | inl z ↦ z
            | inr (inl z) ↦ absurd (contradicts _ (numbers_same r r refl) (none_of (λ r q. r == q) (registers_set thread.body) (registers_set other.body) r r (second_part _ _ z) (set thread w r k) (set other w' r l)))
            | inr (inr z) ↦ absurd (contradicts _ (numbers_same r r refl) (none_of (λ r q. r == q) (registers_set other.body) (registers_set thread.body) r r (second_part _ _ z) (set other w' r l) (set thread w r k)))
          ]
