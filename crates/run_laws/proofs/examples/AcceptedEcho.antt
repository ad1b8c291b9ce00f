-- The echo process keeps every demand, so each of its runs is safe.
--
-- It is loop { let x = recv p.req >> send p.res(x) >> cycle 1 }, where req lives until res and res one cycle. This shows that
-- the premise of the law of safe runs can be met, and what the derivations of a small process look like. The hard case is the
-- send of the next turn, which has to come after the life of what this turn sent: the derivation goes down from it over the end
-- of this turn and past the cycle.
use Rattle.std.proofs.Common.{◌≡◌, ℕ, ◌⊎◌, inl, inr, arith, refl, sym, ◌∙◌, ap, subst, List, [], ◌∷◌, Bool, true, false, zero, suc}
use Rattle.std.proofs.lemmas.Int.{ints}
use Rattle.std.specs.Prelude.{pos}
use Rattle.order_rules.specs.Form.{Same, Sync}
use Rattle.order_rules.specs.Before.{by_same, by_sync, later}
use Rattle.core_term.specs.Stands.{here, Stands, in_then, in_one, after_then}
use Rattle.core_term.specs.Term.{Expr, Var, Term, One, Then, Act, Cycle, Send, Recv, site, head}
use Rattle.core_term.specs.Points.{Spot, TermBegin, TermEnd, Begin, End, forms}
use Rattle.core_term.specs.Numbering.{size, Numbered}
use Rattle.core_term.specs.Tail.{IsTail, CyclesTakeTime}
use Rattle.core_term.specs.Order.{IsFormed, HasForm, point, Precedes}
use Rattle.core_term.specs.Lives.{LastPrecedes}
use Rattle.core_term.specs.Sources.{expr_sources, sources_in, Source, WireOf, RegOf, ChoiceOf}
use Rattle.core_term.specs.Lists.{Has}
use Rattle.core_term.specs.Process.{LifeEnd, Cycles, Until, Thread, IsThread, IsProcess, life_of, is_received}
use Rattle.core_term.specs.Acts.{HasAct, Receives, Sends, OnPort, Sets, Reads, Uses}
use Rattle.core_term.specs.declared.rules.Rule.{Rule}
use Rattle.core_term.specs.Safe.{RunsSafely}
use Rattle.core_term.specs.Rules.{Claim, Holds, Demands, RestsOn, KeepsDemands, Meets, made, sets, receives, sends, sends_next, wire_within, wire_until, set_elsewhere, set_here, choice}
use Rattle.order_rules.specs.Last as last
use Rattle.order_rules.specs.Before as order
use Rattle.run_laws.proofs.examples.ExampleProcesses.{echo}
use Rattle.run_laws.proofs.safe_runs.SafeRun.{safe}

abbrev rest : Term
rest = One (Cycle 2 1)

abbrev sending : Term
sending = Then (Send 1 1 (Var 0)) rest

abbrev body : Term
body = Then (Recv 0 0) sending

data Place (vs : List Act) (u : Term) : Type 0 where
  at_first : vs ≡ [] → u ≡ body → Place vs u
  at_second : vs ≡ Recv 0 0 ∷ [] → u ≡ sending → Place vs u
  at_third : vs ≡ Send 1 1 (Var 0) ∷ Recv 0 0 ∷ [] → u ≡ rest → Place vs u

in_rest : {vs : List Act} {u : Term} → Stands (Send 1 1 (Var 0) ∷ Recv 0 0 ∷ []) rest vs u → Place vs u
in_rest here = at_third refl refl
in_rest (in_one s) = elim s [ ]

in_sending : {vs : List Act} {u : Term} → Stands (Recv 0 0 ∷ []) sending vs u → Place vs u
in_sending here = at_second refl refl
in_sending (in_then s) = elim s [ ]
in_sending (after_then s) = in_rest s

places : {vs : List Act} {u : Term} → Stands [] body vs u → Place vs u
places here = at_first refl refl
places (in_then s) = elim s [ ]
places (after_then s) = in_sending s

-- what each act of the text is
act_at : (P : Act → Type 0) (w : ℕ) → HasAct body w P → ((w ≡ 0) × P (Recv 0 0)) ⊎ (((w ≡ 1) × P (Send 1 1 (Var 0))) ⊎ ((w ≡ 2) × P (Cycle 2 1)))
act_at P w (vs, u, s, e, k) = go (places s)
  where
    at : (v : Term) → u ≡ v → (w ≡ site (head v)) × P (head v)
    at v q = (sym e ∙ ap (λ z. site (head z)) q, subst (λ z. P (head z)) q k)

    go : Place vs u → ((w ≡ 0) × P (Recv 0 0)) ⊎ (((w ≡ 1) × P (Send 1 1 (Var 0))) ⊎ ((w ≡ 2) × P (Cycle 2 1)))
    go (at_first a b) = inl (at body b)
    go (at_second a b) = inr (inl (at sending b))
    go (at_third a b) = inr (inr (at rest b))

no_set : (w r : ℕ) → HasAct body w (λ a. Sets a r) → ⊥
no_set w r k = elim (act_at (λ a. Sets a r) w k) [ inl i ↦ i.1 | inr i ↦ elim i [ inl j ↦ j.1 | inr j ↦ j.1 ] ]

a_recv : (w m : ℕ) → HasAct body w (λ a. Receives a m) → (w ≡ 0) × (m ≡ 0)
a_recv w m k = elim (act_at (λ a. Receives a m) w k) [ inl i ↦ (i.0, sym i.1) | inr i ↦ elim i [ inl j ↦ absurd j.1 | inr j ↦ absurd j.1 ] ]

a_send : (w m : ℕ) → HasAct body w (λ a. Sends a m) → (w ≡ 1) × (m ≡ 1)
a_send w m k = elim (act_at (λ a. Sends a m) w k) [ inl i ↦ absurd i.1 | inr i ↦ elim i [ inl j ↦ (j.0, sym j.1) | inr j ↦ absurd j.1 ] ]

on_port : (w m : ℕ) → HasAct body w (λ a. OnPort a m) → ((w ≡ 0) × (m ≡ 0)) ⊎ ((w ≡ 1) × (m ≡ 1))
on_port w m k = elim (act_at (λ a. OnPort a m) w k) [ inl i ↦ inl (i.0, sym i.1) | inr i ↦ elim i [ inl j ↦ inr (j.0, sym j.1) | inr j ↦ absurd j.1 ] ]

-- the only value in use is what was received
rests_on : (u : Term) (a : Source) → RestsOn body u a → (u ≡ sending) × (a ≡ WireOf 0)
rests_on u a r = go (places r.stands)
  where
    from_var : (e : Expr) → Var 0 ≡ e → Has (expr_sources 1 (sources_in (Recv 0 0 ∷ [])) e) a → a ≡ WireOf 0
    from_var e k h = let Statement : Expr → Type 0 = λ z. Has (expr_sources 1 (sources_in (Recv 0 0 ∷ [])) z) a in elim (subst Statement (sym k) h) [ inl i ↦ i | inr i ↦ absurd i ]

    at : (v : Term) → u ≡ v → (vs : List Act) → r.scope ≡ vs → Uses (head v) r.value × Has (expr_sources (site (head v)) (sources_in vs) r.value) a
    at v q vs w = let next_Statement : Term → Type 0 = λ z. Uses (head z) r.value in let last_Statement : Term → List Act → Type 0 = λ z ws. Has (expr_sources (site (head z)) (sources_in ws) r.value) a in (subst next_Statement q r.uses, subst (λ z. last_Statement z vs) q (subst (λ ws. last_Statement u ws) w r.has))

    go : Place r.scope u → (u ≡ sending) × (a ≡ WireOf 0)
    go (at_first b c) = absurd (at body c [] b).0
    go (at_third b c) = absurd (at rest c _ b).0
    go (at_second b c) = let by_at = at sending c (Recv 0 0 ∷ []) b in (c, from_var r.value by_at.0 by_at.1)

-- the forms of the text
same_form : (l : Bool) (b c : Spot) → IsFormed (forms body) b (Same c) → HasForm body (point l b) (Same (point l c))
same_form l b c k = inl (refl, k)

sync_form : (l : Bool) (b c : Spot) → IsFormed (forms body) b (Sync c) → HasForm body (point l b) (Sync (point l c))
sync_form l b c k = (refl, k)

-- the send's last cycle, + 1, is no later than the send of the next turn: down to the end of the body there, to the turn
-- before, past the cycle, to the end of the send
last_next : LastPrecedes body (Cycles 1 ∷ []) 1 (pos 1) (point true (Begin 1))
last_next =
    (last.later (same_form true (Begin 1) (TermBegin 1) (inr (inr (inr (inr (inl refl)))))) by_same
    (last.later (same_form true (TermBegin 1) (End 0) (inr (inl refl))) by_same
    (last.later (sync_form true (End 0) (Begin 0) (inr (inr (inr (inl refl))))) by_sync
    (last.later (same_form true (Begin 0) (TermBegin 0) (inl refl)) by_same
    (last.later {c = point false (TermEnd 0)} {f = Same (point false (TermEnd 0))} (inr (refl, refl, refl, refl)) by_same
    (last.later (same_form false (TermEnd 0) (TermEnd 1) (inr (inr (inl refl)))) by_same
    (last.later (same_form false (TermEnd 1) (TermEnd 2) (inr (inr (inr (inr (inr (inr (inl refl)))))))) by_same
    (last.later (same_form false (TermEnd 2) (End 2) (inr (inr (inr (inr (inr (inr (inr (inr (inr (inl refl))))))))))) by_same
    (last.after {c = point false (Begin 2)} {n = 1} (refl, (inr (inr (inr (inr (inr (inr (inr (inr (inr (inr (inl refl))))))))))))
    (last.later (same_form false (Begin 2) (TermBegin 2) (inr (inr (inr (inr (inr (inr (inr (inr (inl refl)))))))))) by_same
    (last.later (same_form false (TermBegin 2) (End 1) (inr (inr (inr (inr (inr (inl refl))))))) by_same
    (last.within 0 (inl refl) (order.here (omega (arith, ints)))))))))))))))

last_here : LastPrecedes body (Cycles 1 ∷ []) 1 (pos 0) (point false (End 1))
last_here = last.within 0 (inl refl) (order.here (omega (arith, ints)))

last_end : LastPrecedes body (Cycles 1 ∷ []) 1 (pos 0) (point true (End 1))
last_end = last.weaker (omega (arith, ints)) (last.later (sync_form true (End 1) (Begin 1) (inr (inr (inr (inr (inr (inr (inr (inl refl))))))))) by_sync last_next)

var_made : Precedes body (point false (End 0)) (pos 0) (point false (Begin 1))
var_made =
    later (same_form false (Begin 1) (TermBegin 1) (inr (inr (inr (inr (inl refl)))))) by_same
    (later (same_form false (TermBegin 1) (End 0) (inr (inl refl))) by_same (order.here (omega (arith, ints))))

-- what the ends of lives are
req_end : (m : ℕ) (e : LifeEnd) → m ≡ 0 → Has (life_of echo m) e → e ≡ Until 1
req_end m e k h = let Statement : ℕ → Type 0 = λ z. Has (life_of echo z) e in elim (subst Statement k h) [ inl i ↦ i | inr i ↦ absurd i ]

accepted_body : (rule : Rule) (q r : ℕ) (claim : Claim) → Demands echo 0 body rule q r claim → Holds echo body claim
accepted_body _ _ _ _ (made scope u y s k) = go (places s)
  where
    at : (v : Term) → u ≡ v → Reads (head v) y
    at v q = let next_Statement : Term → Type 0 = λ z. Reads (head z) y in subst next_Statement q k

    go : Place scope u → Precedes body (point false (End y)) (pos 0) (point false (Begin (site (head u))))
    go (at_first b c) = absurd (at body c)
    go (at_third b c) = absurd (at rest c)
    go (at_second b c) = let equal : y ≡ 0 = at sending c in rw (equal, c) var_made
accepted_body _ _ _ _ (sets q r reg a b l) = absurd (no_set q reg a)
accepted_body _ _ _ _ (receives q r m a b l) = let by_a_recv = a_recv q m a in let next_by_a_recv = a_recv r m b in absurd (omega (arith, by_a_recv.0, next_by_a_recv.0))
accepted_body _ _ _ _ (sends q r m a b l) = let by_a_send = a_send q m a in let next_by_a_send = a_send r m b in absurd (omega (arith, by_a_send.0, next_by_a_send.0))
accepted_body _ _ _ _ (sends_next q r m a b) = let last_by_a_send = a_send q m a in let other_by_a_send = a_send r m b in rw (last_by_a_send.0, last_by_a_send.1, other_by_a_send.0) last_next
accepted_body _ _ _ _ (wire_within u q m k s a e) = let by_req_end = req_end m (Cycles k) (a_recv q m a).1 e in absurd cc
accepted_body _ _ _ _ (wire_until u q m n w s a e b) =
    let last_by_a_recv = a_recv q m a in
    let by_rests_on = rests_on u (WireOf q) s in
    let next_by_req_end = req_end m (Until n) last_by_a_recv.1 e in
    let n_is : n ≡ 1 = cc in
    let w_is : w ≡ 1 = elim (on_port w n b) [ inl o ↦ absurd (omega (arith, o.1)) | inr o ↦ o.0 ] in
    rw (by_rests_on.0, last_by_a_recv.0, w_is) (inr (inr last_here, last_end))
accepted_body _ _ _ _ (set_elsewhere u q r i w other s is different set) = let next_by_rests_on = rests_on u (RegOf q r) s in absurd cc
accepted_body _ _ _ _ (set_here u q r w s set) = let last_by_rests_on = rests_on u (RegOf q r) s in absurd cc
accepted_body _ _ _ _ (choice u q s) = let other_by_rests_on = rests_on u (ChoiceOf q) s in absurd cc

thread_is : (j : ℕ) (thread : Thread) → IsThread echo.threads j thread → (j ≡ 0) × (record { body = body; count = 3 } ≡ thread)
thread_is zero thread k = (refl, k)
thread_is (suc j) thread k = elim k [ ]

on_thread : (P : ℕ → Thread → Type 0) → P 0 (record { body = body; count = 3 }) → (j : ℕ) (thread : Thread) → IsThread echo.threads j thread → P j thread
on_thread P k j thread is = let by_thread_is = thread_is j thread is in let the_p : P 0 thread = subst (λ t. P 0 t) by_thread_is.1 k in rw by_thread_is.0 the_p

pub is_accepted : KeepsDemands echo
is_accepted = on_thread (λ j thread. Meets echo j thread.body) accepted_body

life_is : (m : ℕ) (e : LifeEnd) → Has (life_of echo m) e → ((m ≡ 0) × (e ≡ Until 1)) ⊎ ((m ≡ 1) × (e ≡ Cycles 1))
life_is zero e (inl i) = inl (refl, i)
life_is zero e (inr i) = elim i [ ]
life_is (suc zero) e (inl i) = inr (refl, i)
life_is (suc zero) e (inr i) = elim i [ ]
life_is (suc (suc m)) e i = elim i [ ]

pub is_process : IsProcess echo
is_process = record {
  numbered = on_thread (λ j thread. Numbered [] 0 thread.body) (refl, ((refl, λ y k. inl k), refl));
  counted = on_thread (λ j thread. thread.count ≡ size thread.body) refl;
  takes_time = on_thread (λ j thread. IsTail thread.body) (omega arith);
  cycles = on_thread (λ j thread. CyclesTakeTime thread.body) (tt, (tt, omega arith));
  lasts = λ m k e. elim (life_is m (Cycles k) e) [ inl i ↦ let part = i.1 in absurd cc | inr i ↦ let next_part = i.1 in let k_is : k ≡ 1 = cc in omega arith ];
  same_endpoint = λ m n e. elim (life_is m (Until n) e) [ inl i ↦ let last_part = i.1 in let n_is : n ≡ 1 = cc in rw (i.0, n_is) refl | inr i ↦ let other_part = i.1 in absurd cc ];
  receives = λ j thread w m is a. on_thread (λ j thread. HasAct thread.body w (λ a. Receives a m) → is_received echo m ≡ true) (λ a. let by_a_recv = (a_recv w m a).1 in rw by_a_recv refl) j thread is a;
  sends = λ j thread w m is a. on_thread (λ j thread. HasAct thread.body w (λ a. Sends a m) → is_received echo m ≡ false) (λ a. let by_a_send = (a_send w m a).1 in rw by_a_send refl) j thread is a;
  one_talker = λ i j thread thread' w w' m m' is is' a b e. (thread_is i thread is).0 ∙ sym (thread_is j thread' is').0;
  one_setter = λ i j thread thread' w w' r is is' a b. (thread_is i thread is).0 ∙ sym (thread_is j thread' is').0;
}

-- the law of safe runs, used
pub runs_safely : RunsSafely echo
runs_safely inputs registers history = safe echo is_process is_accepted inputs registers
