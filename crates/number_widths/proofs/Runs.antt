-- The numbers of a re-reading run, cycle by cycle.
--
-- Where the registers fit in a cycle, so does what each act reads again. That they fit in the next is shown by contradiction:
-- if a register did not, no act could have set it, since the one of the greatest site would have written a number that fits;
-- and where none has set it, it is what it was. The data of a sent port likewise, with the act that began last.
use Rattle.std.proofs.Common.{◌≡◌, ℕ, ◌+◌, ◌^◌, ◌<◌, ◌≤◌, ◌⊎◌, inl, inr, Bool, true, false, not, nat_lt, IsTrue, List, [], ◌∷◌, length, map, refl, sym, ◌∙◌, subst, arith, zero, suc}
use Rattle.std.specs.Prelude.{slice_index_or}
use Rattle.std.proofs.lemmas.Bool.{cases_lt, and_parts}
use Rattle.std.proofs.lemmas.Bool.Decides.{nat_tests}
use Rattle.std.proofs.lemmas.Nat.{pow_pos}
use Rattle.core_term.specs.declared.term.CoreTerm.{CoreTerm}
use Rattle.core_term.specs.declared.process.CorePort.{CorePort}
use Rattle.core_term.specs.declared.process.CoreReg.{CoreReg}
use Rattle.core_term.specs.Lists.{Has}
use Rattle.core_term.specs.Inputs.{Inputs}
use Rattle.core_term.specs.Term as term
use Rattle.core_term.specs.Term.{Expr, Term, Act, head}
use Rattle.core_term.specs.Numbering.{size, Numbered}
use Rattle.core_term.specs.Stands.{Stands}
use Rattle.core_term.specs.Acts.{Sends, Sets, Uses, Asks}
use Rattle.core_term.specs.Process.{Process, Thread, IsThread, nth_port, nth_register, is_received, resets_of}
use Rattle.core_term.specs.Widths.{Widths}
use Rattle.core_term.specs.Body.{IsBody}
use Rattle.core_term.specs.ProcessView.{register_of, widths_of, thread_of, process_of}
use Rattle.core_term.specs.Sized.{is_sized, is_owned, expr_fits, term_fits, act_fits}
use Rattle.core_term.specs.Fitting.{InputsFit}
use Rattle.core_term.specs.Again.{now_in}
use Rattle.core_term.specs.Reread.{Reread, IsReread, Begins, sight, deciding, again_at}
use Rattle.core_term.proofs.code_tables.Fits as fits
use Rattle.core_term.proofs.code_tables.Fits.{from_body, thread_of_all}
use Rattle.run_laws.proofs.rereading.Decide.{within}
use Rattle.run_laws.proofs.turn_points.TurnRules.{obeys_rules}
use Rattle.number_widths.specs.NumbersFit.{ResetsFit, NumbersFit}
use Rattle.number_widths.proofs.Again.{Fits, Standing, standing}

-- What the widths of an act ask of its expression.

sets_fit : (p : Process) (widths : Widths) (a : Act) (r : ℕ) (e : Expr) → Sets a r → Uses a e → IsTrue (act_fits p widths a) → IsTrue (expr_fits p widths (nth_register p.registers r).width e)
sets_fit p widths (term.Set s q f) r e sets uses fit =
    let z : IsTrue (expr_fits p widths (nth_register p.registers q).width f) = (and_parts (nat_lt q (length p.registers)) _ fit).1 in
    let y = subst (λ q. IsTrue (expr_fits p widths (nth_register p.registers q).width f)) sets z in
    subst (λ f. IsTrue (expr_fits p widths (nth_register p.registers r).width f)) uses y
sets_fit p widths (term.Cycle s n) r e sets uses fit = elim sets [ ]
sets_fit p widths (term.Send s m f) r e sets uses fit = elim sets [ ]
sets_fit p widths (term.Recv s m) r e sets uses fit = elim sets [ ]
sets_fit p widths (term.If s f t u w) r e sets uses fit = elim sets [ ]
sets_fit p widths (term.When s f t) r e sets uses fit = elim sets [ ]
sets_fit p widths (term.Block s t) r e sets uses fit = elim sets [ ]
sets_fit p widths (term.Wait s y) r e sets uses fit = elim sets [ ]
sets_fit p widths (term.Pure s f) r e sets uses fit = elim sets [ ]
sets_fit p widths (term.Nothing s) r e sets uses fit = elim sets [ ]

sends_fit : (p : Process) (widths : Widths) (a : Act) (m : ℕ) (e : Expr) → Sends a m → Uses a e → IsTrue (act_fits p widths a) → IsTrue (expr_fits p widths (nth_port p.ports m).width e)
sends_fit p widths (term.Send s q f) m e sends uses fit =
    let z : IsTrue (expr_fits p widths (nth_port p.ports q).width f) = (and_parts (not (is_received p q)) _ (and_parts (nat_lt q (length p.ports)) _ fit).1).1 in
    let y = subst (λ q. IsTrue (expr_fits p widths (nth_port p.ports q).width f)) sends z in
    subst (λ f. IsTrue (expr_fits p widths (nth_port p.ports m).width f)) uses y
sends_fit p widths (term.Set s r f) m e sends uses fit = elim sends [ ]
sends_fit p widths (term.Cycle s n) m e sends uses fit = elim sends [ ]
sends_fit p widths (term.Recv s q) m e sends uses fit = elim sends [ ]
sends_fit p widths (term.If s f t u w) m e sends uses fit = elim sends [ ]
sends_fit p widths (term.When s f t) m e sends uses fit = elim sends [ ]
sends_fit p widths (term.Block s t) m e sends uses fit = elim sends [ ]
sends_fit p widths (term.Wait s y) m e sends uses fit = elim sends [ ]
sends_fit p widths (term.Pure s f) m e sends uses fit = elim sends [ ]
sends_fit p widths (term.Nothing s) m e sends uses fit = elim sends [ ]

asks_fit : (p : Process) (widths : Widths) (a : Act) (e : Expr) → Asks a e → IsTrue (act_fits p widths a) → Uses a e × IsTrue (expr_fits p widths 1 e)
asks_fit p widths (term.If s f t u w) e asks fit = (asks, subst (λ f. IsTrue (expr_fits p widths 1 f)) asks (and_parts (expr_fits p widths 1 f) _ fit).0)
asks_fit p widths (term.When s f t) e asks fit = (asks, subst (λ f. IsTrue (expr_fits p widths 1 f)) asks (and_parts (expr_fits p widths 1 f) _ fit).0)
asks_fit p widths (term.Set s r f) e asks fit = elim asks [ ]
asks_fit p widths (term.Cycle s n) e asks fit = elim asks [ ]
asks_fit p widths (term.Send s m f) e asks fit = elim asks [ ]
asks_fit p widths (term.Recv s m) e asks fit = elim asks [ ]
asks_fit p widths (term.Block s t) e asks fit = elim asks [ ]
asks_fit p widths (term.Wait s y) e asks fit = elim asks [ ]
asks_fit p widths (term.Pure s f) e asks fit = elim asks [ ]
asks_fit p widths (term.Nothing s) e asks fit = elim asks [ ]

set_uses : (a : Act) (r : ℕ) → Sets a r → (e : Expr) × Uses a e
set_uses (term.Set s q f) r sets = (f, refl)
set_uses (term.Cycle s n) r sets = elim sets [ ]
set_uses (term.Send s m f) r sets = elim sets [ ]
set_uses (term.Recv s m) r sets = elim sets [ ]
set_uses (term.If s f t u w) r sets = elim sets [ ]
set_uses (term.When s f t) r sets = elim sets [ ]
set_uses (term.Block s t) r sets = elim sets [ ]
set_uses (term.Wait s y) r sets = elim sets [ ]
set_uses (term.Pure s f) r sets = elim sets [ ]
set_uses (term.Nothing s) r sets = elim sets [ ]

send_uses : (a : Act) (m : ℕ) → Sends a m → (e : Expr) × Uses a e
send_uses (term.Send s q f) m sends = (f, refl)
send_uses (term.Set s r f) m sends = elim sends [ ]
send_uses (term.Cycle s n) m sends = elim sends [ ]
send_uses (term.Recv s q) m sends = elim sends [ ]
send_uses (term.If s f t u w) m sends = elim sends [ ]
send_uses (term.When s f t) m sends = elim sends [ ]
send_uses (term.Block s t) m sends = elim sends [ ]
send_uses (term.Wait s y) m sends = elim sends [ ]
send_uses (term.Pure s f) m sends = elim sends [ ]
send_uses (term.Nothing s) m sends = elim sends [ ]

reset_below : (registers : List CoreReg) → ResetsFit registers → (r : ℕ) → slice_index_or (resets_of (map register_of registers)) r 0 < 2 ^ (nth_register (map register_of registers) r).width
reset_below [] fit r = pow_pos 0
reset_below (reg ∷ registers) fit zero = fit reg (inl refl)
reset_below (reg ∷ registers) fit (suc r) = reset_below registers (λ other has. fit other (inr has)) r

-- what is not false holds
by_contradiction : (n w : ℕ) → ((n < 2 ^ w → ⊥) → ⊥) → n < 2 ^ w
by_contradiction n w not_not = go (nat_lt n (2 ^ w)) refl
  where
    go : (b : Bool) → nat_lt n (2 ^ w) ≡ b → n < 2 ^ w
    go true is = grind (arith, nat_tests)
    go false is = absurd (not_not (λ below. let z : nat_lt n (2 ^ w) ≡ true = grind (arith, nat_tests) in let y : true ≡ false = sym z ∙ is in cc))

module _ (name : List ℕ) (ports : List CorePort) (registers : List CoreReg) (threads : List CoreTerm) (sized : IsTrue (is_sized name ports registers threads)) (owned : IsTrue (is_owned name ports registers threads))
    (bodies : (body : CoreTerm) → Has threads body → IsBody body) (resets_fit : ResetsFit registers)
    (inputs : Inputs) (inputs_fit : InputsFit (process_of name ports registers threads) inputs) (run : Reread) (reread : IsReread (process_of name ports registers threads) inputs run) where
  abbrev p : Process
  p = process_of name ports registers threads

  abbrev widths : Widths
  widths = widths_of p.ports p.registers

  abbrev RegistersFit : ℕ → Type 0
  RegistersFit t = (r : ℕ) → run.registers t r < 2 ^ (nth_register p.registers r).width

  seen : (t j : ℕ) → t < inputs.count → RegistersFit t → Fits p widths (sight inputs run.registers (run.side j) t) (now_in (sight inputs run.registers (run.side j) t) [])
  seen t j short fit = record { registers = fit; wires = λ m received. inputs_fit m t short received; variables = λ y. pow_pos 0 }

  stood : (t j : ℕ) (thread : Thread) → t < inputs.count → RegistersFit t → IsThread p.threads j thread → (scope : List Act) (u : Term) → Stands [] thread.body scope u
      → Standing p (sight inputs run.registers (run.side j) t) scope u
  stood t j thread short fit is scope u stands =
      let body = from_body widths threads j thread is in
      let typed : IsTrue (term_fits p widths thread.body) =
      thread_of_all (λ thread. term_fits p widths thread.body) p.threads j thread is (fits.terms name ports registers threads sized owned bodies) in
      let P : Thread → Type 0 = λ thread. IsTrue (term_fits p widths thread.body) → Stands [] thread.body scope u → Standing p (sight inputs run.registers (run.side j) t) scope u in
      let whole : P (thread_of widths body.0) = λ typed stands. standing p (sight inputs run.registers (run.side j) t) widths [] scope body.0 u (record { of_registers = λ r. refl; of_ports = λ m. refl }) (seen t j short fit) typed stands in
      subst P body.2 whole typed stands

  set_below : (t j : ℕ) (thread : Thread) → t < inputs.count → RegistersFit t → IsThread p.threads j thread → (scope : List Act) (u : Term) → Stands [] thread.body scope u
      → (r : ℕ) (e : Expr) → Sets (head u) r → Uses (head u) e → again_at inputs run j t scope e < 2 ^ (nth_register p.registers r).width
  set_below t j thread short fit is scope u stands r e sets uses =
      let z = stood t j thread short fit is scope u stands in z.below (nth_register p.registers r).width e uses (sets_fit p z.widths (head u) r e sets uses z.fit)

  send_below : (t j : ℕ) (thread : Thread) → t < inputs.count → RegistersFit t → IsThread p.threads j thread → (scope : List Act) (u : Term) → Stands [] thread.body scope u
      → (m : ℕ) (e : Expr) → Sends (head u) m → Uses (head u) e → again_at inputs run j t scope e < 2 ^ (nth_port p.ports m).width
  send_below t j thread short fit is scope u stands m e sends uses =
      let z = stood t j thread short fit is scope u stands in z.below (nth_port p.ports m).width e uses (sends_fit p z.widths (head u) m e sends uses z.fit)

  numbered : (j : ℕ) (thread : Thread) → IsThread p.threads j thread → Numbered [] 0 thread.body
  numbered j thread is = (fits.is_process name ports registers threads sized owned bodies).numbered j thread is

  inside : (j : ℕ) (thread : Thread) → IsThread p.threads j thread → (turn site : ℕ) (b : Begins inputs run j thread.body turn site) → site < size thread.body
  inside j thread is turn site b = within inputs thread.body (numbered j thread is) (deciding run.registers (run.decision j)) turn site b.scope b.begin b.term b.runs

  place : (j : ℕ) (thread : Thread) → IsThread p.threads j thread → (turn site : ℕ) (b : Begins inputs run j thread.body turn site) → (scope : List Act) × Stands [] thread.body scope b.term
  place j thread is turn site b =
      let z = (obeys_rules inputs (deciding run.registers (run.decision j)) thread.body (numbered j thread is) turn).stands site b.scope b.begin b.term b.runs in (z.0, z.1)

  -- no act sets a register in a cycle after which it does not fit
  no_set : (t r : ℕ) → t < inputs.count → RegistersFit t → (run.registers (t + 1) r < 2 ^ (nth_register p.registers r).width → ⊥)
      → (fuel j : ℕ) (thread : Thread) → IsThread p.threads j thread → (turn site : ℕ) (b : Begins inputs run j thread.body turn site) → size thread.body ≤ site + fuel
      → Sets (head b.term) r → b.begin ≡ t → ⊥
  no_set t r short fit wrong zero j thread is turn site b all sets now = let l = inside j thread is turn site b in omega (arith, l, all)
  no_set t r short fit wrong (suc fuel) j thread is turn site b all sets now =
      let here = place j thread is turn site b in
      let used = set_uses (head b.term) r sets in
      let written = reread.written j thread is turn site b here.0 here.1 r used.0 sets used.1 (λ turn' site' a sets' same. go site' (cases_lt site site') (λ later. no_set t r short fit wrong fuel j thread is turn' site' a (omega (arith, later, all)) sets' (same ∙ now))) in
      let below = set_below t j thread short fit is here.0 b.term here.1 r used.0 sets used.1 in
      let P : ℕ → Type 0 = λ c. run.registers (c + 1) r ≡ again_at inputs run j c here.0 used.0 in
      let value : run.registers (t + 1) r ≡ again_at inputs run j t here.0 used.0 = subst P now written in
      wrong (subst (λ n. n < 2 ^ (nth_register p.registers r).width) (sym value) below)
    where
      go : (site' : ℕ) → (site < site') ⊎ (site' ≤ site) → (site < site' → ⊥) → site' ≤ site
      go site' (inl later) none = absurd (none later)
      go site' (inr before) none = before

  pub registers_below : (t : ℕ) → t ≤ inputs.count → RegistersFit t
  registers_below zero short r = subst (λ n. n < 2 ^ (nth_register p.registers r).width) (sym (reread.reset r)) (reset_below registers resets_fit r)
  registers_below (suc t) short r = next (registers_below t (omega arith))
    where
      one_later : RegistersFit t → run.registers (t + 1) r < 2 ^ (nth_register p.registers r).width
      one_later fit =
          by_contradiction (run.registers (t + 1) r) (nth_register p.registers r).width
          (λ wrong.
          let same = reread.unwritten t r (omega arith) (λ j thread is turn site b sets now. no_set t r (omega arith) fit wrong (size thread.body) j thread is turn site b (omega arith) sets now) in
          wrong (subst (λ n. n < 2 ^ (nth_register p.registers r).width) (sym same) (fit r)))

      next : RegistersFit t → run.registers (suc t) r < 2 ^ (nth_register p.registers r).width
      next fit = let one_on : t + 1 ≡ suc t = omega arith in subst (λ c. run.registers c r < 2 ^ (nth_register p.registers r).width) one_on (one_later fit)

  -- no act on a port has begun by a cycle in which its data do not fit
  abbrev NoneBegan : (t m outer : ℕ) → Type 0
  NoneBegan t m outer = (j : ℕ) (thread : Thread) → IsThread p.threads j thread → (turn site : ℕ) (b : Begins inputs run j thread.body turn site) → t < b.begin + outer → Sends (head b.term) m → b.begin ≤ t → ⊥

  none_of_site : (t m outer : ℕ) → t < inputs.count → RegistersFit t → (run.wires.data_at m t < 2 ^ (nth_port p.ports m).width → ⊥) → NoneBegan t m outer
      → (inner j : ℕ) (thread : Thread) → IsThread p.threads j thread → (turn site : ℕ) (b : Begins inputs run j thread.body turn site) → site < inner → t < b.begin + suc outer → Sends (head b.term) m → b.begin ≤ t → ⊥
  none_of_site t m outer short fit wrong later zero j thread is turn site b l soon sends by = omega (arith, l)
  none_of_site t m outer short fit wrong later (suc inner) j thread is turn site b l soon sends by =
      let here = place j thread is turn site b in
      let used = send_uses (head b.term) m sends in
      let value = reread.data_out m t short j thread is turn site b here.0 here.1 used.0 sends used.1 by
      (λ turn' site' a sends' by'. go site' a.begin (cases_lt a.begin b.begin) (cases_lt b.begin a.begin) (cases_lt site' site)
      (λ after. later j thread is turn' site' a (omega (arith, after, soon)) sends' by')
      (λ same before. none_of_site t m outer short fit wrong later inner j thread is turn' site' a (omega (arith, before, l)) (omega (arith, same, soon)) sends' by')) in
      let below = send_below t j thread short fit is here.0 b.term here.1 m used.0 sends used.1 in
      wrong (subst (λ n. n < 2 ^ (nth_port p.ports m).width) (sym value) below)
    where
      go : (site' begin : ℕ) → (begin < b.begin) ⊎ (b.begin ≤ begin) → (b.begin < begin) ⊎ (begin ≤ b.begin) → (site' < site) ⊎ (site ≤ site')
          → (b.begin < begin → ⊥) → (begin ≡ b.begin → site' < site → ⊥) → (begin < b.begin) ⊎ ((begin ≡ b.begin) × (site ≤ site'))
      go site' begin (inl before) second third none other = inl before
      go site' begin (inr first) (inl after) third none other = absurd (none after)
      go site' begin (inr first) (inr second) (inl left) none other = absurd (other (omega (arith, first, second)) left)
      go site' begin (inr first) (inr second) (inr right) none other = inr (omega (arith, first, second), right)

  none_began : (t m : ℕ) → t < inputs.count → RegistersFit t → (run.wires.data_at m t < 2 ^ (nth_port p.ports m).width → ⊥) → (outer : ℕ) → NoneBegan t m outer
  none_began t m short fit wrong zero j thread is turn site b soon sends by = omega (arith, soon, by)
  none_began t m short fit wrong (suc outer) j thread is turn site b soon sends by =
      none_of_site t m outer short fit wrong (none_began t m short fit wrong outer) (suc site) j thread is turn site b (omega arith) soon sends by

  pub numbers_fit : NumbersFit p inputs run
  numbers_fit = record {
    registers = λ t r short. registers_below t short r;
    sets = λ t j thread short is scope u stands r e sets uses. set_below t j thread short (registers_below t (omega arith)) is scope u stands r e sets uses;
    sends = λ t j thread short is scope u stands m e sends uses. send_below t j thread short (registers_below t (omega arith)) is scope u stands m e sends uses;
    conditions = λ t j thread short is scope u stands e asks.
        let z = stood t j thread short (registers_below t (omega arith)) is scope u stands in
        let y = asks_fit p z.widths (head u) e asks z.fit in
        z.below 1 e y.0 y.1;
    data_at = λ t m short sent.
        by_contradiction (run.wires.data_at m t) (nth_port p.ports m).width
        (λ wrong.
        let none = reread.no_data m t short sent (λ j thread is turn site b sends by. none_began t m short (registers_below t (omega arith)) wrong (suc t) j thread is turn site b (omega arith) sends by) in
        wrong (subst (λ n. n < 2 ^ (nth_port p.ports m).width) (sym none) (pow_pos (nth_port p.ports m).width)));
  }
