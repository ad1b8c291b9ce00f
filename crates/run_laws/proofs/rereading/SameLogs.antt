-- Both runs have the same first broken promise, and the same log before it.
--
-- That a promise breaks alike in a cycle before which all were kept is proved in `Breaks`. From the promises of the re-reading
-- run those of the source run follow cycle by cycle. A line of the log is the same where the two runs agree up to its cycle:
-- what is printed of the data of a sent port is printed exactly where the port is offered or its latest exchange lives, and
-- there the data agree. The hard case is this test: it computes from all exchanges so far, which agree since all earlier
-- cycles do.
use Rattle.std.proofs.Common.{◌≡◌, ℕ, ◌+◌, ◌<◌, ◌≤◌, arith, refl, sym, ◌∙◌, ap, subst, List, [], ◌∷◌, ◌++◌, Bool, true, false, nat_lt, codes, zero, suc, Option, Some, None}
use Rattle.std.proofs.lemmas.Bool.Decides.{nat_tests}
use Rattle.core_term.specs.Inputs.{Inputs}
use Rattle.core_term.specs.Process.{LifeEnd, Port, Register, Process, nth_port, life_of, is_received, IsProcess}
use Rattle.core_term.specs.Wires.{Wires}
use Rattle.core_term.specs.Outputs.{wires, latest, data_wire}
use Rattle.core_term.specs.History.{IsHistory}
use Rattle.core_term.specs.Rules.{KeepsDemands}
use Rattle.core_term.specs.Reread.{Reread, IsReread}
use Rattle.core_term.specs.Agreement.{AgreesAt}
use Rattle.core_term.specs.Breach.{PromisesKept, IsFirstBreach}
use Rattle.core_term.specs.LogText.{exchanged, lives, is_shown, bit_text, data_text, port_text, port_texts, register_texts, log_line, log_text}
use Rattle.run_laws.specs.AgreementLaws.{SameLog}
use Rattle.run_laws.proofs.source_runs.SameRuns.{greatest_same}
use Rattle.run_laws.proofs.source_runs.SameWires.{alive_same}
use Rattle.run_laws.proofs.source_runs.Shown.{shown_is}
use Rattle.run_laws.proofs.rereading.Agreed.{agrees}
use Rattle.run_laws.proofs.rereading.Breaks.{breaks_alike}

-- the lines of two runs that agree up to cycle t
module _ (p : Process) (wires other : Wires) (registers registers' : ℕ → ℕ → ℕ) (count_same : wires.count ≡ other.count) (t : ℕ) (alike : (s : ℕ) → s ≤ t → AgreesAt p wires other registers registers' s)
    (received : (m : ℕ) → is_received p m ≡ true → wires.data_at m t ≡ other.data_at m t) where
  exchanged_same : (m s : ℕ) → s ≤ t → exchanged wires m s ≡ exchanged other m s
  exchanged_same m s l = rw (count_same, (alike s l).valid m, (alike s l).ack m) refl

  latest_same : (m : ℕ) → latest (exchanged wires m) t ≡ latest (exchanged other m) t
  latest_same m = greatest_same _ _ (t + 1) (λ u l. rw (exchanged_same m u (omega arith)) refl)

  lives_same : (life : List LifeEnd) (o : Option ℕ) → lives wires life t o ≡ lives other life t o
  lives_same life None = refl
  lives_same life (Some u) = alive_same (exchanged wires) (exchanged other) life u t (λ m c l. exchanged_same m c (omega arith))

  shown_same : (life : List LifeEnd) (m : ℕ) → is_shown wires life m t ≡ is_shown other life m t
  shown_same life m = rw ((alike t (omega arith)).valid m, latest_same m, lives_same life (latest (exchanged other m) t)) refl

  data_same : (m : ℕ) (side : Bool) → is_received p m ≡ side → (shown : Bool) → is_shown wires (life_of p m) m t ≡ shown → data_text side shown (wires.data_at m t) ≡ data_text side shown (other.data_at m t)
  data_same m true is shown k = ap (data_text true shown) (received m is)
  data_same m false is true k = ap (data_text false true) ((alike t (omega arith)).data_at m is (shown_is wires (life_of p m) m t k))
  data_same m false is false k = refl

  parts : (port : Port) (v v' : Bool) → v ≡ v' → (a a' : Bool) → a ≡ a' → {d d' : List ℕ} → d ≡ d'
      → port.endpoint ++ (codes "." ++ (port.message ++ (codes "=v" ++ (bit_text v ++ (codes "a" ++ (bit_text a ++ (codes "d" ++ d))))))) ≡ port.endpoint ++ (codes "." ++ (port.message ++ (codes "=v" ++ (bit_text v' ++ (codes "a" ++ (bit_text a' ++ (codes "d" ++ d')))))))
  parts port v v' k a a' l m = rw (k, l, m) refl

  port_same : (m : ℕ) (port : Port) → nth_port p.ports m ≡ port → port_text wires t m port ≡ port_text other t m port
  port_same m port e =
      let life : life_of p m ≡ port.life = ap (λ (q : Port). q.life) e in
      let side : is_received p m ≡ port.received = ap (λ (q : Port). q.received) e in
      let here : is_shown wires (life_of p m) m t ≡ is_shown wires port.life m t = ap (λ l. is_shown wires l m t) life in
      let numbers : data_text port.received (is_shown wires port.life m t) (wires.data_at m t) ≡ data_text port.received (is_shown wires port.life m t) (other.data_at m t) = data_same m port.received side (is_shown wires port.life m t) here in
      parts port (wires.valid m t) (other.valid m t) ((alike t (omega arith)).valid m) (wires.ack m t) (other.ack m t) ((alike t (omega arith)).ack m) (numbers ∙ ap (λ b. data_text port.received b (other.data_at m t)) (shown_same port.life m))

  ports_same : (ports : List Port) (m : ℕ) → ((k : ℕ) → nth_port p.ports (m + k) ≡ nth_port ports k) → port_texts wires t m ports ≡ port_texts other t m ports
  ports_same [] m k = refl
  ports_same (port ∷ ports) m k =
      let equal : m + 0 ≡ m = omega arith in
      let first : nth_port p.ports m ≡ port = ap (nth_port p.ports) (sym equal) ∙ k 0 in
      let rest = ports_same ports (m + 1) (λ n. let next_equal : m + 1 + n ≡ m + suc n = omega arith in ap (nth_port p.ports) next_equal ∙ k (suc n)) in
      rw (port_same m port first, rest) refl

  registers_same : (rest : List Register) (r : ℕ) → register_texts registers t r rest ≡ register_texts registers' t r rest
  registers_same [] r = refl
  registers_same (register ∷ rest) r = rw ((alike t (omega arith)).registers_agree r, registers_same rest (r + 1)) refl

  pub line_same : log_line p wires registers t ≡ log_line p other registers' t
  line_same = rw (ports_same p.ports 0 (λ k. let last_equal : 0 + k ≡ k = omega arith in ap (nth_port p.ports) last_equal), registers_same p.registers 0) refl

module _ (p : Process) (process : IsProcess p) (accepted : KeepsDemands p) (inputs : Inputs) (registers : ℕ → ℕ → ℕ) (history : IsHistory p inputs registers) (run : Reread) (again : IsReread p inputs run) where
  abbrev KeptTo : ℕ → Type 0
  KeptTo n = (t : ℕ) → t < n → PromisesKept p (wires p inputs registers) t

  -- of received ports both runs show what comes in
  comes_in : (m t : ℕ) → is_received p m ≡ true → data_wire p inputs registers m t ≡ run.wires.data_at m t
  comes_in m t side = let other_equal : data_wire p inputs registers m t ≡ inputs.data_at m t = rw side refl in other_equal ∙ sym (again.data_in m t side)

  lines_same : (t n : ℕ) → t + n ≤ inputs.count → KeptTo (t + n) → log_text p (wires p inputs registers) registers t n ≡ log_text p run.wires run.registers t n
  lines_same t zero l k = refl
  lines_same t (suc n) l k =
      let line = line_same p (wires p inputs registers) run.wires registers run.registers (sym again.long) t (λ s m. agrees p process accepted inputs registers history run again s (omega arith) (k s (omega arith))) (λ m side. comes_in m t side) in
      let rest = lines_same (t + 1) n (omega arith) (λ s m. k s (omega arith)) in
      rw (line, rest) refl

  -- promises that the re-reading run sees kept before n were kept in the source run
  kept_back : (n : ℕ) → n ≤ inputs.count → ((t : ℕ) → t < n → PromisesKept p run.wires t) → KeptTo n
  kept_back zero l k t m = absurd (omega arith)
  kept_back (suc n) l k t m = go (kept_back n (omega arith) (λ s i. k s (omega arith))) (nat_lt t n) refl
    where
      go : KeptTo n → (b : Bool) → nat_lt t n ≡ b → PromisesKept p (wires p inputs registers) t
      go before true e = let is_less : t < n = grind (arith, nat_tests) in before t is_less
      go before false e =
          let at_most : n ≤ t = grind (arith, nat_tests) in
          let equal : t ≡ n = omega arith in
          let Statement : ℕ → Type 0 = λ c. PromisesKept p (wires p inputs registers) c in
          subst Statement (sym equal) (λ port side. (breaks_alike p process accepted inputs registers history run again n (omega arith) before port side).1 (k n (omega arith) port side))

  breach_there : (cycle port : ℕ) → IsFirstBreach p (wires p inputs registers) cycle port → IsFirstBreach p run.wires cycle port
  breach_there cycle port b =
      let short : cycle < inputs.count = b.within in
      let alike = λ (t : ℕ) (l : t ≤ cycle) (m : ℕ) (side : is_received p m ≡ true). breaks_alike p process accepted inputs registers history run again t (omega arith) (λ s i. b.before s (omega arith)) m side in
      record {
        within = rw again.long short;
        before = λ t l m side. (alike t (omega arith) m side).0 (b.before t l m side);
        received = b.received;
        broken = λ k. b.broken ((alike cycle (omega arith) port b.received).1 k);
        first = λ m l side. (alike cycle (omega arith) m side).0 (b.first m l side);
      }

  breach_back : (cycle port : ℕ) → IsFirstBreach p run.wires cycle port → IsFirstBreach p (wires p inputs registers) cycle port
  breach_back cycle port b =
      let short : cycle < inputs.count = rw again.long at b.within in
      let before = kept_back cycle (omega arith) b.before in
      let alike = λ (m : ℕ) (side : is_received p m ≡ true). breaks_alike p process accepted inputs registers history run again cycle short before m side in
      record {
        within = short;
        before = before;
        received = b.received;
        broken = λ k. b.broken ((alike port b.received).0 k);
        first = λ m l side. (alike m side).1 (b.first m l side);
      }

  pub same_log : SameLog p (wires p inputs registers) run.wires registers run.registers
  same_log = record {
    breach = λ cycle port. (breach_there cycle port, breach_back cycle port);
    text = λ n l k. lines_same 0 n (omega (arith, l)) (λ t m. k t (omega arith));
  }
