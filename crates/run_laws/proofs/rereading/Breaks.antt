-- A promise of a received port breaks in a cycle in both runs or in neither, where all were kept before.
--
-- Whether a cycle is in a life is told by the exchanges before it, which agree, and what comes in is the same.
use Rattle.std.proofs.Common.{◌≡◌, ℕ, ◌<◌, ◌≤◌, arith, refl, sym, ◌∙◌, ap, List, [], ◌∷◌, Bool, true, false, nat_lt}
use Rattle.std.proofs.lemmas.Bool.Decides.{nat_tests}
use Rattle.core_term.specs.Inputs.{Inputs}
use Rattle.core_term.specs.Process.{LifeEnd, Cycles, Until, Process, life_of, is_received, IsProcess}
use Rattle.core_term.specs.Wires.{Wires, Exchange, WithinAll, IsKept}
use Rattle.core_term.specs.Outputs.{wires, data_wire}
use Rattle.core_term.specs.History.{IsHistory}
use Rattle.core_term.specs.Rules.{KeepsDemands}
use Rattle.core_term.specs.Reread.{Reread, IsReread}
use Rattle.core_term.specs.Agreement.{AgreesAt}
use Rattle.run_laws.proofs.rereading.Agreed.{agrees}

module _ (t : ℕ) (w w' : Wires) (there : (n c : ℕ) → c < t → Exchange w n c → Exchange w' n c) (back : (n c : ℕ) → c < t → Exchange w' n c → Exchange w n c) where
  within_same : (life : List LifeEnd) (s u : ℕ) → u ≤ t → WithinAll w' s u life → WithinAll w s u life
  within_same [] s u l k = tt
  within_same (Cycles n ∷ more) s u l k = (k.0, within_same more s u l k.1)
  within_same (Until n ∷ more) s u l k = ((λ c a b e. k.0 c a b (there n c (omega arith) e)), within_same more s u l k.1)

  pub kept_same : (life : List LifeEnd) (m : ℕ) → ((c : ℕ) → w'.data_at m c ≡ w.data_at m c) → IsKept w life m t → IsKept w' life m t
  kept_same life m same kept s u e l i = go (nat_lt s u) refl
    where
      go : (b : Bool) → nat_lt s u ≡ b → w'.data_at m u ≡ w'.data_at m s
      go true f =
          let is_less : s < u = grind (arith, nat_tests) in
          same u ∙ (kept s u (back m s (omega arith) e) l (i.0, within_same life s u l i.1) ∙ sym (same s))
      go false f = let at_most : u ≤ s = grind (arith, nat_tests) in let next_at_most : s ≤ u = i.0 in let equal : u ≡ s = omega arith in ap (w'.data_at m) equal

module _ (p : Process) (process : IsProcess p) (accepted : KeepsDemands p) (inputs : Inputs) (registers : ℕ → ℕ → ℕ) (history : IsHistory p inputs registers) (run : Reread) (again : IsReread p inputs run)
    (t : ℕ) (short : t < inputs.count) (earlier : (s : ℕ) → s < t → (m : ℕ) → is_received p m ≡ true → IsKept (wires p inputs registers) (life_of p m) m s) where
  alike : (s : ℕ) → s < t → AgreesAt p (wires p inputs registers) run.wires registers run.registers s
  alike s l = agrees p process accepted inputs registers history run again s (omega arith) (earlier s l)

  there : (n c : ℕ) → c < t → Exchange (wires p inputs registers) n c → Exchange run.wires n c
  there n c l e = (rw again.long e.0, sym ((alike c l).valid n) ∙ e.1, sym ((alike c l).ack n) ∙ e.2)

  back : (n c : ℕ) → c < t → Exchange run.wires n c → Exchange (wires p inputs registers) n c
  back n c l e = (let part = e.0 in rw again.long at part, (alike c l).valid n ∙ e.1, (alike c l).ack n ∙ e.2)

  data_same : (m : ℕ) → is_received p m ≡ true → (c : ℕ) → run.wires.data_at m c ≡ data_wire p inputs registers m c
  data_same m side c = let next_equal : data_wire p inputs registers m c ≡ inputs.data_at m c = rw side refl in again.data_in m c side ∙ sym next_equal

  pub breaks_alike : (m : ℕ) → is_received p m ≡ true → (IsKept (wires p inputs registers) (life_of p m) m t → IsKept run.wires (life_of p m) m t) × (IsKept run.wires (life_of p m) m t → IsKept (wires p inputs registers) (life_of p m) m t)
  breaks_alike m side = (
    kept_same t (wires p inputs registers) run.wires there back (life_of p m) m (data_same m side),
    kept_same t run.wires (wires p inputs registers) back there (life_of p m) m (λ c. sym (data_same m side c)),
  )
