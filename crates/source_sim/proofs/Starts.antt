-- What a new simulation keeps is what is asked of it, over plain variables.
use Rattle.std.proofs.Common.{◌≡◌, ℕ, ◌<◌, ◌≤◌, ◌∙◌, arith, refl, sym, subst, ap, List, [], ◌∷◌, ◌++◌, length, map, take, get_or, zero, suc, false, IsTrue}
use Rattle.std.proofs.lemmas.List.{take_all}
use Rattle.anvil_bits.specs.Number.{Number}
use Rattle.core_term.specs.declared.process.CorePort.{CorePort}
use Rattle.core_term.specs.declared.process.CoreReg.{CoreReg}
use Rattle.core_term.specs.declared.term.CoreTerm.{CoreTerm}
use Rattle.core_term.specs.Process.{IsProcess, nth_port}
use Rattle.core_term.specs.ProcessView.{port_of, process_of}
use Rattle.core_term.specs.Sized.{is_sized}
use Rattle.exchanges.specs.declared.latest.Latest.{Latest}
use Rattle.sim_laws.specs.Kept.{Kept, AllReady, SameBodies}
use Rattle.sim_laws.specs.Stands.{StandsAfter, latest_at}
use Rattle.sim_laws.specs.Typed.{AreRegisters}
use Rattle.sim_laws.specs.WidthsFound.{start_of, start_number, start_latest}
use Rattle.sim_laws.proofs.Counts.{map_count}
use Rattle.sim_laws.proofs.Started.{at_start, start_registers, start_latests, start_stands}

-- A loop that pushes what it makes of each item.

module _ {X Y : Type 0} (f : X → Y) where
  taken : (xs : List X) (i : ℕ) (x : X) → i < length xs → x ≡ get_or xs i x → map f (take (suc i) xs) ≡ map f (take i xs) ++ f x ∷ []
  taken [] i x l e = absurd (omega arith)
  taken (y ∷ xs) zero x l e = ap (λ z. f z ∷ []) (sym e)
  taken (y ∷ xs) (suc i) x l e = ap (λ rest. f y ∷ rest) (taken xs i x (omega arith) e)

  pub mapped_step : (xs : List X) (i later : ℕ) (x : X) (made made' : List Y) (v : Y) → later ≡ suc i → i < length xs → x ≡ get_or xs i x → v ≡ f x → made ≡ map f (take i xs) → made' ≡ made ++ v ∷ [] → made' ≡ map f (take later xs)
  mapped_step xs i later x made made' v e l item v_is before after =
      after ∙ (ap (λ ys. ys ++ v ∷ []) before ∙ (ap (λ y. map f (take i xs) ++ y ∷ []) v_is ∙ (sym (taken xs i x l item) ∙ ap (λ n. map f (take n xs)) (sym e))))

  pub mapped_done : (xs : List X) (i : ℕ) (made : List Y) → length xs ≤ i → made ≡ map f (take i xs) → made ≡ map f xs
  mapped_done xs i made l before = before ∙ ap (map f) (take_all i xs l)

-- a number that is read out of a list
pub number_read : (xs : List ℕ) (i : ℕ) → i < length xs → get_or xs i 0 ≡ get_or xs i (get_or xs i 0)
number_read [] i l = absurd (omega arith)
number_read (x ∷ xs) zero l = refl
number_read (x ∷ xs) (suc i) l = number_read xs i (omega arith)

-- what the calls of `new` have made
pub record Begun : Type 0 where
  pub name : List ℕ
  pub ports : List CorePort
  pub regs : List CoreReg
  pub bodies : List CoreTerm
  pub sized : IsTrue (is_sized name ports regs bodies)
  pub process : IsProcess (process_of name ports regs bodies)
  pub threads : List Kept
  pub registers : List Number
  pub latests : List Latest
  pub threads_are : threads ≡ map (start_of ports regs) bodies
  pub registers_are : registers ≡ map start_number regs
  pub latests_are : latests ≡ map start_latest ports

module _ (s : Begun) where
  pub ready_first : AllReady s.ports s.regs (length s.registers) s.bodies s.threads
  ready_first =
      let count : length s.registers ≡ length s.regs = ap (λ l. length l) s.registers_are ∙ map_count start_number s.regs in
      subst (λ n. AllReady s.ports s.regs n s.bodies s.threads) (sym count)
      (subst (AllReady s.ports s.regs (length s.regs) s.bodies) (sym s.threads_are) (at_start s.name s.ports s.regs s.bodies s.sized s.process).ready)

  pub bodies_first : SameBodies s.ports s.regs (process_of s.name s.ports s.regs s.bodies).threads s.bodies s.threads
  bodies_first =
      subst (SameBodies s.ports s.regs (process_of s.name s.ports s.regs s.bodies).threads s.bodies) (sym s.threads_are) (at_start s.name s.ports s.regs s.bodies s.sized s.process).same

  pub registers_first : AreRegisters s.regs s.registers
  registers_first = subst (AreRegisters s.regs) (sym s.registers_are) (start_registers s.name s.ports s.regs s.bodies s.sized s.process)

  pub latests_count_first : length s.latests ≡ length s.ports
  latests_count_first = ap (λ l. length l) s.latests_are ∙ map_count start_latest s.ports

  pub latests_wide_first : (m : ℕ) → m < length s.ports → (latest_at s.latests m).number.width ≡ (nth_port (map port_of s.ports) m).width
  latests_wide_first m within = ap (λ latests. (latest_at latests m).number.width) s.latests_are ∙ start_latests s.name s.ports s.regs s.bodies s.sized s.process m within

  pub stands_first : StandsAfter (process_of s.name s.ports s.regs s.bodies) [] (record { begun = false; threads = map (λ (kept : Kept). kept.acts) s.threads; registers = s.registers; latests = s.latests })
  stands_first = made s.threads s.registers s.latests s.threads_are s.registers_are s.latests_are
    where
      made : (threads : List Kept) (registers : List Number) (latests : List Latest) → threads ≡ map (start_of s.ports s.regs) s.bodies → registers ≡ map start_number s.regs → latests ≡ map start_latest s.ports
          → StandsAfter (process_of s.name s.ports s.regs s.bodies) [] (record { begun = false; threads = map (λ (kept : Kept). kept.acts) threads; registers = registers; latests = latests })
      made threads registers latests e f g = rw (e, f, g) (start_stands s.name s.ports s.regs s.bodies s.sized s.process)
