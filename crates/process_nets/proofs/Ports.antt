-- What ports are given, one after the other.
use Rattle.std.proofs.Common.{◌≡◌, ℕ, zero, suc, ◌+◌, ◌<◌, ◌≤◌, ◌⊎◌, inl, inr, List, [], ◌∷◌, ◌++◌, length, Some, refl, sym, ◌∙◌, ap, subst, arith}
use Rattle.std.specs.Prelude.{slice_get}
use Rattle.std.proofs.lemmas.Bool.{cases_lt}
use Rattle.core_term.specs.declared.process.CorePort.{CorePort}
use Rattle.sv_tree.specs.declared.tree.SvOut.{SvOut}
use Rattle.sv_tree.specs.declared.tree.SvOut.TheVariants.{Received, Sent}
use Rattle.sv_tree.specs.Module.{Module}
use Rattle.module_nets.specs.declared.signal.Signal.{Signal}
use Rattle.module_nets.specs.Netlist.{Extends, Stands}
use Rattle.module_nets.specs.Bits.{IsBit}
use Rattle.module_nets.proofs.Growing.{of_later, stands_later}
use Rattle.module_nets.proofs.BitsTold.{bit_later}
use Rattle.machine_parts.specs.declared.thread.ThreadDraft.{ThreadDraft}
use Rattle.machine_parts.specs.Modules.{OutDrawn}
use Rattle.process_nets.specs.Acts.{DataStand, EachDraft}
use Rattle.process_nets.specs.Outs.{OutFits, PortDrawn, PortsDrawn, PortStands}
use Rattle.process_nets.proofs.Steps.{data_later, offers_later}

-- a signal by its operand, with the width that it has
pub as_bit : (tree : Module) (signal : Signal) → IsBit tree signal → IsBit tree record { operand = signal.operand; width = 1 }
as_bit tree signal is = subst (λ w. IsBit tree record { operand = signal.operand; width = w }) is.one_bit is

pub as_wide : (tree : Module) (signal : Signal) (width : ℕ) → Stands tree signal → signal.width ≡ width → Stands tree record { operand = signal.operand; width = width }
as_wide tree signal width stands is = subst (λ w. Stands tree record { operand = signal.operand; width = w }) is stands

pub read_last : (outs : List SvOut) (one : SvOut) (k : ℕ) → length outs ≡ k → slice_get (outs ++ one ∷ []) k ≡ Some one
read_last [] one zero count = refl
read_last [] one (suc k) count = absurd (omega (arith, count))
read_last (first ∷ rest) one zero count = absurd (omega (arith, count))
read_last (first ∷ rest) one (suc k) count = read_last rest one k (omega (arith, count))

pub read_before : (outs : List SvOut) (one : SvOut) (k : ℕ) → k < length outs → slice_get (outs ++ one ∷ []) k ≡ slice_get outs k
read_before [] one k within = absurd (omega (arith, within))
read_before (first ∷ rest) one zero within = refl
read_before (first ∷ rest) one (suc k) within = read_before rest one k (omega (arith, within))

module _ (old new : Module) (e : Extends old new) (drafts : List ThreadDraft) where
  pub sends_later : (port width : ℕ) → EachDraft (DataStand old port width) drafts → EachDraft (DataStand new port width) drafts
  sends_later port width stand thread draft is = data_later old new port width draft e (stand thread draft is)

  pub port_stands_later : (port : ℕ) (is : CorePort) → PortStands old drafts port is → PortStands new drafts port is
  port_stands_later port is stand = record {
    some = stand.some;
    few = stand.few;
    offers = λ thread draft get. offers_later old new draft e (stand.offers thread draft get);
    sends = sends_later port is.width stand.sends;
  }

  fits_later : (is : CorePort) (out : SvOut) → OutFits old is out → OutFits new is out
  fits_later is (Received ack) fits = (fits.0, bit_later old new record { operand = ack; width = 1 } e fits.1)
  fits_later is (Sent value valid) fits =
      (fits.0, stands_later old new record { operand = value; width = is.width } e fits.1, bit_later old new record { operand = valid; width = 1 } e fits.2)

  pub out_later : (port : ℕ) (is : CorePort) (out : SvOut) → OutDrawn old drafts port is out → OutDrawn new drafts port is out
  out_later port is (Received ack) drawn = (drawn.0, λ now of. drawn.1 now (of_later old new now e of))
  out_later port is (Sent value valid) drawn = (drawn.0, λ now of. drawn.1 now (of_later old new now e of), λ now of. drawn.2 now (of_later old new now e of))

  port_later : (port : ℕ) (is : CorePort) (out : SvOut) → PortDrawn old drafts port is out → PortDrawn new drafts port is out
  port_later port is out drawn = record { fits = fits_later is out drawn.fits; drawn = out_later port is out drawn.drawn }

  pub ports_push : (ports : List CorePort) (outs : List SvOut) (k : ℕ) (here : CorePort) (one : SvOut) → length outs ≡ k → slice_get ports k ≡ Some here
      → PortsDrawn old drafts ports outs k → PortDrawn new drafts k here one → PortsDrawn new drafts ports (outs ++ one ∷ []) (k + 1)
  ports_push ports outs k here one count get drawn last port is within found = at (cases_lt port k)
    where
      at : (port < k) ⊎ (k ≤ port) → (out : SvOut) × (slice_get (outs ++ one ∷ []) port ≡ Some out) × PortDrawn new drafts port is out
      at (inl less) =
          let before = drawn port is less found in
          (before.0, read_before outs one port (omega (arith, less, count)) ∙ before.1, port_later port is before.0 before.2)
      at (inr past) =
          let same : port ≡ k = omega (arith, past, within) in
          let mine : here ≡ is = same_port here is get (ap (λ i. slice_get ports i) (sym same) ∙ found) in
          (one, ap (λ i. slice_get (outs ++ one ∷ []) i) same ∙ read_last outs one k count, subst (λ i. PortDrawn new drafts i is one) (sym same) (subst (λ p. PortDrawn new drafts k p one) mine last))
        where
          same_port : (first second : CorePort) → slice_get ports k ≡ Some first → slice_get ports k ≡ Some second → first ≡ second
          same_port first second one other = cc
