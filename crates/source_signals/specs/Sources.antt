-- The signals that threads read, by the numbers of registers and ports.
use Rattle.std.specs.Prelude.{ℕ, ◌≡◌, ◌≤◌, suc, if◌then◌else◌, List, [], ◌∷◌, slice_get, Some}
use Rattle.core_term.specs.declared.process.CorePort.{CorePort}
use Rattle.core_term.specs.declared.process.CoreReg.{CoreReg}
use Rattle.sv_tree.specs.declared.tree.SvOperand.TheVariants.{Ref, Lit}
use Rattle.sv_tree.specs.declared.tree.SvRef.TheVariants.{Data, Valid, Ack, Reg}
use Rattle.module_nets.specs.declared.signal.Signal.{Signal}

-- what a register shows
abbrev pub register_signal : (place : ℕ) → CoreReg → Signal
register_signal place register = record { operand = Ref (Reg place); width = register.width }

-- the data of a received port; a sent port has 0
abbrev pub word_signal : (place : ℕ) → CorePort → Signal
word_signal place port = record {
  operand = if port.received then Ref (Data place) else Lit (record { width = port.width; value = 0 });
  width = port.width;
}

-- the wire that ends an act on a port
abbrev pub wire_signal : (place : ℕ) → CorePort → Signal
wire_signal place port =
    record { operand = if port.received then Ref (Valid place) else Ref (Ack place); width = 1 }

-- of each item of a list, whose numbers go on from one on
abbrev pub numbered : {A : Type 0} → (ℕ → A → Signal) → (first : ℕ) → List A → List Signal
numbered signal first [] = []
numbered signal first (item ∷ rest) = signal first item ∷ numbered signal (suc first) rest

abbrev pub RegistersAre : List CoreReg → List Signal → Type 0
RegistersAre registers signals = signals ≡ numbered register_signal 0 registers

abbrev pub WordsAre : List CorePort → List Signal → Type 0
WordsAre ports signals = signals ≡ numbered word_signal 0 ports

abbrev pub WiresAre : List CorePort → List Signal → Type 0
WiresAre ports signals = signals ≡ numbered wire_signal 0 ports

-- ports of 1 to 64 bits
abbrev pub AreWide : List CorePort → Type 0
AreWide ports = (place : ℕ) (port : CorePort) → slice_get ports place ≡ Some port → (1 ≤ port.width) × (port.width ≤ 64)
