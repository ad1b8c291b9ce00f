-- Short words for the parts of a module, for modules that are written out.
use Rattle.std.specs.Prelude.{ℕ, Bool, List}
use Rattle.sv_tree.specs.declared.tree.SvPort.{SvPort}
use Rattle.sv_tree.specs.declared.tree.SvRegName.TheVariants.{Source, State}
use Rattle.sv_tree.specs.declared.tree.SvReg.{SvReg}
use Rattle.sv_tree.specs.declared.tree.SvRef.TheVariants.{Reg, Net}
use Rattle.sv_tree.specs.declared.tree.SvOperand.{SvOperand}
use Rattle.sv_tree.specs.declared.tree.SvOperand.TheVariants.{Ref, Lit}
use Rattle.sv_tree.specs.declared.tree.SvOp.{SvOp}
use Rattle.sv_tree.specs.declared.tree.SvNet.{SvNet}

abbrev pub literal : (width value : ℕ) → SvOperand
literal width value = Lit record { width = width; value = value }

abbrev pub register : (place : ℕ) → SvOperand
register place = Ref (Reg place)

abbrev pub net : (place : ℕ) → SvOperand
net place = Ref (Net place)

abbrev pub port : (endpoint message : List ℕ) → (received : Bool) → (width : ℕ) → SvPort
port endpoint message received width = record { endpoint = endpoint; message = message; received = received; width = width }

abbrev pub source : (name : List ℕ) → (width reset : ℕ) → SvReg
source name width reset = record { name = Source name; width = width; reset = record { width = width; value = reset } }

abbrev pub state : (number width : ℕ) → SvReg
state number width = record { name = State number; width = width; reset = record { width = width; value = 0 } }

abbrev pub wire : (width : ℕ) → SvOp → SvNet
wire width op = record { width = width; op = op }
