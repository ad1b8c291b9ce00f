-- What a well-formed module gives of the net, next value or output that was read at a place.
use Rattle.std.proofs.Common.{◌≡◌, ℕ, ◌<◌, ◌≤◌, true, not, ◌&&◌, List, [], length, get_or, sym, ap, subst, arith, IsTrue}
use Rattle.std.proofs.lemmas.Bool.{and_parts, and_from}
use Rattle.std.proofs.lemmas.List.{length-map}
use Rattle.anvil_bits.specs.Number.{Number, widest}
use Rattle.core_term.specs.Rows.{number_of}
use Rattle.sv_tree.specs.declared.tree.SvPort.{SvPort}
use Rattle.sv_tree.specs.declared.tree.SvReg.{SvReg}
use Rattle.sv_tree.specs.declared.tree.SvRegName.TheVariants.{State}
use Rattle.sv_tree.specs.declared.tree.SvNet.{SvNet}
use Rattle.sv_tree.specs.declared.tree.SvOperand.{SvOperand}
use Rattle.sv_tree.specs.declared.tree.SvOut.{SvOut}
use Rattle.sv_tree.specs.declared.tree.SvOut.TheVariants.{Received, Sent}
use Rattle.sv_tree.specs.Module.{Module}
use Rattle.sv_tree.specs.WellFormed.{IsWellFormed, op_fits, operand_stands, gives, out_fits}
use Rattle.sv_tree.proofs.WellFormedPoints.{net_width_within, net_fits, next_fits, next_count, output_fits, output_count}
use Rattle.sv_meaning.specs.Cycle.{AreAllNets, out_stands}

no_register : SvReg
no_register = record { name = State 0; width = 1; reset = number_of 1 0 }

no_port : SvPort
no_port = record { endpoint = []; message = []; received = true; width = 1 }

module _ (tree : Module) (holds : IsWellFormed tree) where
  pub net_width_at :
      (nets : List SvNet) → nets ≡ tree.nets → (k : ℕ) (net : SvNet) → k < length nets → net ≡ get_or nets k net → net.width ≤ widest
  net_width_at nets is k net inside there =
      let within : k < length tree.nets = subst (λ list. k < length list) is inside in
      let read : net ≡ get_or tree.nets k net = subst (λ list. net ≡ get_or list k net) is there in
      subst (λ net. net.width ≤ widest) (sym read) (net_width_within tree holds k net within).1

  pub net_fits_at :
      (nets : List SvNet) → nets ≡ tree.nets
      → (known k : ℕ) (net : SvNet) → known ≡ k → k < length nets → net ≡ get_or nets k net → IsTrue (op_fits tree known net.width net.op)
  net_fits_at nets is known k net same inside there =
      let within : k < length tree.nets = subst (λ list. k < length list) is inside in
      let read : net ≡ get_or tree.nets k net = subst (λ list. net ≡ get_or list k net) is there in
      rw same (subst (λ net. IsTrue (op_fits tree k net.width net.op)) (sym read) (net_fits tree holds k net within))

  pub all_nets_count : (numbers : List Number) → AreAllNets tree numbers → length numbers ≡ length tree.nets
  all_nets_count numbers wide =
      let left = length-map numbers (λ number. number.width) in
      let right = length-map tree.nets (λ number. number.width) in
      let same = ap (λ list. length list) wide in
      omega (arith, left, right, same)

  pub next_stands_at :
      (nexts : List SvOperand) → nexts ≡ tree.nexts
      → (numbers : List Number) → AreAllNets tree numbers
      → (k : ℕ) (next : SvOperand) → k < length nexts → next ≡ get_or nexts k next → IsTrue (operand_stands tree (length numbers) next)
  next_stands_at nexts is numbers wide k next inside there =
      let count : length tree.nexts ≡ length tree.regs = next_count tree holds in
      let within : k < length tree.nexts = subst (λ list. k < length list) is inside in
      let fits = next_fits tree holds k no_register next (subst (λ count. k < count) count within) in
      let read : next ≡ get_or tree.nexts k next = subst (λ list. next ≡ get_or list k next) is there in
      let here = subst (λ operand. IsTrue (gives tree (get_or tree.regs k no_register).width operand)) (sym read) fits in
      rw (all_nets_count numbers wide) (and_parts _ _ here).0

  gives_stands : (width : ℕ) (x : SvOperand) → gives tree width x ≡ true → operand_stands tree (length tree.nets) x ≡ true
  gives_stands width x fits = (and_parts _ _ fits).0

  out_fits_stands : (port : SvPort) (out : SvOut) → out_fits tree port out ≡ true → out_stands tree out ≡ true
  out_fits_stands port (Received ack) fits = gives_stands 1 ack (and_parts port.received (gives tree 1 ack) fits).1
  out_fits_stands port (Sent value valid) fits =
      let parts = and_parts (not port.received && gives tree port.width value) (gives tree 1 valid) fits in
      let front = and_parts (not port.received) (gives tree port.width value) parts.0 in
      and_from (operand_stands tree (length tree.nets) value) (operand_stands tree (length tree.nets) valid)
      (gives_stands port.width value front.1)
      (gives_stands 1 valid parts.1)

  pub out_stands_at :
      (outs : List SvOut) → outs ≡ tree.outs → (k : ℕ) (out : SvOut) → k < length outs → out ≡ get_or outs k out → IsTrue (out_stands tree out)
  out_stands_at outs is k out inside there =
      let within : k < length tree.outs = subst (λ list. k < length list) is inside in
      let fits = output_fits tree holds k no_port out (subst (λ count. k < count) (output_count tree holds) within) in
      let read : out ≡ get_or tree.outs k out = subst (λ list. out ≡ get_or list k out) is there in
      subst (λ one_out. IsTrue (out_stands tree one_out)) (sym read) (out_fits_stands (get_or tree.ports k no_port) (get_or tree.outs k out) fits)
