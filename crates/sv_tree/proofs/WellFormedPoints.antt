-- What a well-formed module gives, point by point and place by place.
--
-- `is_well_formed` is one test that computes. Here it is taken apart into its points and put together from them, and each
-- point over a list is read at a place: the width of a port, register or net, the operator of a net with the number of
-- nets before it, the output of a port, the reset and the next value of a register. The arguments are inductions over the
-- lists.
use Rattle.std.proofs.Common.{◌≡◌, ℕ, zero, suc, ◌+◌, ◌<◌, ◌≤◌, true, not, List, [], ◌∷◌, length, get_or, refl, arith}
use Rattle.std.specs.Prelude.{IsTrue, nat_le, slice_get}
use Rattle.std.specs.List.{list_all}
use Rattle.std.proofs.lemmas.Bool.{and_parts, and_from, leb-true, ltb-true, false≢true}
use Rattle.std.proofs.lemmas.List.Sums.{AllPass-from_list_all}
use Rattle.anvil_bits.specs.Number.{widest}
use Rattle.sv_tree.specs.declared.tree.SvPort.{SvPort}
use Rattle.sv_tree.specs.declared.tree.SvReg.{SvReg}
use Rattle.sv_tree.specs.declared.tree.SvNet.{SvNet}
use Rattle.sv_tree.specs.declared.tree.SvOut.{SvOut}
use Rattle.sv_tree.specs.declared.tree.SvOperand.{SvOperand}
use Rattle.sv_tree.specs.declared.tree.SvRef.TheVariants.{Reg, Net}
use Rattle.sv_tree.specs.Limits.{too_many}
use Rattle.sv_tree.specs.Module.{Module}
use Rattle.sv_tree.specs.WellFormed.{is_well_formed, IsWellFormed, names_are_good, names_differ, sources_then_states, register_names}
use Rattle.sv_tree.specs.WellFormed.{widths_are_within, is_width, nets_fit, op_fits, outs_fit, out_fits, reset_fits, nexts_fit, gives}
use Rattle.sv_tree.specs.WellFormed.{are_few, is_received, is_sent, ref_stands}

-- the points of the test
pub record WellFormedPoints (tree : Module) : Type 0 where
  pub names : IsTrue (names_are_good tree)
  pub differ : IsTrue (names_differ tree)
  pub order : IsTrue (sources_then_states (register_names tree))
  pub widths : IsTrue (widths_are_within tree)
  pub nets : IsTrue (nets_fit tree 0 tree.nets)
  pub outs : IsTrue (outs_fit tree tree.ports tree.outs)
  pub resets : IsTrue (list_all reset_fits tree.regs)
  pub nexts : IsTrue (nexts_fit tree tree.regs tree.nexts)
  pub few : IsTrue (are_few tree)

pub points_of : (tree : Module) → IsWellFormed tree → WellFormedPoints tree
unfolding is_well_formed
points_of tree holds =
    let eight = and_parts _ _ holds in
    let seven = and_parts _ _ eight.0 in
    let six = and_parts _ _ seven.0 in
    let five = and_parts _ _ six.0 in
    let four = and_parts _ _ five.0 in
    let three = and_parts _ _ four.0 in
    let two = and_parts _ _ three.0 in
    let one = and_parts _ _ two.0 in
    record {
      names = one.0;
      differ = one.1;
      order = two.1;
      widths = three.1;
      nets = four.1;
      outs = five.1;
      resets = six.1;
      nexts = seven.1;
      few = eight.1;
    }

pub well_formed_from_points : (tree : Module) → WellFormedPoints tree → IsWellFormed tree
unfolding is_well_formed
well_formed_from_points tree points =
    let two = and_from _ _ points.names points.differ in
    let three = and_from _ _ two points.order in
    let four = and_from _ _ three points.widths in
    let five = and_from _ _ four points.nets in
    let six = and_from _ _ five points.outs in
    let seven = and_from _ _ six points.resets in
    let eight = and_from _ _ seven points.nexts in
    and_from _ _ eight points.few

-- How many ports, registers and nets there are.

pub counts_within :
    (tree : Module) → IsWellFormed tree
    → (length tree.ports < too_many) × (length tree.regs < too_many) × (length tree.nets < too_many)
counts_within tree holds =
    let few = and_parts _ _ (points_of tree holds).few in
    let front = and_parts _ _ few.0 in
    (ltb-true _ _ front.0, ltb-true _ _ front.1, ltb-true _ _ few.1)

-- Widths.

abbrev pub IsWithin : (width : ℕ) → Type 0
IsWithin width = (1 ≤ width) × (width ≤ widest)

pub width_within : (width : ℕ) → is_width width ≡ true → IsWithin width
width_within width holds =
    let bounds = and_parts (nat_le 1 width) (nat_le width widest) holds in
    (leb-true _ _ bounds.0, leb-true _ _ bounds.1)

pub port_width_within : (tree : Module) → IsWellFormed tree → (k : ℕ) (d : SvPort) → k < length tree.ports → IsWithin (get_or tree.ports k d).width
port_width_within tree holds k d inside =
    let front = and_parts _ _ (and_parts _ _ (points_of tree holds).widths).0 in
    width_within _ (AllPass-from_list_all (λ p. is_width p.width) tree.ports front.0 k d inside)

pub register_width_within : (tree : Module) → IsWellFormed tree → (k : ℕ) (d : SvReg) → k < length tree.regs → IsWithin (get_or tree.regs k d).width
register_width_within tree holds k d inside =
    let front = and_parts _ _ (and_parts _ _ (points_of tree holds).widths).0 in
    width_within _ (AllPass-from_list_all (λ r. is_width r.width) tree.regs front.1 k d inside)

pub net_width_within : (tree : Module) → IsWellFormed tree → (k : ℕ) (d : SvNet) → k < length tree.nets → IsWithin (get_or tree.nets k d).width
net_width_within tree holds k d inside =
    width_within _ (AllPass-from_list_all (λ n. is_width n.width) tree.nets (and_parts _ _ (points_of tree holds).widths).1 k d inside)

-- Nets: the operator of the net at a place goes with the nets before it.

-- the net at a place, after `known` earlier ones
abbrev pub NetFits : Module → (known : ℕ) → SvNet → Type 0
NetFits tree known net = op_fits tree known net.width net.op ≡ true

nets_fit_at :
    (tree : Module) (known : ℕ) (nets : List SvNet) → nets_fit tree known nets ≡ true
    → (k : ℕ) (d : SvNet) → k < length nets → NetFits tree (known + k) (get_or nets k d)
nets_fit_at tree known [] fits k d inside = absurd (omega (arith, inside))
nets_fit_at tree known (net ∷ rest) fits zero d inside =
    let same : known + 0 ≡ known = omega arith in
    rw same (and_parts _ _ fits).0
nets_fit_at tree known (net ∷ rest) fits (suc k) d inside =
    let shorter : k < length rest = omega (arith, inside) in
    let same : known + suc k ≡ (known + 1) + k = omega arith in
    rw same (nets_fit_at tree (known + 1) rest (and_parts _ _ fits).1 k d shorter)

pub net_fits : (tree : Module) → IsWellFormed tree → (k : ℕ) (d : SvNet) → k < length tree.nets → NetFits tree k (get_or tree.nets k d)
net_fits tree holds k d inside =
    let same : 0 + k ≡ k = omega arith in
    rw same at (nets_fit_at tree 0 tree.nets (points_of tree holds).nets k d inside)

-- Outputs: as many as ports, each of its port's direction and widths.

outs_fit_length : (tree : Module) (ports : List SvPort) (outs : List SvOut) → outs_fit tree ports outs ≡ true → length outs ≡ length ports
outs_fit_length tree [] [] fits = refl
outs_fit_length tree [] (out ∷ outs) fits = absurd (false≢true fits)
outs_fit_length tree (port ∷ ports) [] fits = absurd (false≢true fits)
outs_fit_length tree (port ∷ ports) (out ∷ outs) fits =
    let rest : length outs ≡ length ports =
    outs_fit_length tree ports outs (and_parts (out_fits tree port out) (outs_fit tree ports outs) fits).1 in
    omega (arith, rest)

pub output_count : (tree : Module) → IsWellFormed tree → length tree.outs ≡ length tree.ports
output_count tree holds = outs_fit_length tree tree.ports tree.outs (points_of tree holds).outs

outs_fit_at :
    (tree : Module) (ports : List SvPort) (outs : List SvOut) → outs_fit tree ports outs ≡ true
    → (k : ℕ) (p : SvPort) (o : SvOut) → k < length ports → out_fits tree (get_or ports k p) (get_or outs k o) ≡ true
outs_fit_at tree [] outs fits k p o inside = absurd (omega (arith, inside))
outs_fit_at tree (port ∷ ports) [] fits k p o inside = absurd (false≢true fits)
outs_fit_at tree (port ∷ ports) (out ∷ outs) fits zero p o inside = (and_parts _ _ fits).0
outs_fit_at tree (port ∷ ports) (out ∷ outs) fits (suc k) p o inside =
    let shorter : k < length ports = omega (arith, inside) in
    outs_fit_at tree ports outs (and_parts _ _ fits).1 k p o shorter

pub output_fits :
    (tree : Module) → IsWellFormed tree
    → (k : ℕ) (p : SvPort) (o : SvOut) → k < length tree.ports → out_fits tree (get_or tree.ports k p) (get_or tree.outs k o) ≡ true
output_fits tree holds k p o inside = outs_fit_at tree tree.ports tree.outs (points_of tree holds).outs k p o inside

-- Registers: each with a reset of its width, and as many next values, each of its register's width.

pub register_reset_fits : (tree : Module) → IsWellFormed tree → (k : ℕ) (d : SvReg) → k < length tree.regs → reset_fits (get_or tree.regs k d) ≡ true
register_reset_fits tree holds k d inside = AllPass-from_list_all reset_fits tree.regs (points_of tree holds).resets k d inside

nexts_fit_length : (tree : Module) (regs : List SvReg) (nexts : List SvOperand) → nexts_fit tree regs nexts ≡ true → length nexts ≡ length regs
nexts_fit_length tree [] [] fits = refl
nexts_fit_length tree [] (next ∷ nexts) fits = absurd (false≢true fits)
nexts_fit_length tree (r ∷ regs) [] fits = absurd (false≢true fits)
nexts_fit_length tree (r ∷ regs) (next ∷ nexts) fits =
    let rest : length nexts ≡ length regs =
    nexts_fit_length tree regs nexts (and_parts (gives tree r.width next) (nexts_fit tree regs nexts) fits).1 in
    omega (arith, rest)

pub next_count : (tree : Module) → IsWellFormed tree → length tree.nexts ≡ length tree.regs
next_count tree holds = nexts_fit_length tree tree.regs tree.nexts (points_of tree holds).nexts

nexts_fit_at :
    (tree : Module) (regs : List SvReg) (nexts : List SvOperand) → nexts_fit tree regs nexts ≡ true
    → (k : ℕ) (r : SvReg) (x : SvOperand) → k < length regs → gives tree (get_or regs k r).width (get_or nexts k x) ≡ true
nexts_fit_at tree [] nexts fits k r x inside = absurd (omega (arith, inside))
nexts_fit_at tree (reg ∷ regs) [] fits k r x inside = absurd (false≢true fits)
nexts_fit_at tree (reg ∷ regs) (next ∷ nexts) fits zero r x inside = (and_parts _ _ fits).0
nexts_fit_at tree (reg ∷ regs) (next ∷ nexts) fits (suc k) r x inside =
    let shorter : k < length regs = omega (arith, inside) in
    nexts_fit_at tree regs nexts (and_parts _ _ fits).1 k r x shorter

pub next_fits :
    (tree : Module) → IsWellFormed tree
    → (k : ℕ) (r : SvReg) (x : SvOperand) → k < length tree.regs → gives tree (get_or tree.regs k r).width (get_or tree.nexts k x) ≡ true
next_fits tree holds k r x inside = nexts_fit_at tree tree.regs tree.nexts (points_of tree holds).nexts k r x inside

-- Operands: a wire is that of a port which is there, of the right direction; a register stands before the end of the list.

pub received_port_within : (ports : List SvPort) (k : ℕ) → is_received (slice_get ports k) ≡ true → k < length ports
received_port_within [] k holds = absurd (false≢true holds)
received_port_within (port ∷ ports) zero holds = omega arith
received_port_within (port ∷ ports) (suc k) holds =
    let rest : k < length ports = received_port_within ports k holds in
    omega (arith, rest)

pub received_port_is_received :
    (ports : List SvPort) (k : ℕ) → is_received (slice_get ports k) ≡ true
    → (d : SvPort) → (get_or ports k d).received ≡ true
received_port_is_received [] k holds d = absurd (false≢true holds)
received_port_is_received (port ∷ ports) zero holds d = holds
received_port_is_received (port ∷ ports) (suc k) holds d = received_port_is_received ports k holds d

pub sent_port_within : (ports : List SvPort) (k : ℕ) → is_sent (slice_get ports k) ≡ true → k < length ports
sent_port_within [] k holds = absurd (false≢true holds)
sent_port_within (port ∷ ports) zero holds = omega arith
sent_port_within (port ∷ ports) (suc k) holds =
    let rest : k < length ports = sent_port_within ports k holds in
    omega (arith, rest)

pub sent_port_is_sent : (ports : List SvPort) (k : ℕ) → is_sent (slice_get ports k) ≡ true → (d : SvPort) → not (get_or ports k d).received ≡ true
sent_port_is_sent [] k holds d = absurd (false≢true holds)
sent_port_is_sent (port ∷ ports) zero holds d = holds
sent_port_is_sent (port ∷ ports) (suc k) holds d = sent_port_is_sent ports k holds d

pub register_within : (tree : Module) (known k : ℕ) → ref_stands tree known (Reg k) ≡ true → k < length tree.regs
register_within tree known k holds = ltb-true k (length tree.regs) holds

pub net_within : (tree : Module) (known k : ℕ) → ref_stands tree known (Net k) ≡ true → k < known
net_within tree known k holds = ltb-true k known holds
