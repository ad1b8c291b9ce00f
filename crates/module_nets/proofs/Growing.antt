-- One net more: what stood still stands, and the new net shows what its operator gives.
use Rattle.std.proofs.Common.{◌≡◌, ℕ, ◌+◌, ◌<◌, ◌≤◌, true, List, [], ◌∷◌, ◌++◌, length, map, refl, sym, ◌∙◌, ap, arith, append_assoc, append-nil}
use Rattle.std.specs.Prelude.{IsTrue, ◌==◌, nat_lt, slice_index}
use Rattle.std.specs.List.{list_all}
use Rattle.std.proofs.lemmas.Bool.{and_parts, and_from, eqb-true, ltb-true, lt-ltb, le-leb, eq-eqb}
use Rattle.std.proofs.lemmas.List.{length-append, length-map, map-append}
use Rattle.std.proofs.Math.Seq.{get_or-append_seam}
use Rattle.sv_tree.specs.declared.tree.SvPort.{SvPort}
use Rattle.sv_tree.specs.declared.tree.SvReg.{SvReg}
use Rattle.sv_tree.specs.declared.tree.SvRef.{SvRef}
use Rattle.sv_tree.specs.declared.tree.SvRef.TheVariants.{Data, Valid, Ack, Reg, Net}
use Rattle.sv_tree.specs.declared.tree.SvOperand.{SvOperand}
use Rattle.sv_tree.specs.declared.tree.SvOperand.TheVariants.{Ref, Lit}
use Rattle.sv_tree.specs.declared.tree.SvOp.{SvOp}
use Rattle.sv_tree.specs.declared.tree.SvOp.TheVariants.{Bin}
use Rattle.core_term.specs.declared.operators.BinOp.{BinOp}
use Rattle.core_term.specs.Operators.{operate}
use Rattle.sv_tree.specs.declared.tree.SvNet.{SvNet}
use Rattle.sv_tree.specs.Module.{Module}
use Rattle.sv_tree.specs.Limits.{too_many}
use Rattle.sv_tree.specs.WellFormed.{is_width, nets_fit, op_fits, ref_stands, operand_stands, operand_width, is_operand_of}
use Rattle.sv_tree.specs.Clocked.{registers_at}
use Rattle.module_nets.specs.declared.signal.Signal.{Signal}
use Rattle.module_nets.specs.Netlist.{netlist, Extends, Stands, Fits, IsNetlist}
use Rattle.module_nets.specs.Shifts.{shift_stays, shifts_stay}
use Rattle.module_nets.specs.Shown.{Moment, IsMomentOf, shown, operation_shown}
use Rattle.module_nets.proofs.Settled.{net_settles}

pub extends_self : (old : Module) → Extends old old
extends_self old = record { ports = refl; regs = refl; more = []; nets = sym (append-nil old.nets) }

pub extends_on : (old mid new : Module) → Extends old mid → Extends mid new → Extends old new
extends_on old mid new one two = record {
  ports = two.ports ∙ one.ports;
  regs = two.regs ∙ one.regs;
  more = one.more ++ two.more;
  nets = two.nets ∙ (ap (λ nets. nets ++ two.more) one.nets ∙ append_assoc old.nets one.more two.more);
}

pub longer : (old new : Module) → Extends old new → length old.nets ≤ length new.nets
longer old new e = let l = length-append old.nets e.more in let m = ap (λ nets. length nets) e.nets in omega (arith, l, m)

ref_later : (tree : Module) (k l : ℕ) (x : SvRef) → k ≤ l → ref_stands tree k x ≡ true → ref_stands tree l x ≡ true
ref_later tree k l (Data port) more stands = stands
ref_later tree k l (Valid port) more stands = stands
ref_later tree k l (Ack port) more stands = stands
ref_later tree k l (Reg register) more stands = stands
ref_later tree k l (Net net) more stands = let below = ltb-true net k stands in lt-ltb net l (omega arith)

pub operand_later : (tree : Module) (k l : ℕ) (x : SvOperand) → k ≤ l → operand_stands tree k x ≡ true → operand_stands tree l x ≡ true
operand_later tree k l (Ref x) more stands = ref_later tree k l x more stands
operand_later tree k l (Lit number) more stands = stands

pub stands_later : (old new : Module) (x : Signal) → Extends old new → Stands old x → Stands new x
stands_later old new x e stood = record {
  some = stood.some;
  few = stood.few;
  stands = λ tree more.
      let all = and_parts (operand_stands tree (length old.nets) x.operand) (operand_width tree x.operand == x.width) (stood.stands tree (extends_on old new tree e more)) in
      and_from (operand_stands tree (length new.nets) x.operand) (operand_width tree x.operand == x.width)
      (operand_later tree (length old.nets) (length new.nets) x.operand (longer old new e) all.0)
      all.1;
}

pub of_later : (old new : Module) (now : Moment) → Extends old new → IsMomentOf new now → IsMomentOf old now
of_later old new now e of = record {
  extends = extends_on old new now.tree e of.extends;
  well_formed = of.well_formed;
  fit = of.fit;
  within = of.within;
}

module _ (ports : List SvPort) (regs : List SvReg) (nets : List SvNet) (width : ℕ) (op : SvOp) where
  abbrev net : SvNet
  net = record { width = width; op = op }

  abbrev old : Module
  old = netlist ports regs nets

  abbrev new : Module
  new = netlist ports regs (nets ++ net ∷ [])

  abbrev made : Signal
  made = record { operand = Ref (Net (length nets)); width = width }

  pub added_extends : Extends old new
  added_extends = record { ports = refl; regs = refl; more = net ∷ []; nets = refl }

  -- the nets of a module that extends the new netlist
  split : (tree : Module) → (e : Extends new tree) → tree.nets ≡ nets ++ (net ∷ e.more)
  split tree e = e.nets ∙ append_assoc nets (net ∷ []) e.more

  added_is_operand : (tree : Module) → Extends new tree → IsTrue (is_operand_of tree (length new.nets) width made.operand)
  added_is_operand tree e =
      let count = length-append nets (net ∷ []) in
      let here : length nets < length (nets ++ net ∷ []) = omega (arith, count) in
      let widths : map (λ n. n.width) tree.nets ≡ map (λ n. n.width) nets ++ (width ∷ map (λ n. n.width) e.more) =
      ap (λ list. map (λ n. n.width) list) (split tree e) ∙ map-append (λ n. n.width) nets (net ∷ e.more) in
      let long : length (map (λ n. n.width) nets) ≡ length nets = length-map nets (λ n. n.width) in
      let at : slice_index (map (λ n. n.width) nets ++ (width ∷ map (λ n. n.width) e.more)) (length (map (λ n. n.width) nets)) ≡ width = get_or-append_seam (map (λ n. n.width) nets) width (map (λ n. n.width) e.more) 0 in
      let at_here : slice_index (map (λ n. n.width) nets ++ (width ∷ map (λ n. n.width) e.more)) (length nets) ≡ width = rw long at at in
      and_from (nat_lt (length nets) (length (nets ++ net ∷ []))) (slice_index (map (λ n. n.width) tree.nets) (length nets) == width)
      (lt-ltb (length nets) (length (nets ++ net ∷ [])) here)
      (eq-eqb (slice_index (map (λ n. n.width) tree.nets) (length nets)) width (ap (λ list. slice_index list (length nets)) widths ∙ at_here))

  pub added_stands : 1 ≤ width → width ≤ 64 → Stands new made
  added_stands some few = record { some = some; few = few; stands = added_is_operand }

  nets_fit_push : (tree : Module) (known : ℕ) (list : List SvNet) → nets_fit tree known list ≡ true → op_fits tree (known + length list) width op ≡ true
      → nets_fit tree known (list ++ net ∷ []) ≡ true
  nets_fit_push tree known [] fit fits = let same : known + 0 ≡ known = omega arith in and_from (op_fits tree known width op) true (rw same at fits) refl
  nets_fit_push tree known (first ∷ rest) fit fits =
      let parts = and_parts (op_fits tree known first.width first.op) (nets_fit tree (known + 1) rest) fit in
      let same : known + length (first ∷ rest) ≡ (known + 1) + length rest = omega arith in
      and_from (op_fits tree known first.width first.op) (nets_fit tree (known + 1) (rest ++ net ∷ [])) parts.0
      (nets_fit_push tree (known + 1) rest parts.1 (rw same at fits))

  all_push : (list : List SvNet) → list_all (λ n. is_width n.width) list ≡ true → is_width width ≡ true → list_all (λ n. is_width n.width) (list ++ net ∷ []) ≡ true
  all_push [] all one = and_from (is_width width) true one refl
  all_push (first ∷ rest) all one =
      let parts = and_parts (is_width first.width) (list_all (λ n. is_width n.width) rest) all in
      and_from (is_width first.width) (list_all (λ n. is_width n.width) (rest ++ net ∷ [])) parts.0 (all_push rest parts.1 one)

  stay_push : (list : List SvNet) → shifts_stay list ≡ true → shift_stays width op ≡ true → shifts_stay (list ++ net ∷ []) ≡ true
  stay_push [] all one = and_from (shift_stays width op) true one refl
  stay_push (first ∷ rest) all one =
      let parts = and_parts (shift_stays first.width first.op) (shifts_stay rest) all in
      and_from (shift_stays first.width first.op) (shifts_stay (rest ++ net ∷ [])) parts.0 (stay_push rest parts.1 one)

  pub added_is_netlist : IsNetlist old → Fits old width op → shift_stays width op ≡ true → 1 ≤ width → width ≤ 64 → length nets + 1 < too_many → IsNetlist new
  added_is_netlist is fits stays some few room = record {
    frame = is.frame;
    fit = λ tree e.
        let before = extends_on old new tree added_extends e in
        let same : 0 + length nets ≡ length nets = omega arith in
        nets_fit_push tree 0 nets (is.fit tree before) (rw same (fits tree before));
    widths = all_push nets is.widths (and_from _ _ (le-leb 1 width some) (le-leb width 64 few));
    few = let count = length-append nets (net ∷ []) in omega (arith, count, room);
    shifts = stay_push nets is.shifts stays;
  }

  pub added_shows : (now : Moment) → IsMomentOf new now → shown now made ≡ operation_shown now width op
  added_shows now of =
      net_settles now.tree now.inputs now.cycle (registers_at now.tree now.inputs now.cycle) nets net of.extends.more (split now.tree of.extends) of.well_formed

-- what stands in a netlist has its width in each module that extends it
pub width_there : (old tree : Module) (x : Signal) → Extends old tree → Stands old x → operand_width tree x.operand ≡ x.width
width_there old tree x e stood =
    eqb-true (operand_width tree x.operand) x.width
    (and_parts (operand_stands tree (length old.nets) x.operand) (operand_width tree x.operand == x.width) (stood.stands tree e)).1

-- so an operator of two operands gives what their widths in the netlist say
pub bin_shown : (old new : Module) (now : Moment) (op : BinOp) (width : ℕ) (x y : Signal) → Extends old new → Stands old y → IsMomentOf new now
    → operation_shown now width (Bin op x.operand y.operand) ≡ operate op width y.width (shown now x) (shown now y)
bin_shown old new now op width x y e stood of =
    let wide : operand_width now.tree y.operand ≡ y.width = width_there old now.tree y (extends_on old new now.tree e of.extends) stood in
    ap (λ low. operate op width low (shown now x) (shown now y)) wide
