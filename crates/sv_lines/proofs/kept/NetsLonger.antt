-- A net more: the nets before it fit as before, and it fits since what it reads stands before it and the widths go together.
use Rattle.std.proofs.Common.{◌≡◌, ℕ, zero, suc, ◌+◌, ◌<◌, true, ◌&&◌, List, [], ◌∷◌, ◌++◌, length, map, Some, refl, ap, subst, ◌∙◌, arith}
use Rattle.std.proofs.lemmas.Bool.{and_parts}
use Rattle.std.specs.Prelude.{◌==◌, nat_lt, slice_index, codes}
use Rattle.sv_tree.specs.declared.tree.SvNet.{SvNet}
use Rattle.sv_tree.specs.declared.tree.SvOp.{SvOp}
use Rattle.sv_tree.specs.Limits.{too_many}
use Rattle.sv_tree.specs.Module.{Module}
use Rattle.sv_tree.specs.WellFormed.{is_width, nets_fit, op_fits}
use Rattle.sv_lines.specs.Pieces.{after, number_at}
use Rattle.sv_lines.specs.Operands.{op_of, widths_fit}
use Rattle.sv_lines.specs.State.{item_wanted, with_net}
use Rattle.sv_lines.specs.Step.{Reached, onward, has_room, assign_step}
use Rattle.sv_lines.proofs.read.Decided.{passes, then_read}
use Rattle.sv_lines.proofs.read.OpsRead.{op_read, op_is_fit}
use Rattle.sv_lines.proofs.kept.Longer.{all_longer, length_longer}
use Rattle.sv_lines.proofs.kept.KeptDrafts.{NetsKept, first_outs_fit, first_nexts_fit, Drafted, NetBegun, KeptReached}
use Rattle.sv_lines.proofs.kept.Standing.{Seen, op_seen, nets_seen}

-- the widths of the nets before it
earlier_width : (nets : List SvNet) (new : SvNet) (net : ℕ) → net < length nets
    → slice_index (map (λ (n : SvNet). n.width) nets) net ≡ slice_index (map (λ (n : SvNet). n.width) (nets ++ (new ∷ []))) net
earlier_width [] new net below = absurd (omega arith)
earlier_width (first ∷ nets) new zero below = refl
earlier_width (first ∷ nets) new (suc net) below = earlier_width nets new net (omega arith)

pub with_net_seen : (draft : Module) (new : SvNet) → Seen draft (with_net draft new) (length draft.nets)
with_net_seen draft new = record { ports = refl; count = refl; widths = refl; nets = earlier_width draft.nets new }

fit_longer : (tree : Module) (before : ℕ) (nets : List SvNet) (new : SvNet) → nets_fit tree before nets ≡ true → op_fits tree (before + length nets) new.width new.op ≡ true
    → nets_fit tree before (nets ++ (new ∷ [])) ≡ true
fit_longer tree before [] new fit fits =
    let here : before + 0 ≡ before = omega arith in
    rw (rw here at fits) refl
fit_longer tree before (net ∷ nets) new fit fits =
    let parts = and_parts (op_fits tree before net.width net.op) (nets_fit tree (before + 1) nets) fit in
    let later : before + suc (length nets) ≡ (before + 1) + length nets = omega arith in
    rw (parts.0, fit_longer tree (before + 1) nets new parts.1 (rw later at fits)) refl

pub nets_longer : (draft : Module) (new : SvNet) → NetsKept draft → is_width new.width ≡ true → op_fits draft (length draft.nets) new.width new.op ≡ true → has_room (length draft.nets) ≡ true
    → NetsKept (with_net draft new)
nets_longer draft new kept within fits room = record {
  widths = all_longer (λ (n : SvNet). is_width n.width) draft.nets new kept.widths within;
  fit =
      fit_longer (with_net draft new) 0 draft.nets new
      (nets_seen draft (with_net draft new) (length draft.nets) 0 draft.nets (with_net_seen draft new) (omega arith) kept.fit)
      (ap (λ known. op_fits (with_net draft new) known new.width new.op) from_none
      ∙ op_seen draft (with_net draft new) (length draft.nets) (with_net_seen draft new) new.width new.op fits);
  few = ap (λ count. nat_lt count too_many) (length_longer draft.nets new) ∙ room;
}
  where
    from_none : 0 + length draft.nets ≡ length draft.nets
    from_none = omega arith

pub with_net_drafted : (whole : List Module) (draft : Module) (width : ℕ) (op : SvOp) → Drafted whole draft → NetBegun draft width → op_fits draft (length draft.nets) width op ≡ true
    → Drafted whole (with_net draft (record { width = width; op = op }))
with_net_drafted whole draft width op drafted at fits =
    let new : SvNet = record { width = width; op = op } in
    let longer = with_net draft new in
    record {
      modules = drafted.modules;
      name = drafted.name;
      ports = drafted.ports;
      registers = drafted.registers;
      nets = nets_longer draft new drafted.nets at.within fits at.room;
      outs = ap (first_outs_fit longer longer.ports) at.no_outs;
      nexts = ap (first_nexts_fit longer longer.regs) at.no_nexts;
    }

pub assign_kept : (whole : List Module) (draft : Module) (width : ℕ) (line : List ℕ) (reached : Reached) → Drafted whole draft → NetBegun draft width → assign_step draft width line ≡ Some reached
    → KeptReached whole reached
assign_kept whole draft width line reached drafted at e =
    then_read (after (codes "  assign n__") line) _ reached e (λ rest is_rest e.
    then_read (number_at rest) _ reached e (λ number is_number e.
    then_read (after (codes " = ") number.1) _ reached e (λ text is_text e.
    then_read (op_of draft text) _ reached e (λ op is_op e.
    let read = op_read draft text op is_op in
    let is_next = (number.0 == length draft.nets) && has_room (length draft.nets) in
    let passed = passes (is_next && widths_fit draft width op) (onward (with_net draft (record { width = width; op = op })) item_wanted) reached e in
    let tests = and_parts is_next (widths_fit draft width op) passed.holds in
    subst (KeptReached whole) passed.same
    (record {
      drafted = with_net_drafted whole draft width op drafted at (op_is_fit draft (length draft.nets) width op read.stands tests.1);
      at = record { no_nexts = at.no_nexts };
    })))))
