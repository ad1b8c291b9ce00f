-- Outputs keep the draft: each is given to the next port, by an operand that stands in the module and has its width. Behind the
-- last output a module without registers is whole, and well-formed.
use Rattle.std.proofs.Common.{◌≡◌, ℕ, Bool, true, false, List, [], ◌∷◌, ◌++◌, length, Option, Some, None, refl, ap, sym, subst, ◌∙◌}
use Rattle.std.proofs.lemmas.Bool.{and_parts}
use Rattle.std.proofs.lemmas.Option.{same_Some}
use Rattle.std.specs.Prelude.{◌==◌, slice_get, bytes_eq, codes}
use Rattle.sv_tree.specs.declared.tree.SvPort.{SvPort}
use Rattle.sv_tree.specs.declared.tree.SvReg.{SvReg}
use Rattle.sv_tree.specs.declared.tree.SvOperand.{SvOperand}
use Rattle.sv_tree.specs.declared.tree.SvOut.{SvOut}
use Rattle.sv_tree.specs.declared.tree.SvOut.TheVariants.{Received, Sent}
use Rattle.sv_tree.specs.Module.{Module}
use Rattle.sv_tree.specs.WellFormed.{operand_width, gives, out_fits, outs_fit, nexts_fit, is_well_formed}
use Rattle.sv_lines.specs.declared.wire.Wire.{Wire}
use Rattle.sv_lines.specs.declared.wire.Wire.TheVariants as wire
use Rattle.sv_lines.specs.Pieces.{◌>>=◌}
use Rattle.sv_lines.specs.Lines.{Declared, declaration}
use Rattle.sv_lines.specs.Operands.{last_operand}
use Rattle.sv_lines.specs.State.{test_wanted, with_out}
use Rattle.sv_lines.specs.Step.{Reached, finished, is_empty, operand_of_width, assigned, given, output_by, clock_or_end, output_step, item_by, item_step, second_step}
use Rattle.sv_lines.proofs.read.Decided.{passes, then_read}
use Rattle.sv_lines.proofs.read.OperandsRead.{last_read}
use Rattle.sv_lines.proofs.kept.KeptDrafts.{Named, PortsKept, RegistersKept, NetsKept, first_outs_fit, first_nexts_fit, Drafted, Items, OutBegun, Finished, KeptReached}
use Rattle.sv_lines.proofs.kept.Standing.{same_parts, first_outs_seen, out_seen, nets_stay}
use Rattle.sv_lines.proofs.kept.HeaderKept.{fixed_kept}
use Rattle.sv_lines.proofs.kept.DeclaredKept.{empty, declared_kept}

-- Lists that end together.

pub outs_complete : (tree : Module) (ports : List SvPort) (outs : List SvOut) → first_outs_fit tree ports outs ≡ true → slice_get ports (length outs) ≡ None → outs_fit tree ports outs ≡ true
outs_complete tree [] [] fit none = refl
outs_complete tree [] (out ∷ outs) fit none = absurd cc
outs_complete tree (port ∷ ports) [] fit none = absurd cc
outs_complete tree (port ∷ ports) (out ∷ outs) fit none =
    let parts = and_parts (out_fits tree port out) (first_outs_fit tree ports outs) fit in
    rw (parts.0, outs_complete tree ports outs parts.1 none) refl

pub nexts_complete : (tree : Module) (regs : List SvReg) (nexts : List SvOperand) → first_nexts_fit tree regs nexts ≡ true → slice_get regs (length nexts) ≡ None → nexts_fit tree regs nexts ≡ true
nexts_complete tree [] [] fit none = refl
nexts_complete tree [] (next ∷ nexts) fit none = absurd cc
nexts_complete tree (reg ∷ regs) [] fit none = absurd cc
nexts_complete tree (reg ∷ regs) (next ∷ nexts) fit none =
    let parts = and_parts (gives tree reg.width next) (first_nexts_fit tree regs nexts) fit in
    rw (parts.0, nexts_complete tree regs nexts parts.1 none) refl

pub outs_longer : (tree : Module) (ports : List SvPort) (outs : List SvOut) (port : SvPort) (out : SvOut) → first_outs_fit tree ports outs ≡ true → slice_get ports (length outs) ≡ Some port
    → out_fits tree port out ≡ true → first_outs_fit tree ports (outs ++ (out ∷ [])) ≡ true
outs_longer tree [] outs port out fit there fits = absurd cc
outs_longer tree (first ∷ ports) [] port out fit there fits = let same : first ≡ port = same_Some _ _ there in rw (same, fits) refl
outs_longer tree (first ∷ ports) (earlier ∷ outs) port out fit there fits =
    let parts = and_parts (out_fits tree first earlier) (first_outs_fit tree ports outs) fit in
    rw (parts.0, outs_longer tree ports outs port out parts.1 there fits) refl

pub nexts_longer : (tree : Module) (regs : List SvReg) (nexts : List SvOperand) (reg : SvReg) (next : SvOperand) → first_nexts_fit tree regs nexts ≡ true → slice_get regs (length nexts) ≡ Some reg
    → gives tree reg.width next ≡ true → first_nexts_fit tree regs (nexts ++ (next ∷ [])) ≡ true
nexts_longer tree [] nexts reg next fit there fits = absurd cc
nexts_longer tree (first ∷ regs) [] reg next fit there fits = let same : first ≡ reg = same_Some _ _ there in rw (same, fits) refl
nexts_longer tree (first ∷ regs) (earlier ∷ nexts) reg next fit there fits =
    let parts = and_parts (gives tree first.width earlier) (first_nexts_fit tree regs nexts) fit in
    rw (parts.0, nexts_longer tree regs nexts reg next parts.1 there fits) refl

-- A module of which all is read.

pub all_hold : (whole : List Module) (tree : Module) → Named whole tree.proc → PortsKept tree.ports → RegistersKept tree.regs → NetsKept tree → outs_fit tree tree.ports tree.outs ≡ true
    → nexts_fit tree tree.regs tree.nexts ≡ true → is_well_formed tree ≡ true
unfolding is_well_formed
all_hold whole tree name ports registers nets outs nexts =
    rw (
      name.good,
      ports.good,
      registers.good,
      ports.differ,
      registers.differ,
      registers.in_order,
      ports.widths,
      registers.widths,
      nets.widths,
      nets.fit,
      outs,
      registers.resets,
      nexts,
      ports.few,
      registers.few,
      nets.few,
    )
    refl

pub whole_well_formed : (whole : List Module) (tree : Module) → Drafted whole tree → outs_fit tree tree.ports tree.outs ≡ true → nexts_fit tree tree.regs tree.nexts ≡ true → Finished whole tree
whole_well_formed whole tree drafted outs nexts = record {
  modules = drafted.modules;
  name = drafted.name;
  well_formed = all_hold whole tree drafted.name drafted.ports drafted.registers drafted.nets outs nexts;
}

-- The operand of an output.
pub of_width : (draft : Module) (width : ℕ) (text : List ℕ) (x : SvOperand) → last_operand draft text >>= operand_of_width draft width ≡ Some x → gives draft width x ≡ true
of_width draft width text x e =
    then_read (last_operand draft text) _ x e (λ found is_found e.
    let read = last_read draft text found is_found in
    let passed = passes (operand_width draft found == width) found x e in
    rw (← passed.same) (rw (read.stands, passed.holds) refl))

pub given_fits : (draft : Module) (port : SvPort) (which : Wire) (width : ℕ) (line : List ℕ) (x : SvOperand) → given draft port which width line ≡ Some x → gives draft width x ≡ true
given_fits draft port which width line x e =
    then_read (assigned port which line) _ x e (λ rest is_rest e. of_width draft width rest x e)

pub with_out_drafted : (whole : List Module) (draft : Module) (port : SvPort) (out : SvOut) → Drafted whole draft → draft.nexts ≡ [] → slice_get draft.ports (length draft.outs) ≡ Some port
    → out_fits draft port out ≡ true → Drafted whole (with_out draft out)
with_out_drafted whole draft port out drafted no_nexts there fits =
    let longer = with_out draft out in
    let same = same_parts draft longer refl refl refl in
    record {
      modules = drafted.modules;
      name = drafted.name;
      ports = drafted.ports;
      registers = drafted.registers;
      nets = nets_stay draft longer same refl drafted.nets;
      outs = outs_longer longer draft.ports draft.outs port out (first_outs_seen draft longer same draft.ports draft.outs drafted.outs) there (out_seen draft longer same port out fits);
      nexts = ap (first_nexts_fit longer longer.regs) no_nexts;
    }

output_by_kept : (whole : List Module) (draft : Module) (received : Bool) (port : SvPort) (line : List ℕ) (reached : Reached) → Drafted whole draft → Items draft → port.received ≡ received
    → slice_get draft.ports (length draft.outs) ≡ Some port → output_by draft received port line ≡ Some reached → KeptReached whole reached
output_by_kept whole draft true port line reached drafted at is there e =
    then_read (given draft port wire.Ack 1 line) _ reached e (λ x is_x e.
    subst (KeptReached whole) (same_Some _ _ e)
    (record {
      drafted = with_out_drafted whole draft port (Received x) drafted at.no_nexts there (rw (is, given_fits draft port wire.Ack 1 line x is_x) refl);
      at = record { no_nexts = at.no_nexts };
    }))
output_by_kept whole draft false port line reached drafted at is there e =
    then_read (given draft port wire.Data port.width line) _ reached e (λ x is_x e.
    subst (KeptReached whole) (same_Some _ _ e)
    (record {
      drafted = drafted;
      at = record { no_nexts = at.no_nexts; port = port; is_there = there; is_sent = is; fits = given_fits draft port wire.Data port.width line x is_x };
    }))

clock_or_end_kept : (whole : List Module) (draft : Module) (none : Bool) (line : List ℕ) (reached : Reached) → Drafted whole draft → Items draft → is_empty draft.regs ≡ none
    → outs_fit draft draft.ports draft.outs ≡ true → clock_or_end draft none line ≡ Some reached → KeptReached whole reached
clock_or_end_kept whole draft true line reached drafted at is outs e =
    let passed = passes (bytes_eq line (codes "endmodule")) (finished draft) reached e in
    let none = empty draft.regs is in
    let no_nexts : nexts_fit draft draft.regs draft.nexts ≡ true = ap (λ (regs : List SvReg). nexts_fit draft regs draft.nexts) none ∙ ap (nexts_fit draft []) at.no_nexts in
    subst (KeptReached whole) passed.same (whole_well_formed whole draft drafted outs no_nexts)
clock_or_end_kept whole draft false line reached drafted at is outs e =
    fixed_kept whole (codes "  always_ff @(posedge clk_i) begin") line draft test_wanted reached
    (record { drafted = drafted; at = record { clocked = record { outs = outs; some = is }; no_nexts = at.no_nexts } }) e

output_kept : (whole : List Module) (draft : Module) (port : Option SvPort) (line : List ℕ) (reached : Reached) → Drafted whole draft → Items draft
    → slice_get draft.ports (length draft.outs) ≡ port → output_step draft port line ≡ Some reached → KeptReached whole reached
output_kept whole draft (Some port) line reached drafted at there e = output_by_kept whole draft port.received port line reached drafted at refl there e
output_kept whole draft None line reached drafted at there e =
    clock_or_end_kept whole draft (is_empty draft.regs) line reached drafted at refl (outs_complete draft draft.ports draft.outs drafted.outs there) e

item_by_kept : (whole : List Module) (draft : Module) (line : List ℕ) (found : Option Declared) (reached : Reached) → Drafted whole draft → Items draft → declaration line ≡ found
    → item_by draft line found ≡ Some reached → KeptReached whole reached
item_by_kept whole draft line (Some declared) reached drafted at is e = declared_kept whole draft line declared reached drafted at is e
item_by_kept whole draft line None reached drafted at is e = output_kept whole draft (slice_get draft.ports (length draft.outs)) line reached drafted at refl e

pub item_kept : (whole : List Module) (draft : Module) (line : List ℕ) (reached : Reached) → Drafted whole draft → Items draft → item_step draft line ≡ Some reached → KeptReached whole reached
item_kept whole draft line reached drafted at e = item_by_kept whole draft line (declaration line) reached drafted at refl e

second_by_kept : (whole : List Module) (draft : Module) (value : SvOperand) (found : Option SvPort) (line : List ℕ) (reached : Reached) → Drafted whole draft → OutBegun draft value
    → slice_get draft.ports (length draft.outs) ≡ found → second_step draft value found line ≡ Some reached → KeptReached whole reached
second_by_kept whole draft value None line reached drafted at there e = absurd cc
second_by_kept whole draft value (Some port) line reached drafted at there e =
    then_read (given draft port wire.Valid 1 line) _ reached e (λ x is_x e.
    let same : at.port ≡ port = same_Some _ _ (sym at.is_there ∙ there) in
    let sent : port.received ≡ false = ap (λ (p : SvPort). p.received) (sym same) ∙ at.is_sent in
    let fits : gives draft port.width value ≡ true = ap (λ (p : SvPort). gives draft p.width value) (sym same) ∙ at.fits in
    subst (KeptReached whole) (same_Some _ _ e)
    (record {
      drafted = with_out_drafted whole draft port (Sent value x) drafted at.no_nexts there (rw (sent, fits, given_fits draft port wire.Valid 1 line x is_x) refl);
      at = record { no_nexts = at.no_nexts };
    }))

pub second_kept : (whole : List Module) (draft : Module) (value : SvOperand) (line : List ℕ) (reached : Reached) → Drafted whole draft → OutBegun draft value
    → second_step draft value (slice_get draft.ports (length draft.outs)) line ≡ Some reached → KeptReached whole reached
second_kept whole draft value line reached drafted at e = second_by_kept whole draft value (slice_get draft.ports (length draft.outs)) line reached drafted at refl e
