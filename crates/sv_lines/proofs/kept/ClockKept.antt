-- In the clock's block each line keeps the draft: a reset has the width of its register, whose name and width stay; and a next
-- value stands in the module and has the width of its register.
use Rattle.std.proofs.Common.{◌≡◌, ℕ, zero, suc, ◌+◌, ◌<◌, ◌≤◌, Bool, true, List, [], ◌∷◌, length, map, set, Option, Some, None, refl, ap, sym, subst, ◌∙◌, arith}
use Rattle.std.proofs.lemmas.Bool.{and_parts}
use Rattle.std.proofs.lemmas.Option.{same_Some}
use Rattle.std.proofs.lemmas.List.{length-set}
use Rattle.std.specs.Prelude.{◌==◌, nat_lt, slice_get, bytes_eq, codes, if◌then◌else◌}
use Rattle.std.specs.List.{list_all}
use Rattle.anvil_bits.specs.Number.{Number}
use Rattle.sv_tree.specs.declared.tree.SvReg.{SvReg}
use Rattle.sv_tree.specs.declared.tree.SvOperand.{SvOperand}
use Rattle.sv_tree.specs.Limits.{too_many}
use Rattle.sv_tree.specs.Module.{Module}
use Rattle.sv_tree.specs.WellFormed.{is_register_name, has_no_twice, is_same_register, sources_then_states, is_width, is_number, reset_fits, gives}
use Rattle.sv_lines.specs.Pieces.{front_run, after_run}
use Rattle.sv_lines.specs.Operands.{literal_of, is_operand_byte}
use Rattle.sv_lines.specs.State.{resets_wanted, nexts_wanted, end_wanted, reset_to, with_reset, with_next}
use Rattle.sv_lines.specs.Step.{Reached, onward, finished, is_empty, written, last_literal, reset_value_step, next_value, next_value_step}
use Rattle.sv_lines.proofs.read.Decided.{passes, then_read, closes}
use Rattle.sv_lines.proofs.read.Indices.{within}
use Rattle.sv_lines.proofs.read.OperandsRead.{literal_read}
use Rattle.sv_lines.proofs.kept.KeptDrafts.{RegistersKept, first_nexts_fit, Drafted, Clocked, ResetsWanted, ResetsBegun, Ended, KeptReached}
use Rattle.sv_lines.proofs.kept.Standing.{SameSeen, same_parts, first_outs_seen, outs_seen, first_nexts_seen, gives_seen, nets_stay}
use Rattle.sv_lines.proofs.kept.HeaderKept.{fixed_kept}
use Rattle.sv_lines.proofs.kept.OutputsKept.{nexts_complete, nexts_longer, whole_well_formed, of_width}

-- Lists with one item changed.

map_set_same : {X Y : Type 0} (change : X → Y) (items : List X) (index : ℕ) (item new : X) → slice_get items index ≡ Some item → change new ≡ change item
    → map change (set items index new) ≡ map change items
map_set_same change [] index item new there same = refl
map_set_same change (first ∷ items) zero item new there same = ap (λ x. x ∷ map change items) (same ∙ ap change (sym (same_Some _ _ there)))
map_set_same change (first ∷ items) (suc index) item new there same = ap (λ l. change first ∷ l) (map_set_same change items index item new there same)

all_at : {X : Type 0} (test : X → Bool) (items : List X) (index : ℕ) (item : X) → list_all test items ≡ true → slice_get items index ≡ Some item → test item ≡ true
all_at test [] index item all there = absurd cc
all_at test (first ∷ items) zero item all there = ap test (sym (same_Some _ _ there)) ∙ (and_parts (test first) (list_all test items) all).0
all_at test (first ∷ items) (suc index) item all there = all_at test items index item (and_parts (test first) (list_all test items) all).1 there

all_set : {X : Type 0} (test : X → Bool) (items : List X) (index : ℕ) (new : X) → list_all test items ≡ true → test new ≡ true → list_all test (set items index new) ≡ true
all_set test [] index new all good = refl
all_set test (first ∷ items) zero new all good = rw (good, (and_parts (test first) (list_all test items) all).1) refl
all_set test (first ∷ items) (suc index) new all good =
    let parts = and_parts (test first) (list_all test items) all in
    rw (parts.0, all_set test items index new parts.1 good) refl

empty_set : {X : Type 0} (items : List X) (index : ℕ) (new : X) → is_empty (set items index new) ≡ is_empty items
empty_set [] index new = refl
empty_set (first ∷ items) zero new = refl
empty_set (first ∷ items) (suc index) new = refl

-- Resets.

with_reset_seen : (draft : Module) (index : ℕ) (reg : SvReg) (number : Number) → slice_get draft.regs index ≡ Some reg → SameSeen draft (with_reset draft index (reset_to reg number))
with_reset_seen draft index reg number there = record {
  seen = record {
    ports = refl;
    count = sym (length-set draft.regs index (reset_to reg number));
    widths = sym (map_set_same (λ (r : SvReg). r.width) draft.regs index reg (reset_to reg number) there refl);
    nets = λ net below. refl;
  };
  count = refl;
}

registers_set : (draft : Module) (index : ℕ) (reg : SvReg) (number : Number) → RegistersKept draft.regs → slice_get draft.regs index ≡ Some reg → reset_fits (reset_to reg number) ≡ true
    → RegistersKept (with_reset draft index (reset_to reg number)).regs
registers_set draft index reg number kept there fits =
    let new : SvReg = reset_to reg number in
    let names = map_set_same (λ (r : SvReg). r.name) draft.regs index reg new there refl in
    record {
      good = all_set (λ (r : SvReg). is_register_name r.name) draft.regs index new kept.good (all_at (λ (r : SvReg). is_register_name r.name) draft.regs index reg kept.good there);
      differ = ap (has_no_twice is_same_register) names ∙ kept.differ;
      in_order = ap sources_then_states names ∙ kept.in_order;
      widths = all_set (λ (r : SvReg). is_width r.width) draft.regs index new kept.widths (all_at (λ (r : SvReg). is_width r.width) draft.regs index reg kept.widths there);
      resets = all_set reset_fits draft.regs index new kept.resets fits;
      few = ap (λ count. nat_lt count too_many) (length-set draft.regs index new) ∙ kept.few;
    }

with_reset_drafted : (whole : List Module) (draft : Module) (index : ℕ) (reg : SvReg) (number : Number) → Drafted whole draft → draft.nexts ≡ [] → slice_get draft.regs index ≡ Some reg
    → reset_fits (reset_to reg number) ≡ true → Drafted whole (with_reset draft index (reset_to reg number))
with_reset_drafted whole draft index reg number drafted no_nexts there fits =
    let longer = with_reset draft index (reset_to reg number) in
    let same = with_reset_seen draft index reg number there in
    record {
      modules = drafted.modules;
      name = drafted.name;
      ports = drafted.ports;
      registers = registers_set draft index reg number drafted.registers there fits;
      nets = nets_stay draft longer same refl drafted.nets;
      outs = first_outs_seen draft longer same draft.ports draft.outs drafted.outs;
      nexts = ap (first_nexts_fit longer longer.regs) no_nexts;
    }

with_reset_wanted : (draft : Module) (index : ℕ) (reg : SvReg) (number : Number) → ResetsWanted draft → slice_get draft.regs index ≡ Some reg → ResetsWanted (with_reset draft index (reset_to reg number))
with_reset_wanted draft index reg number at there = record {
  clocked = record {
    outs = outs_seen draft (with_reset draft index (reset_to reg number)) (with_reset_seen draft index reg number there) draft.ports draft.outs at.clocked.outs;
    some = empty_set draft.regs index (reset_to reg number) ∙ at.clocked.some;
  };
  no_nexts = at.no_nexts;
}

last_is_number : (text : List ℕ) (number : Number) → last_literal text ≡ Some number → is_number number ≡ true
last_is_number text number e =
    then_read (literal_of (front_run is_operand_byte text)) _ number e (λ found is_found e.
    let ended = closes (codes ";") found number (after_run is_operand_byte text) e in
    rw (← ended.same) (literal_read (front_run is_operand_byte text) found is_found).good)

resets_by_kept : (whole : List Module) (draft : Module) (done : ℕ) (found : Option SvReg) (line : List ℕ) (reached : Reached) → Drafted whole draft → ResetsBegun draft done
    → slice_get draft.regs done ≡ found → reset_value_step draft done found line ≡ Some reached → KeptReached whole reached
resets_by_kept whole draft done (Some reg) line reached drafted at there e =
    then_read (written reg.name line) _ reached e (λ text is_text e.
    then_read (last_literal text) _ reached e (λ number is_number e.
    let below : done < length draft.regs = within draft.regs done reg there in
    let one_done : done + 1 ≤ length (set draft.regs done (reset_to reg number)) = omega (arith, length-set draft.regs done (reset_to reg number)) in
    let passed = passes (number.width == reg.width) (onward (with_reset draft done (reset_to reg number)) (resets_wanted (done + 1))) reached e in
    subst (KeptReached whole) passed.same
    (record {
      drafted = with_reset_drafted whole draft done reg number drafted at.wanted.no_nexts there (rw (last_is_number text number is_number, passed.holds) refl);
      at = record { wanted = with_reset_wanted draft done reg number at.wanted there; within = one_done };
    })))
resets_by_kept whole draft done None line reached drafted at there e =
    fixed_kept whole (codes "    end else begin") line draft nexts_wanted reached (record { drafted = drafted; at = at.wanted.clocked }) e

pub resets_kept : (whole : List Module) (draft : Module) (done : ℕ) (line : List ℕ) (reached : Reached) → Drafted whole draft → ResetsBegun draft done
    → reset_value_step draft done (slice_get draft.regs done) line ≡ Some reached → KeptReached whole reached
resets_kept whole draft done line reached drafted at e = resets_by_kept whole draft done (slice_get draft.regs done) line reached drafted at refl e

-- Next values.

pub with_next_drafted : (whole : List Module) (draft : Module) (reg : SvReg) (next : SvOperand) → Drafted whole draft → slice_get draft.regs (length draft.nexts) ≡ Some reg
    → gives draft reg.width next ≡ true → Drafted whole (with_next draft next)
with_next_drafted whole draft reg next drafted there fits =
    let longer = with_next draft next in
    let same = same_parts draft longer refl refl refl in
    record {
      modules = drafted.modules;
      name = drafted.name;
      ports = drafted.ports;
      registers = drafted.registers;
      nets = nets_stay draft longer same refl drafted.nets;
      outs = first_outs_seen draft longer same draft.ports draft.outs drafted.outs;
      nexts = nexts_longer longer draft.regs draft.nexts reg next (first_nexts_seen draft longer same draft.regs draft.nexts drafted.nexts) there (gives_seen draft longer same reg.width next fits);
    }

with_next_clocked : (draft : Module) (next : SvOperand) → Clocked draft → Clocked (with_next draft next)
with_next_clocked draft next at = record {
  outs = outs_seen draft (with_next draft next) (same_parts draft (with_next draft next) refl refl refl) draft.ports draft.outs at.outs;
  some = at.some;
}

nexts_by_kept : (whole : List Module) (draft : Module) (found : Option SvReg) (line : List ℕ) (reached : Reached) → Drafted whole draft → Clocked draft
    → slice_get draft.regs (length draft.nexts) ≡ found → next_value_step draft found line ≡ Some reached → KeptReached whole reached
nexts_by_kept whole draft (Some reg) line reached drafted at there e =
    then_read (next_value draft reg line) _ reached e (λ x is_x e.
    then_read (written reg.name line) _ x is_x (λ text is_text is_x.
    subst (KeptReached whole) (same_Some _ _ e)
    (record {
      drafted = with_next_drafted whole draft reg x drafted there (of_width draft reg.width text x is_x);
      at = with_next_clocked draft x at;
    })))
nexts_by_kept whole draft None line reached drafted at there e =
    fixed_kept whole (codes "    end") line draft end_wanted reached
    (record { drafted = drafted; at = record { clocked = at; nexts = nexts_complete draft draft.regs draft.nexts drafted.nexts there } }) e

pub nexts_kept : (whole : List Module) (draft : Module) (line : List ℕ) (reached : Reached) → Drafted whole draft → Clocked draft
    → next_value_step draft (slice_get draft.regs (length draft.nexts)) line ≡ Some reached → KeptReached whole reached
nexts_kept whole draft line reached drafted at e = nexts_by_kept whole draft (slice_get draft.regs (length draft.nexts)) line reached drafted at refl e

pub last_kept : (whole : List Module) (draft : Module) (line : List ℕ) (reached : Reached) → Drafted whole draft → Ended draft
    → (if bytes_eq line (codes "endmodule") then Some (finished draft) else None) ≡ Some reached → KeptReached whole reached
last_kept whole draft line reached drafted at e =
    let passed = passes (bytes_eq line (codes "endmodule")) (finished draft) reached e in
    subst (KeptReached whole) passed.same (whole_well_formed whole draft drafted at.clocked.outs at.nexts)
