-- Each reached state keeps this: the whole modules are well-formed with names that differ, and the module that is begun is
-- well-formed as far as it is read. The start does, and each step keeps it; so between modules all of them are well-formed.
use Rattle.std.proofs.Common.{◌≡◌, ℕ, Bool, true, false, cond, List, [], ◌∷◌, ◌++◌, map, Some, None, refl, ap, subst, arith, ◌∙◌}
use Rattle.std.proofs.lemmas.Option.{same_Some}
use Rattle.std.specs.Prelude.{bytes_eq, codes, IsTrue}
use Rattle.std.specs.List.{list_all, list_any}
use Rattle.sv_tree.specs.Module.{Module}
use Rattle.sv_tree.specs.WellFormed.{is_name, has_no_twice, is_well_formed}
use Rattle.sv_tree.specs.Text.{IsTextOf}
use Rattle.sv_lines.specs.Lines.{opening}
use Rattle.sv_lines.specs.State.{Wanted, clock_wanted, reset_wanted, port_wanted, closing_wanted, valid_wanted, ack_wanted, item_wanted, assign_wanted, second_wanted, test_wanted, resets_wanted, nexts_wanted, end_wanted, last_wanted, State, between, inside, start, new_module, text_of}
use Rattle.sv_lines.specs.Step.{Reached, onward, finished, draft_step, state_after, step}
use Rattle.sv_lines.proofs.read.Decided.{then_read}
use Rattle.sv_lines.proofs.read.LinesRead.{opening_read}
use Rattle.sv_lines.proofs.kept.Longer.{all_longer, no_twice_longer, bytes_turned, map_longer}
use Rattle.sv_lines.proofs.kept.KeptDrafts.{Whole, Drafted, Bare, At, Kept, Finished, KeptReached}
use Rattle.sv_lines.proofs.kept.HeaderKept.{fixed_kept, bare_drafted, reset_kept, port_kept, valid_kept, ack_kept}
use Rattle.sv_lines.proofs.kept.NetsLonger.{assign_kept}
use Rattle.sv_lines.proofs.kept.OutputsKept.{item_kept, second_kept}
use Rattle.sv_lines.proofs.kept.ClockKept.{resets_kept, nexts_kept, last_kept}

pub draft_keeps : (whole : List Module) (draft : Module) (wanted : Wanted) (line : List ℕ) (reached : Reached) → Drafted whole draft → At draft wanted → draft_step draft wanted line ≡ Some reached
    → KeptReached whole reached
draft_keeps whole draft clock_wanted line reached drafted at e =
    fixed_kept whole (codes "  input logic clk_i,") line draft reset_wanted reached (record { drafted = drafted; at = at }) e
draft_keeps whole draft reset_wanted line reached drafted at e = reset_kept whole draft line reached drafted at e
draft_keeps whole draft port_wanted line reached drafted at e = port_kept whole draft line reached drafted at e
draft_keeps whole draft closing_wanted line reached drafted at e =
    fixed_kept whole (codes ");") line draft item_wanted reached (record { drafted = drafted; at = record { no_nexts = at.no_nexts } }) e
draft_keeps whole draft (valid_wanted port) line reached drafted at e = valid_kept whole draft port line reached drafted at e
draft_keeps whole draft (ack_wanted port) line reached drafted at e = ack_kept whole draft port line reached drafted at e
draft_keeps whole draft item_wanted line reached drafted at e = item_kept whole draft line reached drafted at e
draft_keeps whole draft (assign_wanted width) line reached drafted at e = assign_kept whole draft width line reached drafted at e
draft_keeps whole draft (second_wanted value) line reached drafted at e = second_kept whole draft value line reached drafted at e
draft_keeps whole draft test_wanted line reached drafted at e =
    fixed_kept whole (codes "    if (!rst_ni) begin") line draft (resets_wanted 0) reached (record { drafted = drafted; at = record { wanted = at; within = omega arith } }) e
draft_keeps whole draft (resets_wanted done) line reached drafted at e = resets_kept whole draft done line reached drafted at e
draft_keeps whole draft nexts_wanted line reached drafted at e = nexts_kept whole draft line reached drafted at e
draft_keeps whole draft end_wanted line reached drafted at e =
    fixed_kept whole (codes "  end") line draft last_wanted reached (record { drafted = drafted; at = at }) e
draft_keeps whole draft last_wanted line reached drafted at e = last_kept whole draft line reached drafted at e

pub one_more : (whole : List Module) (tree : Module) → Finished whole tree → Whole (whole ++ (tree ∷ []))
one_more whole tree done = record {
  well_formed = all_longer is_well_formed whole tree done.modules.well_formed done.well_formed;
  names_differ =
      ap (has_no_twice bytes_eq) (map_longer (λ (other : Module). other.proc) whole tree)
      ∙ no_twice_longer bytes_eq bytes_turned (map (λ (other : Module). other.proc) whole) tree.proc done.modules.names_differ done.name.is_new;
}

after_kept : (whole : List Module) (reached : Reached) → KeptReached whole reached → Kept (state_after whole reached)
after_kept whole (onward draft wanted) kept = kept
after_kept whole (finished draft) kept = one_more whole draft kept

begun_kept : (whole : List Module) (name : List ℕ) (next : State) (there : Bool) → Whole whole → is_name name ≡ true → list_any (bytes_eq name) (map (λ (tree : Module). tree.proc) whole) ≡ there
    → cond there None (Some (inside whole (new_module name) clock_wanted)) ≡ Some next → Kept next
begun_kept whole name next true modules good is e = absurd cc
begun_kept whole name next false modules good is e =
    let bare : Bare (new_module name) = record { no_regs = refl; no_nets = refl; no_outs = refl; no_nexts = refl } in
    subst Kept (same_Some _ _ e)
    (record {
      drafted = bare_drafted whole (new_module name) modules (record { good = good; is_new = is }) (record { good = refl; differ = refl; widths = refl; few = refl }) bare;
      at = record { bare = bare; no_ports = refl };
    })

pub start_kept : Kept start
start_kept = record { well_formed = refl; names_differ = refl }

pub step_keeps : (from next : State) (line : List ℕ) → Kept from → step from line ≡ Some next → Kept next
step_keeps (between whole) next line kept e =
    then_read (opening line) _ next e (λ name is_name e.
    begun_kept whole name next (list_any (bytes_eq name) (map (λ (tree : Module). tree.proc) whole)) kept (opening_read line name is_name).good refl e)
step_keeps (inside whole draft wanted) next line kept e =
    then_read (draft_step draft wanted line) _ next e (λ reached is_reached e.
    subst Kept (same_Some _ _ e) (after_kept whole reached (draft_keeps whole draft wanted line reached kept.drafted kept.at is_reached)))

-- the two facts of `IsTextOf`
pub record Between (modules : List Module) : Type 0 where
  pub well_formed : IsTrue (list_all is_well_formed modules)
  pub names_differ : IsTrue (has_no_twice bytes_eq (map (λ (tree : Module). tree.proc) modules))

pub kept_between : (whole : List Module) → Kept (between whole) → Between whole
kept_between whole kept = record { well_formed = kept.well_formed; names_differ = kept.names_differ }

pub is_text_of : (whole : List Module) → Kept (between whole) → IsTextOf (text_of (between whole)) whole
is_text_of whole kept =
    let facts = kept_between whole kept in
    record { well_formed = facts.well_formed; names_differ = facts.names_differ; written = refl }
