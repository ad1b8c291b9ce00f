-- Each line that is read comes to the text that has been read: the text of the next state is that of the state before, and the line.
use Rattle.std.proofs.Common.{◌≡◌, ℕ, Bool, true, false, cond, List, ◌++◌, length, map, Some, None, refl, ap, sym, ◌∙◌, append_assoc}
use Rattle.std.proofs.lemmas.Option.{same_Some}
use Rattle.std.specs.Prelude.{slice_get, codes, bytes_eq}
use Rattle.std.specs.List.{list_any}
use Rattle.sv_tree.specs.Module.{Module}
use Rattle.sv_tree.specs.Text.{module_text, modules_text}
use Rattle.sv_lines.specs.Lines.{declaration, opening}
use Rattle.sv_lines.specs.State.{Wanted, clock_wanted, reset_wanted, port_wanted, closing_wanted, valid_wanted, ack_wanted, item_wanted, assign_wanted, second_wanted, test_wanted, resets_wanted, nexts_wanted, end_wanted, last_wanted, State, between, inside, new_module, draft_text, text_of}
use Rattle.sv_lines.specs.Step.{Reached, onward, finished, draft_step, begun, state_after, step}
use Rattle.sv_lines.proofs.read.Decided.{then_read}
use Rattle.sv_lines.proofs.read.LinesRead.{opening_read}
use Rattle.sv_lines.proofs.read.SameTexts.{one_more}
use Rattle.sv_lines.specs.Good.{IsAt}
use Rattle.sv_lines.proofs.read.FixedText.{reached_text, with_line, fixed_kept, clock_text, closing_text, test_text, end_text}
use Rattle.sv_lines.proofs.read.HeaderText.{reset_kept, port_kept, valid_kept, ack_kept}
use Rattle.sv_lines.proofs.read.ItemsText.{assign_kept}
use Rattle.sv_lines.proofs.read.OutputsText.{item_kept_by, second_kept}
use Rattle.sv_lines.proofs.read.ClockText.{resets_kept, nexts_kept, last_kept}

pub draft_kept : (tree : Module) (wanted : Wanted) (line : List ℕ) (reached : Reached) → IsAt tree wanted → draft_step tree wanted line ≡ Some reached
    → reached_text reached ≡ with_line (draft_text tree wanted) line
draft_kept tree clock_wanted line reached placed e = fixed_kept (codes "  input logic clk_i,") tree clock_wanted reset_wanted line reached (clock_text tree) e
draft_kept tree reset_wanted line reached placed e = reset_kept tree line reached placed.0 placed.1 e
draft_kept tree port_wanted line reached placed e = port_kept tree line reached e
draft_kept tree closing_wanted line reached placed e = fixed_kept (codes ");") tree closing_wanted item_wanted line reached (closing_text tree placed) e
draft_kept tree (valid_wanted port) line reached placed e = valid_kept tree port line reached e
draft_kept tree (ack_wanted port) line reached placed e = ack_kept tree port line reached placed.0 e
draft_kept tree item_wanted line reached placed e = item_kept_by tree line (declaration line) reached refl e
draft_kept tree (assign_wanted width) line reached placed e = assign_kept tree width line reached placed.1 e
draft_kept tree (second_wanted value) line reached placed e = second_kept tree value (slice_get tree.ports (length tree.outs)) line reached refl e
draft_kept tree test_wanted line reached placed e = fixed_kept (codes "    if (!rst_ni) begin") tree test_wanted (resets_wanted 0) line reached (test_text tree) e
draft_kept tree (resets_wanted done) line reached placed e = resets_kept tree done (slice_get tree.regs done) line reached placed.0 refl e
draft_kept tree nexts_wanted line reached placed e = nexts_kept tree (slice_get tree.regs (length tree.nexts)) line reached refl e
draft_kept tree end_wanted line reached placed e = fixed_kept (codes "  end") tree end_wanted last_wanted line reached (end_text tree) e
draft_kept tree last_wanted line reached placed e = last_kept tree line reached placed.0.some_regs e

-- what holds of a state, by what is wanted next
abbrev pub StandsAt : State → Type 0
StandsAt (between whole) = Unit {0}
StandsAt (inside whole tree wanted) = IsAt tree wanted

begun_kept : (whole : List Module) (name : List ℕ) (next : State) → begun whole name ≡ Some next → text_of next ≡ modules_text whole ++ (codes "module anvil__" ++ (name ++ codes " (\n"))
unfolding draft_text
begun_kept whole name next e = begun_by (list_any (bytes_eq name) (map (λ (tree : Module). tree.proc) whole)) e
  where
    begun_by : (there : Bool) → cond there None (Some (inside whole (new_module name) clock_wanted)) ≡ Some next
        → text_of next ≡ modules_text whole ++ (codes "module anvil__" ++ (name ++ codes " (\n"))
    begun_by true e = absurd cc
    begun_by false e = rw (← same_Some _ _ e) refl

state_kept : (whole : List Module) (reached : Reached) → text_of (state_after whole reached) ≡ modules_text whole ++ reached_text reached
state_kept whole (onward tree wanted) = refl
state_kept whole (finished tree) = one_more module_text whole tree

-- each line comes to the text
pub text_kept : (from next : State) (line : List ℕ) → StandsAt from → step from line ≡ Some next → text_of next ≡ with_line (text_of from) line
text_kept (between whole) next line stands e =
    then_read (opening line) _ next e (λ name is_name e.
    rw ((opening_read line name is_name).written)
    (begun_kept whole name next e ∙ ap (λ l. modules_text whole ++ l) (grouped (codes "module anvil__") name (codes " (") (codes "\n"))))
  where
    grouped : (a b c d : List ℕ) → a ++ (b ++ (c ++ d)) ≡ (a ++ (b ++ c)) ++ d
    grouped a b c d = simp append_assoc
text_kept (inside whole tree wanted) next line stands e =
    then_read (draft_step tree wanted line) _ next e (λ reached is_reached e.
    rw (← same_Some _ _ e)
    (state_kept whole reached ∙ ap (λ l. modules_text whole ++ l) (draft_kept tree wanted line reached stands is_reached)
    ∙ sym (append_assoc (modules_text whole) (draft_text tree wanted) (line ++ codes "\n"))))
