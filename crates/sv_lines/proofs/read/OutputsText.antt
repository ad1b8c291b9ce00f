-- The lines of outputs come to the text that has been read, as `TextKept` says of all lines.
use Rattle.std.proofs.Common.{◌≡◌, ℕ, Bool, true, false, List, [], ◌++◌, length, Option, Some, None, refl, ap, sym, ◌∙◌, append_assoc}
use Rattle.std.proofs.lemmas.Option.{same_Some}
use Rattle.std.specs.Prelude.{flat_map, zip, slice_get, codes, bytes_eq, ◌==◌}
use Rattle.std.specs.List.{enumerate_from}
use Rattle.sv_tree.specs.declared.tree.SvPort.{SvPort}
use Rattle.sv_tree.specs.declared.tree.SvOperand.{SvOperand}
use Rattle.sv_tree.specs.declared.tree.SvOut.TheVariants.{Received, Sent}
use Rattle.sv_tree.specs.Module.{Module}
use Rattle.sv_tree.specs.WellFormed.{operand_stands, operand_width}
use Rattle.sv_tree.specs.Text.{port_lines, opening_lines, closing_line, operand_text, net_lines, wire_assign_line, data_assign_line, out_lines, last_line, module_text}
use Rattle.sv_lines.specs.declared.wire.Wire.{Wire}
use Rattle.sv_lines.specs.declared.wire.Wire.TheVariants as wire
use Rattle.sv_lines.specs.Pieces.{after}
use Rattle.sv_lines.specs.Lines.{wire_word, Declared, declaration}
use Rattle.sv_lines.specs.Operands.{last_operand}
use Rattle.sv_lines.specs.State.{item_wanted, second_wanted, test_wanted, items_text, first_line, draft_text}
use Rattle.sv_lines.specs.Step.{Reached, finished, is_empty, assigned, given, output_by, clock_or_end, output_step, item_by, second_step}
use Rattle.sv_lines.proofs.read.Decided.{passes, bytes_same, then_read}
use Rattle.sv_lines.proofs.read.PiecesRead.{after_read}
use Rattle.sv_lines.proofs.read.OperandsRead.{last_read}
use Rattle.sv_lines.proofs.read.FixedText.{reached_text, with_line, fixed_read}
use Rattle.sv_lines.proofs.read.ItemsText.{empty, out_more, declared_kept}

pub record GivenRead (tree : Module) (port : SvPort) (word : List ℕ) (width : ℕ) (line : List ℕ) (x : SvOperand) : Type 0 where
  pub written : line ++ codes "\n" ≡ wire_assign_line tree port (codes "__" ++ word) x
  pub stands : operand_stands tree (length tree.nets) x ≡ true
  pub wide : (operand_width tree x == width) ≡ true

assigned_read : (port : SvPort) (which : Wire) (line rest : List ℕ) → assigned port which line ≡ Some rest
    → line ≡ codes "  assign " ++ (port.endpoint ++ (codes "__" ++ (port.message ++ (codes "__" ++ (wire_word which ++ (codes " = " ++ rest))))))
assigned_read port which line rest e =
    then_read (after (codes "  assign ") line) _ rest e (λ one is_one e.
    then_read (after port.endpoint one) _ rest e (λ two is_two e.
    then_read (after (codes "__") two) _ rest e (λ three is_three e.
    then_read (after port.message three) _ rest e (λ four is_four e.
    then_read (after (codes "__") four) _ rest e (λ five is_five e.
    then_read (after (wire_word which) five) _ rest e (λ six is_six e.
    rw (
      ← after_read (codes " = ") six rest e,
      ← after_read (wire_word which) five six is_six,
      ← after_read (codes "__") four five is_five,
      ← after_read port.message three four is_four,
      ← after_read (codes "__") two three is_three,
      ← after_read port.endpoint one two is_two,
    )
    (after_read (codes "  assign ") line one is_one)))))))

pub given_read : (tree : Module) (port : SvPort) (which : Wire) (width : ℕ) (line : List ℕ) (x : SvOperand) → given tree port which width line ≡ Some x
    → GivenRead tree port (wire_word which) width line x
given_read tree port which width line x e =
    then_read (assigned port which line) _ x e (λ rest is_rest e.
    then_read (last_operand tree rest) _ x e (λ found is_found e.
    let passed = passes (operand_width tree found == width) found x e in
    let read = last_read tree rest found is_found in
    let stands : line ≡ codes "  assign " ++ (port.endpoint ++ (codes "__" ++ (port.message ++ (codes "__" ++ (wire_word which ++ (codes " = " ++ (operand_text tree found ++ codes ";"))))))) =
    rw (← read.written) (assigned_read port which line rest is_rest) in
    rw (← passed.same)
    (record {
      written =
          ap (λ l. l ++ codes "\n") stands
          ∙ grouped (codes "  assign ") port.endpoint (codes "__") port.message (wire_word which) (codes " = ") (operand_text tree found) (codes ";") (codes "\n");
      stands = read.stands;
      wide = passed.holds;
    })))
  where
    grouped : (a b c d e f g h i : List ℕ) → (a ++ (b ++ (c ++ (d ++ (c ++ (e ++ (f ++ (g ++ h)))))))) ++ i ≡ a ++ (b ++ (c ++ (d ++ ((c ++ e) ++ (f ++ (g ++ (h ++ i)))))))
    grouped a b c d e f g h i = simp append_assoc

output_kept_by : (tree : Module) (received : Bool) (port : SvPort) (line : List ℕ) (reached : Reached) → slice_get tree.ports (length tree.outs) ≡ Some port
    → output_by tree received port line ≡ Some reached → reached_text reached ≡ with_line (draft_text tree item_wanted) line
unfolding draft_text
output_kept_by tree true port line reached is_port e =
    then_read (given tree port wire.Ack 1 line) _ reached e (λ x is_x e.
    let read = given_read tree port wire.Ack 1 line x is_x in
    rw (← same_Some _ _ e) (out_more tree port (Received x) is_port ∙ ap (λ l. items_text tree ++ l) (sym read.written)))
output_kept_by tree false port line reached is_port e =
    then_read (given tree port wire.Data port.width line) _ reached e (λ x is_x e.
    let read = given_read tree port wire.Data port.width line x is_x in
    rw (← same_Some _ _ e) (ap (λ l. items_text tree ++ l) (ap (λ found. first_line tree found x) is_port ∙ sym read.written)))

clock_or_end_kept : (tree : Module) (none : Bool) (line : List ℕ) (reached : Reached) → is_empty tree.regs ≡ none → clock_or_end tree none line ≡ Some reached
    → reached_text reached ≡ with_line (draft_text tree item_wanted) line
unfolding draft_text module_text
clock_or_end_kept tree true line reached is_none e =
    let passed = passes (bytes_eq line (codes "endmodule")) (finished tree) reached e in
    let bare : Module = record { proc = tree.proc; ports = tree.ports; regs = []; nets = tree.nets; outs = tree.outs; nexts = tree.nexts } in
    rw (← passed.same, bytes_same line (codes "endmodule") passed.holds, empty tree.regs is_none)
    (grouped (opening_lines tree.proc) (flat_map port_lines tree.ports) closing_line (flat_map (net_lines bare) (enumerate_from 0 tree.nets))
    (flat_map (out_lines bare) (zip tree.ports tree.outs)) last_line)
  where
    grouped : (a b c d e f : List ℕ) → a ++ (b ++ (c ++ ([] ++ (d ++ (e ++ ([] ++ f)))))) ≡ (((a ++ b) ++ (c ++ ([] ++ d))) ++ e) ++ f
    grouped a b c d e f = simp append_assoc
clock_or_end_kept tree false line reached is_none e =
    let read = fixed_read (codes "  always_ff @(posedge clk_i) begin") tree test_wanted line reached e in
    rw (← read.comes, read.same) refl

output_kept : (tree : Module) (found : Option SvPort) (line : List ℕ) (reached : Reached) → slice_get tree.ports (length tree.outs) ≡ found
    → output_step tree found line ≡ Some reached → reached_text reached ≡ with_line (draft_text tree item_wanted) line
output_kept tree (Some port) line reached is_port e = output_kept_by tree port.received port line reached is_port e
output_kept tree None line reached is_port e = clock_or_end_kept tree (is_empty tree.regs) line reached refl e

pub item_kept_by : (tree : Module) (line : List ℕ) (found : Option Declared) (reached : Reached) → declaration line ≡ found → item_by tree line found ≡ Some reached
    → reached_text reached ≡ with_line (draft_text tree item_wanted) line
item_kept_by tree line (Some declared) reached is e = declared_kept tree declared line reached is e
item_kept_by tree line None reached is e = output_kept tree (slice_get tree.ports (length tree.outs)) line reached refl e

pub second_kept : (tree : Module) (value : SvOperand) (found : Option SvPort) (line : List ℕ) (reached : Reached) → slice_get tree.ports (length tree.outs) ≡ found
    → second_step tree value found line ≡ Some reached → reached_text reached ≡ with_line (draft_text tree (second_wanted value)) line
unfolding draft_text
second_kept tree value None line reached is_port e = absurd cc
second_kept tree value (Some port) line reached is_port e =
    then_read (given tree port wire.Valid 1 line) _ reached e (λ x is_x e.
    let read = given_read tree port wire.Valid 1 line x is_x in
    rw (← same_Some _ _ e, is_port)
    (out_more tree port (Sent value x) is_port
    ∙ ap (λ l. items_text tree ++ (data_assign_line tree port value ++ l)) (sym read.written)
    ∙ sym (append_assoc (items_text tree) (data_assign_line tree port value) (line ++ codes "\n"))))
