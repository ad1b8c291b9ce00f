-- The text of a well-formed module is read as that module: header, declarations, outputs and the clock's block one after the
-- other, and the last line.
use Rattle.std.proofs.Common.{◌≡◌, ℕ, ◌+◌, false, List, [], ◌∷◌, ◌++◌, length, map, Some, None, refl, ap, sym, subst, ◌∙◌, arith, append_assoc}
use Rattle.std.proofs.lemmas.Option.{slice_get_past}
use Rattle.std.specs.Prelude.{slice_get, bytes_eq, codes, flat_map, zip, IsTrue}
use Rattle.std.specs.List.{list_any, enumerate_from}
use Rattle.sv_tree.specs.declared.tree.SvReg.{SvReg}
use Rattle.sv_tree.specs.declared.tree.SvOperand.{SvOperand}
use Rattle.sv_tree.specs.Module.{Module}
use Rattle.sv_tree.specs.Text.{port_lines, opening_lines, closing_line, register_line, net_lines, out_lines, reset_line, next_line, clock_opening_lines, clock_else_line, clock_closing_lines, clock_lines, last_line, module_text}
use Rattle.sv_tree.specs.WellFormed.{is_well_formed}
use Rattle.sv_lines.specs.State.{between, inside, item_wanted, test_wanted, resets_wanted, nexts_wanted, end_wanted, last_wanted}
use Rattle.sv_lines.specs.Step.{onward, is_empty, item_step, reset_value_step, next_value_step, step, read_on}
use Rattle.sv_lines.proofs.back.Goes.{Goes, goes_then, goes_line, goes_same}
use Rattle.sv_lines.proofs.back.HeaderBack.{goes_draft, header_back}
use Rattle.sv_lines.proofs.back.RegistersBack.{parts_of, fresh, regs_back}
use Rattle.sv_lines.proofs.back.NetsBack.{nets_back}
use Rattle.sv_lines.proofs.back.OutputsBack.{with_all, outs_back, outs_as_many}
use Rattle.sv_lines.proofs.back.ClockBack.{resets_back, nexts_back, nexts_as_many}
use Rattle.sv_lines.proofs.back.Facts.{Facts, facts, good_parts, same_fresh, ports_fit, regs_fit, nets_fit_whole, outs_fit_whole, regs_good, nexts_fit_whole}

-- no port is left behind the outputs, and no register behind the next values
no_port : (tree : Module) → Facts tree → slice_get tree.ports (length tree.outs) ≡ None
no_port tree has =
    let many = outs_as_many tree tree.ports tree.outs has.outs in
    slice_get_past tree.ports (length tree.outs) (omega arith)

no_register : (tree : Module) → Facts tree → slice_get tree.regs (length tree.nexts) ≡ None
no_register tree has =
    let many = nexts_as_many tree tree.regs tree.nexts has.nexts in
    slice_get_past tree.regs (length tree.nexts) (omega arith)

no_reset : (tree : Module) → slice_get tree.regs (length tree.regs) ≡ None
no_reset tree = slice_get_past tree.regs (length tree.regs) (omega arith)

-- The clock's block, for the registers of the module.

abbrev block_text : Module → List SvReg → List ℕ
block_text tree regs =
    clock_opening_lines ++ (flat_map reset_line regs ++ (clock_else_line ++ (flat_map (next_line tree) (zip regs tree.nexts) ++ clock_closing_lines)))

block_cut : (always test resets other nexts first second end feed : List ℕ)
    → ((always ++ (feed ++ (test ++ feed))) ++ (resets ++ ((other ++ feed) ++ (nexts ++ (first ++ (feed ++ (second ++ feed))))))) ++ (end ++ feed)
    ≡ (always ++ feed) ++ ((test ++ feed) ++ (resets ++ ((other ++ feed) ++ (nexts ++ ((first ++ feed) ++ ((second ++ feed) ++ (end ++ feed)))))))
block_cut always test resets other nexts first second end feed = simp append_assoc

block_back : (whole : List Module) (tree : Module) → Facts tree → is_empty (map fresh tree.regs) ≡ false
    → Goes (inside whole (with_all tree (map fresh tree.regs) tree.outs []) item_wanted) (block_text tree tree.regs ++ last_line) (between (whole ++ (tree ∷ [])))
block_back whole tree has some =
    let always = codes "  always_ff @(posedge clk_i) begin" in
    let test = codes "    if (!rst_ni) begin" in
    let other = codes "    end else begin" in
    let first_end = codes "    end" in
    let second_end = codes "  end" in
    let last = codes "endmodule" in
    let resets = flat_map reset_line tree.regs in
    let nexts = flat_map (next_line tree) (zip tree.regs tree.nexts) in
    let fresh_draft = with_all tree (map fresh tree.regs) tree.outs [] in
    let reset_draft = with_all tree tree.regs tree.outs [] in
    let at_items = inside whole fresh_draft item_wanted in
    let at_test = inside whole fresh_draft test_wanted in
    let at_resets = inside whole fresh_draft (resets_wanted 0) in
    let at_else = inside whole reset_draft (resets_wanted (length tree.regs)) in
    let at_nexts = inside whole reset_draft nexts_wanted in
    let at_end = inside whole tree nexts_wanted in
    let at_second_end = inside whole tree end_wanted in
    let at_last = inside whole tree last_wanted in
    let behind = between (whole ++ (tree ∷ [])) in
    let always_step : item_step fresh_draft always ≡ Some (onward fresh_draft test_wanted) = rw (no_port tree has, some) refl in
    let other_step : reset_value_step reset_draft (length tree.regs) (slice_get tree.regs (length tree.regs)) other ≡ Some (onward reset_draft nexts_wanted) = rw (no_reset tree) refl in
    let end_step : next_value_step tree (slice_get tree.regs (length tree.nexts)) first_end ≡ Some (onward tree end_wanted) = rw (no_register tree has) refl in
    let goes_always : Goes at_items (always ++ (10 ∷ [])) at_test = goes_draft whole fresh_draft fresh_draft item_wanted test_wanted always refl always_step in
    let goes_test : Goes at_test (test ++ (10 ∷ [])) at_resets = goes_draft whole fresh_draft fresh_draft test_wanted (resets_wanted 0) test refl refl in
    let goes_resets : Goes at_resets resets at_else = resets_back whole tree tree.outs [] tree.regs (regs_good tree has) has.resets in
    let goes_else : Goes at_else (other ++ (10 ∷ [])) at_nexts = goes_draft whole reset_draft reset_draft (resets_wanted (length tree.regs)) nexts_wanted other refl other_step in
    let goes_nexts : Goes at_nexts nexts at_end = nexts_back whole tree tree.outs [] tree.regs [] tree.nexts (nexts_fit_whole tree has) in
    let goes_end : Goes at_end (first_end ++ (10 ∷ [])) at_second_end = goes_draft whole tree tree nexts_wanted end_wanted first_end refl end_step in
    let goes_second_end : Goes at_second_end (second_end ++ (10 ∷ [])) at_last = goes_draft whole tree tree end_wanted last_wanted second_end refl refl in
    let goes_last : Goes at_last (last ++ (10 ∷ [])) behind = goes_line at_last behind last refl refl in
    let from_last = last ++ (10 ∷ []) in
    let from_second_end = (second_end ++ (10 ∷ [])) ++ from_last in
    let from_end = (first_end ++ (10 ∷ [])) ++ from_second_end in
    let from_nexts = nexts ++ from_end in
    let from_else = (other ++ (10 ∷ [])) ++ from_nexts in
    let from_resets = resets ++ from_else in
    let from_test = (test ++ (10 ∷ [])) ++ from_resets in
    goes_same at_items behind ((always ++ (10 ∷ [])) ++ from_test) (block_text tree tree.regs ++ last_line)
    (sym (block_cut always test resets other nexts first_end second_end last (10 ∷ [])))
    (goes_then at_items at_test behind (always ++ (10 ∷ [])) from_test goes_always
    (goes_then at_test at_resets behind (test ++ (10 ∷ [])) from_resets goes_test
    (goes_then at_resets at_else behind resets from_else goes_resets
    (goes_then at_else at_nexts behind (other ++ (10 ∷ [])) from_nexts goes_else
    (goes_then at_nexts at_end behind nexts from_end goes_nexts
    (goes_then at_end at_second_end behind (first_end ++ (10 ∷ [])) from_second_end goes_end
    (goes_then at_second_end at_last behind (second_end ++ (10 ∷ [])) from_last goes_second_end goes_last)))))))

-- The end of a module, with a clock's block or without.

no_nexts : (nexts : List SvOperand) → 0 ≡ length nexts → nexts ≡ []
no_nexts [] e = refl
no_nexts (x ∷ nexts) e = absurd (omega arith)

end_by : (whole : List Module) (tree : Module) (regs : List SvReg) → Facts tree → tree.regs ≡ regs
    → Goes (inside whole (with_all tree (map fresh tree.regs) tree.outs []) item_wanted) (clock_lines tree regs ++ last_line) (between (whole ++ (tree ∷ [])))
end_by whole tree [] has e =
    let many : length tree.regs ≡ length tree.nexts = nexts_as_many tree tree.regs tree.nexts has.nexts in
    let none : 0 ≡ length tree.nexts = sym (ap length e) ∙ many in
    let empty : tree.nexts ≡ [] = no_nexts tree.nexts none in
    let fresh_none : map fresh tree.regs ≡ [] = ap (map fresh) e in
    let draft = with_all tree [] tree.outs [] in
    let same : draft ≡ tree = ap (λ (regs : List SvReg). with_all tree regs tree.outs []) (sym e) ∙ ap (λ (nexts : List SvOperand). with_all tree tree.regs tree.outs nexts) (sym empty) in
    let ends : step (inside whole draft item_wanted) (codes "endmodule") ≡ Some (between (whole ++ (draft ∷ []))) = rw (no_port tree has) refl in
    let goes : Goes (inside whole draft item_wanted) (codes "endmodule" ++ (10 ∷ [])) (between (whole ++ (draft ∷ []))) =
    goes_line (inside whole draft item_wanted) (between (whole ++ (draft ∷ []))) (codes "endmodule") refl ends in
    let goes_on : Goes (inside whole draft item_wanted) (codes "endmodule" ++ (10 ∷ [])) (between (whole ++ (tree ∷ []))) =
    subst (λ (m : Module). Goes (inside whole draft item_wanted) (codes "endmodule" ++ (10 ∷ [])) (between (whole ++ (m ∷ [])))) same goes in
    subst (λ (r : List SvReg). Goes (inside whole (with_all tree r tree.outs []) item_wanted) (codes "endmodule" ++ (10 ∷ [])) (between (whole ++ (tree ∷ [])))) (sym fresh_none) goes_on
end_by whole tree (reg ∷ regs) has e =
    let some : is_empty (map fresh tree.regs) ≡ false = ap (λ (r : List SvReg). is_empty (map fresh r)) e in
    subst (λ (r : List SvReg). Goes (inside whole (with_all tree (map fresh tree.regs) tree.outs []) item_wanted) (block_text tree r ++ last_line) (between (whole ++ (tree ∷ [])))) e
    (block_back whole tree has some)

module_cut : (opening ports closing rest : List ℕ) → opening ++ (ports ++ (closing ++ rest)) ≡ (opening ++ (ports ++ closing)) ++ rest
module_cut opening ports closing rest = simp append_assoc

pub module_goes : (whole : List Module) (tree : Module) → IsTrue (is_well_formed tree) → list_any (bytes_eq tree.proc) (map (λ (m : Module). m.proc) whole) ≡ false
    → Goes (between whole) (module_text tree) (between (whole ++ (tree ∷ [])))
unfolding module_text
module_goes whole tree formed new =
    let has = facts tree formed in
    let same = same_fresh tree has in
    let behind_whole = between whole in
    let at_registers = inside whole (parts_of tree.proc tree.ports [] []) item_wanted in
    let at_nets = inside whole (parts_of tree.proc tree.ports (map fresh tree.regs) []) item_wanted in
    let at_outputs = inside whole (with_all tree (map fresh tree.regs) [] []) item_wanted in
    let at_clock = inside whole (with_all tree (map fresh tree.regs) tree.outs []) item_wanted in
    let behind = between (whole ++ (tree ∷ [])) in
    let head = opening_lines tree.proc ++ (flat_map port_lines tree.ports ++ closing_line) in
    let regs = flat_map register_line tree.regs in
    let nets = flat_map (net_lines tree) (enumerate_from 0 tree.nets) in
    let outs = flat_map (out_lines tree) (zip tree.ports tree.outs) in
    let end = clock_lines tree tree.regs ++ last_line in
    let goes_head : Goes behind_whole head at_registers = header_back whole tree.proc tree.ports has.proc_named new (ports_fit tree has) in
    let goes_registers : Goes at_registers regs at_nets = regs_back whole tree.proc tree.ports [] tree.regs (regs_fit tree has) in
    let goes_nets : Goes at_nets nets at_outputs = nets_back whole tree (map fresh tree.regs) [] tree.nets (good_parts tree has) same.names same.widths (nets_fit_whole tree has) in
    let goes_outputs : Goes at_outputs outs at_clock = outs_back whole tree (map fresh tree.regs) [] tree.ports [] tree.outs (outs_fit_whole tree has) in
    let goes_clock : Goes at_clock end behind = end_by whole tree tree.regs has refl in
    goes_same behind_whole behind (head ++ (regs ++ (nets ++ (outs ++ end)))) (module_text tree)
    (sym (module_cut (opening_lines tree.proc) (flat_map port_lines tree.ports) closing_line (regs ++ (nets ++ (outs ++ end)))))
    (goes_then behind_whole at_registers behind head (regs ++ (nets ++ (outs ++ end))) goes_head
    (goes_then at_registers at_nets behind regs (nets ++ (outs ++ end)) goes_registers
    (goes_then at_nets at_outputs behind nets (outs ++ end) goes_nets
    (goes_then at_outputs at_clock behind outs end goes_outputs goes_clock))))

pub module_read : (whole : List Module) (tree : Module) (place : ℕ) (more : List ℕ) → IsTrue (is_well_formed tree)
    → list_any (bytes_eq tree.proc) (map (λ (m : Module). m.proc) whole) ≡ false
    → read_on (between whole) place [] (module_text tree ++ more) ≡ read_on (between (whole ++ (tree ∷ []))) (place + length (module_text tree)) [] more
module_read whole tree place more formed new = (module_goes whole tree formed new).on place more
