-- In the clock's block: the resets that are not read are 0, and so are the next values that are missing.
use Rattle.std.proofs.Common.{◌≡◌, ℕ, List, [], ◌++◌, length, take, drop, refl, ap, sym, ◌∙◌, append_assoc, append-nil}
use Rattle.std.proofs.lemmas.Grind.{flat_map-append}
use Rattle.std.proofs.lemmas.List.{take-append-drop}
use Rattle.std.specs.Prelude.{zip, flat_map, codes}
use Rattle.sv_tree.specs.declared.tree.SvReg.{SvReg}
use Rattle.sv_tree.specs.Module.{Module}
use Rattle.sv_tree.specs.Text.{reset_line, next_line, clock_opening_lines, clock_else_line, clock_closing_lines, last_line, module_text}
use Rattle.sv_lines.specs.State.{items_text, draft_text, test_wanted, resets_wanted, nexts_wanted, end_wanted, last_wanted}
use Rattle.sv_lines.proofs.kept.KeptDrafts.{Drafted, Clocked, ResetsWanted, ResetsBegun, Ended}
use Rattle.sv_lines.proofs.begun.Filled.{filled, filled_finished}
use Rattle.sv_lines.proofs.begun.FilledText.{nexts_full, missing_nexts, clock_filled}
use Rattle.sv_lines.proofs.begun.Begun.{Completed}

abbrev resets : Module → List ℕ
resets tree = flat_map reset_line tree.regs

abbrev nexts : Module → List ℕ
nexts tree = flat_map (next_line tree) (zip tree.regs tree.nexts)

abbrev missing : Module → List ℕ
missing tree = missing_nexts tree (drop (length tree.nexts) tree.regs)

test_join : (items first second rest last : List ℕ) → items ++ (((first ++ second) ++ rest) ++ last) ≡ (items ++ first) ++ (second ++ (rest ++ last))
test_join items first second rest last = simp append_assoc

pub test_begun : (whole : List Module) (draft : Module) → Drafted whole draft → ResetsWanted draft → Completed whole draft test_wanted
unfolding draft_text
test_begun whole draft drafted at =
    let rest = resets draft ++ (clock_else_line ++ ((nexts draft ++ missing draft) ++ clock_closing_lines)) in
    record {
      tree = filled draft;
      finished = filled_finished whole draft drafted;
      rest = codes "    if (!rst_ni) begin\n" ++ (rest ++ last_line);
      written =
          clock_filled draft at.clocked.outs at.clocked.some
          ∙ test_join (items_text draft) (codes "  always_ff @(posedge clk_i) begin\n") (codes "    if (!rst_ni) begin\n") rest last_line;
    }

resets_join : (items opening done others rest last : List ℕ) → items ++ ((opening ++ ((done ++ others) ++ rest)) ++ last) ≡ (items ++ (opening ++ done)) ++ (others ++ (rest ++ last))
resets_join items opening done others rest last = simp append_assoc

resets_parted : (regs : List SvReg) (done : ℕ) → flat_map reset_line regs ≡ flat_map reset_line (take done regs) ++ flat_map reset_line (drop done regs)
resets_parted regs done = ap (flat_map reset_line) (sym (take-append-drop done regs)) ∙ flat_map-append reset_line (take done regs) (drop done regs)

pub resets_begun : (whole : List Module) (draft : Module) (done : ℕ) → Drafted whole draft → ResetsBegun draft done → Completed whole draft (resets_wanted done)
unfolding draft_text
resets_begun whole draft done drafted at =
    let rest = clock_else_line ++ ((nexts draft ++ missing draft) ++ clock_closing_lines) in
    let others = flat_map reset_line (drop done draft.regs) in
    record {
      tree = filled draft;
      finished = filled_finished whole draft drafted;
      rest = others ++ (rest ++ last_line);
      written =
          clock_filled draft at.wanted.clocked.outs at.wanted.clocked.some
          ∙ ap (λ lines. items_text draft ++ ((clock_opening_lines ++ (lines ++ rest)) ++ last_line)) (resets_parted draft.regs done)
          ∙ resets_join (items_text draft) clock_opening_lines (flat_map reset_line (take done draft.regs)) others rest last_line;
    }

nexts_join : (items opening resets other done others rest last : List ℕ)
    → items ++ ((opening ++ (resets ++ (other ++ ((done ++ others) ++ rest)))) ++ last) ≡ (items ++ (opening ++ (resets ++ (other ++ done)))) ++ (others ++ (rest ++ last))
nexts_join items opening resets other done others rest last = simp append_assoc

pub nexts_begun : (whole : List Module) (draft : Module) → Drafted whole draft → Clocked draft → Completed whole draft nexts_wanted
unfolding draft_text
nexts_begun whole draft drafted at = record {
  tree = filled draft;
  finished = filled_finished whole draft drafted;
  rest = missing draft ++ (clock_closing_lines ++ last_line);
  written =
      clock_filled draft at.outs at.some
      ∙ nexts_join (items_text draft) clock_opening_lines (resets draft) clock_else_line (nexts draft) (missing draft) clock_closing_lines last_line;
}

end_join : (items opening resets other done first second last : List ℕ)
    → items ++ ((opening ++ (resets ++ (other ++ ((done ++ []) ++ (first ++ second))))) ++ last) ≡ ((items ++ (opening ++ (resets ++ (other ++ done)))) ++ first) ++ (second ++ last)
end_join items opening resets other done first second last = simp (append_assoc, append-nil)

-- where all next values are read
ended_filled : (draft : Module) (first second : List ℕ) → Ended draft → clock_closing_lines ≡ first ++ second
    → module_text (filled draft) ≡ ((items_text draft ++ (clock_opening_lines ++ (resets draft ++ (clock_else_line ++ nexts draft)))) ++ first) ++ (second ++ last_line)
ended_filled draft first second at is =
    clock_filled draft at.clocked.outs at.clocked.some
    ∙ ap (λ (regs : List SvReg). items_text draft ++ ((clock_opening_lines ++ (resets draft ++ (clock_else_line ++ ((nexts draft ++ missing_nexts draft regs) ++ clock_closing_lines)))) ++ last_line))
    (nexts_full draft draft.regs draft.nexts at.nexts)
    ∙ ap (λ closing. items_text draft ++ ((clock_opening_lines ++ (resets draft ++ (clock_else_line ++ ((nexts draft ++ []) ++ closing)))) ++ last_line)) is
    ∙ end_join (items_text draft) clock_opening_lines (resets draft) clock_else_line (nexts draft) first second last_line

pub end_begun : (whole : List Module) (draft : Module) → Drafted whole draft → Ended draft → Completed whole draft end_wanted
unfolding draft_text
end_begun whole draft drafted at = record {
  tree = filled draft;
  finished = filled_finished whole draft drafted;
  rest = codes "  end\n" ++ last_line;
  written = ended_filled draft (codes "    end\n") (codes "  end\n") at refl;
}

pub last_begun : (whole : List Module) (draft : Module) → Drafted whole draft → Ended draft → Completed whole draft last_wanted
unfolding draft_text
last_begun whole draft drafted at = record {
  tree = filled draft;
  finished = filled_finished whole draft drafted;
  rest = last_line;
  written = ended_filled draft (codes "    end\n  end\n") [] at refl;
}
