-- The lines of the clock's block come to the text that has been read, as `TextKept` says of all lines.
use Rattle.std.proofs.Common.{◌≡◌, ℕ, ◌+◌, true, false, cond, List, [], ◌∷◌, ◌++◌, length, take, set, Option, Some, None, refl, ap, sym, ◌∙◌, append_assoc, append-nil}
use Rattle.std.proofs.lemmas.Option.{same_Some}
use Rattle.std.specs.Prelude.{flat_map, zip, slice_get, codes, bytes_eq, ◌==◌}
use Rattle.std.specs.List.{enumerate_from}
use Rattle.anvil_bits.specs.Number.{Number}
use Rattle.sv_tree.specs.declared.tree.SvRegName.{SvRegName}
use Rattle.sv_tree.specs.declared.tree.SvRegName.TheVariants as register
use Rattle.sv_tree.specs.declared.tree.SvReg.{SvReg}
use Rattle.sv_tree.specs.declared.tree.SvOperand.{SvOperand}
use Rattle.sv_tree.specs.Module.{Module}
use Rattle.sv_tree.specs.WellFormed.{is_number, operand_stands, operand_width}
use Rattle.sv_tree.specs.Text.{port_lines, opening_lines, closing_line, register_text, operand_text, literal_text, register_line, net_lines, out_lines, reset_line, next_line, clock_lines, clock_opening_lines, clock_else_line, clock_closing_lines, last_line, module_text}
use Rattle.sv_lines.specs.Pieces.{after, front_run, after_run, number_at}
use Rattle.sv_lines.specs.Operands.{literal_of, is_operand_byte, last_operand}
use Rattle.sv_lines.specs.State.{resets_wanted, nexts_wanted, end_wanted, last_wanted, reset_to, with_reset, with_next, items_text, resets_text, nexts_text, draft_text}
use Rattle.sv_lines.specs.Step.{Reached, onward, finished, is_empty, after_register, written, last_literal, reset_value_step, next_value, next_value_step}
use Rattle.sv_lines.proofs.read.Decided.{passes, bytes_same, number_same, closes, then_read}
use Rattle.sv_lines.proofs.read.PiecesRead.{after_read, run_joined, number_read}
use Rattle.sv_lines.proofs.read.OperandsRead.{literal_read, last_read}
use Rattle.sv_lines.proofs.read.SameTexts.{NamesSame, nets_same, outs_same, nexts_same, one_more, zip_more, zip_none, set_same, set_names}
use Rattle.sv_lines.proofs.read.Indices.{within, none_there}
use Rattle.std.proofs.lemmas.List.{take_all, take_more_set}
use Rattle.sv_lines.proofs.read.FixedText.{reached_text, with_line, fixed_kept, nexts_end_text}
use Rattle.sv_lines.proofs.read.ItemsText.{names_kept}

line_grouped : (a b c d e f : List ℕ) → a ++ (b ++ (c ++ (d ++ (e ++ f)))) ≡ (a ++ (b ++ (c ++ (d ++ e)))) ++ f
line_grouped a b c d e f = simp append_assoc

after_register_read : (name : SvRegName) (text rest : List ℕ) → after_register name text ≡ Some rest → text ≡ register_text name ++ rest
after_register_read (register.Source name) text rest e =
    then_read (after name text) _ rest e (λ behind is_behind e.
    after_read name text behind is_behind ∙ ap (λ l. name ++ l) (after_read (codes "__q") behind rest e) ∙ sym (append_assoc name (codes "__q") rest))
after_register_read (register.State number) text rest e =
    then_read (after (codes "s__") text) _ rest e (λ behind is_behind e.
    then_read (number_at behind) _ rest e (λ found is_found e.
    let passed = passes (found.0 == number) found.1 rest e in
    rw (← number_same found.0 number passed.holds, ← passed.same, ← (number_read behind found is_found).written) (after_read (codes "s__") text behind is_behind)))

written_read : (name : SvRegName) (line text : List ℕ) → written name line ≡ Some text → line ≡ codes "      " ++ (register_text name ++ (codes " <= " ++ text))
written_read name line text e =
    then_read (after (codes "      ") line) _ text e (λ one is_one e.
    then_read (after_register name one) _ text e (λ two is_two e.
    rw (← after_read (codes " <= ") two text e, ← after_register_read name one two is_two) (after_read (codes "      ") line one is_one)))

pub record LastLiteral (text : List ℕ) (number : Number) : Type 0 where
  pub written : text ≡ literal_text number ++ codes ";"
  pub good : is_number number ≡ true

pub last_literal_read : (text : List ℕ) (number : Number) → last_literal text ≡ Some number → LastLiteral text number
last_literal_read text number e =
    then_read (literal_of (front_run is_operand_byte text)) _ number e (λ found is_found e.
    let ended = closes (codes ";") found number (after_run is_operand_byte text) e in
    let read = literal_read (front_run is_operand_byte text) found is_found in
    rw (← ended.same) (record { written = rw (← read.written, ← ended.ends) (run_joined is_operand_byte text); good = read.good }))

reset_same : (tree : Module) (done : ℕ) (reg : SvReg) (number : Number) → slice_get tree.regs done ≡ Some reg
    → items_text (with_reset tree done (reset_to reg number)) ≡ items_text tree
reset_same tree done reg number is_reg =
    let same : NamesSame (with_reset tree done (reset_to reg number)) tree =
    record { ports = refl; registers = λ index. set_names tree.regs done index reg (reset_to reg number) is_reg refl } in
    rw (
      nets_same same (enumerate_from 0 tree.nets),
      outs_same same (zip tree.ports tree.outs),
      set_same register_line tree.regs done reg (reset_to reg number) is_reg refl,
    )
    refl

reset_more : (tree : Module) (done : ℕ) (reg : SvReg) (number : Number) → slice_get tree.regs done ≡ Some reg
    → resets_text (with_reset tree done (reset_to reg number)) (done + 1) ≡ resets_text tree done ++ reset_line (reset_to reg number)
reset_more tree done reg number is_reg =
    let now = reset_to reg number in
    ap (λ l. l ++ (clock_opening_lines ++ flat_map reset_line (take (done + 1) (set tree.regs done now)))) (reset_same tree done reg number is_reg)
    ∙ ap (λ l. items_text tree ++ (clock_opening_lines ++ l))
    (ap (flat_map reset_line) (take_more_set tree.regs done now (within tree.regs done reg is_reg)) ∙ one_more reset_line (take done tree.regs) now)
    ∙ (grouped (items_text tree) clock_opening_lines (flat_map reset_line (take done tree.regs)) (reset_line (reset_to reg number)))
  where
    grouped : (a b c d : List ℕ) → a ++ (b ++ (c ++ d)) ≡ (a ++ (b ++ c)) ++ d
    grouped a b c d = simp append_assoc

else_text : (tree : Module) (done : ℕ) → tree.nexts ≡ [] → slice_get tree.regs done ≡ None
    → draft_text tree nexts_wanted ≡ with_line (draft_text tree (resets_wanted done)) (codes "    end else begin")
unfolding draft_text
else_text tree done no_nexts is_none =
    rw (no_nexts, zip_none tree.regs, take_all done tree.regs (none_there tree.regs done is_none))
    (grouped (items_text tree) clock_opening_lines (flat_map reset_line tree.regs) clock_else_line)
  where
    grouped : (a b c d : List ℕ) → a ++ (b ++ (c ++ (d ++ []))) ≡ (a ++ (b ++ c)) ++ d
    grouped a b c d = simp (append_assoc, append-nil)

pub resets_kept : (tree : Module) (done : ℕ) (found : Option SvReg) (line : List ℕ) (reached : Reached) → tree.nexts ≡ [] → slice_get tree.regs done ≡ found
    → reset_value_step tree done found line ≡ Some reached → reached_text reached ≡ with_line (draft_text tree (resets_wanted done)) line
unfolding draft_text
resets_kept tree done (Some reg) line reached no_nexts is_reg e =
    then_read (written reg.name line) _ reached e (λ text is_text e.
    then_read (last_literal text) _ reached e (λ number is_number e.
    let passed = passes (number.width == reg.width) (onward (with_reset tree done (reset_to reg number)) (resets_wanted (done + 1))) reached e in
    rw (← passed.same, written_read reg.name line text is_text, (last_literal_read text number is_number).written)
    (reset_more tree done reg number is_reg ∙ ap (λ l. resets_text tree done ++ l) (line_grouped (codes "      ") (register_text reg.name) (codes " <= ") (literal_text number) (codes ";") (codes "\n")))))
resets_kept tree done None line reached no_nexts is_reg e =
    fixed_kept (codes "    end else begin") tree (resets_wanted done) nexts_wanted line reached (else_text tree done no_nexts is_reg) e

next_more : (tree : Module) (reg : SvReg) (x : SvOperand) → slice_get tree.regs (length tree.nexts) ≡ Some reg
    → nexts_text (with_next tree x) ≡ nexts_text tree ++ next_line tree (reg, x)
next_more tree reg x is_reg =
    let same = names_kept (with_next tree x) tree refl refl in
    rw (
      nets_same same (enumerate_from 0 tree.nets),
      outs_same same (zip tree.ports tree.outs),
      nexts_same same (zip tree.regs (tree.nexts ++ (x ∷ []))),
      zip_more tree.regs tree.nexts reg x is_reg,
      one_more (next_line tree) (zip tree.regs tree.nexts) (reg, x),
    )
    (grouped (items_text tree) clock_opening_lines (flat_map reset_line tree.regs) clock_else_line (flat_map (next_line tree) (zip tree.regs tree.nexts)) (next_line tree (reg, x)))
  where
    grouped : (a b c d e f : List ℕ) → a ++ (b ++ (c ++ (d ++ (e ++ f)))) ≡ (a ++ (b ++ (c ++ (d ++ e)))) ++ f
    grouped a b c d e f = simp append_assoc

pub record NextRead (tree : Module) (reg : SvReg) (line : List ℕ) (x : SvOperand) : Type 0 where
  pub written : line ++ codes "\n" ≡ next_line tree (reg, x)
  pub stands : operand_stands tree (length tree.nets) x ≡ true
  pub wide : (operand_width tree x == reg.width) ≡ true

pub next_read : (tree : Module) (reg : SvReg) (line : List ℕ) (x : SvOperand) → next_value tree reg line ≡ Some x → NextRead tree reg line x
next_read tree reg line x e =
    then_read (written reg.name line) _ x e (λ text is_text e.
    then_read (last_operand tree text) _ x e (λ found is_found e.
    let passed = passes (operand_width tree found == reg.width) found x e in
    let read = last_read tree text found is_found in
    rw (← passed.same)
    (record {
      written =
          ap (λ l. l ++ codes "\n") (written_read reg.name line text is_text ∙ ap (λ l. codes "      " ++ (register_text reg.name ++ (codes " <= " ++ l))) read.written)
          ∙ sym (line_grouped (codes "      ") (register_text reg.name) (codes " <= ") (operand_text tree found) (codes ";") (codes "\n"));
      stands = read.stands;
      wide = passed.holds;
    })))

pub nexts_kept : (tree : Module) (found : Option SvReg) (line : List ℕ) (reached : Reached) → slice_get tree.regs (length tree.nexts) ≡ found
    → next_value_step tree found line ≡ Some reached → reached_text reached ≡ with_line (draft_text tree nexts_wanted) line
unfolding draft_text
nexts_kept tree (Some reg) line reached is_reg e =
    then_read (next_value tree reg line) _ reached e (λ x is_x e.
    rw (← same_Some _ _ e) (next_more tree reg x is_reg ∙ ap (λ l. nexts_text tree ++ l) (sym (next_read tree reg line x is_x).written)))
nexts_kept tree None line reached is_reg e = fixed_kept (codes "    end") tree nexts_wanted end_wanted line reached (nexts_end_text tree) e

clock_text_of : (tree : Module) (regs : List SvReg) → is_empty regs ≡ false
    → clock_lines tree regs ≡ clock_opening_lines ++ (flat_map reset_line regs ++ (clock_else_line ++ (flat_map (next_line tree) (zip regs tree.nexts) ++ clock_closing_lines)))
clock_text_of tree [] e = absurd cc
clock_text_of tree (reg ∷ regs) e = refl

last_text : (tree : Module) → is_empty tree.regs ≡ false → module_text tree ≡ with_line (draft_text tree last_wanted) (codes "endmodule")
unfolding draft_text module_text
last_text tree some =
    rw (clock_text_of tree tree.regs some)
    (grouped (opening_lines tree.proc) (flat_map port_lines tree.ports) closing_line (flat_map register_line tree.regs) (flat_map (net_lines tree) (enumerate_from 0 tree.nets))
    (flat_map (out_lines tree) (zip tree.ports tree.outs)) clock_opening_lines (flat_map reset_line tree.regs) clock_else_line (flat_map (next_line tree) (zip tree.regs tree.nexts))
    clock_closing_lines last_line)
  where
    grouped : (a b c d e f g h i j k l : List ℕ)
        → a ++ (b ++ (c ++ (d ++ (e ++ (f ++ ((g ++ (h ++ (i ++ (j ++ k)))) ++ l)))))) ≡ (((((a ++ b) ++ (c ++ (d ++ e))) ++ f) ++ (g ++ (h ++ (i ++ j)))) ++ k) ++ l
    grouped a b c d e f g h i j k l = simp append_assoc

pub last_kept : (tree : Module) (line : List ℕ) (reached : Reached) → is_empty tree.regs ≡ false
    → cond (bytes_eq line (codes "endmodule")) (Some (finished tree)) None ≡ Some reached → reached_text reached ≡ with_line (draft_text tree last_wanted) line
last_kept tree line reached some e =
    let passed = passes (bytes_eq line (codes "endmodule")) (finished tree) reached e in
    rw (← passed.same, bytes_same line (codes "endmodule") passed.holds) (last_text tree some)
