-- The clock's block: each reset line gives its register its reset, and each line behind `else` gives a register its next value.
use Rattle.std.proofs.Common.{◌≡◌, ℕ, ◌+◌, true, List, [], ◌∷◌, ◌++◌, length, map, Some, refl, ap, sym, ◌∙◌, arith, append-nil, append_assoc, length-append}
use Rattle.std.proofs.lemmas.Bool.{and_parts}
use Rattle.std.proofs.Math.Seq.{set-append_seam}
use Rattle.std.specs.Prelude.{◌==◌, slice_get, codes, flat_map, zip}
use Rattle.std.specs.Char.{is_ascii_digit}
use Rattle.std.specs.List.{list_all}
use Rattle.anvil_bits.specs.Number.{Number}
use Rattle.sv_tree.specs.declared.tree.SvRegName.{SvRegName}
use Rattle.sv_tree.specs.declared.tree.SvRegName.TheVariants as register
use Rattle.sv_tree.specs.declared.tree.SvReg.{SvReg}
use Rattle.sv_tree.specs.declared.tree.SvOut.{SvOut}
use Rattle.sv_tree.specs.declared.tree.SvOperand.{SvOperand}
use Rattle.sv_tree.specs.Module.{Module}
use Rattle.sv_tree.specs.Text.{register_text, literal_text, operand_text, reset_line, next_line}
use Rattle.sv_tree.specs.WellFormed.{is_number, is_register_name, operand_width, gives, reset_fits, nexts_fit}
use Rattle.sv_lines.specs.Operands.{is_operand_byte}
use Rattle.sv_lines.specs.State.{inside, resets_wanted, nexts_wanted}
use Rattle.sv_lines.specs.Step.{onward, after_register, written, last_literal, reset_value_step, next_value_step}
use Rattle.sv_lines.proofs.read.Decided.{same_number}
use Rattle.sv_lines.proofs.read.PiecesRead.{StopsFirst, after_back, number_back, front_back, rest_back}
use Rattle.sv_lines.proofs.back.Goes.{Quiet, Goes, stays, goes_then, goes_same}
use Rattle.sv_lines.proofs.back.BytesBack.{all_pass, quiet_join, quiet_name, quiet_operand}
use Rattle.sv_lines.proofs.back.NamesBack.{is_small_name}
use Rattle.sv_lines.proofs.back.OperandsBack.{literal_back}
use Rattle.sv_lines.proofs.back.OperandTexts.{literal_is_text, register_bytes, last_operand_back}
use Rattle.sv_lines.proofs.back.OpTexts.{operand_quiet}
use Rattle.sv_lines.proofs.back.WidthsBack.{operand_width_same, operand_of_width_is}
use Rattle.sv_lines.proofs.back.HeaderBack.{goes_draft}
use Rattle.sv_lines.proofs.back.RegistersBack.{fresh}
use Rattle.sv_lines.proofs.back.OutputsBack.{seam, with_all, Same, stand_all}

-- A register's name, and what is written behind `R <= `.

after_register_back : (name : SvRegName) (rest : List ℕ) → is_small_name name ≡ true → StopsFirst is_ascii_digit rest → after_register name (register_text name ++ rest) ≡ Some rest
after_register_back (register.Source name) rest small stops =
    let joined : (name ++ codes "__q") ++ rest ≡ name ++ (codes "__q" ++ rest) = append_assoc name (codes "__q") rest in
    rw (joined, after_back name (codes "__q" ++ rest)) refl
after_register_back (register.State number) rest small stops = rw (number_back number rest small stops, same_number number) refl

-- `      R <= VALUE;`
abbrev pub register_gets : SvRegName → List ℕ → List ℕ
register_gets name value = codes "      " ++ (register_text name ++ (codes " <= " ++ (value ++ codes ";")))

written_back : (name : SvRegName) (value : List ℕ) → is_small_name name ≡ true → written name (register_gets name value) ≡ Some (value ++ codes ";")
written_back name value small = rw (after_register_back name (codes " <= " ++ (value ++ codes ";")) small refl) refl

gets_quiet : (name : SvRegName) (value : List ℕ) → is_register_name name ≡ true → is_small_name name ≡ true → Quiet value → Quiet (register_gets name value)
gets_quiet name value named small quiet =
    let last : Quiet (value ++ codes ";") = quiet_join value (codes ";") quiet refl in
    quiet_join (register_text name) (codes " <= " ++ (value ++ codes ";")) (quiet_name (register_text name) (register_bytes name named small)) last

gets_cut : (blanks name is value close feed : List ℕ) → blanks ++ (name ++ (is ++ (value ++ (close ++ feed)))) ≡ (blanks ++ (name ++ (is ++ (value ++ close)))) ++ feed
gets_cut blanks name is value close feed = simp append_assoc

-- Resets.

literal_last : (number : Number) → is_number number ≡ true → last_literal (literal_text number ++ codes ";") ≡ Some number
literal_last number good =
    let pass = all_pass is_operand_byte (literal_text number) (literal_is_text number good).bytes in
    rw (front_back is_operand_byte (literal_text number) (codes ";") pass refl, rest_back is_operand_byte (literal_text number) (codes ";") pass refl, literal_back number good) refl

pub record RegsGood (regs : List SvReg) : Type 0 where
  pub named : list_all (λ r. is_register_name r.name) regs ≡ true
  pub small : list_all (λ r. is_small_name r.name) regs ≡ true

regs_good_later : (reg : SvReg) (regs : List SvReg) → RegsGood (reg ∷ regs) → RegsGood regs
regs_good_later reg regs good = record {
  named = (and_parts (is_register_name reg.name) (list_all (λ r. is_register_name r.name) regs) good.named).1;
  small = (and_parts (is_small_name reg.name) (list_all (λ r. is_small_name r.name) regs) good.small).1;
}

-- the reset behind those of `done`
reset_value_back : (tree : Module) (outs : List SvOut) (done : List SvReg) (reg : SvReg) (regs : List SvReg) → is_small_name reg.name ≡ true → reset_fits reg ≡ true
    → reset_value_step (with_all tree (done ++ (fresh reg ∷ map fresh regs)) outs []) (length done) (Some (fresh reg)) (register_gets reg.name (literal_text reg.reset))
    ≡ Some (onward (with_all tree (done ++ (reg ∷ map fresh regs)) outs []) (resets_wanted (length done + 1)))
reset_value_back tree outs done reg regs small fits =
    let parts = and_parts (is_number reg.reset) (reg.reset.width == reg.width) fits in
    rw (
      written_back reg.name (literal_text reg.reset) small,
      literal_last reg.reset parts.0,
      parts.1,
      set-append_seam done (fresh reg) (map fresh regs) reg,
    ) refl

pub resets_back : (whole : List Module) (tree : Module) (outs : List SvOut) (done regs : List SvReg) → RegsGood regs → list_all reset_fits regs ≡ true
    → Goes (inside whole (with_all tree (done ++ map fresh regs) outs []) (resets_wanted (length done))) (flat_map reset_line regs)
    (inside whole (with_all tree (done ++ regs) outs []) (resets_wanted (length (done ++ regs))))
resets_back whole tree outs done [] good fits = rw (append-nil done) (stays (inside whole (with_all tree done outs []) (resets_wanted (length done))))
resets_back whole tree outs done (reg ∷ regs) good fits =
    let draft = with_all tree (done ++ (fresh reg ∷ map fresh regs)) outs [] in
    let next = with_all tree (done ++ (reg ∷ map fresh regs)) outs [] in
    let named = (and_parts (is_register_name reg.name) (list_all (λ r. is_register_name r.name) regs) good.named).0 in
    let small = (and_parts (is_small_name reg.name) (list_all (λ r. is_small_name r.name) regs) good.small).0 in
    let fit = and_parts (reset_fits reg) (list_all reset_fits regs) fits in
    let number_good = (and_parts (is_number reg.reset) (reg.reset.width == reg.width) fit.0).0 in
    let line = register_gets reg.name (literal_text reg.reset) in
    let begin = inside whole draft (resets_wanted (length done)) in
    let middle = inside whole next (resets_wanted (length done + 1)) in
    let end = inside whole (with_all tree (done ++ (reg ∷ regs)) outs []) (resets_wanted (length (done ++ (reg ∷ regs)))) in
    let steps : reset_value_step draft (length done) (slice_get draft.regs (length done)) line ≡ Some (onward next (resets_wanted (length done + 1))) =
    rw (seam done (fresh reg) (map fresh regs)) (reset_value_back tree outs done reg regs small fit.0) in
    let first : Goes begin (line ++ (10 ∷ [])) middle =
    goes_draft whole draft next (resets_wanted (length done)) (resets_wanted (length done + 1)) line
    (gets_quiet reg.name (literal_text reg.reset) named small (quiet_operand (literal_text reg.reset) (literal_is_text reg.reset number_good).bytes)) steps in
    let longer : length (done ++ (reg ∷ [])) ≡ length done + 1 = omega (arith, length-append done (reg ∷ [])) in
    let joined : (done ++ (reg ∷ [])) ++ map fresh regs ≡ done ++ (reg ∷ map fresh regs) = append_assoc done (reg ∷ []) (map fresh regs) in
    let joined_too : (done ++ (reg ∷ [])) ++ regs ≡ done ++ (reg ∷ regs) = append_assoc done (reg ∷ []) regs in
    let later : Goes middle (flat_map reset_line regs) end =
    rw (joined, joined_too, longer) at (resets_back whole tree outs (done ++ (reg ∷ [])) regs (regs_good_later reg regs good) fit.1) in
    let cut : reset_line reg ≡ line ++ (10 ∷ []) = gets_cut (codes "      ") (register_text reg.name) (codes " <= ") (literal_text reg.reset) (codes ";") (10 ∷ []) in
    goes_same begin end ((line ++ (10 ∷ [])) ++ flat_map reset_line regs) (flat_map reset_line (reg ∷ regs)) (ap (λ (piece : List ℕ). piece ++ flat_map reset_line regs) (sym cut))
    (goes_then begin middle end (line ++ (10 ∷ [])) (flat_map reset_line regs) first later)

-- Next values.

pub record NextsFit (tree : Module) (before regs : List SvReg) (done nexts : List SvOperand) : Type 0 where
  pub same : Same tree tree.regs
  pub all : before ++ regs ≡ tree.regs
  pub places : length before ≡ length done
  pub good : RegsGood regs
  pub fit : nexts_fit tree regs nexts ≡ true

reg_here : (tree : Module) (before : List SvReg) (reg : SvReg) (regs : List SvReg) (index : ℕ) → before ++ (reg ∷ regs) ≡ tree.regs → length before ≡ index
    → slice_get tree.regs index ≡ Some reg
reg_here tree before reg regs index all is = rw (← all, ← is) (seam before reg regs)

next_value_back : (tree : Module) (outs : List SvOut) (done : List SvOperand) (reg : SvReg) (x : SvOperand) → Same tree tree.regs → is_small_name reg.name ≡ true
    → slice_get tree.regs (length done) ≡ Some reg → gives tree reg.width x ≡ true
    → next_value_step (with_all tree tree.regs outs done) (slice_get tree.regs (length done)) (register_gets reg.name (operand_text tree x))
    ≡ Some (onward (with_all tree tree.regs outs (done ++ (x ∷ []))) nexts_wanted)
next_value_back tree outs done reg x same small there fits =
    let draft = with_all tree tree.regs outs done in
    let stand = stand_all tree tree.regs outs done same in
    let of = operand_of_width_is tree (length tree.nets) reg.width x fits in
    let last = last_operand_back tree draft (length tree.nets) x stand.good stand.has of.stands in
    let wide : operand_width draft x ≡ reg.width = operand_width_same tree draft (length tree.nets) x stand.has of.stands ∙ of.wide in
    rw (there, written_back reg.name (operand_text tree x) small, last, wide, same_number reg.width) refl

pub nexts_back : (whole : List Module) (tree : Module) (outs : List SvOut) (before regs : List SvReg) (done nexts : List SvOperand) → NextsFit tree before regs done nexts
    → Goes (inside whole (with_all tree tree.regs outs done) nexts_wanted) (flat_map (next_line tree) (zip regs nexts))
    (inside whole (with_all tree tree.regs outs (done ++ nexts)) nexts_wanted)
nexts_back whole tree outs before [] done [] fit = rw (append-nil done) (stays (inside whole (with_all tree tree.regs outs done) nexts_wanted))
nexts_back whole tree outs before [] done (x ∷ nexts) fit = let fits = fit.fit in absurd cc
nexts_back whole tree outs before (reg ∷ regs) done [] fit = let fits = fit.fit in absurd cc
nexts_back whole tree outs before (reg ∷ regs) done (x ∷ nexts) fit =
    let draft = with_all tree tree.regs outs done in
    let next = with_all tree tree.regs outs (done ++ (x ∷ [])) in
    let parts = and_parts (gives tree reg.width x) (nexts_fit tree regs nexts) fit.fit in
    let named = (and_parts (is_register_name reg.name) (list_all (λ r. is_register_name r.name) regs) fit.good.named).0 in
    let small = (and_parts (is_small_name reg.name) (list_all (λ r. is_small_name r.name) regs) fit.good.small).0 in
    let there = reg_here tree before reg regs (length done) fit.all fit.places in
    let of = operand_of_width_is tree (length tree.nets) reg.width x parts.0 in
    let places = fit.places in
    let line = register_gets reg.name (operand_text tree x) in
    let begin = inside whole draft nexts_wanted in
    let middle = inside whole next nexts_wanted in
    let end = inside whole (with_all tree tree.regs outs (done ++ (x ∷ nexts))) nexts_wanted in
    let first : Goes begin (line ++ (10 ∷ [])) middle =
    goes_draft whole draft next nexts_wanted nexts_wanted line
    (gets_quiet reg.name (operand_text tree x) named small (operand_quiet tree draft (length tree.nets) x (stand_all tree tree.regs outs done fit.same) of.stands))
    (next_value_back tree outs done reg x fit.same small there parts.0) in
    let fit_later : NextsFit tree (before ++ (reg ∷ [])) regs (done ++ (x ∷ [])) nexts = record {
      same = fit.same;
      all = append_assoc before (reg ∷ []) regs ∙ fit.all;
      places = omega (arith, length-append before (reg ∷ []), length-append done (x ∷ []));
      good = regs_good_later reg regs fit.good;
      fit = parts.1;
    } in
    let joined : (done ++ (x ∷ [])) ++ nexts ≡ done ++ (x ∷ nexts) = append_assoc done (x ∷ []) nexts in
    let later : Goes middle (flat_map (next_line tree) (zip regs nexts)) end =
    rw joined at (nexts_back whole tree outs (before ++ (reg ∷ [])) regs (done ++ (x ∷ [])) nexts fit_later) in
    let cut : next_line tree (reg, x) ≡ line ++ (10 ∷ []) = gets_cut (codes "      ") (register_text reg.name) (codes " <= ") (operand_text tree x) (codes ";") (10 ∷ []) in
    goes_same begin end ((line ++ (10 ∷ [])) ++ flat_map (next_line tree) (zip regs nexts)) (flat_map (next_line tree) (zip (reg ∷ regs) (x ∷ nexts)))
    (ap (λ (piece : List ℕ). piece ++ flat_map (next_line tree) (zip regs nexts)) (sym cut))
    (goes_then begin middle end (line ++ (10 ∷ [])) (flat_map (next_line tree) (zip regs nexts)) first later)

pub nexts_as_many : (tree : Module) (regs : List SvReg) (nexts : List SvOperand) → nexts_fit tree regs nexts ≡ true → length regs ≡ length nexts
nexts_as_many tree [] [] fits = refl
nexts_as_many tree [] (x ∷ nexts) fits = absurd cc
nexts_as_many tree (reg ∷ regs) [] fits = absurd cc
nexts_as_many tree (reg ∷ regs) (x ∷ nexts) fits =
    let later = nexts_as_many tree regs nexts (and_parts (gives tree reg.width x) (nexts_fit tree regs nexts) fits).1 in
    omega arith
