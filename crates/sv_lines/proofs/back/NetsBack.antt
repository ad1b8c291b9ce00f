-- The nets: the declaration and the `assign` of each bring the draft one net more. Its operator reads earlier nets alone, and
-- the draft has those.
use Rattle.std.proofs.Common.{◌≡◌, ℕ, ◌+◌, ◌-◌, ◌<◌, ◌^◌, true, List, [], ◌∷◌, ◌++◌, length, map, Some, refl, ap, sym, ◌∙◌, arith, append-nil, append_assoc, length-append}
use Rattle.std.proofs.lemmas.Bool.{and_parts}
use Rattle.std.proofs.Math.ListN.{get_or-append}
use Rattle.std.proofs.lemmas.List.{map-append, length-map}
use Rattle.std.proofs.lemmas.Bool.Decides.{nat_tests}
use Rattle.std.specs.Prelude.{nat_lt, slice_index, codes, decimal, flat_map}
use Rattle.std.specs.List.{list_all, enumerate_from}
use Rattle.anvil_lexer.specs.GoodName.{is_name_byte}
use Rattle.sv_tree.specs.declared.tree.SvReg.{SvReg}
use Rattle.sv_tree.specs.declared.tree.SvNet.{SvNet}
use Rattle.sv_tree.specs.declared.tree.SvOp.{SvOp}
use Rattle.sv_tree.specs.Limits.{too_many}
use Rattle.sv_tree.specs.Module.{Module}
use Rattle.sv_tree.specs.Text.{op_text, net_text, net_line, net_assign_line, net_lines}
use Rattle.sv_tree.specs.WellFormed.{is_width, register_names, op_fits, nets_fit}
use Rattle.sv_lines.specs.Lines.{net}
use Rattle.sv_lines.specs.State.{inside, item_wanted, assign_wanted}
use Rattle.sv_lines.specs.Step.{onward, item_step, assign_step}
use Rattle.sv_lines.proofs.read.Decided.{same_number}
use Rattle.sv_lines.proofs.read.PiecesRead.{number_back}
use Rattle.sv_lines.proofs.back.Goes.{Goes, stays, goes_then, goes_same}
use Rattle.sv_lines.proofs.back.BytesBack.{all_join, name_digits, quiet_join, quiet_decimal}
use Rattle.sv_lines.proofs.back.NamesBack.{GoodParts, Known}
use Rattle.sv_lines.proofs.back.OperandsBack.{net_label_back}
use Rattle.sv_lines.proofs.back.OpsBack.{Stand, op_back}
use Rattle.sv_lines.proofs.back.OpTexts.{op_quiet}
use Rattle.sv_lines.proofs.back.WidthsBack.{op_widths_fit}
use Rattle.sv_lines.proofs.back.HeaderBack.{goes_draft}
use Rattle.sv_lines.proofs.back.RegistersBack.{declared_line, declaration_back, declared_quiet, declared_cut, parts_of}

-- what a draft with the first nets of a module knows
pub known_front : (tree : Module) (regs : List SvReg) (done later : List SvNet) → register_names (parts_of tree.proc tree.ports regs done) ≡ register_names tree
    → map (λ r. r.width) regs ≡ map (λ r. r.width) tree.regs → done ++ later ≡ tree.nets → Known (parts_of tree.proc tree.ports regs done) tree (length done)
known_front tree regs done later names widths joined = record {
  ports_same = refl;
  names_same = names;
  nets_known = refl;
  nets_within = let total : length (done ++ later) ≡ length tree.nets = ap length joined in omega (arith, length-append done later);
  regs_wide = widths;
  nets_wide = λ index below.
      let all : map (λ (n : SvNet). n.width) done ++ map (λ (n : SvNet). n.width) later ≡ map (λ (n : SvNet). n.width) tree.nets =
      sym (map-append (λ (n : SvNet). n.width) done later) ∙ ap (map (λ (n : SvNet). n.width)) joined in
      let within : index < length (map (λ (n : SvNet). n.width) done) = omega (arith, length-map done (λ (n : SvNet). n.width)) in
      sym (get_or-append (map (λ (n : SvNet). n.width) done) (map (λ (n : SvNet). n.width) later) 0 index within) ∙ ap (λ (piece : List ℕ). slice_index piece index) all;
}

-- `  assign n__K = OP;`
abbrev net_assign : Module → (index : ℕ) → SvOp → List ℕ
net_assign tree index op = codes "  assign n__" ++ (decimal index ++ (codes " = " ++ (op_text tree op ++ codes ";")))

net_declared : (tree : Module) (regs : List SvReg) (done : List SvNet) (width : ℕ) → is_width width ≡ true → nat_lt (length done + 1) too_many ≡ true
    → item_step (parts_of tree.proc tree.ports regs done) (declared_line width (net_text (length done)))
    ≡ Some (onward (parts_of tree.proc tree.ports regs done) (assign_wanted width))
net_declared tree regs done width wide room =
    let small : length done < 2 ^ 64 = grind (arith, nat_tests) in
    let bytes : list_all is_name_byte (net_text (length done)) ≡ true = all_join is_name_byte (codes "n__") (decimal (length done)) refl (name_digits (length done) small) in
    let read = declaration_back width (net_text (length done)) (net (length done)) wide bytes (net_label_back (length done) small) in
    rw (read, same_number (length done), room) refl

net_assigned : (tree : Module) (regs : List SvReg) (done : List SvNet) (one : SvNet) → Stand tree (parts_of tree.proc tree.ports regs done) (length done)
    → op_fits tree (length done) one.width one.op ≡ true → nat_lt (length done + 1) too_many ≡ true
    → assign_step (parts_of tree.proc tree.ports regs done) one.width (net_assign tree (length done) one.op)
    ≡ Some (onward (parts_of tree.proc tree.ports regs (done ++ (one ∷ []))) item_wanted)
net_assigned tree regs done one stand fits room =
    let draft = parts_of tree.proc tree.ports regs done in
    let small : nat_lt (length done) (2 ^ 64) ≡ true = grind (arith, nat_tests) in
    let number = number_back (length done) (codes " = " ++ (op_text tree one.op ++ codes ";")) small refl in
    let op = op_back tree draft (length done) one.width one.op stand fits in
    let wide = op_widths_fit tree draft (length done) one.width one.op stand.has fits in
    rw (number, op, same_number (length done), room, wide) refl

assign_cut : (assign index is op close feed : List ℕ) → assign ++ (index ++ (is ++ (op ++ (close ++ feed)))) ≡ (assign ++ (index ++ (is ++ (op ++ close)))) ++ feed
assign_cut assign index is op close feed = simp append_assoc

pub record NetsFit (tree : Module) (done nets : List SvNet) : Type 0 where
  pub fit : nets_fit tree (length done) nets ≡ true
  pub wide : list_all (λ n. is_width n.width) nets ≡ true
  pub all : done ++ nets ≡ tree.nets
  pub few : length tree.nets < too_many

abbrev pub lines_from : Module → ℕ → List SvNet → List ℕ
lines_from tree index nets = flat_map (net_lines tree) (enumerate_from index nets)

nets_fit_later : (tree : Module) (done : List SvNet) (one : SvNet) (nets : List SvNet) → NetsFit tree done (one ∷ nets) → NetsFit tree (done ++ (one ∷ [])) nets
nets_fit_later tree done one nets fit =
    let fits = and_parts (op_fits tree (length done) one.width one.op) (nets_fit tree (length done + 1) nets) fit.fit in
    let wide = and_parts (is_width one.width) (list_all (λ n. is_width n.width) nets) fit.wide in
    let longer : length (done ++ (one ∷ [])) ≡ length done + 1 = omega (arith, length-append done (one ∷ [])) in
    record {
      fit = rw longer fits.1;
      wide = wide.1;
      all = append_assoc done (one ∷ []) nets ∙ fit.all;
      few = fit.few;
    }

two_lines : (tree : Module) (index : ℕ) (one : SvNet) (rest : List ℕ) → net_lines tree (index, one) ++ rest
    ≡ (declared_line one.width (net_text index) ++ (10 ∷ [])) ++ ((net_assign tree index one.op ++ (10 ∷ [])) ++ rest)
two_lines tree index one rest =
    let declared : net_line index one ≡ declared_line one.width (net_text index) ++ (10 ∷ []) =
    declared_cut (codes "  logic [") (decimal (one.width - 1)) (codes ":0] ") (net_text index) (codes ";") (10 ∷ []) in
    let assigned : net_assign_line tree index one ≡ net_assign tree index one.op ++ (10 ∷ []) =
    assign_cut (codes "  assign n__") (decimal index) (codes " = ") (op_text tree one.op) (codes ";") (10 ∷ []) in
    append_assoc (net_line index one) (net_assign_line tree index one) rest
    ∙ (ap (λ (piece : List ℕ). piece ++ (net_assign_line tree index one ++ rest)) declared
    ∙ ap (λ (piece : List ℕ). (declared_line one.width (net_text index) ++ (10 ∷ [])) ++ (piece ++ rest)) assigned)

pub nets_back : (whole : List Module) (tree : Module) (regs : List SvReg) (done nets : List SvNet) → GoodParts tree
    → map (λ r. r.name) regs ≡ register_names tree → map (λ r. r.width) regs ≡ map (λ r. r.width) tree.regs → NetsFit tree done nets
    → Goes (inside whole (parts_of tree.proc tree.ports regs done) item_wanted) (lines_from tree (length done) nets)
    (inside whole (parts_of tree.proc tree.ports regs (done ++ nets)) item_wanted)
nets_back whole tree regs done [] good names widths fit = rw (append-nil done) (stays (inside whole (parts_of tree.proc tree.ports regs done) item_wanted))
nets_back whole tree regs done (one ∷ nets) good names widths fit =
    let draft = parts_of tree.proc tree.ports regs done in
    let next = parts_of tree.proc tree.ports regs (done ++ (one ∷ [])) in
    let fits = (and_parts (op_fits tree (length done) one.width one.op) (nets_fit tree (length done + 1) nets) fit.fit).0 in
    let wide = (and_parts (is_width one.width) (list_all (λ n. is_width n.width) nets) fit.wide).0 in
    let longer : length (done ++ (one ∷ [])) ≡ length done + 1 = omega (arith, length-append done (one ∷ [])) in
    let joined : (done ++ (one ∷ [])) ++ nets ≡ done ++ (one ∷ nets) = append_assoc done (one ∷ []) nets in
    let few = fit.few in
    let total : length done + length (one ∷ nets) ≡ length tree.nets = sym (length-append done (one ∷ nets)) ∙ ap length fit.all in
    let room : nat_lt (length done + 1) too_many ≡ true = grind (arith, nat_tests) in
    let small : length done < 2 ^ 64 = omega arith in
    let stand : Stand tree draft (length done) = record { good = good; has = known_front tree regs done (one ∷ nets) names widths fit.all } in
    let bytes : list_all is_name_byte (net_text (length done)) ≡ true = all_join is_name_byte (codes "n__") (decimal (length done)) refl (name_digits (length done) small) in
    let declared = declared_line one.width (net_text (length done)) in
    let assigned = net_assign tree (length done) one.op in
    let begin = inside whole draft item_wanted in
    let between_two = inside whole draft (assign_wanted one.width) in
    let middle = inside whole next item_wanted in
    let end = inside whole (parts_of tree.proc tree.ports regs (done ++ (one ∷ nets))) item_wanted in
    let later_text = lines_from tree (length done + 1) nets in
    let first : Goes begin (declared ++ (10 ∷ [])) between_two =
    goes_draft whole draft draft item_wanted (assign_wanted one.width) declared (declared_quiet one.width (net_text (length done)) wide bytes)
    (net_declared tree regs done one.width wide room) in
    let second : Goes between_two (assigned ++ (10 ∷ [])) middle =
    goes_draft whole draft next (assign_wanted one.width) item_wanted assigned
    (quiet_join (decimal (length done)) (codes " = " ++ (op_text tree one.op ++ codes ";")) (quiet_decimal (length done) small)
    (quiet_join (op_text tree one.op) (codes ";") (op_quiet tree draft (length done) one.width one.op stand fits) refl))
    (net_assigned tree regs done one stand fits room) in
    let later : Goes middle later_text end =
    rw (longer, joined) at (nets_back whole tree regs (done ++ (one ∷ [])) nets good names widths (nets_fit_later tree done one nets fit)) in
    goes_same begin end ((declared ++ (10 ∷ [])) ++ ((assigned ++ (10 ∷ [])) ++ later_text)) (lines_from tree (length done) (one ∷ nets))
    (sym (two_lines tree (length done) one later_text))
    (goes_then begin between_two end (declared ++ (10 ∷ [])) ((assigned ++ (10 ∷ [])) ++ later_text) first
    (goes_then between_two middle end (assigned ++ (10 ∷ [])) later_text second later))
