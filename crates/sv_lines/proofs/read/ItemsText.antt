-- The lines of registers and nets come to the text that has been read, as `TextKept` says of all lines.
use Rattle.std.proofs.Common.{◌≡◌, ℕ, ◌-◌, Bool, true, cond, ◌&&◌, List, [], ◌∷◌, ◌++◌, length, Some, None, refl, ap, sym, ◌∙◌, append_assoc, append-nil}
use Rattle.std.proofs.lemmas.Bool.{and_parts}
use Rattle.std.specs.Prelude.{flat_map, zip, slice_get, codes, decimal, ◌==◌}
use Rattle.std.specs.List.{enumerate_from}
use Rattle.sv_tree.specs.declared.tree.SvPort.{SvPort}
use Rattle.sv_tree.specs.declared.tree.SvRegName.{SvRegName}
use Rattle.sv_tree.specs.declared.tree.SvRegName.TheVariants as register
use Rattle.sv_tree.specs.declared.tree.SvReg.{SvReg}
use Rattle.sv_tree.specs.declared.tree.SvNet.{SvNet}
use Rattle.sv_tree.specs.declared.tree.SvOut.{SvOut}
use Rattle.sv_tree.specs.Module.{Module}
use Rattle.sv_tree.specs.Text.{closing_line, register_text, op_text, register_line, net_line, net_lines, out_lines}
use Rattle.sv_lines.specs.Pieces.{after, number_at}
use Rattle.sv_lines.specs.Lines.{Label, source, state, net, Declared, declaration}
use Rattle.sv_lines.specs.Operands.{op_of, widths_fit}
use Rattle.sv_lines.specs.State.{item_wanted, assign_wanted, new_register, with_register, with_net, with_out, header_text, declared_text, items_text, some_net, draft_text}
use Rattle.sv_lines.specs.Step.{Reached, onward, added, is_empty, register_by, is_fresh, declared_by, declared_step, assign_step, has_room}
use Rattle.sv_lines.proofs.read.Decided.{passes, passes_on, number_same, then_read}
use Rattle.sv_lines.proofs.read.PiecesRead.{after_read, number_read}
use Rattle.sv_lines.proofs.read.LinesRead.{label_text, declaration_read}
use Rattle.sv_lines.proofs.read.OpsRead.{op_read}
use Rattle.sv_lines.proofs.read.SameTexts.{NamesSame, nets_same, outs_same, one_more, numbered_from_start, zip_more, zip_none}
use Rattle.sv_lines.proofs.read.FixedText.{reached_text, with_line}

pub empty : {X : Type 0} (items : List X) → is_empty items ≡ true → items ≡ []
empty [] e = refl
empty (item ∷ items) e = absurd cc

pub names_kept : (one other : Module) → one.ports ≡ other.ports → one.regs ≡ other.regs → NamesSame one other
names_kept one other ports regs = record { ports = ports; registers = λ index. rw regs refl }

register_more : (tree : Module) (reg : SvReg) → tree.nets ≡ [] → tree.outs ≡ [] → items_text (with_register tree reg) ≡ items_text tree ++ register_line reg
register_more tree reg no_nets no_outs =
    rw (no_nets, no_outs, zip_none tree.ports, one_more register_line tree.regs reg)
    (grouped (header_text tree) closing_line (flat_map register_line tree.regs) (register_line reg))
  where
    grouped : (a b c d : List ℕ) → (a ++ (b ++ ((c ++ d) ++ []))) ++ [] ≡ ((a ++ (b ++ (c ++ []))) ++ []) ++ d
    grouped a b c d = simp (append_assoc, append-nil)

net_more : (tree : Module) (added : SvNet) → tree.outs ≡ [] → items_text (with_net tree added) ≡ items_text tree ++ net_lines tree (length tree.nets, added)
net_more tree added no_outs =
    let same = nets_same (names_kept (with_net tree added) tree refl refl) in
    rw (
      same (enumerate_from 0 (tree.nets ++ (added ∷ []))),
      no_outs,
      zip_none tree.ports,
      numbered_from_start tree.nets added,
      one_more (net_lines tree) (enumerate_from 0 tree.nets) (length tree.nets, added),
    )
    (grouped (header_text tree) closing_line (flat_map register_line tree.regs) (flat_map (net_lines tree) (enumerate_from 0 tree.nets)) (net_lines tree (length tree.nets, added)))
  where
    grouped : (a b c d e : List ℕ) → (a ++ (b ++ (c ++ (d ++ e)))) ++ [] ≡ ((a ++ (b ++ (c ++ d))) ++ []) ++ e
    grouped a b c d e = simp (append_assoc, append-nil)

pub out_more : (tree : Module) (port : SvPort) (out : SvOut) → slice_get tree.ports (length tree.outs) ≡ Some port
    → items_text (with_out tree out) ≡ items_text tree ++ out_lines tree (port, out)
out_more tree port out is_port =
    let same = names_kept (with_out tree out) tree refl refl in
    rw (
      nets_same same (enumerate_from 0 tree.nets),
      outs_same same (zip tree.ports (tree.outs ++ (out ∷ []))),
      zip_more tree.ports tree.outs port out is_port,
      one_more (out_lines tree) (zip tree.ports tree.outs) (port, out),
    )
    (sym (append_assoc (declared_text tree) (flat_map (out_lines tree) (zip tree.ports tree.outs)) (out_lines tree (port, out))))

register_kept : (tree : Module) (name : SvRegName) (width : ℕ) (may_stand : Bool) (line : List ℕ) (reached : Reached)
    → line ≡ codes "  logic [" ++ (decimal (width - 1) ++ (codes ":0] " ++ (register_text name ++ codes ";"))) → tree.outs ≡ []
    → register_by tree name width may_stand ≡ Some reached → reached_text reached ≡ with_line (draft_text tree item_wanted) line
unfolding draft_text
register_kept tree name width may_stand line reached is_line no_outs e =
    let before = may_stand && is_empty tree.nets in
    let room = before && has_room (length tree.regs) in
    let passed = passes (room && is_fresh tree name) (onward (with_register tree (new_register name width)) item_wanted) reached e in
    let tests = and_parts room (is_fresh tree name) passed.holds in
    let more = and_parts may_stand (is_empty tree.nets) (and_parts before (has_room (length tree.regs)) tests.0).0 in
    rw (← passed.same, is_line)
    (register_more tree (new_register name width) (empty tree.nets more.1) no_outs
    ∙ ap (λ l. items_text tree ++ l) (grouped (codes "  logic [") (decimal (width - 1)) (codes ":0] ") (register_text name) (codes ";") (codes "\n")))
  where
    grouped : (a b c d e f : List ℕ) → a ++ (b ++ (c ++ (d ++ (e ++ f)))) ≡ (a ++ (b ++ (c ++ (d ++ e)))) ++ f
    grouped a b c d e f = simp append_assoc

net_declared : (tree : Module) (width number : ℕ) (line : List ℕ) (reached : Reached)
    → line ≡ codes "  logic [" ++ (decimal (width - 1) ++ (codes ":0] " ++ ((codes "n__" ++ decimal number) ++ codes ";")))
    → cond ((number == length tree.nets) && has_room (length tree.nets)) (Some (onward tree (assign_wanted width))) None ≡ Some reached
    → reached_text reached ≡ with_line (draft_text tree item_wanted) line
unfolding draft_text
net_declared tree width number line reached is_line e =
    let passed = passes ((number == length tree.nets) && has_room (length tree.nets)) (onward tree (assign_wanted width)) reached e in
    let tests = and_parts (number == length tree.nets) (has_room (length tree.nets)) passed.holds in
    rw (← passed.same, is_line, number_same number (length tree.nets) tests.0)
    (ap (λ l. items_text tree ++ l) (grouped (codes "  logic [") (decimal (width - 1)) (codes ":0] ") (codes "n__") (decimal (length tree.nets)) (codes ";") (codes "\n")))
  where
    grouped : (a b c d e f g : List ℕ) → a ++ (b ++ ((c ++ d) ++ (e ++ (f ++ g)))) ≡ (a ++ (b ++ (c ++ ((d ++ e) ++ f)))) ++ g
    grouped a b c d e f g = simp append_assoc

label_kept : (tree : Module) (width : ℕ) (label : Label) (line : List ℕ) (reached : Reached)
    → line ≡ codes "  logic [" ++ (decimal (width - 1) ++ (codes ":0] " ++ (label_text label ++ codes ";"))) → tree.outs ≡ []
    → declared_by tree width label ≡ Some reached → reached_text reached ≡ with_line (draft_text tree item_wanted) line
label_kept tree width (source name) line reached is_line no_outs e = register_kept tree (register.Source name) width _ line reached is_line no_outs e
label_kept tree width (state number) line reached is_line no_outs e = register_kept tree (register.State number) width _ line reached is_line no_outs e
label_kept tree width (net number) line reached is_line no_outs e = net_declared tree width number line reached is_line e

pub declared_kept : (tree : Module) (declared : Declared) (line : List ℕ) (reached : Reached) → declaration line ≡ Some declared → declared_step tree declared ≡ Some reached
    → reached_text reached ≡ with_line (draft_text tree item_wanted) line
declared_kept tree declared line reached is_declared e =
    let passed = passes_on (is_empty tree.outs) (declared_by tree declared.width declared.label) reached e in
    label_kept tree declared.width declared.label line reached (declaration_read line declared is_declared).written (empty tree.outs passed.holds) passed.same

pub assign_kept : (tree : Module) (width : ℕ) (line : List ℕ) (reached : Reached) → tree.outs ≡ [] → assign_step tree width line ≡ Some reached
    → reached_text reached ≡ with_line (draft_text tree (assign_wanted width)) line
unfolding draft_text
assign_kept tree width line reached no_outs e =
    then_read (after (codes "  assign n__") line) _ reached e (λ rest is_rest e.
    then_read (number_at rest) _ reached e (λ number is_number e.
    then_read (after (codes " = ") number.1) _ reached e (λ text is_text e.
    then_read (op_of tree text) _ reached e (λ op is_op e.
    let numbered = number.0 == length tree.nets in
    let room = has_room (length tree.nets) in
    let passed = passes ((numbered && room) && widths_fit tree width op) (onward (with_net tree (record { width = width; op = op })) item_wanted) reached e in
    let tests = and_parts numbered room (and_parts (numbered && room) (widths_fit tree width op) passed.holds).0 in
    let index : number.0 ≡ length tree.nets = number_same number.0 (length tree.nets) tests.0 in
    let stands : line ≡ codes "  assign n__" ++ (decimal (length tree.nets) ++ (codes " = " ++ (op_text tree op ++ codes ";"))) =
    rw (← index, ← (op_read tree text op is_op).written, ← after_read (codes " = ") number.1 text is_text, ← (number_read rest number is_number).written)
    (after_read (codes "  assign n__") line rest is_rest) in
    rw (← passed.same, stands)
    (net_more tree (record { width = width; op = op }) no_outs
    ∙ grouped (items_text tree) (net_line (length tree.nets) (some_net width)) (codes "  assign n__") (decimal (length tree.nets)) (codes " = ") (op_text tree op) (codes ";") (codes "\n"))))))
  where
    grouped : (a b c d e f g h : List ℕ) → a ++ (b ++ (c ++ (d ++ (e ++ (f ++ (g ++ h)))))) ≡ (a ++ b) ++ ((c ++ (d ++ (e ++ (f ++ g)))) ++ h)
    grouped a b c d e f g h = simp append_assoc
