-- The text of a draft that is filled up: what is read of its items, the outputs that were missing, and the clock's block.
use Rattle.std.proofs.Common.{◌≡◌, ℕ, suc, ◌+◌, true, false, List, [], ◌∷◌, ◌++◌, length, map, drop, Some, refl, ap, ◌∙◌, arith, append_assoc}
use Rattle.std.proofs.lemmas.Bool.{and_parts}
use Rattle.std.proofs.lemmas.Option.{same_Some}
use Rattle.std.proofs.lemmas.Grind.{flat_map-append}
use Rattle.std.specs.Prelude.{zip, flat_map, slice_get}
use Rattle.std.specs.List.{enumerate_from}
use Rattle.sv_tree.specs.declared.tree.SvPort.{SvPort}
use Rattle.sv_tree.specs.declared.tree.SvReg.{SvReg}
use Rattle.sv_tree.specs.declared.tree.SvOperand.{SvOperand}
use Rattle.sv_tree.specs.declared.tree.SvOut.{SvOut}
use Rattle.sv_tree.specs.Module.{Module}
use Rattle.sv_tree.specs.WellFormed.{out_fits, outs_fit, nexts_fit, gives}
use Rattle.sv_tree.specs.Text.{opening_lines, port_lines, closing_line, register_line, net_lines, out_lines, reset_line, next_line, clock_opening_lines, clock_else_line, clock_closing_lines, clock_lines, last_line, module_text}
use Rattle.sv_lines.specs.State.{items_text}
use Rattle.sv_lines.specs.Step.{is_empty}
use Rattle.sv_lines.proofs.begun.Filled.{missing_out, missing_next, filled_outs, filled_nexts, filled}

-- Lists.

zip_joined : {K X : Type 0} (keys : List K) (values more : List X) → zip keys (values ++ more) ≡ zip keys values ++ zip (drop (length values) keys) more
zip_joined [] [] more = refl
zip_joined [] (value ∷ values) more = refl
zip_joined (key ∷ keys) [] more = refl
zip_joined {K = K} {X = X} (key ∷ keys) (value ∷ values) more = ap (λ (l : List (K × X)). (key, value) ∷ l) (zip_joined keys values more)

pub zip_none : {K X : Type 0} (keys : List K) (values : List X) → values ≡ [] → zip keys values ≡ []
zip_none [] values none = refl
zip_none (key ∷ keys) values none = rw none refl

pub zip_longer : {K X : Type 0} (keys : List K) (values : List X) (key : K) (value : X) → slice_get keys (length values) ≡ Some key → zip keys (values ++ (value ∷ [])) ≡ zip keys values ++ ((key, value) ∷ [])
zip_longer [] values key value there = absurd cc
zip_longer {K = K} {X = X} (first ∷ keys) [] key value there =
    ap (λ (l : List (K × X)). (first, value) ∷ l) (zip_none keys (let none : List X = [] in none) refl) ∙ ap (λ (k : K). (let pair : K × X = (k, value) in pair) ∷ []) (same_Some _ _ there)
zip_longer {K = K} {X = X} (first ∷ keys) (earlier ∷ values) key value there = ap (λ (l : List (K × X)). (first, earlier) ∷ l) (zip_longer keys values key value there)

pub enumerate_longer : {X : Type 0} (from : ℕ) (items : List X) (item : X) → enumerate_from from (items ++ (item ∷ [])) ≡ enumerate_from from items ++ ((from + length items, item) ∷ [])
enumerate_longer {X = X} from [] item = let same : from + 0 ≡ from = omega arith in rw same refl
enumerate_longer {X = X} from (first ∷ items) item =
    let later : from + suc (length items) ≡ (from + 1) + length items = omega arith in
    rw later (ap (λ (l : List (ℕ × X)). (from, first) ∷ l) (enumerate_longer (from + 1) items item))

pub outs_full : (tree : Module) (ports : List SvPort) (outs : List SvOut) → outs_fit tree ports outs ≡ true → drop (length outs) ports ≡ []
outs_full tree [] [] fit = refl
outs_full tree [] (out ∷ outs) fit = absurd cc
outs_full tree (port ∷ ports) [] fit = absurd cc
outs_full tree (port ∷ ports) (out ∷ outs) fit = outs_full tree ports outs (and_parts (out_fits tree port out) (outs_fit tree ports outs) fit).1

pub nexts_full : (tree : Module) (regs : List SvReg) (nexts : List SvOperand) → nexts_fit tree regs nexts ≡ true → drop (length nexts) regs ≡ []
nexts_full tree [] [] fit = refl
nexts_full tree [] (next ∷ nexts) fit = absurd cc
nexts_full tree (reg ∷ regs) [] fit = absurd cc
nexts_full tree (reg ∷ regs) (next ∷ nexts) fit = nexts_full tree regs nexts (and_parts (gives tree reg.width next) (nexts_fit tree regs nexts) fit).1

-- Outputs.

abbrev pub missing_lines : Module → List SvPort → List ℕ
missing_lines tree ports = flat_map (out_lines tree) (zip ports (map missing_out ports))

outs_text : (tree : Module) (ports : List SvPort) (outs : List SvOut)
    → flat_map (out_lines tree) (zip ports (filled_outs ports outs)) ≡ flat_map (out_lines tree) (zip ports outs) ++ missing_lines tree (drop (length outs) ports)
outs_text tree ports outs =
    ap (flat_map (out_lines tree)) (zip_joined ports outs (map missing_out (drop (length outs) ports)))
    ∙ flat_map-append (out_lines tree) (zip ports outs) (zip (drop (length outs) ports) (map missing_out (drop (length outs) ports)))

items_join : (opening ports closing regs nets outs missing rest : List ℕ)
    → opening ++ (ports ++ (closing ++ (regs ++ (nets ++ ((outs ++ missing) ++ rest))))) ≡ (((opening ++ ports) ++ (closing ++ (regs ++ nets))) ++ outs) ++ (missing ++ rest)
items_join opening ports closing regs nets outs missing rest = simp append_assoc

-- a draft that is filled up begins with its items
pub items_filled : (tree : Module) → module_text (filled tree) ≡ items_text tree ++ (missing_lines tree (drop (length tree.outs) tree.ports) ++ (clock_lines (filled tree) tree.regs ++ last_line))
unfolding module_text
items_filled tree =
    ap (λ outs. opening_lines tree.proc ++ (flat_map port_lines tree.ports ++ (closing_line ++ (flat_map register_line tree.regs ++ (flat_map (net_lines tree) (enumerate_from 0 tree.nets) ++ (outs ++ (clock_lines (filled tree) tree.regs ++ last_line)))))))
    (outs_text tree tree.ports tree.outs)
    ∙ items_join (opening_lines tree.proc) (flat_map port_lines tree.ports) closing_line (flat_map register_line tree.regs) (flat_map (net_lines tree) (enumerate_from 0 tree.nets))
    (flat_map (out_lines tree) (zip tree.ports tree.outs)) (missing_lines tree (drop (length tree.outs) tree.ports)) (clock_lines (filled tree) tree.regs ++ last_line)

-- The clock's block.

clock_there : (tree : Module) (regs : List SvReg) → is_empty regs ≡ false
    → clock_lines tree regs ≡ clock_opening_lines ++ (flat_map reset_line regs ++ (clock_else_line ++ (flat_map (next_line tree) (zip regs tree.nexts) ++ clock_closing_lines)))
clock_there tree [] some = absurd cc
clock_there tree (reg ∷ regs) some = refl

nexts_text : (tree : Module) (regs : List SvReg) (nexts : List SvOperand)
    → flat_map (next_line tree) (zip regs (filled_nexts regs nexts)) ≡ flat_map (next_line tree) (zip regs nexts) ++ flat_map (next_line tree) (zip (drop (length nexts) regs) (map missing_next (drop (length nexts) regs)))
nexts_text tree regs nexts =
    ap (flat_map (next_line tree)) (zip_joined regs nexts (map missing_next (drop (length nexts) regs)))
    ∙ flat_map-append (next_line tree) (zip regs nexts) (zip (drop (length nexts) regs) (map missing_next (drop (length nexts) regs)))

abbrev pub missing_nexts : Module → List SvReg → List ℕ
missing_nexts tree regs = flat_map (next_line tree) (zip regs (map missing_next regs))

-- where all outputs are read, and there is a register
pub clock_filled : (tree : Module) → outs_fit tree tree.ports tree.outs ≡ true → is_empty tree.regs ≡ false
    → module_text (filled tree) ≡ items_text tree ++ ((clock_opening_lines ++ (flat_map reset_line tree.regs ++ (clock_else_line ++ ((flat_map (next_line tree) (zip tree.regs tree.nexts)
    ++ missing_nexts tree (drop (length tree.nexts) tree.regs)) ++ clock_closing_lines)))) ++ last_line)
clock_filled tree outs some =
    items_filled tree
    ∙ ap (λ ports. items_text tree ++ (missing_lines tree ports ++ (clock_lines (filled tree) tree.regs ++ last_line))) (outs_full tree tree.ports tree.outs outs)
    ∙ ap (λ clock. items_text tree ++ (clock ++ last_line)) (clock_there (filled tree) tree.regs some)
    ∙ ap (λ nexts. items_text tree ++ ((clock_opening_lines ++ (flat_map reset_line tree.regs ++ (clock_else_line ++ (nexts ++ clock_closing_lines)))) ++ last_line)) (nexts_text tree tree.regs tree.nexts)
