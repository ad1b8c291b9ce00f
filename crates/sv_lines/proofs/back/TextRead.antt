-- A text that is that of modules is read as these modules, to its end; so it is the text of one list of modules. And what the
-- reading of a front of a text comes to reads the rest.
use Rattle.std.proofs.Common.{◌≡◌, ℕ, true, List, [], ◌∷◌, ◌++◌, map, ap, sym, ◌∙◌, append-nil, append_assoc}
use Rattle.std.proofs.lemmas.Bool.{and_parts}
use Rattle.std.proofs.lemmas.List.{map-append}
use Rattle.std.specs.Prelude.{bytes_eq}
use Rattle.std.specs.List.{list_all}
use Rattle.sv_tree.specs.Module.{Module}
use Rattle.sv_tree.specs.Text.{module_text, modules_text, IsTextOf}
use Rattle.sv_tree.specs.WellFormed.{is_well_formed, has_no_twice}
use Rattle.sv_lines.specs.State.{between, start}
use Rattle.sv_lines.specs.Step.{read_to_end, read_on}
use Rattle.sv_lines.proofs.back.Goes.{Goes, stays, goes_then}
use Rattle.sv_lines.proofs.back.Once.{new_behind}
use Rattle.sv_lines.proofs.back.NamesBack.{bytes_turn}
use Rattle.sv_lines.proofs.back.ModuleRead.{module_goes}

abbrev procs : List Module → List (List ℕ)
procs modules = map (λ (m : Module). m.proc) modules

pub modules_goes : (whole modules : List Module) → list_all is_well_formed modules ≡ true → has_no_twice bytes_eq (procs whole ++ procs modules) ≡ true
    → Goes (between whole) (modules_text modules) (between (whole ++ modules))
modules_goes whole [] formed differ = rw (append-nil whole) (stays (between whole))
modules_goes whole (tree ∷ modules) formed differ =
    let parts = and_parts (is_well_formed tree) (list_all is_well_formed modules) formed in
    let new = new_behind bytes_eq bytes_turn (procs whole) tree.proc (procs modules) differ in
    let names : procs (whole ++ (tree ∷ [])) ++ procs modules ≡ procs whole ++ (tree.proc ∷ procs modules) =
    ap (λ (piece : List (List ℕ)). piece ++ procs modules) (map-append (λ (m : Module). m.proc) whole (tree ∷ [])) ∙ append_assoc (procs whole) (tree.proc ∷ []) (procs modules) in
    let joined : (whole ++ (tree ∷ [])) ++ modules ≡ whole ++ (tree ∷ modules) = append_assoc whole (tree ∷ []) modules in
    let later : Goes (between (whole ++ (tree ∷ []))) (modules_text modules) (between (whole ++ (tree ∷ modules))) =
    rw joined at (modules_goes (whole ++ (tree ∷ [])) modules parts.1 (rw names differ)) in
    goes_then (between whole) (between (whole ++ (tree ∷ []))) (between (whole ++ (tree ∷ modules))) (module_text tree) (modules_text modules)
    (module_goes whole tree parts.0 new) later

pub text_read : (text : List ℕ) (modules : List Module) → IsTextOf text modules → read_on start 0 [] text ≡ read_to_end (between modules) []
text_read text modules is =
    let goes = modules_goes [] modules is.well_formed is.names_differ in
    let all : read_on start 0 [] (modules_text modules ++ []) ≡ read_to_end (between modules) [] = goes.on 0 [] in
    rw (is.written) (rw (append-nil (modules_text modules)) at all)

read_same : (one other : List Module) → read_to_end (between one) [] ≡ read_to_end (between other) [] → one ≡ other
read_same one other e = cc

pub one_list : (text : List ℕ) (one other : List Module) → IsTextOf text one → IsTextOf text other → one ≡ other
one_list text one other first second = read_same one other (sym (text_read text one first) ∙ text_read text other second)
