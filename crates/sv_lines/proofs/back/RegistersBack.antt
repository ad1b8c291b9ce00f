-- The declarations of registers: each line brings the draft one register more, with the reset 0. Sources stand before
-- states, and a state's number is how many states stand before it.
use Rattle.std.proofs.Common.{◌≡◌, ℕ, ◌+◌, ◌-◌, ◌<◌, ◌^◌, true, false, List, [], ◌∷◌, ◌++◌, length, map, Some, refl, ap, sym, ◌∙◌, arith, append-nil, append_assoc, length-append}
use Rattle.std.proofs.lemmas.Bool.{and_parts}
use Rattle.std.proofs.lemmas.List.{map-append}
use Rattle.std.proofs.lemmas.Bool.Decides.{nat_tests}
use Rattle.std.specs.Prelude.{◌==◌, nat_lt, codes, decimal, flat_map}
use Rattle.std.specs.List.{list_all, list_any}
use Rattle.anvil_lexer.specs.GoodName.{is_name_byte}
use Rattle.sv_tree.specs.declared.tree.SvPort.{SvPort}
use Rattle.sv_tree.specs.declared.tree.SvRegName.{SvRegName}
use Rattle.sv_tree.specs.declared.tree.SvRegName.TheVariants as register
use Rattle.sv_tree.specs.declared.tree.SvReg.{SvReg}
use Rattle.sv_tree.specs.declared.tree.SvNet.{SvNet}
use Rattle.sv_tree.specs.Limits.{too_many}
use Rattle.sv_tree.specs.Module.{Module}
use Rattle.sv_tree.specs.Text.{register_text, register_line}
use Rattle.sv_tree.specs.WellFormed.{is_width, is_register_name, has_no_twice, is_same_register, register_names, are_states_from, sources_then_states}
use Rattle.sv_lines.specs.Lines.{Label, source, state, label_of, declaration}
use Rattle.sv_lines.specs.State.{inside, item_wanted, new_register}
use Rattle.sv_lines.specs.Step.{onward, state_count, item_step}
use Rattle.sv_lines.proofs.read.Decided.{number_same, same_number}
use Rattle.sv_lines.proofs.read.PiecesRead.{range_back, front_back, rest_back}
use Rattle.sv_lines.proofs.back.Goes.{Quiet, Goes, stays, goes_then, goes_same}
use Rattle.sv_lines.proofs.back.BytesBack.{all_pass, quiet_join, quiet_decimal, quiet_name}
use Rattle.sv_lines.proofs.back.Once.{new_behind}
use Rattle.sv_lines.proofs.back.NamesBack.{is_small_name, register_turns}
use Rattle.sv_lines.proofs.back.OperandsBack.{source_label_back, state_label_back}
use Rattle.sv_lines.proofs.back.OperandTexts.{register_bytes}
use Rattle.sv_lines.proofs.back.HeaderLines.{width_is}
use Rattle.sv_lines.proofs.back.HeaderBack.{goes_draft}

-- The line of a declaration.

abbrev pub declared_line : (width : ℕ) → List ℕ → List ℕ
declared_line width text = codes "  logic [" ++ (decimal (width - 1) ++ (codes ":0] " ++ (text ++ codes ";")))

pub declaration_back : (width : ℕ) (text : List ℕ) (label : Label) → is_width width ≡ true → list_all is_name_byte text ≡ true → label_of text ≡ Some label
    → declaration (declared_line width text) ≡ Some (record { width = width; label = label })
declaration_back width text label wide all read =
    let is_wide = width_is width wide in
    let pass = all_pass is_name_byte text all in
    rw (
      range_back (width - 1) (text ++ codes ";") is_wide.within,
      front_back is_name_byte text (codes ";") pass refl,
      rest_back is_name_byte text (codes ";") pass refl,
      read,
      is_wide.back,
    ) refl

pub declared_quiet : (width : ℕ) (text : List ℕ) → is_width width ≡ true → list_all is_name_byte text ≡ true → Quiet (declared_line width text)
declared_quiet width text wide all =
    let within = (width_is width wide).within in
    let small : width - 1 < 2 ^ 64 = omega arith in
    quiet_join (decimal (width - 1)) (codes ":0] " ++ (text ++ codes ";")) (quiet_decimal (width - 1) small) (quiet_join text (codes ";") (quiet_name text all) refl)

pub declared_cut : (logic high colon text close feed : List ℕ) → logic ++ (high ++ (colon ++ (text ++ (close ++ feed)))) ≡ (logic ++ (high ++ (colon ++ (text ++ close)))) ++ feed
declared_cut logic high colon text close feed = simp append_assoc

-- Registers in order.

pub data Ordered (count : ℕ) (names : List SvRegName) : Type 0 where
  sources : count ≡ 0 → sources_then_states names ≡ true → Ordered count names
  states : are_states_from count names ≡ true → Ordered count names

abbrev MayStand : List SvRegName → SvRegName → Type 0
MayStand done (register.Source name) = state_count done ≡ 0
MayStand done (register.State number) = number ≡ state_count done

count_source : (done : List SvRegName) (name : List ℕ) → state_count (done ++ (register.Source name ∷ [])) ≡ state_count done
count_source [] name = refl
count_source (register.Source other ∷ done) name = count_source done name
count_source (register.State number ∷ done) name = ap (λ n. n + 1) (count_source done name)

count_state : (done : List SvRegName) (number : ℕ) → state_count (done ++ (register.State number ∷ [])) ≡ state_count done + 1
count_state [] number = refl
count_state (register.Source other ∷ done) number = count_state done number
count_state (register.State other ∷ done) number = ap (λ n. n + 1) (count_state done number)

record Next (done : List SvRegName) (name : SvRegName) (rest : List SvRegName) : Type 0 where
  may_stand : MayStand done name
  ordered : Ordered (state_count (done ++ (name ∷ []))) rest

ordered_next : (done : List SvRegName) (name : SvRegName) (rest : List SvRegName) → Ordered (state_count done) (name ∷ rest) → Next done name rest
ordered_next done (register.Source name) rest (sources none order) = record { may_stand = none; ordered = sources (count_source done name ∙ none) order }
ordered_next done (register.Source name) rest (states order) = absurd cc
ordered_next done (register.State number) rest (sources none order) =
    let parts = and_parts (number == 0) (are_states_from (0 + 1) rest) order in
    let is : number ≡ state_count done = number_same number 0 parts.0 ∙ sym none in
    let longer : state_count (done ++ (register.State number ∷ [])) ≡ 1 = count_state done number ∙ ap (λ n. n + 1) none in
    record { may_stand = is; ordered = rw longer (states parts.1) }
ordered_next done (register.State number) rest (states order) =
    let parts = and_parts (number == state_count done) (are_states_from (state_count done + 1) rest) order in
    record { may_stand = number_same number (state_count done) parts.0; ordered = rw (count_state done number) (states parts.1) }

-- a module of which the registers are declared, and some nets
abbrev pub parts_of : List ℕ → List SvPort → List SvReg → List SvNet → Module
parts_of proc ports regs nets = record { proc = proc; ports = ports; regs = regs; nets = nets; outs = []; nexts = [] }

register_step : (proc : List ℕ) (ports : List SvPort) (done : List SvReg) (name : SvRegName) (width : ℕ) → is_register_name name ≡ true → is_small_name name ≡ true
    → is_width width ≡ true → MayStand (register_names (parts_of proc ports done [])) name
    → list_any (is_same_register name) (register_names (parts_of proc ports done [])) ≡ false → nat_lt (length done + 1) too_many ≡ true
    → item_step (parts_of proc ports done []) (declared_line width (register_text name))
    ≡ Some (onward (parts_of proc ports (done ++ (new_register name width ∷ [])) []) item_wanted)
register_step proc ports done (register.Source name) width good small wide stands new room =
    let text = register_text (register.Source name) in
    let read = declaration_back width text (source name) wide (register_bytes (register.Source name) good small) (source_label_back name good) in
    rw (read, stands, room, new) refl
register_step proc ports done (register.State number) width good small wide stands new room =
    let below : number < 2 ^ 64 = grind (arith, nat_tests) in
    let text = register_text (register.State number) in
    let read = declaration_back width text (state number) wide (register_bytes (register.State number) good small) (state_label_back number below) in
    let counted : (number == state_count (register_names (parts_of proc ports done []))) ≡ true = rw (← stands) (same_number number) in
    rw (read, counted, room, new) refl

-- a register as its declaration tells it
abbrev pub fresh : SvReg → SvReg
fresh reg = new_register reg.name reg.width

pub record RegsFit (done : List SvReg) (regs : List SvReg) : Type 0 where
  pub named : list_all (λ r. is_register_name r.name) regs ≡ true
  pub small : list_all (λ r. is_small_name r.name) regs ≡ true
  pub wide : list_all (λ r. is_width r.width) regs ≡ true
  pub once : has_no_twice is_same_register (map (λ r. r.name) done ++ map (λ r. r.name) regs) ≡ true
  pub few : length done + length regs < too_many
  pub order : Ordered (state_count (map (λ r. r.name) done)) (map (λ r. r.name) regs)

abbrev names_of : List SvReg → List SvRegName
names_of regs = map (λ (r : SvReg). r.name) regs

regs_fit_later : (done : List SvReg) (reg : SvReg) (regs : List SvReg) → RegsFit done (reg ∷ regs) → Ordered (state_count (names_of done ++ (reg.name ∷ []))) (names_of regs)
    → RegsFit (done ++ (fresh reg ∷ [])) regs
regs_fit_later done reg regs fit order =
    let named = and_parts (is_register_name reg.name) (list_all (λ r. is_register_name r.name) regs) fit.named in
    let small = and_parts (is_small_name reg.name) (list_all (λ r. is_small_name r.name) regs) fit.small in
    let wide = and_parts (is_width reg.width) (list_all (λ r. is_width r.width) regs) fit.wide in
    let names : names_of (done ++ (fresh reg ∷ [])) ≡ names_of done ++ (reg.name ∷ []) = map-append (λ (r : SvReg). r.name) done (fresh reg ∷ []) in
    let joined : (names_of done ++ (reg.name ∷ [])) ++ names_of regs ≡ names_of done ++ (reg.name ∷ names_of regs) = append_assoc (names_of done) (reg.name ∷ []) (names_of regs) in
    let few = fit.few in
    record {
      named = named.1;
      small = small.1;
      wide = wide.1;
      once = rw (names, joined) fit.once;
      few = omega (arith, length-append done (fresh reg ∷ []));
      order = rw names order;
    }

pub regs_back : (whole : List Module) (proc : List ℕ) (ports : List SvPort) (done regs : List SvReg) → RegsFit done regs
    → Goes (inside whole (parts_of proc ports done []) item_wanted) (flat_map register_line regs) (inside whole (parts_of proc ports (done ++ map fresh regs) []) item_wanted)
regs_back whole proc ports done [] fit = rw (append-nil done) (stays (inside whole (parts_of proc ports done []) item_wanted))
regs_back whole proc ports done (reg ∷ regs) fit =
    let named = (and_parts (is_register_name reg.name) (list_all (λ r. is_register_name r.name) regs) fit.named).0 in
    let small = (and_parts (is_small_name reg.name) (list_all (λ r. is_small_name r.name) regs) fit.small).0 in
    let wide = (and_parts (is_width reg.width) (list_all (λ r. is_width r.width) regs) fit.wide).0 in
    let next = ordered_next (names_of done) reg.name (names_of regs) fit.order in
    let new = new_behind is_same_register register_turns (names_of done) reg.name (names_of regs) fit.once in
    let few = fit.few in
    let room : nat_lt (length done + 1) too_many ≡ true = grind (arith, nat_tests) in
    let joined : (done ++ (fresh reg ∷ [])) ++ map fresh regs ≡ done ++ (fresh reg ∷ map fresh regs) = append_assoc done (fresh reg ∷ []) (map fresh regs) in
    let text = register_text reg.name in
    let line = declared_line reg.width text in
    let begin = inside whole (parts_of proc ports done []) item_wanted in
    let middle = inside whole (parts_of proc ports (done ++ (fresh reg ∷ [])) []) item_wanted in
    let end = inside whole (parts_of proc ports (done ++ (fresh reg ∷ map fresh regs)) []) item_wanted in
    let first : Goes begin (line ++ (10 ∷ [])) middle =
    goes_draft whole (parts_of proc ports done []) (parts_of proc ports (done ++ (fresh reg ∷ [])) []) item_wanted item_wanted line
    (declared_quiet reg.width text wide (register_bytes reg.name named small))
    (register_step proc ports done reg.name reg.width named small wide next.may_stand new room) in
    let later : Goes middle (flat_map register_line regs) end =
    rw joined at (regs_back whole proc ports (done ++ (fresh reg ∷ [])) regs (regs_fit_later done reg regs fit next.ordered)) in
    let cut : register_line reg ≡ line ++ (10 ∷ []) = declared_cut (codes "  logic [") (decimal (reg.width - 1)) (codes ":0] ") text (codes ";") (10 ∷ []) in
    goes_same begin end ((line ++ (10 ∷ [])) ++ flat_map register_line regs) (flat_map register_line (reg ∷ regs))
    (ap (λ (piece : List ℕ). piece ++ flat_map register_line regs) (sym cut)) (goes_then begin middle end (line ++ (10 ∷ [])) (flat_map register_line regs) first later)
