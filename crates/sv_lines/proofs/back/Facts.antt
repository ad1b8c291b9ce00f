-- What a well-formed module keeps, part by part, as the lemmas on its lines want it.
use Rattle.std.proofs.Common.{◌≡◌, ℕ, ◌+◌, ◌<◌, ◌≤◌, ◌^◌, true, ◌&&◌, List, [], ◌∷◌, length, map, refl, ap, sym, ◌∙◌, arith}
use Rattle.std.proofs.lemmas.Bool.{and_parts}
use Rattle.std.proofs.lemmas.Bool.Decides.{nat_tests}
use Rattle.std.proofs.lemmas.List.{length-map}
use Rattle.std.proofs.lemmas.List.Folds.{list_all-map}
use Rattle.std.specs.Prelude.{◌==◌, nat_lt, IsTrue}
use Rattle.std.specs.List.{list_all}
use Rattle.sv_tree.specs.declared.tree.SvRegName.{SvRegName}
use Rattle.sv_tree.specs.declared.tree.SvRegName.TheVariants as register
use Rattle.sv_tree.specs.declared.tree.SvReg.{SvReg}
use Rattle.sv_tree.specs.Limits.{too_many}
use Rattle.sv_tree.specs.Module.{Module}
use Rattle.sv_tree.specs.WellFormed.{is_name, is_port_name, is_register_name, names_are_good, has_no_twice, is_same_port, is_same_register, register_names, names_differ, are_states_from, sources_then_states, is_width, widths_are_within, nets_fit, outs_fit, reset_fits, nexts_fit, are_few, is_well_formed}
use Rattle.sv_lines.proofs.read.Decided.{number_same}
use Rattle.sv_lines.proofs.back.BytesBack.{both_hold}
use Rattle.sv_lines.proofs.back.NamesBack.{is_small_name, GoodParts}
use Rattle.sv_lines.proofs.back.RegistersBack.{sources, RegsFit, fresh}
use Rattle.sv_lines.proofs.back.NetsBack.{NetsFit}
use Rattle.sv_lines.proofs.back.HeaderBack.{PortsFit}
use Rattle.sv_lines.proofs.back.OutputsBack.{Same, OutsFit}
use Rattle.sv_lines.proofs.back.ClockBack.{RegsGood, NextsFit}

pub record Facts (tree : Module) : Type 0 where
  pub proc_named : is_name tree.proc ≡ true
  pub ports_named : list_all is_port_name tree.ports ≡ true
  pub regs_named : list_all (λ r. is_register_name r.name) tree.regs ≡ true
  pub ports_differ : has_no_twice is_same_port tree.ports ≡ true
  pub names_differ : has_no_twice is_same_register (register_names tree) ≡ true
  pub order : sources_then_states (register_names tree) ≡ true
  pub ports_wide : list_all (λ p. is_width p.width) tree.ports ≡ true
  pub regs_wide : list_all (λ r. is_width r.width) tree.regs ≡ true
  pub nets_wide : list_all (λ n. is_width n.width) tree.nets ≡ true
  pub nets : nets_fit tree 0 tree.nets ≡ true
  pub outs : outs_fit tree tree.ports tree.outs ≡ true
  pub resets : list_all reset_fits tree.regs ≡ true
  pub nexts : nexts_fit tree tree.regs tree.nexts ≡ true
  pub ports_few : length tree.ports < too_many
  pub regs_few : length tree.regs < too_many
  pub nets_few : length tree.nets < too_many

facts_by : (tree : Module) → (names_are_good tree && names_differ tree && sources_then_states (register_names tree) && widths_are_within tree && nets_fit tree 0 tree.nets
    && outs_fit tree tree.ports tree.outs && list_all reset_fits tree.regs && nexts_fit tree tree.regs tree.nexts && are_few tree) ≡ true → Facts tree
facts_by tree e =
    let to_names = names_are_good tree in
    let to_differ = to_names && names_differ tree in
    let to_order = to_differ && sources_then_states (register_names tree) in
    let to_widths = to_order && widths_are_within tree in
    let to_nets = to_widths && nets_fit tree 0 tree.nets in
    let to_outs = to_nets && outs_fit tree tree.ports tree.outs in
    let to_resets = to_outs && list_all reset_fits tree.regs in
    let to_nexts = to_resets && nexts_fit tree tree.regs tree.nexts in
    let few = and_parts to_nexts (are_few tree) e in
    let nexts = and_parts to_resets (nexts_fit tree tree.regs tree.nexts) few.0 in
    let resets = and_parts to_outs (list_all reset_fits tree.regs) nexts.0 in
    let outs = and_parts to_nets (outs_fit tree tree.ports tree.outs) resets.0 in
    let nets = and_parts to_widths (nets_fit tree 0 tree.nets) outs.0 in
    let widths = and_parts to_order (widths_are_within tree) nets.0 in
    let order = and_parts to_differ (sources_then_states (register_names tree)) widths.0 in
    let differ = and_parts to_names (names_differ tree) order.0 in
    let named = and_parts (is_name tree.proc && list_all is_port_name tree.ports) (list_all (λ r. is_register_name r.name) tree.regs) differ.0 in
    let named_first = and_parts (is_name tree.proc) (list_all is_port_name tree.ports) named.0 in
    let differs = and_parts (has_no_twice is_same_port tree.ports) (has_no_twice is_same_register (register_names tree)) differ.1 in
    let wide = and_parts (list_all (λ p. is_width p.width) tree.ports && list_all (λ r. is_width r.width) tree.regs) (list_all (λ n. is_width n.width) tree.nets) widths.1 in
    let wide_first = and_parts (list_all (λ p. is_width p.width) tree.ports) (list_all (λ r. is_width r.width) tree.regs) wide.0 in
    let counts = and_parts (nat_lt (length tree.ports) too_many && nat_lt (length tree.regs) too_many) (nat_lt (length tree.nets) too_many) few.1 in
    let counts_first = and_parts (nat_lt (length tree.ports) too_many) (nat_lt (length tree.regs) too_many) counts.0 in
    let ports_below = counts_first.0 in
    let regs_below = counts_first.1 in
    let nets_below = counts.1 in
    record {
      proc_named = named_first.0;
      ports_named = named_first.1;
      regs_named = named.1;
      ports_differ = differs.0;
      names_differ = differs.1;
      order = order.1;
      ports_wide = wide_first.0;
      regs_wide = wide_first.1;
      nets_wide = wide.1;
      nets = nets.1;
      outs = outs.1;
      resets = resets.1;
      nexts = nexts.1;
      ports_few = below (length tree.ports) ports_below;
      regs_few = below (length tree.regs) regs_below;
      nets_few = below (length tree.nets) nets_below;
    }
  where
    below : (count : ℕ) → nat_lt count too_many ≡ true → count < too_many
    below count e = grind (arith, nat_tests)

pub facts : (tree : Module) → IsTrue (is_well_formed tree) → Facts tree
unfolding is_well_formed
facts tree e = facts_by tree e

-- Numbers of states are small.

states_small : (first : ℕ) (names : List SvRegName) → are_states_from first names ≡ true → first + length names ≤ 2 ^ 64 → list_all is_small_name names ≡ true
states_small first [] order few = refl
states_small first (register.Source name ∷ names) order few = absurd cc
states_small first (register.State number ∷ names) order few =
    let parts = and_parts (number == first) (are_states_from (first + 1) names) order in
    let is = number_same number first parts.0 in
    let below : number < 2 ^ 64 = omega arith in
    let test : nat_lt number (2 ^ 64) ≡ true = grind (arith, nat_tests) in
    both_hold (nat_lt number (2 ^ 64)) (list_all is_small_name names) test (states_small (first + 1) names parts.1 (omega arith))

names_small : (names : List SvRegName) → sources_then_states names ≡ true → length names ≤ 2 ^ 64 → list_all is_small_name names ≡ true
names_small [] order few = refl
names_small (register.Source name ∷ names) order few = names_small names order (omega arith)
names_small (register.State number ∷ names) order few = states_small 0 (register.State number ∷ names) order (omega arith)

regs_small : (tree : Module) → Facts tree → list_all is_small_name (register_names tree) ≡ true
regs_small tree has =
    let few = has.regs_few in
    names_small (register_names tree) has.order (omega (arith, length-map tree.regs (λ (r : SvReg). r.name)))

small_regs : (tree : Module) → Facts tree → list_all (λ (r : SvReg). is_small_name r.name) tree.regs ≡ true
small_regs tree has = sym (list_all-map is_small_name (λ (r : SvReg). r.name) tree.regs) ∙ regs_small tree has

pub good_parts : (tree : Module) → Facts tree → GoodParts tree
good_parts tree has =
    let few = has.nets_few in
    record {
      ports_good = has.ports_named;
      ports_differ = has.ports_differ;
      names_good = list_all-map is_register_name (λ (r : SvReg). r.name) tree.regs ∙ has.regs_named;
      names_differ = has.names_differ;
      names_small = regs_small tree has;
      nets_few = omega arith;
      ports_wide = has.ports_wide;
      regs_wide = has.regs_wide;
      nets_wide = has.nets_wide;
    }

-- What each part of the text wants.

fresh_names : (regs : List SvReg) → map (λ (r : SvReg). r.name) (map fresh regs) ≡ map (λ (r : SvReg). r.name) regs
fresh_names [] = refl
fresh_names (reg ∷ regs) = ap (λ names. reg.name ∷ names) (fresh_names regs)

fresh_widths : (regs : List SvReg) → map (λ (r : SvReg). r.width) (map fresh regs) ≡ map (λ (r : SvReg). r.width) regs
fresh_widths [] = refl
fresh_widths (reg ∷ regs) = ap (λ widths. reg.width ∷ widths) (fresh_widths regs)

pub same_fresh : (tree : Module) → Facts tree → Same tree (map fresh tree.regs)
same_fresh tree has = record { good = good_parts tree has; names = fresh_names tree.regs; widths = fresh_widths tree.regs }

pub same_whole : (tree : Module) → Facts tree → Same tree tree.regs
same_whole tree has = record { good = good_parts tree has; names = refl; widths = refl }

pub ports_fit : (tree : Module) → Facts tree → PortsFit [] tree.ports
ports_fit tree has = record { named = has.ports_named; wide = has.ports_wide; once = has.ports_differ; few = has.ports_few }

pub regs_fit : (tree : Module) → Facts tree → RegsFit [] tree.regs
regs_fit tree has =
    let few = has.regs_few in
    record {
      named = has.regs_named;
      small = small_regs tree has;
      wide = has.regs_wide;
      once = has.names_differ;
      few = omega arith;
      order = sources refl has.order;
    }

pub nets_fit_whole : (tree : Module) → Facts tree → NetsFit tree [] tree.nets
nets_fit_whole tree has = record { fit = has.nets; wide = has.nets_wide; all = refl; few = has.nets_few }

pub outs_fit_whole : (tree : Module) → Facts tree → OutsFit tree (map fresh tree.regs) [] tree.ports [] tree.outs
outs_fit_whole tree has = record { same = same_fresh tree has; all_ports = refl; places = refl; fit = has.outs }

pub regs_good : (tree : Module) → Facts tree → RegsGood tree.regs
regs_good tree has = record { named = has.regs_named; small = small_regs tree has }

pub nexts_fit_whole : (tree : Module) → Facts tree → NextsFit tree [] tree.regs [] tree.nexts
nexts_fit_whole tree has = record { same = same_whole tree has; all = refl; places = refl; good = regs_good tree has; fit = has.nexts }
