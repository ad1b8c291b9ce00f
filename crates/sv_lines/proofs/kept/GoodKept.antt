-- The invariant in the words of `Good`: what a state keeps here is that it is good. So the start is good, each step keeps that,
-- and what is read up to a good state begins a valid text.
use Rattle.std.proofs.Common.{◌≡◌, ℕ, Bool, true, false, ◌&&◌, List, [], ◌∷◌, length, map, Option, Some, None, refl}
use Rattle.std.proofs.lemmas.Bool.{and_parts}
use Rattle.std.specs.Prelude.{slice_get, bytes_eq, nat_lt}
use Rattle.std.specs.List.{list_all, list_any}
use Rattle.sv_tree.specs.declared.tree.SvPort.{SvPort}
use Rattle.sv_tree.specs.declared.tree.SvReg.{SvReg}
use Rattle.sv_tree.specs.declared.tree.SvNet.{SvNet}
use Rattle.sv_tree.specs.declared.tree.SvOut.{SvOut}
use Rattle.sv_tree.specs.declared.tree.SvOperand.{SvOperand}
use Rattle.sv_tree.specs.Limits.{too_many}
use Rattle.sv_tree.specs.Module.{Module}
use Rattle.sv_tree.specs.WellFormed.{is_name, is_port_name, is_register_name, has_no_twice, is_same_port, is_same_register, register_names, is_width, gives, out_fits, outs_fit, nexts_fit}
use Rattle.sv_lines.specs.Refused.{BeginsText}
use Rattle.sv_lines.specs.State.{Wanted, clock_wanted, reset_wanted, port_wanted, closing_wanted, valid_wanted, ack_wanted, item_wanted, assign_wanted, second_wanted, test_wanted, resets_wanted, nexts_wanted, end_wanted, last_wanted, State, between, inside, start, text_of}
use Rattle.sv_lines.specs.Step.{step}
use Rattle.sv_lines.specs.Good.{GoodDraft, IsHeader, IsNewPort, IsSecond, IsClocked, IsAt, AreWhole, IsGood}
use Rattle.sv_lines.proofs.kept.KeptDrafts.{Drafted, Bare, PortBegun, OutBegun, Clocked, Ended, At, Kept}
use Rattle.sv_lines.proofs.kept.OutputsKept.{outs_complete, nexts_complete}
use Rattle.sv_lines.proofs.kept.StepsKeep.{start_kept, step_keeps}
use Rattle.sv_lines.proofs.begun.Begins.{begins}

-- Lists that end together.

no_port_left : (tree : Module) (ports : List SvPort) (outs : List SvOut) → outs_fit tree ports outs ≡ true → slice_get ports (length outs) ≡ None
no_port_left tree [] [] fit = refl
no_port_left tree [] (out ∷ outs) fit = absurd cc
no_port_left tree (port ∷ ports) [] fit = absurd cc
no_port_left tree (port ∷ ports) (out ∷ outs) fit = no_port_left tree ports outs (and_parts (out_fits tree port out) (outs_fit tree ports outs) fit).1

no_register_left : (tree : Module) (regs : List SvReg) (nexts : List SvOperand) → nexts_fit tree regs nexts ≡ true → slice_get regs (length nexts) ≡ None
no_register_left tree [] [] fit = refl
no_register_left tree [] (next ∷ nexts) fit = absurd cc
no_register_left tree (reg ∷ regs) [] fit = absurd cc
no_register_left tree (reg ∷ regs) (next ∷ nexts) fit = no_register_left tree regs nexts (and_parts (gives tree reg.width next) (nexts_fit tree regs nexts) fit).1

-- Three tests in a row.
record Three (one two three : Bool) : Type 0 where
  pub first : one ≡ true
  pub second : two ≡ true
  pub third : three ≡ true

three : (one two last : Bool) → (one && two && last) ≡ true → Three one two last
three one two last e =
    let outer = and_parts (one && two) last e in
    let inner = and_parts one two outer.0 in
    record { first = inner.0; second = inner.1; third = outer.1 }

-- From good to kept.

drafted_of : (whole : List Module) (tree : Module) → AreWhole whole → list_any (bytes_eq tree.proc) (map (λ (other : Module). other.proc) whole) ≡ false → GoodDraft tree → Drafted whole tree
drafted_of whole tree before fresh good =
    let names = three (is_name tree.proc) (list_all is_port_name tree.ports) (list_all (λ (r : SvReg). is_register_name r.name) tree.regs) good.names in
    let differ = and_parts (has_no_twice is_same_port tree.ports) (has_no_twice is_same_register (register_names tree)) good.differ in
    let widths =
    three (list_all (λ (p : SvPort). is_width p.width) tree.ports) (list_all (λ (r : SvReg). is_width r.width) tree.regs) (list_all (λ (n : SvNet). is_width n.width) tree.nets)
    good.widths
    in
    let few = three (nat_lt (length tree.ports) too_many) (nat_lt (length tree.regs) too_many) (nat_lt (length tree.nets) too_many) good.few in
    record {
      modules = record { well_formed = before.well_formed; names_differ = before.names_differ };
      name = record { good = names.first; is_new = fresh };
      ports = record { good = names.second; differ = differ.0; widths = widths.first; few = few.first };
      registers = record {
        good = names.third;
        differ = differ.1;
        in_order = good.ordered;
        widths = widths.second;
        resets = good.resets;
        few = few.second;
      };
      nets = record { widths = widths.third; fit = good.nets; few = few.third };
      outs = good.outs;
      nexts = good.nexts;
    }

bare_of : (tree : Module) → IsHeader tree → Bare tree
bare_of tree header = record { no_regs = header.no_regs; no_nets = header.no_nets; no_outs = header.no_outs; no_nexts = header.no_nexts }

begun_of : (tree : Module) (port : SvPort) → IsHeader tree → IsNewPort tree port → PortBegun tree port
begun_of tree port header new = record { bare = bare_of tree header; room = new.room; good = new.name; is_new = new.fresh; within = new.width }

clocked_of : (whole : List Module) (tree : Module) → Drafted whole tree → IsClocked tree → Clocked tree
clocked_of whole tree drafted clocked = record { outs = outs_complete tree tree.ports tree.outs drafted.outs clocked.all_outs; some = clocked.some_regs }

second_of : (tree : Module) (value : SvOperand) (port : Option SvPort) → tree.nexts ≡ [] → slice_get tree.ports (length tree.outs) ≡ port → IsSecond tree value port → OutBegun tree value
second_of tree value None no_nexts there second = absurd second
second_of tree value (Some port) no_nexts there second = record { no_nexts = no_nexts; port = port; is_there = there; is_sent = second.0; fits = second.1 }

ended_of : (whole : List Module) (tree : Module) → Drafted whole tree → IsClocked tree → slice_get tree.regs (length tree.nexts) ≡ None → Ended tree
ended_of whole tree drafted clocked none = record { clocked = clocked_of whole tree drafted clocked; nexts = nexts_complete tree tree.regs tree.nexts drafted.nexts none }

at_of : (whole : List Module) (tree : Module) (wanted : Wanted) → Drafted whole tree → IsAt tree wanted → At tree wanted
at_of whole tree clock_wanted drafted is = record { bare = bare_of tree is.0; no_ports = is.1 }
at_of whole tree reset_wanted drafted is = record { bare = bare_of tree is.0; no_ports = is.1 }
at_of whole tree port_wanted drafted is = record { bare = bare_of tree is.0; room = is.1 }
at_of whole tree closing_wanted drafted is = bare_of tree is
at_of whole tree (valid_wanted port) drafted is = begun_of tree port is.0 is.1
at_of whole tree (ack_wanted port) drafted is = begun_of tree port is.0 is.1
at_of whole tree item_wanted drafted is = record { no_nexts = is }
at_of whole tree (assign_wanted width) drafted is = record { no_outs = is.1; no_nexts = is.0; within = is.2; room = is.3 }
at_of whole tree (second_wanted value) drafted is = second_of tree value (slice_get tree.ports (length tree.outs)) is.0 refl is.1
at_of whole tree test_wanted drafted is = record { clocked = clocked_of whole tree drafted is.1; no_nexts = is.0 }
at_of whole tree (resets_wanted done) drafted is = record { wanted = record { clocked = clocked_of whole tree drafted is.1; no_nexts = is.0 }; within = is.2 }
at_of whole tree nexts_wanted drafted is = clocked_of whole tree drafted is
at_of whole tree end_wanted drafted is = ended_of whole tree drafted is.0 is.1
at_of whole tree last_wanted drafted is = ended_of whole tree drafted is.0 is.1

pub kept_of_good : (state : State) → IsGood state → Kept state
kept_of_good (between whole) good = record { well_formed = good.well_formed; names_differ = good.names_differ }
kept_of_good (inside whole tree wanted) good =
    let drafted = drafted_of whole tree good.before good.fresh good.good in
    record { drafted = drafted; at = at_of whole tree wanted drafted good.placed }

-- From kept to good.

draft_is_good : (whole : List Module) (tree : Module) → Drafted whole tree → GoodDraft tree
draft_is_good whole tree drafted = record {
  names = rw (drafted.name.good, drafted.ports.good, drafted.registers.good) refl;
  differ = rw (drafted.ports.differ, drafted.registers.differ) refl;
  ordered = drafted.registers.in_order;
  widths = rw (drafted.ports.widths, drafted.registers.widths, drafted.nets.widths) refl;
  nets = drafted.nets.fit;
  outs = drafted.outs;
  resets = drafted.registers.resets;
  nexts = drafted.nexts;
  few = rw (drafted.ports.few, drafted.registers.few, drafted.nets.few) refl;
}

is_header : (tree : Module) → Bare tree → IsHeader tree
is_header tree bare = record { no_regs = bare.no_regs; no_nets = bare.no_nets; no_outs = bare.no_outs; no_nexts = bare.no_nexts }

is_new_port : (tree : Module) (port : SvPort) → PortBegun tree port → IsNewPort tree port
is_new_port tree port at = record { name = at.good; width = at.within; fresh = at.is_new; room = at.room }

is_clocked : (tree : Module) → Clocked tree → IsClocked tree
is_clocked tree at = record { some_regs = at.some; all_outs = no_port_left tree tree.ports tree.outs at.outs }

is_second : (tree : Module) (value : SvOperand) → OutBegun tree value → IsSecond tree value (slice_get tree.ports (length tree.outs))
is_second tree value at = rw (at.is_there) (at.is_sent, at.fits)

is_at : (tree : Module) (wanted : Wanted) → At tree wanted → IsAt tree wanted
is_at tree clock_wanted at = (is_header tree at.bare, at.no_ports)
is_at tree reset_wanted at = (is_header tree at.bare, at.no_ports)
is_at tree port_wanted at = (is_header tree at.bare, at.room)
is_at tree closing_wanted at = is_header tree at
is_at tree (valid_wanted port) at = (is_header tree at.bare, is_new_port tree port at)
is_at tree (ack_wanted port) at = (is_header tree at.bare, is_new_port tree port at)
is_at tree item_wanted at = at.no_nexts
is_at tree (assign_wanted width) at = (at.no_nexts, at.no_outs, at.within, at.room)
is_at tree (second_wanted value) at = (at.no_nexts, is_second tree value at)
is_at tree test_wanted at = (at.no_nexts, is_clocked tree at.clocked)
is_at tree (resets_wanted done) at = (at.wanted.no_nexts, is_clocked tree at.wanted.clocked, at.within)
is_at tree nexts_wanted at = is_clocked tree at
is_at tree end_wanted at = (is_clocked tree at.clocked, no_register_left tree tree.regs tree.nexts at.nexts)
is_at tree last_wanted at = (is_clocked tree at.clocked, no_register_left tree tree.regs tree.nexts at.nexts)

pub good_of_kept : (state : State) → Kept state → IsGood state
good_of_kept (between whole) kept = record { well_formed = kept.well_formed; names_differ = kept.names_differ }
good_of_kept (inside whole tree wanted) kept = record {
  before = record { well_formed = kept.drafted.modules.well_formed; names_differ = kept.drafted.modules.names_differ };
  fresh = kept.drafted.name.is_new;
  good = draft_is_good whole tree kept.drafted;
  placed = is_at tree wanted kept.at;
}

pub start_good : IsGood start
start_good = good_of_kept start start_kept

pub good_kept : (from next : State) (line : List ℕ) → IsGood from → step from line ≡ Some next → IsGood next
good_kept from next line good e = good_of_kept next (step_keeps from next line (kept_of_good from good) e)

pub viable : (state : State) → IsGood state → BeginsText (text_of state)
viable state good = begins state (kept_of_good state good)
