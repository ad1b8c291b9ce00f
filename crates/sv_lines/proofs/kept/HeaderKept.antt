-- In the header each line keeps the draft: there are ports alone, and a port that is read in part is good, new, and has room.
use Rattle.std.proofs.Common.{◌≡◌, ℕ, ◌+◌, ◌<◌, Bool, true, false, not, ◌&&◌, List, [], length, Some, refl, ap, subst, ◌∙◌, arith}
use Rattle.std.proofs.lemmas.Option.{same_Some}
use Rattle.std.proofs.lemmas.Bool.{le-leb, and_parts}
use Rattle.std.specs.Prelude.{nat_lt, nat_le, bytes_eq, codes}
use Rattle.std.specs.List.{list_all, list_any}
use Rattle.sv_tree.specs.declared.tree.SvPort.{SvPort}
use Rattle.sv_tree.specs.declared.tree.SvReg.{SvReg}
use Rattle.sv_tree.specs.declared.tree.SvNet.{SvNet}
use Rattle.sv_tree.specs.Limits.{widest, too_many}
use Rattle.sv_tree.specs.Module.{Module}
use Rattle.sv_tree.specs.WellFormed.{is_port_name, is_register_name, has_no_twice, is_same_port, is_same_register, sources_then_states, is_width, nets_fit, reset_fits}
use Rattle.sv_lines.specs.declared.wire.Wire.TheVariants as wire
use Rattle.sv_lines.specs.Pieces.{after}
use Rattle.sv_lines.specs.Lines.{WireLine, wire_line, comma_of}
use Rattle.sv_lines.specs.State.{Wanted, valid_wanted, ack_wanted, with_port}
use Rattle.sv_lines.specs.Step.{Reached, onward, fixed, has_room, header_wanted, reset_step, port_of, is_data, port_by, port_step, is_wire_of, valid_step, may_end, may_add, added, ack_step}
use Rattle.sv_lines.proofs.read.Decided.{passes, passes_on, then_read}
use Rattle.sv_lines.proofs.read.LinesRead.{wire_line_read}
use Rattle.sv_lines.proofs.kept.Longer.{all_longer, no_twice_longer, port_turned, length_longer, is_negated}
use Rattle.sv_lines.proofs.kept.KeptDrafts.{names_of, Whole, Named, PortsKept, RegistersKept, NetsKept, first_outs_fit, first_nexts_fit, Drafted, Bare, PortWanted, Opened, PortBegun, Inside, KeptReached}

pub fixed_kept : (whole : List Module) (wanted line : List ℕ) (draft : Module) (next : Wanted) (reached : Reached) → Inside whole draft next → fixed wanted draft next line ≡ Some reached → KeptReached whole reached
fixed_kept whole wanted line draft next reached kept e =
    let passed = passes (bytes_eq line wanted) (onward draft next) reached e in
    subst (KeptReached whole) passed.same kept

-- where there are ports alone, the draft is kept if its ports are
no_registers : (regs : List SvReg) → regs ≡ [] → RegistersKept regs
no_registers regs none = record {
  good = ap (list_all (λ (r : SvReg). is_register_name r.name)) none;
  differ = ap (λ (regs : List SvReg). has_no_twice is_same_register (names_of regs)) none;
  in_order = ap (λ (regs : List SvReg). sources_then_states (names_of regs)) none;
  widths = ap (list_all (λ (r : SvReg). is_width r.width)) none;
  resets = ap (list_all reset_fits) none;
  few = ap (λ (regs : List SvReg). nat_lt (length regs) too_many) none;
}

pub no_nets : (tree : Module) → tree.nets ≡ [] → NetsKept tree
no_nets tree none = record {
  widths = ap (list_all (λ (n : SvNet). is_width n.width)) none;
  fit = ap (nets_fit tree 0) none;
  few = ap (λ (nets : List SvNet). nat_lt (length nets) too_many) none;
}

pub bare_drafted : (whole : List Module) (tree : Module) → Whole whole → Named whole tree.proc → PortsKept tree.ports → Bare tree → Drafted whole tree
bare_drafted whole tree modules name ports bare = record {
  modules = modules;
  name = name;
  ports = ports;
  registers = no_registers tree.regs bare.no_regs;
  nets = no_nets tree bare.no_nets;
  outs = ap (first_outs_fit tree tree.ports) bare.no_outs;
  nexts = ap (first_nexts_fit tree tree.regs) bare.no_nexts;
}

-- The reset.

header_kept : (whole : List Module) (draft : Module) (comma : Bool) → Drafted whole draft → Bare draft → (comma ≡ true → has_room (length draft.ports) ≡ true) → Inside whole draft (header_wanted comma)
header_kept whole draft true drafted bare room = record { drafted = drafted; at = record { bare = bare; room = room refl } }
header_kept whole draft false drafted bare room = record { drafted = drafted; at = bare }

pub reset_kept : (whole : List Module) (draft : Module) (line : List ℕ) (reached : Reached) → Drafted whole draft → Opened draft → reset_step draft line ≡ Some reached → KeptReached whole reached
reset_kept whole draft line reached drafted at e =
    then_read (after (codes "  input logic rst_ni") line) _ reached e (λ rest is_rest e.
    then_read (comma_of rest) _ reached e (λ comma is_comma e.
    subst (KeptReached whole) (same_Some _ _ e) (header_kept whole draft comma drafted at.bare (λ is. ap (λ (ports : List SvPort). has_room (length ports)) at.no_ports))))

-- Ports.

pub within : (width high : ℕ) → width ≡ high + 1 → high < widest → is_width width ≡ true
within width high is below =
    let some : nat_le 1 width ≡ true = le-leb 1 width (omega arith) in
    let few : nat_le width widest ≡ true = le-leb width widest (omega arith) in
    rw (some, few) refl

begun_kept : (whole : List Module) (draft : Module) (line : WireLine) (reached : Reached) → Drafted whole draft → PortWanted draft → is_width line.width ≡ true
    → port_by draft line ≡ Some reached → KeptReached whole reached
begun_kept whole draft line reached drafted at width_within e =
    let port = port_of line in
    let new = not (list_any (is_same_port port) draft.ports) in
    let passed = passes (is_data line && may_add draft port) (onward draft (valid_wanted port)) reached e in
    let tests = and_parts (is_data line) (may_add draft port) passed.holds in
    let stands = and_parts (is_port_name port && new) (has_room (length draft.ports)) tests.1 in
    let names = and_parts (is_port_name port) new stands.0 in
    subst (KeptReached whole) passed.same
    (record {
      drafted = drafted;
      at = record {
        bare = at.bare;
        room = at.room;
        good = names.0;
        is_new = is_negated (list_any (is_same_port port) draft.ports) names.1;
        within = width_within;
      };
    })

pub port_kept : (whole : List Module) (draft : Module) (text : List ℕ) (reached : Reached) → Drafted whole draft → PortWanted draft → port_step draft text ≡ Some reached → KeptReached whole reached
port_kept whole draft text reached drafted at e =
    then_read (wire_line text) _ reached e (λ line is_line e.
    let read = wire_line_read text line is_line in
    begun_kept whole draft line reached drafted at (within line.width read.high read.is_width read.within) e)

pub valid_kept : (whole : List Module) (draft : Module) (port : SvPort) (text : List ℕ) (reached : Reached) → Drafted whole draft → PortBegun draft port → valid_step draft port text ≡ Some reached
    → KeptReached whole reached
valid_kept whole draft port text reached drafted at e =
    then_read (wire_line text) _ reached e (λ line is_line e.
    let passed = passes (is_wire_of port wire.Valid port.received line && line.comma) (onward draft (ack_wanted port)) reached e in
    subst (KeptReached whole) passed.same (record { drafted = drafted; at = at }))

pub ports_longer : (draft : Module) (port : SvPort) → PortsKept draft.ports → PortBegun draft port → PortsKept (with_port draft port).ports
ports_longer draft port ports at = record {
  good = all_longer is_port_name draft.ports port ports.good at.good;
  differ = no_twice_longer is_same_port port_turned draft.ports port ports.differ at.is_new;
  widths = all_longer (λ (p : SvPort). is_width p.width) draft.ports port ports.widths at.within;
  few = ap (λ count. nat_lt count too_many) (length_longer draft.ports port) ∙ at.room;
}

pub longer_bare : (draft : Module) (port : SvPort) → Bare draft → Bare (with_port draft port)
longer_bare draft port bare = record { no_regs = bare.no_regs; no_nets = bare.no_nets; no_outs = bare.no_outs; no_nexts = bare.no_nexts }

pub with_port_drafted : (whole : List Module) (draft : Module) (port : SvPort) → Drafted whole draft → PortBegun draft port → Drafted whole (with_port draft port)
with_port_drafted whole draft port drafted at =
    bare_drafted whole (with_port draft port) drafted.modules drafted.name (ports_longer draft port drafted.ports at)
    (longer_bare draft port at.bare)

ends_there : (count : ℕ) (comma : Bool) → may_end count comma ≡ true → comma ≡ true → has_room count ≡ true
ends_there count true may is = may
ends_there count false may is = absurd cc

pub ack_kept : (whole : List Module) (draft : Module) (port : SvPort) (text : List ℕ) (reached : Reached) → Drafted whole draft → PortBegun draft port → ack_step draft port text ≡ Some reached
    → KeptReached whole reached
ack_kept whole draft port text reached drafted at e =
    then_read (wire_line text) _ reached e (λ line is_line e.
    let is_ack = is_wire_of port wire.Ack (not port.received) line in
    let room = may_end (length draft.ports + 1) line.comma in
    let stands = passes_on (is_ack && room) (added draft port line.comma) reached e in
    let passed = passes (may_add draft port) (onward (with_port draft port) (header_wanted line.comma)) reached stands.same in
    let tests = and_parts is_ack room stands.holds in
    subst (KeptReached whole) passed.same
    (header_kept whole (with_port draft port) line.comma (with_port_drafted whole draft port drafted at) (longer_bare draft port at.bare)
    (λ is. ap has_room (length_longer draft.ports port) ∙ ends_there (length draft.ports + 1) line.comma tests.1 is)))
