-- In the header: behind a comma a port of a new message may follow, and a port that is read in part is read to its end. All
-- else is missing and filled up.
use Rattle.std.proofs.Common.{◌≡◌, ℕ, Bool, true, false, List, [], ◌∷◌, ◌++◌, drop, refl, ap, sym, ◌∙◌, append_assoc, append-nil}
use Rattle.std.proofs.lemmas.Grind.{flat_map-append}
use Rattle.std.specs.Prelude.{zip, flat_map, codes}
use Rattle.std.specs.List.{enumerate_from}
use Rattle.sv_tree.specs.declared.tree.SvPort.{SvPort}
use Rattle.sv_tree.specs.Module.{Module}
use Rattle.sv_tree.specs.Text.{direction_text, data_line, valid_line, ack_line, opening_lines, port_lines, closing_line, register_line, net_lines, out_lines, clock_lines, last_line, module_text}
use Rattle.sv_lines.specs.State.{header_text, draft_text, with_port, clock_wanted, reset_wanted, port_wanted, closing_wanted, valid_wanted, ack_wanted}
use Rattle.sv_lines.proofs.kept.KeptDrafts.{Drafted, PortWanted, PortBegun}
use Rattle.sv_lines.proofs.kept.HeaderKept.{with_port_drafted}
use Rattle.sv_lines.proofs.begun.FreshPort.{next_port}
use Rattle.sv_lines.proofs.begun.Filled.{filled, filled_finished}
use Rattle.sv_lines.proofs.begun.Begun.{Completed}

-- what follows the ports, behind the header's end
abbrev behind_ports : Module → List ℕ
behind_ports tree =
    flat_map register_line tree.regs
    ++ (flat_map (net_lines (filled tree)) (enumerate_from 0 tree.nets)
    ++ (flat_map (out_lines (filled tree)) (zip tree.ports (filled tree).outs) ++ (clock_lines (filled tree) tree.regs ++ last_line)))

header_filled : (tree : Module) → module_text (filled tree) ≡ header_text tree ++ (closing_line ++ behind_ports tree)
unfolding module_text
header_filled tree = sym (append_assoc (opening_lines tree.proc) (flat_map port_lines tree.ports) (closing_line ++ behind_ports tree))

opening_join : (module_word proc first second rest : List ℕ) → (module_word ++ (proc ++ (first ++ second))) ++ rest ≡ (module_word ++ (proc ++ first)) ++ (second ++ rest)
opening_join module_word proc first second rest = simp append_assoc

opened_filled : (tree : Module) (first second : List ℕ) → codes " (\n  input logic clk_i,\n  input logic rst_ni" ≡ first ++ second
    → module_text (filled tree) ≡ (codes "module anvil__" ++ (tree.proc ++ first)) ++ (second ++ (flat_map port_lines tree.ports ++ (closing_line ++ behind_ports tree)))
unfolding module_text
opened_filled tree first second is =
    ap (λ l. (codes "module anvil__" ++ (tree.proc ++ l)) ++ (flat_map port_lines tree.ports ++ (closing_line ++ behind_ports tree))) is
    ∙ opening_join (codes "module anvil__") tree.proc first second (flat_map port_lines tree.ports ++ (closing_line ++ behind_ports tree))

pub clock_begun : (whole : List Module) (draft : Module) → Drafted whole draft → Completed whole draft clock_wanted
unfolding draft_text
clock_begun whole draft drafted = record {
  tree = filled draft;
  finished = filled_finished whole draft drafted;
  rest = codes "  input logic clk_i,\n  input logic rst_ni" ++ (flat_map port_lines draft.ports ++ (closing_line ++ behind_ports draft));
  written = opened_filled draft (codes " (\n") (codes "  input logic clk_i,\n  input logic rst_ni") refl;
}

pub reset_begun : (whole : List Module) (draft : Module) → Drafted whole draft → Completed whole draft reset_wanted
unfolding draft_text
reset_begun whole draft drafted = record {
  tree = filled draft;
  finished = filled_finished whole draft drafted;
  rest = codes "  input logic rst_ni" ++ (flat_map port_lines draft.ports ++ (closing_line ++ behind_ports draft));
  written = opened_filled draft (codes " (\n  input logic clk_i,\n") (codes "  input logic rst_ni") refl;
}

pub closing_begun : (whole : List Module) (draft : Module) → Drafted whole draft → Completed whole draft closing_wanted
unfolding draft_text
closing_begun whole draft drafted = record {
  tree = filled draft;
  finished = filled_finished whole draft drafted;
  rest = codes ");\n" ++ behind_ports draft;
  written = header_filled draft ∙ sym (append_assoc (header_text draft) (codes "\n") (codes ");\n" ++ behind_ports draft));
}

-- A port more.

direction_begins : (comes_in : Bool) (rest : List ℕ) → direction_text comes_in ++ rest ≡ codes ",\n" ++ drop 2 (direction_text comes_in ++ rest)
direction_begins true rest = refl
direction_begins false rest = refl

abbrev port_tail : Module → SvPort → List ℕ
port_tail draft port = closing_line ++ behind_ports (with_port draft port)

port_join : (opening ports one other rest : List ℕ) → (opening ++ (ports ++ ((one ++ other) ++ []))) ++ rest ≡ (opening ++ ports) ++ (one ++ (other ++ rest))
port_join opening ports one other rest = simp (append_assoc, append-nil)

ported_filled : (draft : Module) (port : SvPort) (one other : List ℕ) → port_lines port ≡ one ++ other
    → module_text (filled (with_port draft port)) ≡ header_text draft ++ (one ++ (other ++ port_tail draft port))
ported_filled draft port one other is =
    header_filled (with_port draft port)
    ∙ ap (λ ports. (opening_lines draft.proc ++ ports) ++ port_tail draft port) (flat_map-append port_lines draft.ports (port ∷ []))
    ∙ ap (λ lines. (opening_lines draft.proc ++ (flat_map port_lines draft.ports ++ (lines ++ []))) ++ port_tail draft port) is
    ∙ port_join (opening_lines draft.proc) (flat_map port_lines draft.ports) one other (port_tail draft port)

begins_by : (comes_in : Bool) (lines rest : List ℕ) → lines ≡ direction_text comes_in ++ rest → lines ≡ codes ",\n" ++ drop 2 lines
begins_by comes_in lines rest is = is ∙ direction_begins comes_in rest ∙ ap (λ l. codes ",\n" ++ drop 2 l) (sym is)

lines_begin : (port : SvPort) → port_lines port ≡ codes ",\n" ++ drop 2 (port_lines port)
lines_begin port = begins_by port.received (port_lines port) _ (append_assoc (direction_text port.received) _ _)

pub port_begun : (whole : List Module) (draft : Module) → Drafted whole draft → PortWanted draft → Completed whole draft port_wanted
unfolding draft_text
port_begun whole draft drafted at =
    let next = next_port draft at in
    let port : SvPort = next.port in
    let longer = with_port_drafted whole draft port drafted next.begun in
    let other = drop 2 (port_lines port) in
    record {
      tree = filled (with_port draft port);
      finished = filled_finished whole (with_port draft port) longer;
      rest = other ++ port_tail draft port;
      written =
          ported_filled draft port (codes ",\n") other (lines_begin port)
          ∙ sym (append_assoc (header_text draft) (codes ",\n") (other ++ port_tail draft port));
    }

pub valid_begun : (whole : List Module) (draft : Module) (port : SvPort) → Drafted whole draft → PortBegun draft port → Completed whole draft (valid_wanted port)
unfolding draft_text
valid_begun whole draft port drafted at =
    let other = drop 2 (valid_line port) ++ ack_line port in
    record {
      tree = filled (with_port draft port);
      finished = filled_finished whole (with_port draft port) (with_port_drafted whole draft port drafted at);
      rest = other ++ port_tail draft port;
      written =
          ported_filled draft port (data_line port ++ codes ",\n") other
          (ap (λ line. data_line port ++ (line ++ ack_line port)) (direction_begins port.received _) ∙ three (data_line port) (codes ",\n") (drop 2 (valid_line port)) (ack_line port))
          ∙ sym (append_assoc (header_text draft) (data_line port ++ codes ",\n") (other ++ port_tail draft port));
    }
  where
    three : (first comma valid ack : List ℕ) → first ++ ((comma ++ valid) ++ ack) ≡ (first ++ comma) ++ (valid ++ ack)
    three first comma valid ack = simp append_assoc

pub ack_begun : (whole : List Module) (draft : Module) (port : SvPort) → Drafted whole draft → PortBegun draft port → Completed whole draft (ack_wanted port)
unfolding draft_text
ack_begun whole draft port drafted at =
    let other = drop 2 (ack_line port) in
    record {
      tree = filled (with_port draft port);
      finished = filled_finished whole (with_port draft port) (with_port_drafted whole draft port drafted at);
      rest = other ++ port_tail draft port;
      written =
          ported_filled draft port (data_line port ++ (valid_line port ++ codes ",\n")) other
          (ap (λ line. data_line port ++ (valid_line port ++ line)) (direction_begins _ _) ∙ three (data_line port) (valid_line port) (codes ",\n") (drop 2 (ack_line port)))
          ∙ sym (append_assoc (header_text draft) (data_line port ++ (valid_line port ++ codes ",\n")) (other ++ port_tail draft port));
    }
  where
    three : (one two comma ack : List ℕ) → one ++ (two ++ (comma ++ ack)) ≡ (one ++ (two ++ comma)) ++ ack
    three one two comma ack = simp append_assoc
