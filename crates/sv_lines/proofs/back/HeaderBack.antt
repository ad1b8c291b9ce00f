-- The header: the lines from the first to `);` bring the reading to the items, with all ports in the draft. The line behind
-- which a port's lines begin ends with a comma, and else without, so each port is read with the end of the line before it.
use Rattle.std.proofs.Common.{◌≡◌, ℕ, ◌+◌, ◌<◌, true, false, not, List, [], ◌∷◌, ◌++◌, length, map, Some, refl, arith, append-nil, append_assoc, length-append}
use Rattle.std.proofs.lemmas.Bool.{and_parts}
use Rattle.std.proofs.lemmas.Bool.Decides.{nat_tests}
use Rattle.std.specs.Prelude.{nat_lt, bytes_eq, codes, flat_map}
use Rattle.std.specs.List.{list_all, list_any}
use Rattle.anvil_lexer.specs.GoodName.{is_name_byte}
use Rattle.sv_tree.specs.declared.tree.SvPort.{SvPort}
use Rattle.sv_tree.specs.Limits.{too_many}
use Rattle.sv_tree.specs.Module.{Module}
use Rattle.sv_tree.specs.Text.{port_lines, opening_lines, closing_line}
use Rattle.sv_tree.specs.WellFormed.{is_width, is_name, is_port_name, has_no_twice, is_same_port}
use Rattle.sv_lines.specs.declared.wire.Wire.TheVariants as wire
use Rattle.sv_lines.specs.State.{State, between, inside, Wanted, clock_wanted, reset_wanted, port_wanted, closing_wanted, valid_wanted, ack_wanted, item_wanted}
use Rattle.sv_lines.specs.Step.{onward, draft_step, step, has_room}
use Rattle.sv_lines.proofs.read.PiecesRead.{front_back, rest_back}
use Rattle.sv_lines.proofs.back.Goes.{Quiet, Goes, goes_then, goes_line, goes_same}
use Rattle.sv_lines.proofs.back.BytesBack.{all_pass, quiet_join, quiet_name}
use Rattle.sv_lines.proofs.back.Once.{new_behind}
use Rattle.sv_lines.proofs.back.NamesBack.{good_name, port_turns}
use Rattle.sv_lines.proofs.back.OperandsBack.{good_port}
use Rattle.sv_lines.proofs.back.HeaderLines.{wire_front, wire_front_quiet, data_front, valid_front, ack_front, data_step, valid_step_back, ack_step_back}

pub goes_draft : (whole : List Module) (draft next : Module) (wanted reached : Wanted) (line : List ℕ) → Quiet line → draft_step draft wanted line ≡ Some (onward next reached)
    → Goes (inside whole draft wanted) (line ++ (10 ∷ [])) (inside whole next reached)
goes_draft whole draft next wanted reached line quiet e = goes_line (inside whole draft wanted) (inside whole next reached) line quiet (rw e refl)

abbrev pub header : List ℕ → List SvPort → Module
header proc ports = record { proc = proc; ports = ports; regs = []; nets = []; outs = []; nexts = [] }

-- a line of the header that waits for its comma
pub record Front (whole : List Module) (proc : List ℕ) (done : List SvPort) (from : State) (front : List ℕ) : Type 0 where
  pub quiet : Quiet front
  pub ends : step from front ≡ Some (inside whole (header proc done) closing_wanted)
  pub more : nat_lt (length done + 1) too_many ≡ true → step from (front ++ codes ",") ≡ Some (inside whole (header proc done) port_wanted)

ports_end : (whole : List Module) (proc : List ℕ) (done : List SvPort) (from : State) (front : List ℕ) → Front whole proc done from front
    → Goes from (front ++ closing_line) (inside whole (header proc done) item_wanted)
ports_end whole proc done from front waits =
    let closing = inside whole (header proc done) closing_wanted in
    let items = inside whole (header proc done) item_wanted in
    goes_same from items ((front ++ (10 ∷ [])) ++ (codes ");" ++ (10 ∷ []))) (front ++ closing_line) (append_assoc front (10 ∷ []) (codes ");" ++ (10 ∷ [])))
    (goes_then from closing items (front ++ (10 ∷ [])) (codes ");" ++ (10 ∷ [])) (goes_line from closing front waits.quiet waits.ends)
    (goes_draft whole (header proc done) (header proc done) closing_wanted item_wanted (codes ");") refl refl))

-- the text of a port, cut at its line feeds
port_cut : (front value valid ack rest closing comma feed : List ℕ)
    → front ++ (((((comma ++ feed) ++ value) ++ (((comma ++ feed) ++ valid) ++ ((comma ++ feed) ++ ack))) ++ rest) ++ closing)
    ≡ ((front ++ comma) ++ feed) ++ (((value ++ comma) ++ feed) ++ (((valid ++ comma) ++ feed) ++ (ack ++ (rest ++ closing))))
port_cut front value valid ack rest closing comma feed = simp append_assoc

ack_waits : (whole : List Module) (proc : List ℕ) (done : List SvPort) (port : SvPort) → is_port_name port ≡ true
    → list_any (is_same_port port) done ≡ false → has_room (length done) ≡ true → Front whole proc (done ++ (port ∷ [])) (inside whole (header proc done) (ack_wanted port)) (wire_front (not port.received) 1 port wire.Ack)
ack_waits whole proc done port named new free = record {
  quiet = wire_front_quiet (not port.received) 1 port wire.Ack (good_port port named) refl;
  ends = let ended = ack_step_back (header proc done) port false named new free refl in
      rw (rw (append-nil (wire_front (not port.received) 1 port wire.Ack)) at ended) refl;
  more = λ room.
      let longer : length (done ++ (port ∷ [])) ≡ length done + 1 = omega (arith, length-append done (port ∷ [])) in
      rw (ack_step_back (header proc done) port true named new free (rw longer at room)) refl;
}

pub record PortsFit (done ports : List SvPort) : Type 0 where
  pub named : list_all is_port_name ports ≡ true
  pub wide : list_all (λ p. is_width p.width) ports ≡ true
  pub once : has_no_twice is_same_port (done ++ ports) ≡ true
  pub few : length (done ++ ports) < too_many

pub ports_back : (whole : List Module) (proc : List ℕ) (done ports : List SvPort) (from : State) (front : List ℕ) → Front whole proc done from front → PortsFit done ports
    → Goes from (front ++ (flat_map port_lines ports ++ closing_line)) (inside whole (header proc (done ++ ports)) item_wanted)
ports_back whole proc done [] from front waits fit = rw (append-nil done) (ports_end whole proc done from front waits)
ports_back whole proc done (port ∷ ports) from front waits fit =
    let names = and_parts (is_port_name port) (list_all is_port_name ports) fit.named in
    let named = names.0 in
    let widths = and_parts (is_width port.width) (list_all (λ p. is_width p.width) ports) fit.wide in
    let wide = widths.0 in
    let good = good_port port named in
    let joined : (done ++ (port ∷ [])) ++ ports ≡ done ++ (port ∷ ports) = append_assoc done (port ∷ []) ports in
    let few = fit.few in
    let room : nat_lt (length done + 1) too_many ≡ true = let total = length-append done (port ∷ ports) in grind (arith, nat_tests) in
    let value = wire_front port.received port.width port wire.Data in
    let valid = wire_front port.received 1 port wire.Valid in
    let ack = wire_front (not port.received) 1 port wire.Ack in
    let begin = inside whole (header proc done) port_wanted in
    let behind_data = inside whole (header proc done) (valid_wanted port) in
    let behind_valid = inside whole (header proc done) (ack_wanted port) in
    let end = inside whole (header proc (done ++ (port ∷ ports))) item_wanted in
    let later = flat_map port_lines ports ++ closing_line in
    let new = new_behind is_same_port port_turns done port ports fit.once in
    let first : Goes from ((front ++ codes ",") ++ (10 ∷ [])) begin = goes_line from begin (front ++ codes ",") (quiet_join front (codes ",") waits.quiet refl) (waits.more room) in
    let second : Goes begin ((value ++ codes ",") ++ (10 ∷ [])) behind_data =
    goes_draft whole (header proc done) (header proc done) port_wanted (valid_wanted port) (value ++ codes ",")
    (quiet_join value (codes ",") (wire_front_quiet port.received port.width port wire.Data good wide) refl) (data_step (header proc done) port named wide new room) in
    let third : Goes behind_data ((valid ++ codes ",") ++ (10 ∷ [])) behind_valid =
    goes_draft whole (header proc done) (header proc done) (valid_wanted port) (ack_wanted port) (valid ++ codes ",")
    (quiet_join valid (codes ",") (wire_front_quiet port.received 1 port wire.Valid good refl) refl) (valid_step_back (header proc done) port named) in
    let fit_later : PortsFit (done ++ (port ∷ [])) ports = record {
      named = names.1;
      wide = widths.1;
      once = rw joined fit.once;
      few = rw joined fit.few;
    } in
    let fourth : Goes behind_valid (ack ++ later) end = rw joined at (ports_back whole proc (done ++ (port ∷ [])) ports behind_valid ack (ack_waits whole proc done port named new room) fit_later) in
    rw (data_front port, valid_front port, ack_front port, port_cut front value valid ack (flat_map port_lines ports) closing_line (codes ",") (10 ∷ []))
    (goes_then from begin end ((front ++ codes ",") ++ (10 ∷ [])) (((value ++ codes ",") ++ (10 ∷ [])) ++ (((valid ++ codes ",") ++ (10 ∷ [])) ++ (ack ++ later))) first
    (goes_then begin behind_data end ((value ++ codes ",") ++ (10 ∷ [])) (((valid ++ codes ",") ++ (10 ∷ [])) ++ (ack ++ later)) second
    (goes_then behind_data behind_valid end ((valid ++ codes ",") ++ (10 ∷ [])) (ack ++ later) third fourth)))

-- The first lines.

reset_waits : (whole : List Module) (proc : List ℕ) → Front whole proc [] (inside whole (header proc []) reset_wanted) (codes "  input logic rst_ni")
reset_waits whole proc = record { quiet = refl; ends = refl; more = λ room. refl }

opening_back : (whole : List Module) (proc : List ℕ) → is_name proc ≡ true → list_any (bytes_eq proc) (map (λ (tree : Module). tree.proc) whole) ≡ false
    → step (between whole) (codes "module anvil__" ++ (proc ++ codes " (")) ≡ Some (inside whole (header proc []) clock_wanted)
opening_back whole proc named new =
    let good = good_name proc named in
    let pass = all_pass is_name_byte proc good.bytes in
    rw (front_back is_name_byte proc (codes " (") pass refl, rest_back is_name_byte proc (codes " (") pass refl, named, new) refl

header_cut : (opening proc opens feed clock reset rest : List ℕ) → (opening ++ (proc ++ (opens ++ (feed ++ (clock ++ (feed ++ reset)))))) ++ rest
    ≡ ((opening ++ (proc ++ opens)) ++ feed) ++ ((clock ++ feed) ++ (reset ++ rest))
header_cut opening proc opens feed clock reset rest = simp append_assoc

pub header_back : (whole : List Module) (proc : List ℕ) (ports : List SvPort) → is_name proc ≡ true → list_any (bytes_eq proc) (map (λ (tree : Module). tree.proc) whole) ≡ false
    → PortsFit [] ports → Goes (between whole) (opening_lines proc ++ (flat_map port_lines ports ++ closing_line)) (inside whole (header proc ports) item_wanted)
header_back whole proc ports named new fit =
    let opened = inside whole (header proc []) clock_wanted in
    let clocked = inside whole (header proc []) reset_wanted in
    let end = inside whole (header proc ports) item_wanted in
    let good = good_name proc named in
    let opening = codes "module anvil__" ++ (proc ++ codes " (") in
    let clock = codes "  input logic clk_i," in
    let later = codes "  input logic rst_ni" ++ (flat_map port_lines ports ++ closing_line) in
    let first : Goes (between whole) (opening ++ (10 ∷ [])) opened =
    goes_line (between whole) opened opening (quiet_join (codes "module anvil__") (proc ++ codes " (") refl (quiet_join proc (codes " (") (quiet_name proc good.bytes) refl))
    (opening_back whole proc named new) in
    let second : Goes opened (clock ++ (10 ∷ [])) clocked = goes_draft whole (header proc []) (header proc []) clock_wanted reset_wanted clock refl refl in
    let third : Goes clocked later end = ports_back whole proc [] ports clocked (codes "  input logic rst_ni") (reset_waits whole proc) fit in
    rw (header_cut (codes "module anvil__") proc (codes " (") (10 ∷ []) clock (codes "  input logic rst_ni") (flat_map port_lines ports ++ closing_line))
    (goes_then (between whole) opened end (opening ++ (10 ∷ [])) ((clock ++ (10 ∷ [])) ++ later) first (goes_then opened clocked end (clock ++ (10 ∷ [])) later second third))
