-- The outputs: each `assign` gives its port the operand that is written, in the order of the ports.
use Rattle.std.proofs.Common.{◌≡◌, ℕ, true, not, ◌&&◌, List, [], ◌∷◌, ◌++◌, length, map, Some, refl, sym, ◌∙◌, arith, append-nil, append_assoc, length-append}
use Rattle.std.proofs.lemmas.Bool.{and_parts, not-true}
use Rattle.std.specs.Prelude.{slice_get, codes, flat_map, zip}
use Rattle.sv_tree.specs.declared.tree.SvPort.{SvPort}
use Rattle.sv_tree.specs.declared.tree.SvReg.{SvReg}
use Rattle.sv_tree.specs.declared.tree.SvOut.{SvOut}
use Rattle.sv_tree.specs.declared.tree.SvOut.TheVariants.{Received, Sent}
use Rattle.sv_tree.specs.declared.tree.SvOperand.{SvOperand}
use Rattle.sv_tree.specs.Module.{Module}
use Rattle.sv_tree.specs.Text.{operand_text, out_lines, ack_assign_line, data_assign_line, valid_assign_line}
use Rattle.sv_tree.specs.WellFormed.{is_port_name, register_names, operand_width, gives, out_fits, outs_fit}
use Rattle.sv_lines.specs.declared.wire.Wire.{Wire}
use Rattle.sv_lines.specs.declared.wire.Wire.TheVariants as wire
use Rattle.sv_lines.specs.Lines.{wire_word}
use Rattle.sv_lines.specs.State.{inside, item_wanted, second_wanted}
use Rattle.sv_lines.specs.Step.{onward, given, item_step, second_step}
use Rattle.sv_lines.proofs.read.Decided.{same_number}
use Rattle.sv_lines.proofs.read.PiecesRead.{after_back}
use Rattle.sv_lines.proofs.back.Goes.{Quiet, Goes, stays, goes_then, goes_same}
use Rattle.sv_lines.proofs.back.BytesBack.{quiet_join, quiet_name}
use Rattle.sv_lines.proofs.back.NamesBack.{all_at, GoodParts}
use Rattle.sv_lines.proofs.back.OperandsBack.{GoodPort, good_port}
use Rattle.sv_lines.proofs.back.OperandTexts.{last_operand_back}
use Rattle.sv_lines.proofs.back.OpsBack.{Stand}
use Rattle.sv_lines.proofs.back.OpTexts.{operand_quiet}
use Rattle.sv_lines.proofs.back.WidthsBack.{operand_width_same, operand_of_width_is}
use Rattle.sv_lines.proofs.back.HeaderLines.{word_quiet}
use Rattle.sv_lines.proofs.back.HeaderBack.{goes_draft}

pub seam : {X : Type 0} (done : List X) (item : X) (later : List X) → slice_get (done ++ (item ∷ later)) (length done) ≡ Some item
seam [] item later = refl
seam (first ∷ done) item later = seam done item later

-- a module of which all but the outputs, the resets and the next values is read
abbrev pub with_all : Module → List SvReg → List SvOut → List SvOperand → Module
with_all tree regs outs nexts = record { proc = tree.proc; ports = tree.ports; regs = regs; nets = tree.nets; outs = outs; nexts = nexts }

-- what it knows of operands
pub record Same (tree : Module) (regs : List SvReg) : Type 0 where
  pub good : GoodParts tree
  pub names : map (λ r. r.name) regs ≡ register_names tree
  pub widths : map (λ r. r.width) regs ≡ map (λ r. r.width) tree.regs

pub stand_all : (tree : Module) (regs : List SvReg) (outs : List SvOut) (nexts : List SvOperand) → Same tree regs → Stand tree (with_all tree regs outs nexts) (length tree.nets)
stand_all tree regs outs nexts same = record {
  good = same.good;
  has = record {
    ports_same = refl;
    names_same = same.names;
    nets_known = refl;
    nets_within = omega arith;
    regs_wide = same.widths;
    nets_wide = λ index below. refl;
  };
}

-- `  assign E__M__W = X;`
abbrev pub wire_assign : Module → SvPort → Wire → SvOperand → List ℕ
wire_assign tree port which x =
    codes "  assign " ++ (port.endpoint ++ (codes "__" ++ (port.message ++ (codes "__" ++ (wire_word which ++ (codes " = " ++ (operand_text tree x ++ codes ";")))))))

pub given_back : (tree draft : Module) (port : SvPort) (which : Wire) (width : ℕ) (x : SvOperand) → Stand tree draft (length tree.nets) → gives tree width x ≡ true
    → given draft port which width (wire_assign tree port which x) ≡ Some x
given_back tree draft port which width x stand fits =
    let of = operand_of_width_is tree (length tree.nets) width x fits in
    let last = last_operand_back tree draft (length tree.nets) x stand.good stand.has of.stands in
    let behind = codes " = " ++ (operand_text tree x ++ codes ";") in
    let word = after_back (wire_word which) behind in
    let message = after_back port.message (codes "__" ++ (wire_word which ++ behind)) in
    let endpoint = after_back port.endpoint (codes "__" ++ (port.message ++ (codes "__" ++ (wire_word which ++ behind)))) in
    let same : operand_width draft x ≡ width = operand_width_same tree draft (length tree.nets) x stand.has of.stands ∙ of.wide in
    rw (endpoint, message, word, last, same, same_number width) refl

pub assign_quiet : (tree draft : Module) (port : SvPort) (which : Wire) (width : ℕ) (x : SvOperand) → Stand tree draft (length tree.nets) → GoodPort port → gives tree width x ≡ true
    → Quiet (wire_assign tree port which x)
assign_quiet tree draft port which width x stand good fits =
    let of = operand_of_width_is tree (length tree.nets) width x fits in
    let value = codes " = " ++ (operand_text tree x ++ codes ";") in
    let value_quiet : Quiet value = quiet_join (operand_text tree x) (codes ";") (operand_quiet tree draft (length tree.nets) x stand of.stands) refl in
    let word = wire_word which ++ value in
    let word_is_quiet : Quiet word = quiet_join (wire_word which) value (word_quiet which) value_quiet in
    let message = port.message ++ (codes "__" ++ word) in
    let message_quiet : Quiet message = quiet_join port.message (codes "__" ++ word) (quiet_name port.message good.message.bytes) word_is_quiet in
    quiet_join port.endpoint (codes "__" ++ message) (quiet_name port.endpoint good.endpoint.bytes) message_quiet

-- Each output of a port.

pub record OutsFit (tree : Module) (regs : List SvReg) (before ports : List SvPort) (done outs : List SvOut) : Type 0 where
  pub same : Same tree regs
  pub all_ports : before ++ ports ≡ tree.ports
  pub places : length before ≡ length done
  pub fit : outs_fit tree ports outs ≡ true

port_here : (tree : Module) (before : List SvPort) (port : SvPort) (ports : List SvPort) (index : ℕ) → before ++ (port ∷ ports) ≡ tree.ports → length before ≡ index
    → slice_get tree.ports index ≡ Some port
port_here tree before port ports index all is = rw (← all, ← is) (seam before port ports)

assign_line_cut : (assign endpoint line message wire is x close feed : List ℕ)
    → assign ++ (endpoint ++ (line ++ (message ++ (wire ++ (is ++ (x ++ (close ++ feed)))))))
    ≡ (assign ++ (endpoint ++ (line ++ (message ++ (wire ++ (is ++ (x ++ close))))))) ++ feed
assign_line_cut assign endpoint line message wire is x close feed = simp append_assoc

received_back : (whole : List Module) (tree : Module) (regs : List SvReg) (done : List SvOut) (port : SvPort) (ack : SvOperand) → Same tree regs
    → slice_get tree.ports (length done) ≡ Some port → out_fits tree port (Received ack) ≡ true
    → Goes (inside whole (with_all tree regs done []) item_wanted) (out_lines tree (port, Received ack)) (inside whole (with_all tree regs (done ++ (Received ack ∷ [])) []) item_wanted)
received_back whole tree regs done port ack same there fits =
    let draft = with_all tree regs done [] in
    let next = with_all tree regs (done ++ (Received ack ∷ [])) [] in
    let stand = stand_all tree regs done [] same in
    let parts = and_parts (port.received) (gives tree 1 ack) fits in
    let good = good_port port (all_at is_port_name tree.ports (length done) port same.good.ports_good there) in
    let line = wire_assign tree port wire.Ack ack in
    let steps : item_step draft line ≡ Some (onward next item_wanted) = rw (there, parts.0, given_back tree draft port wire.Ack 1 ack stand parts.1) refl in
    let cut : ack_assign_line tree port ack ≡ line ++ (10 ∷ []) =
    assign_line_cut (codes "  assign ") port.endpoint (codes "__") port.message (codes "__ack") (codes " = ") (operand_text tree ack) (codes ";") (10 ∷ []) in
    goes_same (inside whole draft item_wanted) (inside whole next item_wanted) (line ++ (10 ∷ [])) (ack_assign_line tree port ack) (sym cut)
    (goes_draft whole draft next item_wanted item_wanted line (assign_quiet tree draft port wire.Ack 1 ack stand good parts.1) steps)

sent_back : (whole : List Module) (tree : Module) (regs : List SvReg) (done : List SvOut) (port : SvPort) (value valid : SvOperand) → Same tree regs
    → slice_get tree.ports (length done) ≡ Some port → out_fits tree port (Sent value valid) ≡ true
    → Goes (inside whole (with_all tree regs done []) item_wanted) (out_lines tree (port, Sent value valid)) (inside whole (with_all tree regs (done ++ (Sent value valid ∷ [])) []) item_wanted)
sent_back whole tree regs done port value valid same there fits =
    let draft = with_all tree regs done [] in
    let next = with_all tree regs (done ++ (Sent value valid ∷ [])) [] in
    let stand = stand_all tree regs done [] same in
    let last = and_parts (not port.received && gives tree port.width value) (gives tree 1 valid) fits in
    let first = and_parts (not port.received) (gives tree port.width value) last.0 in
    let sends = not-true port.received first.0 in
    let good = good_port port (all_at is_port_name tree.ports (length done) port same.good.ports_good there) in
    let line = wire_assign tree port wire.Data value in
    let second_line = wire_assign tree port wire.Valid valid in
    let steps : item_step draft line ≡ Some (onward draft (second_wanted value)) = rw (there, sends, given_back tree draft port wire.Data port.width value stand first.1) refl in
    let second_steps : second_step draft value (slice_get draft.ports (length done)) second_line ≡ Some (onward next item_wanted) =
    rw (there, given_back tree draft port wire.Valid 1 valid stand last.1) refl in
    let cut : data_assign_line tree port value ≡ line ++ (10 ∷ []) =
    assign_line_cut (codes "  assign ") port.endpoint (codes "__") port.message (codes "__data") (codes " = ") (operand_text tree value) (codes ";") (10 ∷ []) in
    let second_cut : valid_assign_line tree port valid ≡ second_line ++ (10 ∷ []) =
    assign_line_cut (codes "  assign ") port.endpoint (codes "__") port.message (codes "__valid") (codes " = ") (operand_text tree valid) (codes ";") (10 ∷ []) in
    let begin = inside whole draft item_wanted in
    let middle = inside whole draft (second_wanted value) in
    let end = inside whole next item_wanted in
    goes_then begin middle end (data_assign_line tree port value) (valid_assign_line tree port valid)
    (goes_same begin middle (line ++ (10 ∷ [])) (data_assign_line tree port value) (sym cut)
    (goes_draft whole draft draft item_wanted (second_wanted value) line (assign_quiet tree draft port wire.Data port.width value stand good first.1) steps))
    (goes_same middle end (second_line ++ (10 ∷ [])) (valid_assign_line tree port valid) (sym second_cut)
    (goes_draft whole draft next (second_wanted value) item_wanted second_line (assign_quiet tree draft port wire.Valid 1 valid stand good last.1) second_steps))

out_back : (whole : List Module) (tree : Module) (regs : List SvReg) (done : List SvOut) (port : SvPort) (out : SvOut) → Same tree regs
    → slice_get tree.ports (length done) ≡ Some port → out_fits tree port out ≡ true
    → Goes (inside whole (with_all tree regs done []) item_wanted) (out_lines tree (port, out)) (inside whole (with_all tree regs (done ++ (out ∷ [])) []) item_wanted)
out_back whole tree regs done port (Received ack) same there fits = received_back whole tree regs done port ack same there fits
out_back whole tree regs done port (Sent value valid) same there fits = sent_back whole tree regs done port value valid same there fits

pub outs_back : (whole : List Module) (tree : Module) (regs : List SvReg) (before ports : List SvPort) (done outs : List SvOut) → OutsFit tree regs before ports done outs
    → Goes (inside whole (with_all tree regs done []) item_wanted) (flat_map (out_lines tree) (zip ports outs)) (inside whole (with_all tree regs (done ++ outs) []) item_wanted)
outs_back whole tree regs before [] done [] fit = rw (append-nil done) (stays (inside whole (with_all tree regs done []) item_wanted))
outs_back whole tree regs before [] done (out ∷ outs) fit = let fits = fit.fit in absurd cc
outs_back whole tree regs before (port ∷ ports) done [] fit = let fits = fit.fit in absurd cc
outs_back whole tree regs before (port ∷ ports) done (out ∷ outs) fit =
    let parts = and_parts (out_fits tree port out) (outs_fit tree ports outs) fit.fit in
    let there = port_here tree before port ports (length done) fit.all_ports fit.places in
    let places = fit.places in
    let joined : (done ++ (out ∷ [])) ++ outs ≡ done ++ (out ∷ outs) = append_assoc done (out ∷ []) outs in
    let begin = inside whole (with_all tree regs done []) item_wanted in
    let middle = inside whole (with_all tree regs (done ++ (out ∷ [])) []) item_wanted in
    let end = inside whole (with_all tree regs (done ++ (out ∷ outs)) []) item_wanted in
    let fit_later : OutsFit tree regs (before ++ (port ∷ [])) ports (done ++ (out ∷ [])) outs = record {
      same = fit.same;
      all_ports = append_assoc before (port ∷ []) ports ∙ fit.all_ports;
      places = omega (arith, length-append before (port ∷ []), length-append done (out ∷ []));
      fit = parts.1;
    } in
    let later : Goes middle (flat_map (out_lines tree) (zip ports outs)) end =
    rw joined at (outs_back whole tree regs (before ++ (port ∷ [])) ports (done ++ (out ∷ [])) outs fit_later) in
    goes_then begin middle end (out_lines tree (port, out)) (flat_map (out_lines tree) (zip ports outs)) (out_back whole tree regs done port out fit.same there parts.0) later

pub outs_as_many : (tree : Module) (ports : List SvPort) (outs : List SvOut) → outs_fit tree ports outs ≡ true → length ports ≡ length outs
outs_as_many tree [] [] fits = refl
outs_as_many tree [] (out ∷ outs) fits = absurd cc
outs_as_many tree (port ∷ ports) [] fits = absurd cc
outs_as_many tree (port ∷ ports) (out ∷ outs) fits =
    let later = outs_as_many tree ports outs (and_parts (out_fits tree port out) (outs_fit tree ports outs) fits).1 in
    omega arith
