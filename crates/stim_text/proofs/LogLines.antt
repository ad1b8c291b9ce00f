-- The line that the code puts is the line of the log: of the wires that the rows show, and the registers that the outputs show.
use Rattle.std.proofs.Common.{◌≡◌, ℕ, ◌+◌, ◌<◌, ◌≤◌, Bool, true, false, List, [], ◌∷◌, ◌++◌, length, map, zero, suc, refl, ap, sym, subst, ◌∙◌, arith, append_assoc, append-nil, flat_map, IsTrue}
use Rattle.std.specs.Prelude.{slice_index_or, codes, decimal}
use Rattle.std.specs.List.{enumerate_from}
use Rattle.anvil_bits.specs.Number.{Number}
use Rattle.core_term.specs.declared.process.CorePort.{CorePort}
use Rattle.core_term.specs.declared.process.CoreReg.{CoreReg}
use Rattle.core_term.specs.declared.rows.InCell.{InCell}
use Rattle.core_term.specs.declared.rows.OutCell.{OutCell}
use Rattle.core_term.specs.declared.rows.OutRow.{OutRow}
use Rattle.core_term.specs.declared.rows.Row.{Row}
use Rattle.core_term.specs.declared.term.CoreTerm.{CoreTerm}
use Rattle.core_term.specs.LogText.{bit_text, data_text, is_shown, port_text, port_texts, register_texts, spaced, log_line}
use Rattle.core_term.specs.Process.{Port, Process, nth_port, life_of}
use Rattle.core_term.specs.ProcessView.{port_of, register_of, process_of}
use Rattle.core_term.specs.Rows.{number_of, cells_fit, registers_shown}
use Rattle.core_term.specs.Wires.{Wires}
use Rattle.stim_text.specs.LogLine.{PortWires, wires_at, field_of, fields_of, number_field, number_fields, gap, gapped, gapped_from, line_of}
use Rattle.stim_text.specs.Seen.{ShowsRows}
use Rattle.stim_text.specs.Watching.{Watching, shown_at, out_cells_fit, StandsAfter}
use Rattle.stim_text.proofs.RowsSeen.{wires_nth, port_seen, now, one_more}

-- Texts with one space between.

pub gapped_append : (index : ℕ) (texts more : List (List ℕ)) → gapped_from index (texts ++ more) ≡ gapped_from index texts ++ gapped_from (index + length texts) more
gapped_append index [] more = ap (λ n. gapped_from n more) (omega arith)
gapped_append index (text ∷ texts) more =
    ap (λ rest. (gap index ++ text) ++ rest) (gapped_append (index + 1) texts more)
    ∙ (ap (λ n. (gap index ++ text) ++ (gapped_from (index + 1) texts ++ gapped_from n more)) (omega arith) ∙ sym (append_assoc (gap index ++ text) (gapped_from (index + 1) texts) (gapped_from (index + length (text ∷ texts)) more)))

spaced_later : (index : ℕ) (text : List ℕ) (texts : List (List ℕ)) → gapped_from (index + 1) (text ∷ texts) ≡ codes " " ++ spaced (text ∷ texts)
spaced_later index text [] = let later : index + 1 ≡ suc index = omega arith in rw later (append-nil (codes " " ++ text))
spaced_later index text (next ∷ texts) =
    let later : index + 1 ≡ suc index = omega arith in
    ap (λ rest. (gap (index + 1) ++ text) ++ rest) (spaced_later (index + 1) next texts) ∙ rw later refl

pub spaced_is : (texts : List (List ℕ)) → spaced texts ≡ gapped_from 0 texts
spaced_is [] = refl
spaced_is (text ∷ []) = sym (append-nil text)
spaced_is (text ∷ next ∷ texts) = ap (λ rest. text ++ rest) (sym (spaced_later 0 next texts))

-- The fields of a line.

pub record FieldSeen (wires : Wires) (cycle m : ℕ) (port : Port) (seen : PortWires) (on : Bool) : Type 0 where
  pub valid : wires.valid m cycle ≡ seen.valid
  pub ack : wires.ack m cycle ≡ seen.ack
  pub number : wires.data_at m cycle ≡ seen.number.value
  pub shown : on ≡ is_shown wires port.life m cycle

field_same : (port : CorePort) (seen : PortWires) (on valid ack : Bool) (number : ℕ) (shown : Bool) → valid ≡ seen.valid → ack ≡ seen.ack → number ≡ seen.number.value → on ≡ shown
    → field_of port on seen
    ≡ port.endpoint ++ (codes "." ++ (port.message ++ (codes "=v" ++ (bit_text valid ++ (codes "a" ++ (bit_text ack ++ (codes "d" ++ data_text port.received shown number)))))))
field_same port seen on valid ack number shown e f g h = rw (e, f, g, ← h) refl

fields_are : (wires : Wires) (cycle low : ℕ) (ports : List CorePort) (cells : List InCell) (outs : List OutCell) (shown : List Bool) → length cells ≡ length ports → length outs ≡ length ports → length shown ≡ length ports
    → ((m : ℕ) → m < length ports → FieldSeen wires cycle (low + m) (nth_port (map port_of ports) m) (wires_nth cells outs m) (slice_index_or shown m false))
    → fields_of ports cells outs shown ≡ port_texts wires cycle low (map port_of ports)
fields_are wires cycle low [] cells outs shown a b c each = refl
fields_are wires cycle low (port ∷ ports) [] outs shown a b c each = absurd (omega arith)
fields_are wires cycle low (port ∷ ports) (cell ∷ cells) [] shown a b c each = absurd (omega arith)
fields_are wires cycle low (port ∷ ports) (cell ∷ cells) (out ∷ outs) [] a b c each = absurd (omega arith)
fields_are wires cycle low (port ∷ ports) (cell ∷ cells) (out ∷ outs) (on ∷ shown) a b c each =
    let here : FieldSeen wires cycle low (port_of port) (wires_at cell out) on = subst (λ m. FieldSeen wires cycle m (port_of port) (wires_at cell out) on) (omega arith) (each 0 (omega arith)) in
    let rest =
    fields_are wires cycle (low + 1) ports cells outs shown (omega arith) (omega arith) (omega arith)
    (λ m less. subst (λ n. FieldSeen wires cycle n (nth_port (map port_of ports) m) (wires_nth cells outs m) (slice_index_or shown m false)) (omega arith) (each (suc m) (omega arith))) in
    let wires_same : field_of port on (wires_at cell out) ≡ port_text wires cycle low (port_of port) =
    field_same port (wires_at cell out) on (wires.valid low cycle) (wires.ack low cycle) (wires.data_at low cycle) (is_shown wires (port_of port).life low cycle) here.valid here.ack here.number here.shown in
    ap (λ text. text ∷ fields_of ports cells outs shown) wires_same ∙ ap (λ texts. port_text wires cycle low (port_of port) ∷ texts) rest

numbers_are : (registers : ℕ → ℕ → ℕ) (cycle low : ℕ) (regs : List CoreReg) → number_fields regs (registers_shown registers cycle low (map register_of regs)) ≡ register_texts registers cycle low (map register_of regs)
numbers_are registers cycle low [] = refl
numbers_are registers cycle low (reg ∷ regs) = ap (λ rest. number_field reg (number_of reg.width (registers cycle low)) ∷ rest) (numbers_are registers cycle (low + 1) regs)

pub fields_count : (ports : List CorePort) (cells : List InCell) (outs : List OutCell) (shown : List Bool) → length cells ≡ length ports → length outs ≡ length ports → length shown ≡ length ports → length (fields_of ports cells outs shown) ≡ length ports
fields_count [] cells outs shown a b c = refl
fields_count (port ∷ ports) [] outs shown a b c = absurd (omega arith)
fields_count (port ∷ ports) (cell ∷ cells) [] shown a b c = absurd (omega arith)
fields_count (port ∷ ports) (cell ∷ cells) (out ∷ outs) [] a b c = absurd (omega arith)
fields_count (port ∷ ports) (cell ∷ cells) (out ∷ outs) (on ∷ shown) a b c = ap suc (fields_count ports cells outs shown (omega arith) (omega arith) (omega arith))

-- The whole line.

pub line_is : (name : List ℕ) (ports : List CorePort) (regs : List CoreReg) (bodies : List CoreTerm) (rows : List Row) (outs : List OutRow) (row : Row) (out : OutRow) (watch : Watching) (wires : Wires) (registers : ℕ → ℕ → ℕ)
    → length row.cells.items ≡ length ports → length out.cells.items ≡ length ports → length watch.shown ≡ length ports
    → cells_fit (map port_of ports) row.cells.items ≡ true → out_cells_fit (map port_of ports) out.cells.items ≡ true
    → StandsAfter (process_of name ports regs bodies) (rows ++ row ∷ []) (outs ++ out ∷ []) watch → ShowsRows (process_of name ports regs bodies) wires (rows ++ row ∷ []) (outs ++ out ∷ [])
    → out.regs.items ≡ registers_shown registers (length rows) 0 (map register_of regs)
    → line_of ports regs row.cells.items out.cells.items out.regs.items watch.shown ≡ log_line (process_of name ports regs bodies) wires registers (length rows)
line_is name ports regs bodies rows outs row out watch wires registers a b c fits out_fits stands showing shows =
    let fields : List (List ℕ) = fields_of ports row.cells.items out.cells.items watch.shown in
    let count : length (fields_of ports row.cells.items out.cells.items watch.shown) ≡ length ports = fields_count ports row.cells.items out.cells.items watch.shown a b c in
    let from_zero : length ports ≡ 0 + length (fields_of ports row.cells.items out.cells.items watch.shown) = omega arith in
    let wires_part : fields_of ports row.cells.items out.cells.items watch.shown ≡ port_texts wires (length rows) 0 (map port_of ports) = fields_are wires (length rows) 0 ports row.cells.items out.cells.items watch.shown a b c each in
    let registers_part : number_fields regs out.regs.items ≡ register_texts registers (length rows) 0 (map register_of regs) = ap (number_fields regs) shows ∙ numbers_are registers (length rows) 0 regs in
    sym (append_assoc (gapped_from 0 fields) (gapped_from (length ports) (number_fields regs out.regs.items)) (codes "\n"))
    ∙ ap (λ text. text ++ codes "\n")
    (ap (λ n. gapped_from 0 fields ++ gapped_from n (number_fields regs out.regs.items)) from_zero
    ∙ (sym (gapped_append 0 fields (number_fields regs out.regs.items)) ∙ (sym (spaced_is (fields ++ number_fields regs out.regs.items)) ∙ rw (wires_part, registers_part) refl)))
  where
    map_count : (ports : List CorePort) → length (map port_of ports) ≡ length ports
    map_count [] = refl
    map_count (port ∷ ports) = ap suc (map_count ports)

    each : (m : ℕ) → m < length ports → FieldSeen wires (length rows) (0 + m) (nth_port (map port_of ports) m) (wires_nth row.cells.items out.cells.items m) (slice_index_or watch.shown m false)
    each m less =
        let p : Process = process_of name ports regs bodies in
        let there = now (process_of name ports regs bodies) wires rows outs row out showing m in
        let seen = port_seen (map port_of ports) row.cells.items out.cells.items m fits out_fits in
        let more : length (rows ++ row ∷ []) ≡ length rows + 1 = one_more rows row in
        let count = map_count ports in
        let here : FieldSeen wires (length rows) m (nth_port (map port_of ports) m) (wires_nth row.cells.items out.cells.items m) (slice_index_or watch.shown m false) = record {
          valid = there.valid ∙ seen.valid;
          ack = there.ack ∙ seen.ack;
          number = there.data_at ∙ seen.number;
          shown = (stands.stands wires showing).shown (length rows) m more (omega arith);
        } in
        subst (λ n. FieldSeen wires (length rows) n (nth_port (map port_of ports) m) (wires_nth row.cells.items out.cells.items m) (slice_index_or watch.shown m false)) (omega arith) here
