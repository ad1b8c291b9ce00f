-- How lines that are read are seen.
use Rattle.sv_pieces.specs.declared.wires.WireLine.{WireLine}
use Rattle.sv_pieces.specs.declared.lines.Label.{Label}
use Rattle.sv_pieces.specs.declared.lines.Label.TheVariants as label
use Rattle.sv_pieces.specs.declared.lines.Declared.{Declared}
use Rattle.sv_lines.specs.Lines as lines

abbrev pub wire_line_of : WireLine → lines.WireLine
wire_line_of line =
    record {
      comes_in = line.comes_in;
      width = line.width;
      endpoint = line.endpoint.now;
      message = line.message.now;
      wire = line.wire;
      comma = line.comma;
    }

abbrev pub label_of : Label → lines.Label
label_of (label.Source name) = lines.source name
label_of (label.State number) = lines.state number
label_of (label.Net number) = lines.net number

abbrev pub declared_of : Declared → lines.Declared
declared_of declared = record { width = declared.width; label = label_of declared.label }
