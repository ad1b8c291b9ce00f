-- A line of the header for any wire of one bit of a port: which way it goes, and its names.
use Rattle.std.specs.Prelude.{ℕ, Bool, List, ◌++◌, codes}
use Rattle.sv_tree.specs.declared.tree.SvPort.{SvPort}
use Rattle.sv_tree.specs.Text.{direction_text}

-- `  input logic [0:0] E__M` and the wire, or `output`
abbrev pub wire_line : (comes_in : Bool) → SvPort → (wire : List ℕ) → List ℕ
wire_line comes_in port wire =
    direction_text comes_in ++ (codes "0:0] " ++ (port.endpoint ++ (codes "__" ++ (port.message ++ wire))))
