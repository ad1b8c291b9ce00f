-- Rows of a process against a module that has its ports.
--
-- The claim: a row that fits the process fits the ports of the module, and a row of outputs with a place for each port and
-- register of the process has those of the module. The argument goes along the lists: a cell looks at the direction and the
-- width of its port alone, and states have no place.
use Rattle.std.proofs.Common.{◌≡◌, ◌∙◌, suc, List, [], ◌∷◌, inl, inr, length, map, refl, ap, sym}
use Rattle.std.specs.Prelude.{◌&&◌, IsTrue, filter}
use Rattle.std.proofs.Math.ListN.{length-map}
use Rattle.std.proofs.lemmas.Bool.{cases_Bool}
use Rattle.core_term.specs.declared.rows.InCell.{InCell}
use Rattle.core_term.specs.declared.rows.InCell.TheVariants.{Received, Sent}
use Rattle.core_term.specs.declared.rows.OutRow.{OutRow}
use Rattle.core_term.specs.declared.rows.Row.{Row}
use Rattle.core_term.specs.Process.{Port, Process}
use Rattle.core_term.specs.Rows.{cell_fits, cells_fit, row_fits}
use Rattle.run_log.specs.Places.{HasPlaces}
use Rattle.sv_meaning.specs.Rows.{port_of, FitsPorts}
use Rattle.sv_meaning.specs.Shown.{source_count}
use Rattle.sv_meaning.specs.Shown as machine
use Rattle.sv_tree.specs.declared.tree.SvReg.{SvReg}
use Rattle.sv_tree.specs.Module.{Module}
use Rattle.sv_tree.specs.Sources.{is_source, source_registers}
use Rattle.module_log.specs.SamePorts.{HasPortsOf, module_port, of_module, of_process}

same_cell : (port : Port) (cell : InCell) → cell_fits (port_of (module_port port)) cell ≡ cell_fits port cell
same_cell port (Received valid number) = refl
same_cell port (Sent ack) = refl

same_cells : (ports : List Port) (cells : List InCell) → cells_fit (map port_of (map module_port ports)) cells ≡ cells_fit ports cells
same_cells [] [] = refl
same_cells [] (cell ∷ cells) = refl
same_cells (port ∷ ports) [] = refl
same_cells (port ∷ ports) (cell ∷ cells) = λ i. same_cell port cell i && same_cells ports cells i

pub row_fits_module : (p : Process) (tree : Module) → HasPortsOf p tree → (row : Row) → IsTrue (row_fits p.ports row) → FitsPorts tree row
row_fits_module p tree same row fits =
    ap (λ ports. cells_fit (map port_of ports) row.cells.items) same.ports ∙ (same_cells p.ports row.cells.items ∙ fits)

sources_counted : (regs : List SvReg) → source_count regs ≡ length (filter (λ reg. is_source reg.name) regs)
sources_counted [] = refl
sources_counted (reg ∷ regs) = elim (cases_Bool (is_source reg.name)) [
  | inl source ↦ rw source (ap suc (sources_counted regs))
  | inr state ↦ rw state (sources_counted regs)
]

-- as many ports, and as many source registers
port_count : (p : Process) (tree : Module) → HasPortsOf p tree → length tree.ports ≡ length p.ports
port_count p tree same = ap length same.ports ∙ length-map p.ports module_port

register_count : (p : Process) (tree : Module) → HasPortsOf p tree → source_count tree.regs ≡ length p.registers
register_count p tree same =
    sources_counted tree.regs
    ∙ (sym (length-map (source_registers tree) of_module) ∙ (ap length same.registers ∙ length-map p.registers of_process))

pub places_of_module : (p : Process) (tree : Module) → HasPortsOf p tree → (out : OutRow) → HasPlaces p out → machine.HasPlaces tree out
places_of_module p tree same out places = (places.0 ∙ sym (port_count p tree same), places.1 ∙ sym (register_count p tree same))

pub places_of_process : (p : Process) (tree : Module) → HasPortsOf p tree → (out : OutRow) → machine.HasPlaces tree out → HasPlaces p out
places_of_process p tree same out places = (places.0 ∙ port_count p tree same, places.1 ∙ register_count p tree same)
