-- How many items the lists have that one cycle makes.
use Rattle.std.proofs.Common.{◌≡◌, ℕ, ap, arith, refl, List, [], ◌∷◌, length, map, Bool, IsTrue, suc}
use Rattle.core_term.specs.declared.process.CorePort.{CorePort}
use Rattle.core_term.specs.declared.rows.InCell.{InCell}
use Rattle.core_term.specs.Process.{Port}
use Rattle.core_term.specs.ProcessView.{port_of}
use Rattle.core_term.specs.Rows.{cell_fits, cells_fit}
use Rattle.run_laws.proofs.source_runs.Offers.{and_second}
use Rattle.exchanges.specs.declared.latest.Latest.{Latest}
use Rattle.exchanges.specs.Lives.{lives_of}
use Rattle.sim_laws.specs.declared.drive.Drive.{Drive}
use Rattle.sim_laws.specs.Stands.{no_drives, all_meet, shown_cells, next_latests}

pub map_count : {X Y : Type 0} (f : X → Y) (xs : List X) → length (map f xs) ≡ length xs
map_count f [] = refl
map_count f (x ∷ xs) = ap suc (map_count f xs)

pub fit_long : (ports : List Port) (cells : List InCell) → IsTrue (cells_fit ports cells) → length cells ≡ length ports
fit_long [] [] k = refl
fit_long [] (cell ∷ cells) k = absurd cc
fit_long (port ∷ ports) [] k = absurd cc
fit_long (port ∷ ports) (cell ∷ cells) k = ap suc (fit_long ports cells (and_second (cell_fits port cell) _ k))

map_long : (ports : List CorePort) → length (map port_of ports) ≡ length ports
map_long [] = refl
map_long (port ∷ ports) = ap suc (map_long ports)

pub no_drives_count : (ports : List CorePort) → length (no_drives (map port_of ports)) ≡ length ports
no_drives_count [] = refl
no_drives_count (port ∷ ports) = ap suc (no_drives_count ports)

pub met_count : (cells : List InCell) (drives : List Drive) → length drives ≡ length cells → length (all_meet cells drives) ≡ length cells
met_count [] drives e = refl
met_count (cell ∷ cells) [] e = absurd (omega arith)
met_count (cell ∷ cells) (drive ∷ drives) e = ap suc (met_count cells drives (omega arith))

pub shown_count : (ports : List CorePort) (drives : List Drive) (latests : List Latest) → length drives ≡ length ports → length latests ≡ length ports → length (shown_cells (map port_of ports) drives latests) ≡ length ports
shown_count [] drives latests a b = refl
shown_count (p ∷ ports) [] latests a b = absurd (omega arith)
shown_count (p ∷ ports) (y ∷ drives) [] a b = absurd (omega arith)
shown_count (p ∷ ports) (y ∷ drives) (z ∷ latests) a b = ap suc (shown_count ports drives latests (omega arith) (omega arith))

pub latests_count : (exchanged rest : List Bool) (ports : List CorePort) (drives : List Drive) (latests : List Latest) → length rest ≡ length ports → length drives ≡ length ports → length latests ≡ length ports → length (next_latests exchanged rest (lives_of (map port_of ports)) drives latests) ≡ length ports
latests_count exchanged [] [] drives latests a b c = refl
latests_count exchanged [] (p ∷ ports) drives latests a b c = absurd (omega arith)
latests_count exchanged (x ∷ rest) [] drives latests a b c = absurd (omega arith)
latests_count exchanged (x ∷ rest) (p ∷ ports) [] latests a b c = absurd (omega arith)
latests_count exchanged (x ∷ rest) (p ∷ ports) (y ∷ drives) [] a b c = absurd (omega arith)
latests_count exchanged (x ∷ rest) (p ∷ ports) (y ∷ drives) (z ∷ latests) a b c = ap suc (latests_count exchanged rest ports drives latests (omega arith) (omega arith) (omega arith))
