-- What `StandsAfter` says at the inputs that the rows are: the registers of one run, so of one machine.
use Rattle.std.proofs.Common.{◌≡◌, List, length, refl, sym, subst}
use Rattle.core_term.specs.declared.rows.Row.{Row}
use Rattle.core_term.specs.Rows.{inputs_of}
use Rattle.sv_tree.specs.Clocked.{registers_at}
use Rattle.sv_meaning.specs.Rows.{BeginsWith}
use Rattle.sv_meaning.specs.State.{State}
use Rattle.sv_meaning.specs.Stands.{StandsAfter}

-- the inputs that are made of rows begin with them
pub begins_with_its_rows : (rows : List Row) → BeginsWith (inputs_of rows) rows
begins_with_its_rows rows = record { valid = λ port cycle within. refl; data_at = λ port cycle within. refl; ack = λ port cycle within. refl }

pub registers_of_rows :
    (rows : List Row) (machine : State) → StandsAfter rows machine
    → machine.registers ≡ registers_at machine.tree (inputs_of rows) (length rows)
registers_of_rows rows machine stands = stands (inputs_of rows) (begins_with_its_rows rows)

-- two machines of one module that stand after the same rows are one
pub same_after_same_rows :
    (rows : List Row) (first second : State) → first.tree ≡ second.tree → StandsAfter rows first → StandsAfter rows second
    → first.registers ≡ second.registers
same_after_same_rows rows first second same stands also =
    let one : first.registers ≡ registers_at second.tree (inputs_of rows) (length rows) =
    subst (λ tree. first.registers ≡ registers_at tree (inputs_of rows) (length rows)) same (registers_of_rows rows first stands) in
    subst (λ registers. first.registers ≡ registers) (sym (registers_of_rows rows second also)) one
