-- What a sized process says of its ports and registers.
use Rattle.std.proofs.Common.{◌≡◌, ℕ, ◌≤◌, ap, List, [], ◌∷◌, length, map, nat_le, suc, refl, arith, true, ◌&&◌, IsTrue}
use Rattle.std.specs.List.{list_all}
use Rattle.std.proofs.lemmas.Bool.Decides.{nat_tests}
use Rattle.core_term.specs.declared.process.CorePort.{CorePort}
use Rattle.core_term.specs.declared.process.CoreReg.{CoreReg}
use Rattle.core_term.specs.declared.term.CoreTerm.{CoreTerm}
use Rattle.core_term.specs.Names.{is_good_name}
use Rattle.core_term.specs.ProcessView.{port_of, process_of}
use Rattle.core_term.specs.Sized.{is_sized, process_fits, port_fits}
use Rattle.run_laws.proofs.source_runs.Offers.{and_first, and_second}

pub ports_fit : (name : List ℕ) (ports : List CorePort) (regs : List CoreReg) (bodies : List CoreTerm) → IsTrue (is_sized name ports regs bodies) → IsTrue (list_all port_fits (map port_of ports))
ports_fit name ports regs bodies sized =
    let behind = and_second (nat_le (length (map port_of ports)) 64) _ (and_second (is_good_name name) _ (and_first (process_fits (process_of name ports regs bodies)) _ sized)) in
    and_first (list_all port_fits (map port_of ports)) _ behind

pub registers_few : (name : List ℕ) (ports : List CorePort) (regs : List CoreReg) (bodies : List CoreTerm) → IsTrue (is_sized name ports regs bodies) → length regs ≤ 64
registers_few name ports regs bodies sized =
    let few = and_first (nat_le (length regs) 64) _ (and_second (process_fits (process_of name ports regs bodies)) _ sized) in
    grind (arith, nat_tests)
