-- How many ports and registers a process has at most.
use Rattle.std.proofs.Common.{◌≡◌, ◌≤◌, ℕ, true, nat_le, List, length, map, arith}
use Rattle.std.specs.Prelude.{IsTrue}
use Rattle.std.proofs.lemmas.Bool.{and_parts}
use Rattle.std.proofs.lemmas.Bool.Decides.{nat_tests}
use Rattle.std.proofs.lemmas.List.{length-map}
use Rattle.core_term.specs.declared.process.CorePort.{CorePort}
use Rattle.core_term.specs.declared.process.CoreReg.{CoreReg}
use Rattle.core_term.specs.declared.term.CoreTerm.{CoreTerm}
use Rattle.core_term.specs.Limits.{most_ports, most_registers}
use Rattle.core_term.specs.Names.{is_good_name}
use Rattle.core_term.specs.ProcessView.{port_of, process_of, register_of}
use Rattle.core_term.specs.Sized.{is_sized, process_fits}

module _ (name : List ℕ) (ports : List CorePort) (registers : List CoreReg) (threads : List CoreTerm)
    (sized : IsTrue (is_sized name ports registers threads)) where
  pub few_ports : length (map port_of ports) ≤ most_ports
  few_ports =
      let fits = (and_parts (process_fits (process_of name ports registers threads)) _ sized).0 in
      let few : nat_le (length (map port_of ports)) most_ports ≡ true = (and_parts _ _ (and_parts (is_good_name name) _ fits).1).0 in
      grind (arith, nat_tests)

  pub few_registers : length (map register_of registers) ≤ most_registers
  few_registers =
      let few : nat_le (length registers) most_registers ≡ true =
      (and_parts _ _ (and_parts (process_fits (process_of name ports registers threads)) _ sized).1).0 in
      let same = length-map registers register_of in
      grind (arith, nat_tests)
