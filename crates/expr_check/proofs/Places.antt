-- What is found in the tables is what the names stand for in the scope.
use Rattle.std.proofs.Common.{◌≡◌, ◌∙◌, ℕ, ◌<◌, true, false, List, [], ◌∷◌, None, Some, length, map, get_or, ap, sym, arith, suc, zero}
use Rattle.std.specs.Prelude.{bytes_eq, position}
use Rattle.std.specs.List.{list_any, position_or_len}
use Rattle.anvil_tree.specs.Tree.{Name}
use Rattle.core_term.specs.Process.{Register, nth_port, nth_register}
use Rattle.core_term.specs.ProcessView.{port_of, register_of}
use Rattle.core_term.specs.declared.process.CorePort.{CorePort}
use Rattle.core_term.specs.declared.process.CoreReg.{CoreReg}
use Rattle.core_file.specs.Scope.{is_among, number_among, is_port}
use Rattle.channel_classes.proofs.Found.{found, lost}
use Rattle.channel_classes.proofs.Table.{position_len_map, any_map}
use Rattle.expr_check.specs.Tables.{is_port_named, is_register_named}
use Rattle.expr_check.proofs.Named.{register_key}

nth_of : (registers : List CoreReg) (number : ℕ) (register : CoreReg) → number < length registers → register ≡ get_or registers number register
    → nth_register (map register_of registers) number ≡ register_of register
nth_of [] number register within is = absurd (omega arith)
nth_of (first ∷ registers) zero register within is = ap register_of (sym is)
nth_of (first ∷ registers) (suc number) register within is = nth_of registers number register (omega arith) is

-- the register of a name
pub record RegisterIs (registers : List CoreReg) (name : Name) (number : ℕ) (register : CoreReg) : Type 0 where
  pub among : is_among (map register_key registers) name ≡ true
  pub same : number ≡ number_among (map register_key registers) name
  pub width : register.width ≡ (nth_register (map register_of registers) (number_among (map register_key registers) name)).width

pub register_is : (registers slice : List CoreReg) (name : Name) (number : ℕ) (register : CoreReg) → Some number ≡ position (is_register_named name) registers
    → slice ≡ registers → register ≡ get_or slice number register → RegisterIs registers name number register
register_is registers slice name number register at whole found_there =
    let is = found_there ∙ ap (λ l. get_or l number register) whole in
    let here = found (is_register_named name) registers number at in
    let same : number ≡ number_among (map register_key registers) name = here.first ∙ sym (position_len_map (bytes_eq name) register_key registers) in
    record {
      among = any_map (bytes_eq name) register_key registers ∙ here.any;
      same = same;
      width = ap (λ (r : Register). r.width) (sym (nth_of registers number register here.within is)) ∙ ap (λ n. (nth_register (map register_of registers) n).width) same;
    }

pub no_register : (registers : List CoreReg) (name : Name) → None ≡ position (is_register_named name) registers → is_among (map register_key registers) name ≡ false
no_register registers name at = any_map (bytes_eq name) register_key registers ∙ lost (is_register_named name) registers at

port_at : (ports : List CorePort) (number : ℕ) (port : CorePort) → number < length ports → port ≡ get_or ports number port
    → nth_port (map port_of ports) number ≡ port_of port
port_at [] number port within is = absurd (omega arith)
port_at (first ∷ ports) zero port within is = ap port_of (sym is)
port_at (first ∷ ports) (suc number) port within is = port_at ports number port (omega arith) is

-- the port of an endpoint and a message
pub record PortIs (ports : List CorePort) (endpoint message : Name) (number : ℕ) (port : CorePort) : Type 0 where
  pub known : list_any (is_port endpoint message) (map port_of ports) ≡ true
  pub same : number ≡ position_or_len (is_port endpoint message) (map port_of ports)
  pub is : port_of port ≡ nth_port (map port_of ports) (position_or_len (is_port endpoint message) (map port_of ports))

pub port_is : (ports slice : List CorePort) (endpoint message : Name) (number : ℕ) (port : CorePort) → Some number ≡ position (is_port_named endpoint message) ports
    → slice ≡ ports → port ≡ get_or slice number port → PortIs ports endpoint message number port
port_is ports slice endpoint message number port at whole found_there =
    let is = found_there ∙ ap (λ l. get_or l number port) whole in
    let here = found (is_port_named endpoint message) ports number at in
    let same : number ≡ position_or_len (is_port endpoint message) (map port_of ports) = here.first ∙ sym (position_len_map (is_port endpoint message) port_of ports) in
    record {
      known = any_map (is_port endpoint message) port_of ports ∙ here.any;
      same = same;
      is = sym (port_at ports number port here.within is) ∙ ap (nth_port (map port_of ports)) same;
    }

pub no_port : (ports : List CorePort) (endpoint message : Name) → None ≡ position (is_port_named endpoint message) ports
    → list_any (is_port endpoint message) (map port_of ports) ≡ false
no_port ports endpoint message at = any_map (is_port endpoint message) port_of ports ∙ lost (is_port_named endpoint message) ports at
