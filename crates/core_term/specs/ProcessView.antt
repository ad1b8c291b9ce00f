-- A core process of the code as the plain process that it stands for.
use Rattle.std.specs.Prelude.{ℕ, List, [], ◌∷◌, map}
use Rattle.core_term.specs.declared.term.CoreTerm.{CoreTerm}
use Rattle.core_term.specs.declared.process.CoreLife.{CoreLife}
use Rattle.core_term.specs.declared.process.CoreLife.TheVariants as life
use Rattle.core_term.specs.declared.process.CorePort.{CorePort}
use Rattle.core_term.specs.declared.process.CoreReg.{CoreReg}
use Rattle.core_term.specs.Numbering.{size}
use Rattle.core_term.specs.Process.{LifeEnd, Cycles, Until, Port, Register, Thread, Process, nth_port, nth_register}
use Rattle.core_term.specs.Widths.{Widths}
use Rattle.core_term.specs.View.{term_of}

abbrev pub end_of_life : CoreLife → LifeEnd
end_of_life (life.Cycles k) = Cycles k
end_of_life (life.Until m) = Until m

abbrev pub port_of : CorePort → Port
port_of port =
    record {
      endpoint = port.endpoint;
      message = port.message;
      received = port.received;
      width = port.width;
      life = end_of_life port.life ∷ [];
    }

abbrev pub register_of : CoreReg → Register
register_of register = record { name = register.name; width = register.width; reset = register.reset.value }

-- the widths of ports and registers; no variable is in scope
abbrev pub widths_of : List Port → List Register → Widths
widths_of ports registers =
    record {
      registers = λ r. (nth_register registers r).width;
      ports = λ m.
          (nth_port ports m).width;
      variables = λ y. 0;
    }

abbrev pub thread_of : Widths → CoreTerm → Thread
thread_of widths body = record { body = term_of widths body; count = size (term_of widths body) }

abbrev pub process_of : List ℕ → List CorePort → List CoreReg → List CoreTerm → Process
process_of name ports registers threads = record {
  name = name;
  ports = map port_of ports;
  registers = map register_of registers;
  threads = map (thread_of (widths_of (map port_of ports) (map register_of registers))) threads;
}
