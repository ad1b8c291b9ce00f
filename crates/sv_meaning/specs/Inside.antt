-- What a `Machine` shows of what it holds, and what it keeps.
use Rattle.std.specs.Prelude.{◌≤◌, length, vec_capacity}
use Rattle.sv_meaning.specs.declared.machine.Machine.TheInside.{Inside}
use Rattle.sv_meaning.specs.State.{State}
use Rattle.sv_meaning.specs.Cycle.{AreRegisters, values}

abbrev pub state_of : Inside → State
state_of m = record { tree = m.module.now; registers = values m.registers.items }

-- the registers have their widths, and there is room for the values of a cycle
abbrev pub IsMachine : Inside → Type 0
IsMachine m =
    AreRegisters m.module.now m.registers.items
    × (length m.module.now.nets ≤ vec_capacity m.nets)
    × (length m.module.now.regs ≤ vec_capacity m.registers)
    × (length m.module.now.regs ≤ vec_capacity m.nexts)
