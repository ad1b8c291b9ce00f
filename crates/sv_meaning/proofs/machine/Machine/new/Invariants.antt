use Rattle.std.proofs.Common.{◌≡◌, map, take, vec_capacity, vec_len}
use Rattle.sv_meaning.proofs.machine.Machine.new.Given as goal

abbrev pub invariant-loop-reg : goal.invariant-loop-reg
invariant-loop-reg l = record {
  reset : l.registers.items ≡ map (λ reg. reg.reset) (take l.reg-index l.reg-items);
  count : vec_len l.registers ≡ l.reg-index;
  room : vec_capacity l.registers ≡ vec_capacity l.initial.registers;
}
