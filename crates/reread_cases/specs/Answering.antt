-- A process that takes a bit and sends it where it is 1, a list of two cycles, and its re-reading run there:
-- loop { let x = recv p.req >> if x { send p.res(x) } >> cycle 1 }
--
-- In cycle 0 a 1 comes and is taken, sent and taken by the partner. In cycle 1 the next turn waits, and the data wire
-- of `req` shows 0. So the data of `res`, which are read again, are 0 there though 1 was sent: no life lasts so long.
use Rattle.std.specs.Prelude.{ℕ, ◌==◌, if◌then◌else◌, Bool, true, false, [], ◌∷◌, codes}
use Rattle.core_term.specs.Inputs.{Inputs}
use Rattle.core_term.specs.Term.{Var, Term, One, Then, Act, Cycle, Send, Recv, When}
use Rattle.core_term.specs.Process.{Cycles, Process}
use Rattle.core_term.specs.Reread.{Reread, IsReread}

abbrev pub taken : Act
taken = Recv 0 0

abbrev pub sent : Term
sent = One (Send 2 1 (Var 0))

abbrev pub asked : Act
asked = When 1 (Var 0) sent

abbrev pub last : Term
last = One (Cycle 3 1)

abbrev pub decided : Term
decided = Then asked last

abbrev pub body : Term
body = Then taken decided

abbrev pub answering : Process
answering = record {
  name = codes "a";
  ports =
      (record { endpoint = codes "p"; message = codes "req"; received = true; width = 1; life = Cycles 1 ∷ [] })
      ∷ (record { endpoint = codes "p"; message = codes "res"; received = false; width = 1; life = Cycles 1 ∷ [] })
      ∷ [];
  registers = [];
  threads = (record { body = body; count = 4 }) ∷ [];
}

-- what comes in: in cycle 0 a 1, and the partner takes what is sent
abbrev pub first_alone : ℕ → Bool
first_alone t = t == 0

abbrev pub data_in : ℕ → ℕ
data_in t = if t == 0 then 1 else 0

abbrev pub inputs : Inputs
inputs = record {
  count = 2;
  valid = λ m t. first_alone t;
  data_at = λ m t. data_in t;
  ack = λ m t. first_alone t;
}

-- the run: the one `if` decides for its first side, `req` is asked for in both cycles, and `res` is offered in cycle 0
abbrev pub run : Reread
run = record {
  registers = λ t r. 0;
  decision = λ j p start. true;
  side = λ j p c. p == 1;
  wires = record {
    count = 2;
    valid = λ m t. if m == 0 then first_alone t else (if m == 1 then first_alone t else false);
    ack = λ m t. if m == 0 then true else first_alone t;
    data_at = λ m t. if m == 0 then data_in t else (if m == 1 then data_in t else 0);
  };
}

-- It is one.
abbrev pub ReadingAgainIsMet : Type 0
ReadingAgainIsMet = IsReread answering inputs run
