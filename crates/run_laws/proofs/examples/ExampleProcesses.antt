-- Small processes as plain data, for the computed examples. Each has its source above it.
use Rattle.std.proofs.Common.{ℕ, Bool, true, false, List, [], ◌∷◌, ◌==◌, slice_index, zero, suc}
use Rattle.std.specs.Prelude.{codes}
use Rattle.core_term.specs.declared.operators.BinOp.TheVariants.{Add, Cat}
use Rattle.core_term.specs.Inputs.{Inputs}
use Rattle.core_term.specs.Term.{Lit, Var, Reg, Bin, One, Then, Both, Cycle, Set, Send, Recv, Block, Wait}
use Rattle.core_term.specs.Process.{LifeEnd, Cycles, Until, Port, Register, Process}

abbrev pub port : List ℕ → List ℕ → Bool → ℕ → LifeEnd → Port
port endpoint message received width end = record { endpoint = endpoint; message = message; received = received; width = width; life = end ∷ [] }

abbrev pub register : List ℕ → ℕ → Register
register name width = record { name = name; width = width; reset = 0 }

-- proc c() { reg a : logic[8]; loop { set a := *a + 8'd1 >> cycle 2 } }
abbrev pub counter : Process
counter = record {
  name = codes "c";
  ports = [];
  registers = register (codes "a") 8 ∷ [];
  threads = record { body = Then (Set 0 0 (Bin Add 8 8 (Reg 0) (Lit 8 1))) (One (Cycle 1 2)); count = 2 } ∷ [];
}

-- the same without its cycle: a turn begins in each cycle
abbrev pub fast_counter : Process
fast_counter = record {
  name = codes "c";
  ports = [];
  registers = register (codes "a") 8 ∷ [];
  threads = record { body = One (Set 0 0 (Bin Add 8 8 (Reg 0) (Lit 8 1))); count = 1 } ∷ [];
}

-- chan ch { left req : (logic[8]@res), right res : (logic[8]@#1) }
-- proc e(p : left ch) { loop { let x = recv p.req >> send p.res(x) >> cycle 1 } }
abbrev pub echo : Process
echo = record {
  name = codes "e";
  ports = port (codes "p") (codes "req") true 8 (Until 1) ∷ port (codes "p") (codes "res") false 8 (Cycles 1) ∷ [];
  registers = [];
  threads = record { body = Then (Recv 0 0) (Then (Send 1 1 (Var 0)) (One (Cycle 2 1))); count = 3 } ∷ [];
}

-- chan q { left m : (logic[8]@d), right d : (logic[1]@#1) }
-- proc j(a : left q, b : left q) { reg r : logic[8];
--   loop { { let x = recv a.m ; let y = recv b.m ; x >> y >> set r := x + y } >> send a.d(1'd1) >> send b.d(1'd1) >> cycle 1 } }
abbrev pub join : Process
join = record {
  name = codes "j";
  ports = port (codes "a") (codes "m") true 8 (Until 1) ∷ port (codes "a") (codes "d") false 1 (Cycles 1) ∷ port (codes "b") (codes "m") true 8 (Until 3) ∷ port (codes "b") (codes "d") false 1 (Cycles 1) ∷ [];
  registers = register (codes "r") 8 ∷ [];
  threads = record {
    body =
        Then (Block 0 (Both (Recv 1 0) (Both (Recv 2 2) (Then (Wait 3 1) (Then (Wait 4 2) (One (Set 5 0 (Bin Add 8 8 (Var 1) (Var 2)))))))))
        (Then (Send 6 1 (Lit 1 1)) (Then (Send 7 3 (Lit 1 1)) (One (Cycle 8 1))));
    count = 9;
  } ∷ [];
}

-- chan mem { left rd : (logic[16]@rsp), right rsp : (logic[32]@#2) }
-- chan wb { left wr : (logic[48]@ok), right ok : (logic[1]@#1) }
-- proc client(m : right mem, w : right wb) {
--   reg addr : logic[16]; reg sum : logic[32]; reg out : logic[48];
--   loop { send m.rd(*addr) >> let d = recv m.rsp >> set sum := *sum + d >> set addr := *addr + 16'd4 }
--   loop { set out := cat(*addr, *sum) >> send w.wr(*out) >> let k = recv w.ok >> cycle 8 } }
abbrev pub client : Process
client = record {
  name = codes "client";
  ports = port (codes "m") (codes "rd") false 16 (Until 1) ∷ port (codes "m") (codes "rsp") true 32 (Cycles 2) ∷ port (codes "w") (codes "wr") false 48 (Until 3) ∷ port (codes "w") (codes "ok") true 1 (Cycles 1) ∷ [];
  registers = register (codes "addr") 16 ∷ register (codes "sum") 32 ∷ register (codes "out") 48 ∷ [];
  threads =
      record { body = Then (Send 0 0 (Reg 0)) (Then (Recv 1 1) (Then (Set 2 1 (Bin Add 32 32 (Reg 1) (Var 1))) (One (Set 3 0 (Bin Add 16 16 (Reg 0) (Lit 16 4)))))); count = 4 }
      ∷ record { body = Then (Set 0 2 (Bin Cat 48 32 (Reg 0) (Reg 1))) (Then (Send 1 2 (Reg 2)) (Then (Recv 2 3) (One (Cycle 3 8)))); count = 4 } ∷ [];
}

-- the list of the number m
abbrev pub nth : List (List ℕ) → ℕ → List ℕ
nth [] m = []
nth (first ∷ rest) zero = first
nth (first ∷ rest) (suc m) = nth rest m

-- what comes in for n cycles: of each port its `valid` or `ack` by cycle, and its data by cycle
abbrev pub given : ℕ → List (List ℕ) → List (List ℕ) → Inputs
given n bits numbers = record {
  count = n;
  valid = λ m t. slice_index (nth bits m) t == 1;
  data_at = λ m t. slice_index (nth numbers m) t;
  ack = λ m t. slice_index (nth bits m) t == 1;
}

abbrev pub idle : ℕ → Inputs
idle n = given n [] []
