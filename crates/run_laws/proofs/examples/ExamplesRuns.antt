-- Runs and logs, computed. The wanted texts are worked out by hand.
use Rattle.std.proofs.Common.{◌≡◌, ℕ, ◌+◌, List, [], ◌∷◌, ◌++◌, refl, arith, zero, suc}
use Rattle.std.specs.Prelude.{codes, decimal}
use Rattle.std.proofs.lemmas.Fmt.{decimal_digit}
use Rattle.core_term.specs.Inputs.{Inputs}
use Rattle.core_term.specs.Process.{Process}
use Rattle.core_term.specs.History.{history}
use Rattle.core_term.specs.Outputs.{wires}
use Rattle.core_term.specs.LogText.{log_text}
use Rattle.run_laws.proofs.examples.ExampleProcesses.{counter, fast_counter, echo, join, client, given, idle}

-- the log of the first n cycles of a run
abbrev log_of : Process → Inputs → ℕ → List ℕ
log_of p inputs n = log_text p (wires p inputs (history p inputs)) (history p inputs) 0 n

-- what the register r shows in the n cycles from t on
abbrev registers_of : Process → Inputs → ℕ → ℕ → ℕ → List ℕ
registers_of p inputs r t zero = []
registers_of p inputs r t (suc n) = history p inputs t r ∷ registers_of p inputs r (t + 1) n

-- numbers of one digit
zero_is : decimal 0 ≡ 48 ∷ []
zero_is = decimal_digit 0 (omega arith)

one_is : decimal 1 ≡ 49 ∷ []
one_is = decimal_digit 1 (omega arith)

two_is : decimal 2 ≡ 50 ∷ []
two_is = decimal_digit 2 (omega arith)

three_is : decimal 3 ≡ 51 ∷ []
three_is = decimal_digit 3 (omega arith)

four_is : decimal 4 ≡ 52 ∷ []
four_is = decimal_digit 4 (omega arith)

five_is : decimal 5 ≡ 53 ∷ []
five_is = decimal_digit 5 (omega arith)

seven_is : decimal 7 ≡ 55 ∷ []
seven_is = decimal_digit 7 (omega arith)

-- a set shows its value from the next cycle on, and the next turn begins where this one has ended
counts : log_of counter (idle 5) 5 ≡ codes "a=0\na=1\na=1\na=1\na=2\n"
counts = rw (zero_is, one_is, two_is) refl

counts_fast : log_of fast_counter (idle 3) 3 ≡ codes "a=0\na=1\na=2\n"
counts_fast = rw (zero_is, one_is, two_is) refl

-- a request in cycle 1 is taken in it, and answered until the answer is taken
abbrev request : Inputs
request = given 4 ((0 ∷ 1 ∷ 0 ∷ 0 ∷ []) ∷ (0 ∷ 0 ∷ 1 ∷ 0 ∷ []) ∷ []) ((0 ∷ 7 ∷ 7 ∷ 0 ∷ []) ∷ [])

echoes : log_of echo request 4
    ≡ codes "p.req=v0a1d0 p.res=v0a0d-\np.req=v1a1d7 p.res=v1a0d7\np.req=v0a0d7 p.res=v1a1d7\np.req=v0a1d0 p.res=v0a0d-\n"
echoes = rw (zero_is, seven_is) refl

-- two receives that begin together, in either order
abbrev first_then_second : Inputs
first_then_second = given 4 ((1 ∷ 0 ∷ 0 ∷ 0 ∷ []) ∷ (0 ∷ 0 ∷ 1 ∷ 0 ∷ []) ∷ (0 ∷ 1 ∷ 0 ∷ 0 ∷ []) ∷ (0 ∷ 0 ∷ 1 ∷ 0 ∷ []) ∷ []) ((3 ∷ 3 ∷ 3 ∷ 0 ∷ []) ∷ [] ∷ (0 ∷ 4 ∷ 4 ∷ 0 ∷ []) ∷ [])

joins : log_of join first_then_second 4
    ≡ codes "a.m=v1a1d3 a.d=v0a0d- b.m=v0a1d0 b.d=v0a0d- r=0\na.m=v0a0d3 a.d=v0a0d- b.m=v1a1d4 b.d=v0a0d- r=0\na.m=v0a0d3 a.d=v1a1d1 b.m=v0a0d4 b.d=v1a1d1 r=7\na.m=v0a1d0 a.d=v0a0d- b.m=v0a1d0 b.d=v0a0d- r=7\n"
joins = rw (zero_is, one_is, three_is, four_is, seven_is) refl

abbrev second_then_first : Inputs
second_then_first = given 4 ((0 ∷ 1 ∷ 0 ∷ 0 ∷ []) ∷ (0 ∷ 0 ∷ 1 ∷ 0 ∷ []) ∷ (1 ∷ 0 ∷ 0 ∷ 0 ∷ []) ∷ (0 ∷ 0 ∷ 1 ∷ 0 ∷ []) ∷ []) ((0 ∷ 3 ∷ 3 ∷ 0 ∷ []) ∷ [] ∷ (4 ∷ 4 ∷ 4 ∷ 0 ∷ []) ∷ [])

joins_either_way : registers_of join second_then_first 0 0 5 ≡ 0 ∷ 0 ∷ 7 ∷ 7 ∷ 7 ∷ []
joins_either_way = refl

-- two threads over two endpoints and three registers
abbrev memory : Inputs
memory = given 5 ((1 ∷ 0 ∷ 0 ∷ 0 ∷ 1 ∷ []) ∷ (0 ∷ 1 ∷ 0 ∷ 0 ∷ 0 ∷ []) ∷ (0 ∷ 1 ∷ 0 ∷ 0 ∷ 0 ∷ []) ∷ (0 ∷ 0 ∷ 1 ∷ 0 ∷ 0 ∷ []) ∷ []) ([] ∷ (0 ∷ 5 ∷ 5 ∷ 0 ∷ 0 ∷ []) ∷ [] ∷ (0 ∷ 0 ∷ 1 ∷ 0 ∷ 0 ∷ []) ∷ [])

writes_back : log_of client memory 5
    ≡ codes "m.rd=v1a1d0 m.rsp=v0a1d0 w.wr=v0a0d- w.ok=v0a0d0 addr=0 sum=0 out=0\n"
    ++ (codes "m.rd=v0a0d0 m.rsp=v1a1d5 w.wr=v1a1d0 w.ok=v0a1d0 addr=0 sum=0 out=0\n"
    ++ (codes "m.rd=v0a0d- m.rsp=v0a0d5 w.wr=v0a0d0 w.ok=v1a1d1 addr=0 sum=5 out=0\n"
    ++ (codes "m.rd=v1a0d4 m.rsp=v0a0d0 w.wr=v0a0d- w.ok=v0a0d0 addr=4 sum=5 out=0\n"
    ++ codes "m.rd=v1a1d4 m.rsp=v0a1d0 w.wr=v0a0d- w.ok=v0a0d0 addr=4 sum=5 out=0\n")))
writes_back = rw (zero_is, one_is, four_is, five_is) refl
