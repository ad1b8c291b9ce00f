-- What a core process keeps of its checks: it is sized and owned. Both are tests that compute, with a part for each
-- point.
use Rattle.std.specs.Prelude.{ℕ, ◌+◌, ◌^◌, ◌==◌, nat_lt, nat_le, Bool, true, false, not, ◌&&◌, ◌||◌, List, [], ◌∷◌}
use Rattle.std.specs.Prelude.{◌++◌, length, bytes_eq, Option, Some, None}
use Rattle.std.specs.List.{list_all}
use Rattle.core_term.specs.declared.operators.BinOp.{BinOp}
use Rattle.core_term.specs.declared.operators.BinOp.TheVariants.{Add, Sub, Mul, And, Or, Xor, Eq, Ne, Lt, Le, Gt, Ge}
use Rattle.core_term.specs.declared.operators.BinOp.TheVariants.{Shl, Shr, Cat}
use Rattle.core_term.specs.declared.term.CoreTerm.{CoreTerm, One', Then', Both'}
use Rattle.core_term.specs.declared.term.CoreKind.{CoreKind, If', Block', Held-CoreKind-If-2, None', Some'}
use Rattle.core_term.specs.declared.process.CorePort.{CorePort}
use Rattle.core_term.specs.declared.process.CoreReg.{CoreReg}
use Rattle.core_term.specs.Limits.{widest, longest_delay, most_nodes, most_threads, most_registers, most_ports}
use Rattle.core_term.specs.Limits.{most_ends}
use Rattle.core_term.specs.Names.{is_good_name, has_no_twice}
use Rattle.core_term.specs.Term.{Expr, Lit, Var, Reg, Not, Bin, Slice, Choose, Term, One, Then, Both, Act, Cycle, Set}
use Rattle.core_term.specs.Term.{Send, Recv, If, When, Block, Wait, Pure, Nothing}
use Rattle.core_term.specs.Process.{LifeEnd, Cycles, Until, Port, Thread, Process, nth_port, nth_register, is_received}
use Rattle.core_term.specs.Process.{endpoint_of}
use Rattle.core_term.specs.Widths.{Widths, expr_width, term_width}
use Rattle.core_term.specs.View.{term_of, act_of, after_act}
use Rattle.core_term.specs.ProcessView.{widths_of, process_of}

abbrev pub is_width : ℕ → Bool
is_width w = nat_le 1 w && nat_le w widest

-- Expressions: every operator has operands of the widths that it asks for, and no unit variable stands in one.

abbrev pub nodes : Expr → ℕ
nodes (Lit w n) = 1
nodes (Var y) = 1
nodes (Reg r) = 1
nodes (Not w e) = 1 + nodes e
nodes (Bin o w v a b) = 1 + (nodes a + nodes b)
nodes (Slice y high low) = 1
nodes (Choose c a b) = 1 + (nodes c + (nodes a + nodes b))

-- the two widths of the operands
abbrev pub operands_fit : BinOp → ℕ → ℕ → Bool
operands_fit Add w v = w == v
operands_fit Sub w v = w == v
operands_fit Mul w v = w == v
operands_fit And w v = w == v
operands_fit Or w v = w == v
operands_fit Xor w v = w == v
operands_fit Eq w v = w == v
operands_fit Ne w v = w == v
operands_fit Lt w v = w == v
operands_fit Le w v = w == v
operands_fit Gt w v = w == v
operands_fit Ge w v = w == v
operands_fit Shl w v = true
operands_fit Shr w v = true
operands_fit Cat w v = nat_le (w + v) widest

-- in a process with so many registers
abbrev pub parts_fit : ℕ → Widths → Expr → Bool
parts_fit count widths (Lit w n) = is_width w && nat_lt n (2 ^ w)
parts_fit count widths (Var y) = nat_lt 0 (widths.variables y)
parts_fit count widths (Reg r) = nat_lt r count
parts_fit count widths (Not w e) = parts_fit count widths e
parts_fit count widths (Bin o w v a b) =
    parts_fit count widths a && (parts_fit count widths b && operands_fit o (expr_width widths a) (expr_width widths b))
parts_fit count widths (Slice y high low) = nat_le low high && nat_lt high (widths.variables y)
parts_fit count widths (Choose c a b) =
    parts_fit count widths c
    && (parts_fit count widths a
    && (parts_fit count widths b && ((expr_width widths c == 1) && (expr_width widths a == expr_width widths b))))

-- of the width w
abbrev pub expr_fits : Process → Widths → ℕ → Expr → Bool
expr_fits p widths w e =
    parts_fit (length p.registers) widths e && ((expr_width widths e == w) && nat_le (nodes e) most_nodes)

-- Acts: each number of a port or register is below its count, each act is on the right side of its port, and widths
-- agree.

-- whether an `if` has a value, by the widths of its sides
abbrev pub word_fits : Bool → ℕ → ℕ → Bool
word_fits true w v = nat_lt 0 w && (w == v)
word_fits false w v = (w == 0) || (v == 0)

abbrev mutual
  pub term_fits : Process → Widths → Term → Bool
  term_fits p widths (One a) = act_fits p widths a
  term_fits p widths (Then a t) = act_fits p widths a && term_fits p (after_act widths a) t
  term_fits p widths (Both a t) = act_fits p widths a && term_fits p (after_act widths a) t

  pub act_fits : Process → Widths → Act → Bool
  act_fits p widths (Cycle s n) = nat_le 1 n && nat_le n longest_delay
  act_fits p widths (Set s r e) =
      nat_lt r (length p.registers) && expr_fits p widths (nth_register p.registers r).width e
  act_fits p widths (Send s m e) =
      nat_lt m (length p.ports) && (not (is_received p m) && expr_fits p widths (nth_port p.ports m).width e)
  act_fits p widths (Recv s m) = nat_lt m (length p.ports) && is_received p m
  act_fits p widths (If s e t u w) =
      expr_fits p widths 1 e
      && (term_fits p widths t && (term_fits p widths u && word_fits w (term_width widths t) (term_width widths u)))
  act_fits p widths (When s e t) = expr_fits p widths 1 e && term_fits p widths t
  act_fits p widths (Block s t) = term_fits p widths t
  act_fits p widths (Wait s y) = true
  act_fits p widths (Pure s e) = expr_fits p widths (expr_width widths e) e
  act_fits p widths (Nothing s) = true

-- the `word` of each `if` that has a value is the width of that value, and an `if` without else has none
abbrev mutual
  pub words_fit : Widths → CoreTerm → Bool
  words_fit widths (One' s p k) = words_fit_in widths k
  words_fit widths (Then' s p k q t) = words_fit_in widths k && words_fit (after_act widths (act_of widths s k)) t
  words_fit widths (Both' s p k q t) = words_fit_in widths k && words_fit (after_act widths (act_of widths s k)) t

  pub words_fit_in : Widths → CoreKind → Bool
  words_fit_in widths (If' e p t u w) =
      words_fit widths t && words_fit_else widths (term_width widths (term_of widths t)) w u
  words_fit_in widths (Block' p t) = words_fit widths t
  words_fit_in widths k = true

  pub words_fit_else : Widths → ℕ → Option ℕ → Held-CoreKind-If-2 → Bool
  words_fit_else widths w None None' = true
  words_fit_else widths w (Some n) None' = false
  words_fit_else widths w None (Some' p t) = words_fit widths t
  words_fit_else widths w (Some n) (Some' p t) = (n == w) && words_fit widths t

-- Ports: a life has 1 to 8 ends, at most one of them a number; each other one is another port of the same endpoint, and
-- no port stands twice.

abbrev pub end_fits : Process → ℕ → LifeEnd → Bool
end_fits p m (Cycles k) = nat_le 1 k && nat_le k longest_delay
end_fits p m (Until n) = nat_lt n (length p.ports) && (not (n == m) && bytes_eq (endpoint_of p n) (endpoint_of p m))

-- two numbers are the same end too
abbrev pub is_same_end : LifeEnd → LifeEnd → Bool
is_same_end (Cycles k) (Cycles l) = true
is_same_end (Cycles k) (Until n) = false
is_same_end (Until m) (Cycles k) = false
is_same_end (Until m) (Until n) = m == n

abbrev pub life_fits : Process → ℕ → List LifeEnd → Bool
life_fits p m life =
    nat_le 1 (length life)
    && (nat_le (length life) most_ends && (list_all (end_fits p m) life && has_no_twice is_same_end life))

-- the lives of the ports from the number m on
abbrev pub lives_fit : Process → ℕ → List Port → Bool
lives_fit p m [] = true
lives_fit p m (port ∷ ports) = life_fits p m port.life && lives_fit p (m + 1) ports

abbrev pub port_fits : Port → Bool
port_fits port = is_width port.width && (is_good_name port.endpoint && is_good_name port.message)

abbrev pub is_same_port : Port → Port → Bool
is_same_port one other = bytes_eq one.endpoint other.endpoint && bytes_eq one.message other.message

-- Registers: each reset has the width of its register.

abbrev pub register_fits : CoreReg → Bool
register_fits register =
    is_width register.width && ((register.reset.width == register.width) && is_good_name register.name)

abbrev pub is_same_register : CoreReg → CoreReg → Bool
is_same_register one other = bytes_eq one.name other.name

-- Processes.

-- of the parts that are plain
abbrev pub process_fits : Process → Bool
process_fits p =
    is_good_name p.name
    && (nat_le (length p.ports) most_ports
    && (list_all port_fits p.ports
    && (has_no_twice is_same_port p.ports
    && (lives_fit p 0 p.ports
    && (nat_le (length p.threads) most_threads
    && list_all (λ thread. term_fits p (widths_of p.ports p.registers) thread.body) p.threads)))))

-- every number is below its count, all widths agree, names are good and stand once, and the limits hold
abbrev pub is_sized : List ℕ → List CorePort → List CoreReg → List CoreTerm → Bool
is_sized name ports registers threads =
    process_fits (process_of name ports registers threads)
    && (nat_le (length registers) most_registers
    && (list_all register_fits registers
    && (has_no_twice is_same_register registers
    && list_all
    (words_fit (widths_of (process_of name ports registers threads).ports
    (process_of name ports registers threads).registers)) threads)))

-- the ports that a term names, and the registers that it sets
abbrev mutual
  pub ports_named : Term → List ℕ
  ports_named (One a) = ports_named_in a
  ports_named (Then a t) = ports_named_in a ++ ports_named t
  ports_named (Both a t) = ports_named_in a ++ ports_named t

  pub ports_named_in : Act → List ℕ
  ports_named_in (Send s m e) = m ∷ []
  ports_named_in (Recv s m) = m ∷ []
  ports_named_in (If s e t u w) = ports_named t ++ ports_named u
  ports_named_in (When s e t) = ports_named t
  ports_named_in (Block s t) = ports_named t
  ports_named_in a = []

abbrev mutual
  pub registers_set : Term → List ℕ
  registers_set (One a) = registers_set_in a
  registers_set (Then a t) = registers_set_in a ++ registers_set t
  registers_set (Both a t) = registers_set_in a ++ registers_set t

  pub registers_set_in : Act → List ℕ
  registers_set_in (Set s r e) = r ∷ []
  registers_set_in (If s e t u w) = registers_set t ++ registers_set u
  registers_set_in (When s e t) = registers_set t
  registers_set_in (Block s t) = registers_set t
  registers_set_in a = []

-- no item of the one list goes with an item of the other
abbrev pub none_shared : (ℕ → ℕ → Bool) → List ℕ → List ℕ → Bool
none_shared shared one other = list_all (λ m. list_all (λ n. not (shared m n)) other) one

-- two threads name no ports of one endpoint and set no register both
abbrev pub are_apart : Process → Thread → Thread → Bool
are_apart p one other =
    none_shared (λ m n. bytes_eq (endpoint_of p m) (endpoint_of p n)) (ports_named one.body) (ports_named other.body)
    && none_shared (λ r q. r == q) (registers_set one.body) (registers_set other.body)

abbrev pub each_apart : Process → List Thread → Bool
each_apart p [] = true
each_apart p (thread ∷ rest) = list_all (are_apart p thread) rest && each_apart p rest

abbrev pub is_owned : List ℕ → List CorePort → List CoreReg → List CoreTerm → Bool
is_owned name ports registers threads =
    each_apart (process_of name ports registers threads) (process_of name ports registers threads).threads
