-- A body that is sized, as each thread of a process is, can be drawn: the checks on widths ask for more.
use Rattle.std.proofs.Common.{◌≡◌, ℕ, ◌<◌, zero, suc, true, List, [], ◌∷◌, length, refl, sym, subst, arith}
use Rattle.std.specs.Prelude.{◌&&◌, ◌==◌, nat_lt, nat_le, not}
use Rattle.std.specs.List.{list_all}
use Rattle.std.proofs.lemmas.Bool.{and_parts, and_from, leb-true, ltb-true, lt-ltb}
use Rattle.core_term.specs.Limits.{most_nodes, widest}
use Rattle.core_term.specs.Names.{is_good_name}
use Rattle.core_term.specs.Process.{Port, Process, is_received, nth_port, nth_register}
use Rattle.core_term.specs.ProcessView.{widths_of}
use Rattle.core_term.specs.Sized.{act_fits, expr_fits, is_width, nodes, parts_fit, port_fits, term_fits, word_fits}
use Rattle.core_term.specs.Term.{Expr, Term, One, Then, Both, Act, Cycle, Set, Send, Recv, If, When, Block, Wait, Pure, Nothing}
use Rattle.core_term.specs.View.{after_act, term_of}
use Rattle.core_term.specs.Widths.{Widths, expr_width, term_width}
use Rattle.core_term.specs.declared.term.CoreTerm.{CoreTerm}
use Rattle.module_nets.specs.declared.signal.Signal.{Signal}
use Rattle.module_nets.specs.Signals.{signal_at, widths_in}
use Rattle.thread_nets.specs.Fits.{acts_fit, asks_fit, one_fits}

module _ (p : Process) where
  -- no received port has the width 0
  abbrev pub PortsWide : Widths → Type 0
  PortsWide widths = (port : ℕ) → port < length p.ports → is_received p port ≡ true → 0 < widths.ports port

  parts_of : (widths : Widths) (w : ℕ) (e : Expr) → expr_fits p widths w e ≡ true → parts_fit (length p.registers) widths e ≡ true
  parts_of widths w e fits = (and_parts (parts_fit (length p.registers) widths e) ((expr_width widths e == w) && nat_le (nodes e) most_nodes) fits).0

  asks_of : (widths : Widths) (e : Expr) → expr_fits p widths 1 e ≡ true → asks_fit (length p.registers) widths e ≡ true
  asks_of widths e fits =
      let parts = and_parts (parts_fit (length p.registers) widths e) ((expr_width widths e == 1) && nat_le (nodes e) most_nodes) fits in
      and_from (parts_fit (length p.registers) widths e) (expr_width widths e == 1) parts.0 (and_parts (expr_width widths e == 1) (nat_le (nodes e) most_nodes) parts.1).0

  mutual
    pub sized_fits : (widths : Widths) (t : Term) → PortsWide widths → term_fits p widths t ≡ true → acts_fit (length p.registers) widths t ≡ true
    sized_fits widths (One a) wide fits = act_sized_fits widths a wide fits
    sized_fits widths (Then a t) wide fits =
        let parts = and_parts (act_fits p widths a) (term_fits p (after_act widths a) t) fits in
        and_from (one_fits (length p.registers) widths a) (acts_fit (length p.registers) (after_act widths a) t) (act_sized_fits widths a wide parts.0) (sized_fits (after_act widths a) t wide parts.1)
    sized_fits widths (Both a t) wide fits =
        let parts = and_parts (act_fits p widths a) (term_fits p (after_act widths a) t) fits in
        and_from (one_fits (length p.registers) widths a) (acts_fit (length p.registers) (after_act widths a) t) (act_sized_fits widths a wide parts.0) (sized_fits (after_act widths a) t wide parts.1)

    act_sized_fits : (widths : Widths) (a : Act) → PortsWide widths → act_fits p widths a ≡ true → one_fits (length p.registers) widths a ≡ true
    act_sized_fits widths (Cycle s n) wide fits = refl
    act_sized_fits widths (Set s r e) wide fits =
        let parts = and_parts (nat_lt r (length p.registers)) (expr_fits p widths (nth_register p.registers r).width e) fits in
        parts_of widths (nth_register p.registers r).width e parts.1
    act_sized_fits widths (Send s m e) wide fits =
        let parts = and_parts (nat_lt m (length p.ports)) (not (is_received p m) && expr_fits p widths (nth_port p.ports m).width e) fits in
        let rest = and_parts (not (is_received p m)) (expr_fits p widths (nth_port p.ports m).width e) parts.1 in
        parts_of widths (nth_port p.ports m).width e rest.1
    act_sized_fits widths (Recv s m) wide fits =
        let parts = and_parts (nat_lt m (length p.ports)) (is_received p m) fits in
        lt-ltb 0 (widths.ports m) (wide m (ltb-true m (length p.ports) parts.0) parts.1)
    act_sized_fits widths (If s e t u w) wide fits =
        let words = word_fits w (term_width widths t) (term_width widths u) in
        let parts = and_parts (expr_fits p widths 1 e) (term_fits p widths t && (term_fits p widths u && words)) fits in
        let sides = and_parts (term_fits p widths t) (term_fits p widths u && words) parts.1 in
        let rest = and_parts (term_fits p widths u) words sides.1 in
        let many = length p.registers in
        and_from (asks_fit many widths e) (acts_fit many widths t && (acts_fit many widths u && words)) (asks_of widths e parts.0)
        (and_from (acts_fit many widths t) (acts_fit many widths u && words) (sized_fits widths t wide sides.0)
        (and_from (acts_fit many widths u) words (sized_fits widths u wide rest.0) rest.1))
    act_sized_fits widths (When s e t) wide fits =
        let parts = and_parts (expr_fits p widths 1 e) (term_fits p widths t) fits in
        and_from (asks_fit (length p.registers) widths e) (acts_fit (length p.registers) widths t) (asks_of widths e parts.0) (sized_fits widths t wide parts.1)
    act_sized_fits widths (Block s t) wide fits = sized_fits widths t wide fits
    act_sized_fits widths (Wait s y) wide fits = refl
    act_sized_fits widths (Pure s e) wide fits = parts_of widths (expr_width widths e) e fits
    act_sized_fits widths (Nothing s) wide fits = refl

-- The widths of the signals are those of the process, where each signal has the width of its register or port.
pub widths_are : (p : Process) (registers ports : List Signal) → ((register : ℕ) → (signal_at registers register).width ≡ (nth_register p.registers register).width)
    → ((port : ℕ) → (signal_at ports port).width ≡ (nth_port p.ports port).width) → widths_in registers ports [] ≡ widths_of p.ports p.registers
widths_are p registers ports one two = λ i. record { registers = λ register. one register i; ports = λ port. two port i; variables = λ variable. 0 }

port_wide : (ports : List Port) (port : ℕ) → list_all port_fits ports ≡ true → port < length ports → 0 < (nth_port ports port).width
port_wide [] port fit inside = absurd (omega (arith, inside))
port_wide (first ∷ rest) zero fit inside =
    let here = and_parts (port_fits first) (list_all port_fits rest) fit in
    let width = and_parts (is_width first.width) (is_good_name first.endpoint && is_good_name first.message) here.0 in
    leb-true 1 first.width (and_parts (nat_le 1 first.width) (nat_le first.width widest) width.0).0
port_wide (first ∷ rest) (suc port) fit inside = port_wide rest port (and_parts (port_fits first) (list_all port_fits rest) fit).1 (omega (arith, inside))

-- so a body of a process whose ports fit can be drawn over them
pub body_fits : (p : Process) (registers ports : List Signal) (body : CoreTerm) → ((register : ℕ) → (signal_at registers register).width ≡ (nth_register p.registers register).width)
    → ((port : ℕ) → (signal_at ports port).width ≡ (nth_port p.ports port).width) → length registers ≡ length p.registers → list_all port_fits p.ports ≡ true
    → term_fits p (widths_of p.ports p.registers) (term_of (widths_of p.ports p.registers) body) ≡ true
    → acts_fit (length registers) (widths_in registers ports []) (term_of (widths_in registers ports []) body) ≡ true
body_fits p registers ports body one two count fit fits =
    subst (λ widths. acts_fit (length registers) widths (term_of widths body) ≡ true) (sym (widths_are p registers ports one two))
    (subst (λ many. acts_fit many (widths_of p.ports p.registers) (term_of (widths_of p.ports p.registers) body) ≡ true) (sym count)
    (sized_fits p (widths_of p.ports p.registers) (term_of (widths_of p.ports p.registers) body) (λ port inside received. port_wide p.ports port fit inside) fits))
