-- The acts of a sized process name registers and ports that are there, and use values of their widths.
use Rattle.std.proofs.Common.{◌≡◌, ℕ, ◌<◌, true, not, nat_lt, nat_le, IsTrue, List, length, refl, ◌∙◌, ap, subst}
use Rattle.std.specs.Prelude.{◌==◌}
use Rattle.std.specs.List.{list_all}
use Rattle.std.proofs.lemmas.Bool.{and_parts, eqb-true, ltb-true}
use Rattle.core_term.specs.declared.term.CoreTerm.{CoreTerm}
use Rattle.core_term.specs.declared.process.CorePort.{CorePort}
use Rattle.core_term.specs.declared.process.CoreReg.{CoreReg}
use Rattle.core_term.specs.Term.{Expr, Term, One, Then, Both, Act, Cycle, Set, Send, Recv, If, When, Block, Wait, Pure, Nothing, head}
use Rattle.core_term.specs.Stands.{Stands, StandsIn, here, in_one, in_then, after_then, in_both, after_both, in_yes, in_no, in_when, in_block}
use Rattle.core_term.specs.Acts.{OnPort, Sends, Sets, Uses}
use Rattle.core_term.specs.Process.{Process, Thread, IsThread, is_received, nth_port, nth_register}
use Rattle.core_term.specs.ProcessView.{process_of, widths_of}
use Rattle.core_term.specs.Widths.{Widths, expr_width}
use Rattle.core_term.specs.Limits.{most_ports, most_threads}
use Rattle.core_term.specs.Names.{is_good_name, has_no_twice}
use Rattle.core_term.specs.Sized.{act_fits, expr_fits, is_same_port, is_sized, lives_fit, parts_fit, port_fits, process_fits, term_fits}
use Rattle.core_term.proofs.code_tables.Fits.{thread_of_all}
use Rattle.machine_parts.specs.Threads.{widths_after}
use Rattle.drawn_machine.specs.Drawn.{NamesThere}

module _ (p : Process) where
  -- what is asked of a body is asked of each act that stands in it, with the widths in scope there
  mutual
    pub fits_at : (base : Widths) {vs ws : List Act} {t u : Term} → Stands vs t ws u → term_fits p (widths_after base vs) t ≡ true → act_fits p (widths_after base ws) (head u) ≡ true
    fits_at base {vs = vs} {t = One a} here fits = fits
    fits_at base {vs = vs} {t = Then a t} here fits = (and_parts (act_fits p (widths_after base vs) a) _ fits).0
    fits_at base {vs = vs} {t = Both a t} here fits = (and_parts (act_fits p (widths_after base vs) a) _ fits).0
    fits_at base (in_one stands) fits = fits_inside base stands fits
    fits_at base {vs = vs} (in_then {a = a} stands) fits = fits_inside base stands (and_parts (act_fits p (widths_after base vs) a) _ fits).0
    fits_at base {vs = vs} (after_then {a = a} stands) fits = fits_at base stands (and_parts (act_fits p (widths_after base vs) a) _ fits).1
    fits_at base {vs = vs} (in_both {a = a} stands) fits = fits_inside base stands (and_parts (act_fits p (widths_after base vs) a) _ fits).0
    fits_at base {vs = vs} (after_both {a = a} stands) fits = fits_at base stands (and_parts (act_fits p (widths_after base vs) a) _ fits).1

    fits_inside : (base : Widths) {vs ws : List Act} {a : Act} {u : Term} → StandsIn vs a ws u → act_fits p (widths_after base vs) a ≡ true → act_fits p (widths_after base ws) (head u) ≡ true
    fits_inside base (in_yes stands) fits = fits_at base stands (and_parts _ _ (and_parts _ _ fits).1).0
    fits_inside base (in_no stands) fits = fits_at base stands (and_parts _ _ (and_parts _ _ (and_parts _ _ fits).1).1).0
    fits_inside base (in_when stands) fits = fits_at base stands (and_parts _ _ fits).1
    fits_inside base (in_block stands) fits = fits_at base stands fits

  pub set_inside : (widths : Widths) (a : Act) (register : ℕ) → Sets a register → act_fits p widths a ≡ true → register < length p.registers
  set_inside widths (Set q r e) register sets fits = subst (λ register. register < length p.registers) sets (ltb-true r (length p.registers) (and_parts (nat_lt r (length p.registers)) _ fits).0)
  set_inside widths (Cycle q n) register sets fits = elim sets [ ]
  set_inside widths (Send q m e) register sets fits = elim sets [ ]
  set_inside widths (Recv q m) register sets fits = elim sets [ ]
  set_inside widths (If q e t u w) register sets fits = elim sets [ ]
  set_inside widths (When q e t) register sets fits = elim sets [ ]
  set_inside widths (Block q t) register sets fits = elim sets [ ]
  set_inside widths (Wait q y) register sets fits = elim sets [ ]
  set_inside widths (Pure q e) register sets fits = elim sets [ ]
  set_inside widths (Nothing q) register sets fits = elim sets [ ]

  pub on_inside : (widths : Widths) (a : Act) (port : ℕ) → OnPort a port → act_fits p widths a ≡ true → port < length p.ports
  on_inside widths (Send q m e) port on fits = subst (λ port. port < length p.ports) on (ltb-true m (length p.ports) (and_parts (nat_lt m (length p.ports)) _ fits).0)
  on_inside widths (Recv q m) port on fits = subst (λ port. port < length p.ports) on (ltb-true m (length p.ports) (and_parts (nat_lt m (length p.ports)) _ fits).0)
  on_inside widths (Cycle q n) port on fits = elim on [ ]
  on_inside widths (Set q r e) port on fits = elim on [ ]
  on_inside widths (If q e t u w) port on fits = elim on [ ]
  on_inside widths (When q e t) port on fits = elim on [ ]
  on_inside widths (Block q t) port on fits = elim on [ ]
  on_inside widths (Wait q y) port on fits = elim on [ ]
  on_inside widths (Pure q e) port on fits = elim on [ ]
  on_inside widths (Nothing q) port on fits = elim on [ ]

  width_of_expr : (widths : Widths) (width : ℕ) (e : Expr) → expr_fits p widths width e ≡ true → expr_width widths e ≡ width
  width_of_expr widths width e fits = eqb-true (expr_width widths e) width (and_parts (expr_width widths e == width) _ (and_parts (parts_fit (length p.registers) widths e) _ fits).1).0

  pub set_width : (widths : Widths) (a : Act) (register : ℕ) → Sets a register → act_fits p widths a ≡ true
      → (used : Expr) × Uses a used × (expr_width widths used ≡ (nth_register p.registers register).width)
  set_width widths (Set q r e) register sets fits =
      (e, refl, width_of_expr widths _ e (and_parts (nat_lt r (length p.registers)) _ fits).1 ∙ ap (λ register. (nth_register p.registers register).width) sets)
  set_width widths (Cycle q n) register sets fits = elim sets [ ]
  set_width widths (Send q m e) register sets fits = elim sets [ ]
  set_width widths (Recv q m) register sets fits = elim sets [ ]
  set_width widths (If q e t u w) register sets fits = elim sets [ ]
  set_width widths (When q e t) register sets fits = elim sets [ ]
  set_width widths (Block q t) register sets fits = elim sets [ ]
  set_width widths (Wait q y) register sets fits = elim sets [ ]
  set_width widths (Pure q e) register sets fits = elim sets [ ]
  set_width widths (Nothing q) register sets fits = elim sets [ ]

  pub send_width : (widths : Widths) (a : Act) (port : ℕ) → Sends a port → act_fits p widths a ≡ true
      → (used : Expr) × Uses a used × (expr_width widths used ≡ (nth_port p.ports port).width)
  send_width widths (Send q m e) port sends fits =
      (e, refl, width_of_expr widths _ e (and_parts (not (is_received p m)) _ (and_parts (nat_lt m (length p.ports)) _ fits).1).1 ∙ ap (λ port. (nth_port p.ports port).width) sends)
  send_width widths (Cycle q n) port sends fits = elim sends [ ]
  send_width widths (Set q r e) port sends fits = elim sends [ ]
  send_width widths (Recv q m) port sends fits = elim sends [ ]
  send_width widths (If q e t u w) port sends fits = elim sends [ ]
  send_width widths (When q e t) port sends fits = elim sends [ ]
  send_width widths (Block q t) port sends fits = elim sends [ ]
  send_width widths (Wait q y) port sends fits = elim sends [ ]
  send_width widths (Pure q e) port sends fits = elim sends [ ]
  send_width widths (Nothing q) port sends fits = elim sends [ ]

module _ (name : List ℕ) (ports : List CorePort) (registers : List CoreReg) (threads : List CoreTerm) (sized : IsTrue (is_sized name ports registers threads)) where
  abbrev p : Process
  p = process_of name ports registers threads

  abbrev pub base : Widths
  base = widths_of p.ports p.registers

  fits : process_fits p ≡ true
  fits = (and_parts (process_fits p) _ sized).0

  all_fit : IsTrue (list_all (λ thread. term_fits p base thread.body) p.threads)
  all_fit =
      let after_name = (and_parts (is_good_name p.name) _ fits).1 in
      let after_count = (and_parts (nat_le (length p.ports) most_ports) _ after_name).1 in
      let after_ports = (and_parts (list_all port_fits p.ports) _ after_count).1 in
      let after_twice = (and_parts (has_no_twice is_same_port p.ports) _ after_ports).1 in
      let after_lives = (and_parts (lives_fit p 0 p.ports) _ after_twice).1 in
      (and_parts (nat_le (length p.threads) most_threads) _ after_lives).1

  pub body_fits : (number : ℕ) (thread : Thread) → IsThread p.threads number thread → term_fits p base thread.body ≡ true
  body_fits number thread is = thread_of_all (λ thread. term_fits p base thread.body) p.threads number thread is all_fit

  pub names_there : NamesThere p
  names_there = record {
    sets = λ number thread place register is has. set_inside p (widths_after base has.0) (head has.1) register has.4 (fits_at p base has.2 (body_fits number thread is));
    acts = λ number thread place port is has. on_inside p (widths_after base has.0) (head has.1) port has.4 (fits_at p base has.2 (body_fits number thread is));
  }
