-- What is read again is below 2 to its width: of an expression, of the value of a term, and of what an act uses where it stands.
use Rattle.std.proofs.Common.{◌≡◌, ℕ, ◌+◌, ◌-◌, ◌/◌, ◌^◌, ◌<◌, Bool, true, false, ◌&&◌, ◌==◌, nat_lt, if◌then◌else◌, IsTrue, List, ◌∷◌, length, Some, None, refl, sym, subst, arith}
use Rattle.std.proofs.lemmas.Bool.{and_parts, ltb-true, eqb-true}
use Rattle.std.proofs.lemmas.Nat.{pow_pos}
use Rattle.core_term.specs.declared.term.CoreExpr as expr
use Rattle.core_term.specs.declared.term.CoreExpr.{CoreExpr}
use Rattle.core_term.specs.declared.term.CoreTerm.{CoreTerm, One', Then', Both'}
use Rattle.core_term.specs.declared.term.CoreKind as kind
use Rattle.core_term.specs.declared.term.CoreKind.{CoreKind, Cycle, Set, Send, Recv, If', Block', Wait, Pure, None', Some'}
use Rattle.core_term.specs.Term as term
use Rattle.core_term.specs.Term.{Expr, Term, Act, site, head}
use Rattle.core_term.specs.Stands.{Stands, StandsIn, here, in_one, in_then, after_then, in_both, after_both, in_yes, in_no, in_when, in_block}
use Rattle.core_term.specs.Acts.{Uses}
use Rattle.core_term.specs.Process.{Process, nth_port, nth_register, is_received}
use Rattle.core_term.specs.Widths.{Widths, expr_width, term_width, act_width}
use Rattle.core_term.specs.View.{expr_of, term_of, act_of, after_act}
use Rattle.core_term.specs.Sized.{is_width, parts_fit, expr_fits, word_fits, term_fits, act_fits}
use Rattle.core_term.specs.Again.{Sight, number, put, again, act_again, now_in}
use Rattle.number_widths.proofs.Operated.{mod_within, choice_within, moved, operate_within}

-- what is seen fits: each register and variable, and the data of each received port
pub record Fits (p : Process) (widths : Widths) (sight : Sight) (now : ℕ → ℕ) : Type 0 where
  pub registers : (r : ℕ) → sight.register r < 2 ^ widths.registers r
  pub wires : (m : ℕ) → is_received p m ≡ true → sight.wire m < 2 ^ widths.ports m
  pub variables : (y : ℕ) → now y < 2 ^ widths.variables y

module _ (p : Process) (sight : Sight) where
  pub number_below : (count : ℕ) (widths : Widths) (now : ℕ → ℕ) → Fits p widths sight now → (e : CoreExpr) → IsTrue (parts_fit count widths (expr_of widths e))
      → number sight now (expr_of widths e) < 2 ^ expr_width widths (expr_of widths e)
  number_below count widths now fits (expr.Lit b) fit = ltb-true b.value (2 ^ b.width) (and_parts (is_width b.width) (nat_lt b.value (2 ^ b.width)) fit).1
  number_below count widths now fits (expr.Var y) fit = fits.variables y
  number_below count widths now fits (expr.Reg r) fit = fits.registers r
  number_below count widths now fits (expr.Not' q e) fit = let some = pow_pos (expr_width widths (expr_of widths e)) in omega (arith, some)
  number_below count widths now fits (expr.Bin' o q a q' b) fit =
      let first = and_parts (parts_fit count widths (expr_of widths a)) _ fit in
      let second = and_parts (parts_fit count widths (expr_of widths b)) _ first.1 in
      operate_within o (expr_width widths (expr_of widths a)) (expr_width widths (expr_of widths b)) _ _ second.1
      (number_below count widths now fits a first.0) (number_below count widths now fits b second.0)
  number_below count widths now fits (expr.Slice y h l) fit = mod_within (h + 1 - l) (now y / 2 ^ l)
  number_below count widths now fits (expr.Choose' q c q' a q'' b) fit =
      let first = and_parts (parts_fit count widths (expr_of widths c)) _ fit in
      let second = and_parts (parts_fit count widths (expr_of widths a)) _ first.1 in
      let third = and_parts (parts_fit count widths (expr_of widths b)) _ second.1 in
      let same = (and_parts (expr_width widths (expr_of widths c) == 1) _ third.1).1 in
      choice_within (expr_width widths (expr_of widths a)) (number sight now (expr_of widths c)) _ _ (number_below count widths now fits a second.0)
      (turned (number sight now (expr_of widths b)) (expr_width widths (expr_of widths a)) (expr_width widths (expr_of widths b)) same (number_below count widths now fits b third.0))
    where
      turned : (x w v : ℕ) → (w == v) ≡ true → x < 2 ^ v → x < 2 ^ w
      turned x w v same below = let e = eqb-true w v same in rw e below

  -- a variable more
  more_fits : (widths : Widths) (now : ℕ → ℕ) (a : Act) (n : ℕ) → Fits p widths sight now → n < 2 ^ act_width widths a → Fits p (after_act widths a) sight (put now (site a) n)
  more_fits widths now a n fits below = record {
    registers = fits.registers;
    wires = fits.wires;
    variables = λ y. go y (y == site a);
  }
    where
      go : (y : ℕ) (b : Bool) → (if b then n else now y) < 2 ^ (if b then act_width widths a else widths.variables y)
      go y true = below
      go y false = fits.variables y

  -- an expression of an act
  used_below : (widths : Widths) (now : ℕ → ℕ) → Fits p widths sight now → (w : ℕ) (e : CoreExpr) → IsTrue (expr_fits p widths w (expr_of widths e)) → number sight now (expr_of widths e) < 2 ^ w
  used_below widths now fits w e fit =
      let first = and_parts (parts_fit (length p.registers) widths (expr_of widths e)) _ fit in
      let second = and_parts (expr_width widths (expr_of widths e) == w) _ first.1 in
      moved (number sight now (expr_of widths e)) (expr_width widths (expr_of widths e)) w second.0 (number_below (length p.registers) widths now fits e first.0)

  sides : (b : Bool) (w v x y : ℕ) → (w == v) ≡ true → x < 2 ^ w → y < 2 ^ v → (if b then x else y) < 2 ^ w
  sides true w v x y same one other = one
  sides false w v x y same one other = let e = eqb-true w v same in rw e other

  mutual
    pub again_below : (widths : Widths) (now : ℕ → ℕ) → Fits p widths sight now → (t : CoreTerm) → IsTrue (term_fits p widths (term_of widths t))
        → again sight now (term_of widths t) < 2 ^ term_width widths (term_of widths t)
    again_below widths now fits (One' s q k) fit = act_below widths now fits s k fit
    again_below widths now fits (Then' s q k q' t) fit =
        let parts = and_parts (act_fits p widths (act_of widths s k)) _ fit in
        again_below (after_act widths (act_of widths s k)) (put now (site (act_of widths s k)) (act_again sight now (act_of widths s k)))
        (more_fits widths now (act_of widths s k) (act_again sight now (act_of widths s k)) fits (act_below widths now fits s k parts.0)) t parts.1
    again_below widths now fits (Both' s q k q' t) fit =
        let parts = and_parts (act_fits p widths (act_of widths s k)) _ fit in
        again_below (after_act widths (act_of widths s k)) (put now (site (act_of widths s k)) (act_again sight now (act_of widths s k)))
        (more_fits widths now (act_of widths s k) (act_again sight now (act_of widths s k)) fits (act_below widths now fits s k parts.0)) t parts.1

    pub act_below : (widths : Widths) (now : ℕ → ℕ) → Fits p widths sight now → (s : ℕ) (k : CoreKind) → IsTrue (act_fits p widths (act_of widths s k))
        → act_again sight now (act_of widths s k) < 2 ^ act_width widths (act_of widths s k)
    act_below widths now fits s (Recv m) fit = fits.wires m (and_parts (nat_lt m (length p.ports)) (is_received p m) fit).1
    act_below widths now fits s (If' e q t (Some' q' u) (Some w)) fit =
        let first = and_parts (expr_fits p widths 1 (expr_of widths e)) _ fit in
        let second = and_parts (term_fits p widths (term_of widths t)) _ first.1 in
        let third = and_parts (term_fits p widths (term_of widths u)) _ second.1 in
        let same = (and_parts (nat_lt 0 (term_width widths (term_of widths t))) _ third.1).1 in
        sides (sight.side s) (term_width widths (term_of widths t)) (term_width widths (term_of widths u)) _ _ same
        (again_below widths now fits t second.0) (again_below widths now fits u third.0)
    act_below widths now fits s (If' e q t (Some' q' u) None) fit = pow_pos 0
    act_below widths now fits s (If' e q t None' w) fit = pow_pos 0
    act_below widths now fits s (Block' q t) fit = again_below widths now fits t fit
    act_below widths now fits s (Wait y) fit = fits.variables y
    act_below widths now fits s (Pure e) fit = number_below (length p.registers) widths now fits e (and_parts (parts_fit (length p.registers) widths (expr_of widths e)) _ fit).0
    act_below widths now fits s (Cycle n) fit = pow_pos 0
    act_below widths now fits s (Set r e) fit = pow_pos 0
    act_below widths now fits s (Send m e) fit = pow_pos 0
    act_below widths now fits s kind.Unit fit = pow_pos 0

  -- an act where it stands: it fits, and what it uses is below 2 to the width of the expression
  pub record Standing (ws : List Act) (u : Term) : Type 0 where
    pub widths : Widths
    pub of_registers : (r : ℕ) → widths.registers r ≡ (nth_register p.registers r).width
    pub of_ports : (m : ℕ) → widths.ports m ≡ (nth_port p.ports m).width
    pub fit : IsTrue (act_fits p widths (head u))
    pub below : (w : ℕ) (e : Expr) → Uses (head u) e → IsTrue (expr_fits p widths w e) → number sight (now_in sight ws) e < 2 ^ w

  pub record Tied (widths : Widths) : Type 0 where
    pub of_registers : (r : ℕ) → widths.registers r ≡ (nth_register p.registers r).width
    pub of_ports : (m : ℕ) → widths.ports m ≡ (nth_port p.ports m).width

  tied_on : (widths : Widths) (a : Act) → Tied widths → Tied (after_act widths a)
  tied_on widths a tied = record { of_registers = tied.of_registers; of_ports = tied.of_ports }

  at_act : (widths : Widths) (ws : List Act) → Tied widths → Fits p widths sight (now_in sight ws) → (s : ℕ) (k : CoreKind) → (w : ℕ) (e : Expr)
      → Uses (act_of widths s k) e → IsTrue (expr_fits p widths w e) → number sight (now_in sight ws) e < 2 ^ w
  at_act widths ws tied fits s (Set r f) w e uses fit = let z : IsTrue (expr_fits p widths w (expr_of widths f)) = rw uses fit in rw (sym uses) (used_below widths (now_in sight ws) fits w f z)
  at_act widths ws tied fits s (Send m f) w e uses fit = let z : IsTrue (expr_fits p widths w (expr_of widths f)) = rw uses fit in rw (sym uses) (used_below widths (now_in sight ws) fits w f z)
  at_act widths ws tied fits s (If' f q t None' v) w e uses fit = let z : IsTrue (expr_fits p widths w (expr_of widths f)) = rw uses fit in rw (sym uses) (used_below widths (now_in sight ws) fits w f z)
  at_act widths ws tied fits s (If' f q t (Some' q' u) None) w e uses fit = let z : IsTrue (expr_fits p widths w (expr_of widths f)) = rw uses fit in rw (sym uses) (used_below widths (now_in sight ws) fits w f z)
  at_act widths ws tied fits s (If' f q t (Some' q' u) (Some n)) w e uses fit = let z : IsTrue (expr_fits p widths w (expr_of widths f)) = rw uses fit in rw (sym uses) (used_below widths (now_in sight ws) fits w f z)
  at_act widths ws tied fits s (Cycle n) w e uses fit = elim uses [ ]
  at_act widths ws tied fits s (Recv m) w e uses fit = elim uses [ ]
  at_act widths ws tied fits s (Block' q t) w e uses fit = elim uses [ ]
  at_act widths ws tied fits s (Wait y) w e uses fit = elim uses [ ]
  at_act widths ws tied fits s (Pure f) w e uses fit = elim uses [ ]
  at_act widths ws tied fits s kind.Unit w e uses fit = elim uses [ ]

  here_standing : (widths : Widths) (ws : List Act) → Tied widths → Fits p widths sight (now_in sight ws) → (s : ℕ) (k : CoreKind) (u : Term) → head u ≡ act_of widths s k
      → IsTrue (act_fits p widths (act_of widths s k)) → Standing ws u
  here_standing widths ws tied fits s k u is fit = record {
    widths = widths;
    of_registers = tied.of_registers;
    of_ports = tied.of_ports;
    fit = subst (λ a. IsTrue (act_fits p widths a)) (sym is) fit;
    below = λ w e uses z. at_act widths ws tied fits s k w e (subst (λ a. Uses a e) is uses) z;
  }

  first_side : (e : CoreExpr) (t f : CoreTerm) (worded : Bool) (widths : Widths)
      → IsTrue (expr_fits p widths 1 (expr_of widths e) && (term_fits p widths (term_of widths t) && (term_fits p widths (term_of widths f) && word_fits worded (term_width widths (term_of widths t)) (term_width widths (term_of widths f)))))
      → IsTrue (term_fits p widths (term_of widths t))
  first_side e t f worded widths fit = (and_parts (term_fits p widths (term_of widths t)) _ (and_parts (expr_fits p widths 1 (expr_of widths e)) _ fit).1).0

  second_side : (e : CoreExpr) (t f : CoreTerm) (worded : Bool) (widths : Widths)
      → IsTrue (expr_fits p widths 1 (expr_of widths e) && (term_fits p widths (term_of widths t) && (term_fits p widths (term_of widths f) && word_fits worded (term_width widths (term_of widths t)) (term_width widths (term_of widths f)))))
      → IsTrue (term_fits p widths (term_of widths f))
  second_side e t f worded widths fit =
      (and_parts (term_fits p widths (term_of widths f)) _ (and_parts (term_fits p widths (term_of widths t)) _ (and_parts (expr_fits p widths 1 (expr_of widths e)) _ fit).1).1).0

  mutual
    pub standing : (widths : Widths) (vs ws : List Act) (t : CoreTerm) (u : Term) → Tied widths → Fits p widths sight (now_in sight vs) → IsTrue (term_fits p widths (term_of widths t))
        → Stands vs (term_of widths t) ws u → Standing ws u
    standing widths vs ws (One' s q k) u tied fits fit here = here_standing widths vs tied fits s k (term.One (act_of widths s k)) refl fit
    standing widths vs ws (One' s q k) u tied fits fit (in_one z) = standing_in widths vs ws s k u tied fits fit z
    standing widths vs ws (Then' s q k q' t) u tied fits fit here =
        here_standing widths vs tied fits s k (term_of widths (Then' s q k q' t)) refl (and_parts (act_fits p widths (act_of widths s k)) _ fit).0
    standing widths vs ws (Then' s q k q' t) u tied fits fit (in_then z) = standing_in widths vs ws s k u tied fits (and_parts (act_fits p widths (act_of widths s k)) _ fit).0 z
    standing widths vs ws (Then' s q k q' t) u tied fits fit (after_then z) =
        let parts = and_parts (act_fits p widths (act_of widths s k)) _ fit in
        standing (after_act widths (act_of widths s k)) (act_of widths s k ∷ vs) ws t u (tied_on widths (act_of widths s k) tied)
        (more_fits widths (now_in sight vs) (act_of widths s k) (act_again sight (now_in sight vs) (act_of widths s k)) fits (act_below widths (now_in sight vs) fits s k parts.0)) parts.1 z
    standing widths vs ws (Both' s q k q' t) u tied fits fit here =
        here_standing widths vs tied fits s k (term_of widths (Both' s q k q' t)) refl (and_parts (act_fits p widths (act_of widths s k)) _ fit).0
    standing widths vs ws (Both' s q k q' t) u tied fits fit (in_both z) = standing_in widths vs ws s k u tied fits (and_parts (act_fits p widths (act_of widths s k)) _ fit).0 z
    standing widths vs ws (Both' s q k q' t) u tied fits fit (after_both z) =
        let parts = and_parts (act_fits p widths (act_of widths s k)) _ fit in
        standing (after_act widths (act_of widths s k)) (act_of widths s k ∷ vs) ws t u (tied_on widths (act_of widths s k) tied)
        (more_fits widths (now_in sight vs) (act_of widths s k) (act_again sight (now_in sight vs) (act_of widths s k)) fits (act_below widths (now_in sight vs) fits s k parts.0)) parts.1 z

    standing_in : (widths : Widths) (vs ws : List Act) (s : ℕ) (k : CoreKind) (u : Term) → Tied widths → Fits p widths sight (now_in sight vs) → IsTrue (act_fits p widths (act_of widths s k))
        → StandsIn vs (act_of widths s k) ws u → Standing ws u
    standing_in widths vs ws s (If' e q t None' w) u tied fits fit (in_when z) =
        standing widths vs ws t u tied fits (and_parts (expr_fits p widths 1 (expr_of widths e)) _ fit).1 z
    standing_in widths vs ws s (If' e q t (Some' q' f) None) u tied fits fit (in_yes z) = standing widths vs ws t u tied fits (first_side e t f false widths fit) z
    standing_in widths vs ws s (If' e q t (Some' q' f) None) u tied fits fit (in_no z) = standing widths vs ws f u tied fits (second_side e t f false widths fit) z
    standing_in widths vs ws s (If' e q t (Some' q' f) (Some n)) u tied fits fit (in_yes z) = standing widths vs ws t u tied fits (first_side e t f true widths fit) z
    standing_in widths vs ws s (If' e q t (Some' q' f) (Some n)) u tied fits fit (in_no z) = standing widths vs ws f u tied fits (second_side e t f true widths fit) z
    standing_in widths vs ws s (Block' q t) u tied fits fit (in_block z) = standing widths vs ws t u tied fits fit z
    standing_in widths vs ws s (Cycle n) u tied fits fit z = elim z [ ]
    standing_in widths vs ws s (Set r e) u tied fits fit z = elim z [ ]
    standing_in widths vs ws s (Send m e) u tied fits fit z = elim z [ ]
    standing_in widths vs ws s (Recv m) u tied fits fit z = elim z [ ]
    standing_in widths vs ws s (Wait y) u tied fits fit z = elim z [ ]
    standing_in widths vs ws s (Pure e) u tied fits fit z = elim z [ ]
    standing_in widths vs ws s kind.Unit u tied fits fit z = elim z [ ]
