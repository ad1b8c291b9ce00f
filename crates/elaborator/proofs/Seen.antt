-- Small facts on the plain act of an act of the code: its site, and an `if` with both sides.
use Rattle.std.proofs.Common.{◌≡◌, ℕ, refl, Bool, true, false, Option, Some, None, Ok, Err, IfOk}
use Rattle.core_term.specs.Term.{Expr, Term, If, site}
use Rattle.core_term.specs.declared.term.CoreKind.{CoreKind, Cycle, Set, Send, Recv, If', Block', Wait, Pure, Unit, None', Some'}
use Rattle.core_term.specs.Widths.{Widths}
use Rattle.core_term.specs.View.{act_of, if_of}
use Rattle.std.specs.declared.result.Result.{Result}

pub site_of : (widths : Widths) (s : ℕ) (k : CoreKind) → site (act_of widths s k) ≡ s
site_of widths s (Cycle n) = refl
site_of widths s (Set r e) = refl
site_of widths s (Send m e) = refl
site_of widths s (Recv m) = refl
site_of widths s (If' e p t None' w) = refl
site_of widths s (If' e p t (Some' q u) None) = refl
site_of widths s (If' e p t (Some' q u) (Some n)) = refl
site_of widths s (Block' p t) = refl
site_of widths s (Wait y) = refl
site_of widths s (Pure e) = refl
site_of widths s Unit = refl

-- whether an `if` has a value
abbrev pub worded : Option ℕ → Bool
worded None = false
worded (Some n) = true

pub if_is : (s : ℕ) (e : Expr) (t u : Term) (w : Option ℕ) → if_of s e t (Some u) w ≡ If s e t u (worded w)
if_is s e t u None = refl
if_is s e t u (Some n) = refl

pub when_ok : {A E : Type 0} (r : Result A E) (P Q : A → Type 0) → ((x : A) → P x → Q x) → IfOk r P → IfOk r Q
when_ok (Ok x) P Q f k = f x k
when_ok (Err e) P Q f k = k
