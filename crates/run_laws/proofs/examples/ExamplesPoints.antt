-- The forms of the points of a body, computed.
--
-- proc f(p : left ch) { reg r : logic[8]; loop { send p.res(*r) >> let x = recv p.req >> cycle 1 >> set r := x } }
use Rattle.std.proofs.Common.{◌≡◌, [], ◌∷◌, refl}
use Rattle.order_rules.specs.Form.{Same, After, Sync, Join, Side, Merge}
use Rattle.core_term.specs.Term.{Term, Var, Reg, One, Then, Both, Cycle, Set, Send, Recv, When, Wait}
use Rattle.core_term.specs.Points.{TermBegin, TermEnd, Begin, End, NoSide, ◌is◌, forms}

abbrev late_set : Term
late_set = Then (Send 0 1 (Reg 0)) (Then (Recv 1 0) (Then (Cycle 2 1) (One (Set 3 0 (Var 1)))))

late_set_forms : forms late_set
    ≡ (Begin 0 is Same (TermBegin 0)) ∷ (TermBegin 1 is Same (End 0)) ∷ (TermEnd 0 is Same (TermEnd 1)) ∷ (End 0 is Sync (Begin 0))
    ∷ (Begin 1 is Same (TermBegin 1)) ∷ (TermBegin 2 is Same (End 1)) ∷ (TermEnd 1 is Same (TermEnd 2)) ∷ (End 1 is Sync (Begin 1))
    ∷ (Begin 2 is Same (TermBegin 2)) ∷ (TermBegin 3 is Same (End 2)) ∷ (TermEnd 2 is Same (TermEnd 3)) ∷ (End 2 is After 1 (Begin 2))
    ∷ (Begin 3 is Same (TermBegin 3)) ∷ (TermEnd 3 is Same (End 3)) ∷ (End 3 is After 1 (Begin 3)) ∷ []
late_set_forms = refl

-- { let x = recv a ; x >> if *c { cycle 1 } } : a chain that begins together, a wait, and an `if` without else
abbrev waiting : Term
waiting = Both (Recv 0 0) (Then (Wait 1 0) (One (When 2 (Reg 0) (One (Cycle 3 1)))))

waiting_forms : forms waiting
    ≡ (Begin 0 is Same (TermBegin 0)) ∷ (TermBegin 1 is Same (TermBegin 0)) ∷ (TermEnd 0 is Join (End 0) (TermEnd 1)) ∷ (End 0 is Sync (Begin 0))
    ∷ (Begin 1 is Same (TermBegin 1)) ∷ (TermBegin 2 is Same (End 1)) ∷ (TermEnd 1 is Same (TermEnd 2)) ∷ (End 1 is Join (Begin 1) (End 0))
    ∷ (Begin 2 is Same (TermBegin 2)) ∷ (TermEnd 2 is Same (End 2))
    ∷ (TermBegin 3 is Side (Begin 2)) ∷ (NoSide 2 is Side (Begin 2)) ∷ (End 2 is Merge (TermEnd 3) (NoSide 2))
    ∷ (Begin 3 is Same (TermBegin 3)) ∷ (TermEnd 3 is Same (End 3)) ∷ (End 3 is After 1 (Begin 3)) ∷ []
waiting_forms = refl
