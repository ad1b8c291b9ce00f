-- When two acts clash: they do the same to one register or port, and the answers do not show what the rule demands.
use Rattle.std.specs.Prelude.{ℕ, ◌==◌, ◌&&◌, ◌||◌, nat_lt, not, ℤ, pos, Bool, false, List}
use Rattle.core_term.specs.declared.rules.Rule.{Rule}
use Rattle.core_term.specs.declared.rules.Rule.TheVariants.{V2, V3, V4, V5, V6, V7, V8}
use Rattle.core_term.specs.Rules.{begin_of, end_of, next_begin_of}
use Rattle.act_deeds.specs.declared.deed.Deed.{Deed}
use Rattle.act_deeds.specs.declared.deed.Deed.TheVariants.{Sets, Sends, Receives}
use Rattle.demand_checks.specs.Answers.{Answers}
use Rattle.demand_checks.specs.Deeds.{deed_at}

-- both set one register, both receive from one port, both send on one port
abbrev pub same_register : Deed → Deed → Bool
same_register (Sets first) (Sets second) = first == second
same_register first second = false

abbrev pub same_source : Deed → Deed → Bool
same_source (Receives first) (Receives second) = first == second
same_source first second = false

abbrev pub same_target : Deed → Deed → Bool
same_target (Sends first) (Sends second) = first == second
same_target first second = false

-- one of two acts ends, and d cycles pass, before the other begins
abbrev pub one_ends : Answers → ℕ → ℤ → ℕ → Bool
one_ends answers q d r = answers.order (end_of q) d (begin_of r) || answers.order (end_of r) d (begin_of q)

-- the life of what one of two acts sent is over before the other begins; that of what the first sent is before the
-- second begins in the next turn
abbrev pub one_is_over : Answers → ℕ → ℕ → Bool
one_is_over answers q r = answers.last q (pos 1) (begin_of r) || answers.last r (pos 1) (begin_of q)

abbrev pub sends_clash : Answers → ℕ → ℕ → Bool
sends_clash answers q r =
    not (answers.last q (pos 1) (next_begin_of r)) || (nat_lt q r && not (one_is_over answers q r))

-- two acts with these deeds clash by a rule
abbrev pub clash_of : Answers → Rule → ℕ → ℕ → Deed → Deed → Bool
clash_of answers V2 q r first second = false
clash_of answers V3 q r first second = same_register first second && (nat_lt q r && not (one_ends answers q (pos 0) r))
clash_of answers V4 q r first second = same_source first second && (nat_lt q r && not (one_ends answers q (pos 1) r))
clash_of answers V5 q r first second = same_target first second && sends_clash answers q r
clash_of answers V6 q r first second = false
clash_of answers V7 q r first second = false
clash_of answers V8 q r first second = false

abbrev pub clash : Answers → List Deed → Rule → ℕ → ℕ → Bool
clash answers deeds rule q r = clash_of answers rule q r (deed_at deeds q) (deed_at deeds r)
