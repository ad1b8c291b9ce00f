-- No value rests on what came after it was made: each atom of a value that is done at e is of the cycle e or earlier.
--
-- By induction over terms, together with the same for the variables in scope; a variable that is read before it is made has no
-- atoms.
use Rattle.std.proofs.Common.{◌≡◌, ℕ, ◌-◌, ◌≤◌, inl, inr, arith, refl, sym, ◌∙◌, ap, subst, List, [], ◌∷◌, ◌++◌, Bool, true, false, if◌then◌else◌, ◌==◌, nat_le, max}
use Rattle.std.proofs.lemmas.Bool.Decides.{nat_tests}
use Rattle.core_term.specs.Term.{Expr, Lit, Var, Reg, Not, Bin, Slice, Choose, Term, One, Then, Both, Act, Cycle, Set, Send, Recv, If, When, Block, Wait, Pure, Nothing, site}
use Rattle.core_term.specs.Value.{Value, Outcome, Open, Done, value, nothing, read, Atom, Wire, Register, Choice}
use Rattle.core_term.specs.Inputs.{Inputs}
use Rattle.core_term.specs.Ends.{Sees, bind, ends, act_ends, first, after_end, later, decided, waited}
use Rattle.core_term.specs.Occurs.{At, of_outcome}
use Rattle.core_term.specs.Lists.{Has}
use Rattle.run_laws.proofs.turn_points.Done.{chain_done, decided_done, unit_done, found_done}
use Rattle.run_laws.proofs.turn_points.Order.{from}
use Rattle.core_term.proofs.code_tables.Fits.{has_either}

abbrev pub cycle_of : Atom → ℕ
cycle_of (Wire m t) = t
cycle_of (Register r t) = t
cycle_of (Choice p t) = t

-- each atom is of cycle e or earlier
abbrev pub UpTo : ℕ → List Atom → Type 0
UpTo e these = (a : Atom) → Has these a → cycle_of a ≤ e

abbrev pub TimelyOutcome : Outcome → Type 0
TimelyOutcome o = (e : ℕ) (v : Value) → o ≡ Done e v → UpTo e v.atoms

abbrev pub Timely : (ℕ → Outcome) → Type 0
Timely scope = (y : ℕ) → TimelyOutcome (scope y)

none_up : (e : ℕ) → UpTo e []
none_up e a k = elim k [ ]

append_up : (e : ℕ) (these those : List Atom) → UpTo e these → UpTo e those → UpTo e (these ++ those)
append_up e these those k l a m = elim (has_either these those a m) [ inl n ↦ k a n | inr n ↦ l a n ]

one_up : (e : ℕ) (b : Atom) → cycle_of b ≤ e → UpTo e (b ∷ [])
one_up e b l a (inl k) = rw k l
one_up e b l a (inr k) = elim k [ ]

more_up : (e : ℕ) (b : Atom) (these : List Atom) → cycle_of b ≤ e → UpTo e these → UpTo e (b ∷ these)
more_up e b these l m a (inl k) = rw k l
more_up e b these l m a (inr k) = m a k

nothing_up : (e : ℕ) (v : Value) → nothing ≡ v → UpTo e v.atoms
nothing_up e v k = let Statement : Value → Type 0 = λ w. UpTo e w.atoms in subst Statement k (none_up e)

read_up : (o : Outcome) (s : ℕ) → TimelyOutcome o → UpTo s (read o s).atoms
read_up Open s k = none_up s
read_up (Done e v) s k = go (nat_le e s) refl
  where
    go : (b : Bool) → nat_le e s ≡ b → UpTo s (if b then v else nothing).atoms
    go true f = let at_most : e ≤ s = grind (arith, nat_tests) in λ a m. let part = k e v refl a m in omega arith
    go false f = none_up s

pub value_up : (registers : ℕ → ℕ → ℕ) (scope : ℕ → Outcome) (s : ℕ) → Timely scope → (e : Expr) → UpTo s (value registers scope s e).atoms
value_up registers scope s k (Lit w n) = none_up s
value_up registers scope s k (Var y) = read_up (scope y) s (k y)
value_up registers scope s k (Reg r) = one_up s (Register r s) (omega arith)
value_up registers scope s k (Not w e) = value_up registers scope s k e
value_up registers scope s k (Bin o w v a b) = append_up s _ _ (value_up registers scope s k a) (value_up registers scope s k b)
value_up registers scope s k (Slice y high low) = read_up (scope y) s (k y)
value_up registers scope s k (Choose c a b) = append_up s _ _ (value_up registers scope s k c) (append_up s _ _ (value_up registers scope s k a) (value_up registers scope s k b))

pub timely_bind : (scope : ℕ → Outcome) (p : ℕ) (o : Outcome) → Timely scope → TimelyOutcome o → Timely (bind scope p o)
timely_bind scope p o k l y = go (y == p)
  where
    go : (b : Bool) → TimelyOutcome (if b then o else scope y)
    go true = l
    go false = k y

later_timely : (o u : Outcome) → TimelyOutcome u → TimelyOutcome (later o u)
later_timely Open u k e v q = absurd cc
later_timely (Done a b) Open k e v q = absurd cc
later_timely (Done a b) (Done c d) k e v q = let equal : d ≡ v = cc in let next_equal : max a c ≡ e = cc in let Statement : Value → Type 0 = λ y. UpTo e y.atoms in subst Statement equal (λ at m. let next_part = k c d refl at m in omega arith)

waited_timely : (s : ℕ) (o : Outcome) → TimelyOutcome o → TimelyOutcome (waited s o)
waited_timely s Open k e v q = absurd cc
waited_timely s (Done c d) k e v q = let last_equal : d ≡ v = cc in let other_equal : max s c ≡ e = cc in let next_Statement : Value → Type 0 = λ y. UpTo e y.atoms in subst next_Statement last_equal (λ at m. let part = k c d refl at m in omega arith)

module _ (inputs : Inputs) (view : Sees) where
  chain_timely : (o : Outcome) (k : ℕ → Value → Outcome) → ((c : ℕ) (w : Value) → o ≡ Done c w → TimelyOutcome (k c w)) → TimelyOutcome (after_end inputs o k)
  chain_timely o k f e v q = let by_chain_done = chain_done inputs o k e v q in f by_chain_done.0 by_chain_done.1 by_chain_done.2 e v by_chain_done.4

  pick_timely : (b : Bool) (o u : Outcome) → TimelyOutcome o → TimelyOutcome u → TimelyOutcome (if b then o else u)
  pick_timely true o u k l = k
  pick_timely false o u k l = l

  decided_timely : (p s : ℕ) (o : Outcome) → TimelyOutcome o → ((e : ℕ) → of_outcome o ≡ At e → s ≤ e) → TimelyOutcome (decided true p s o)
  decided_timely p s o k l e v q =
      let by_decided_done = decided_done p s o e v q in
      let at_most : s ≤ e = l e (ap of_outcome by_decided_done.1) in
      let last_Statement : Value → Type 0 = λ y. UpTo e y.atoms in
      subst last_Statement (sym by_decided_done.2) (more_up e (Choice p s) by_decided_done.0.atoms at_most (k e by_decided_done.0 by_decided_done.1))

  pick_from : (b : Bool) (s : ℕ) (o u : Outcome) → ((e : ℕ) → of_outcome o ≡ At e → s ≤ e) → ((e : ℕ) → of_outcome u ≡ At e → s ≤ e) → (e : ℕ) → of_outcome (if b then o else u) ≡ At e → s ≤ e
  pick_from true s o u k l = k
  pick_from false s o u k l = l

  mutual
    pub timely : (scope : ℕ → Outcome) (s : ℕ) (t : Term) → Timely scope → TimelyOutcome (ends inputs view scope s t)
    timely scope s (One a) k = act_timely scope s a k
    timely scope s (Then a t) k =
        chain_timely (act_ends inputs view scope s a) _ (λ c w q. timely (bind scope (site a) (Done c w)) c t (timely_bind scope (site a) (Done c w) k (λ e v i. act_timely scope s a k e v (q ∙ i))))
    timely scope s (Both a t) k =
        later_timely (act_ends inputs view scope s a) _ (timely (bind scope (site a) (act_ends inputs view scope s a)) s t (timely_bind scope (site a) _ k (act_timely scope s a k)))

    pub act_timely : (scope : ℕ → Outcome) (s : ℕ) (a : Act) → Timely scope → TimelyOutcome (act_ends inputs view scope s a)
    act_timely scope s (Recv p m) k e v q =
        let by_found_done = found_done (first (inputs.valid m) s (inputs.count - s)) (λ u. record { number = inputs.data_at m u; atoms = Wire m u ∷ [] }) e v q in
        let Statement : Value → Type 0 = λ y. UpTo e y.atoms in
        subst Statement (sym by_found_done) (one_up e (Wire m e) (omega arith))
    act_timely scope s (If p f t u true) k e v q =
        decided_timely p s (if view.decide p s scope f then ends inputs view scope s t else ends inputs view scope s u)
        (pick_timely (view.decide p s scope f) _ _ (timely scope s t k) (timely scope s u k)) (pick_from (view.decide p s scope f) s _ _ (from inputs view scope s t) (from inputs view scope s u)) e v q
    act_timely scope s (If p f t u false) k e v q = nothing_up e v (sym (unit_done p s _ e v q))
    act_timely scope s (When p f t) k e v q = nothing_up e v (sym (unit_done p s _ e v q))
    act_timely scope s (Block p t) k e v q = timely scope s t k e v q
    act_timely scope s (Wait p y) k e v q = waited_timely s (scope y) (k y) e v q
    act_timely scope s (Pure p f) k e v q = let equal : value view.registers scope s f ≡ v = cc in let next_equal : s ≡ e = cc in let next_Statement : Value → Type 0 = λ y. UpTo e y.atoms in subst next_Statement equal (λ a m. let by_value_up = value_up view.registers scope s k f a m in omega arith)
    act_timely scope s (Cycle p n) k e v q = nothing_up e v cc
    act_timely scope s (Set p r f) k e v q = nothing_up e v cc
    act_timely scope s (Send p m f) k e v q = nothing_up e v (sym (found_done (first (inputs.ack m) s (inputs.count - s)) (λ u. nothing) e v q))
    act_timely scope s (Nothing p) k e v q = nothing_up e v cc
