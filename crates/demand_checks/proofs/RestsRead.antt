-- The atoms of the acts in turn are all uses of a body.
use Rattle.std.proofs.Common.{◌≡◌, ℕ, ◌+◌, ◌<◌, ◌≤◌, inl, inr, arith, refl, sym, ◌∙◌, ap, subst, List, [], ◌∷◌, ◌++◌, map}
use Rattle.std.proofs.lemmas.Bool.{cases_lt}
use Rattle.core_term.specs.declared.term.SourceAtom.{SourceAtom}
use Rattle.core_term.specs.Lists.{Has}
use Rattle.core_term.specs.Term.{Expr, Term, Act, Cycle, Set, Send, Recv, If, When, Block, Wait, Pure, Nothing, head}
use Rattle.core_term.specs.Numbering.{size, Numbered}
use Rattle.core_term.specs.Acts.{Uses, IsAt}
use Rattle.core_term.specs.Sources.{Source, sources_in}
use Rattle.core_term.specs.Atoms.{AreAtomsAt, source_of, use_sources}
use Rattle.core_term.proofs.code_tables.Acting.{each_site}
use Rattle.core_term.proofs.code_tables.AtomsKept.{rests_in_row, row_rests}
use Rattle.demand_checks.specs.declared.rests.Rest.{Rest}
use Rattle.demand_checks.specs.Rests.{AreRests, AreRestsTo, IsUse, rest}
use Rattle.demand_checks.proofs.Numbers.{site_below}
use Rattle.demand_checks.proofs.Listed.{has_left, has_right, has_either}

-- an act with sources of a use uses an expression
used : (scope : ℕ → List Source) (a : Act) (source : Source) → Has (use_sources scope a) source → (e : Expr) × Uses a e
used scope (Set p r e) source has = (e, refl)
used scope (Send p m e) source has = (e, refl)
used scope (If p e t u w) source has = (e, refl)
used scope (When p e t) source has = (e, refl)
used scope (Cycle p n) source has = elim has [ ]
used scope (Recv p m) source has = elim has [ ]
used scope (Block p t) source has = elim has [ ]
used scope (Wait p y) source has = elim has [ ]
used scope (Pure p e) source has = elim has [ ]
used scope (Nothing p) source has = elim has [ ]

mapped : (user : ℕ) (atoms : List SourceAtom) (one : Rest) → Has (map (rest user) atoms) one → (one.user ≡ user) × Has atoms one.atom
mapped user [] one has = elim has [ ]
mapped user (atom ∷ atoms) one (inl is) = (ap (λ r. r.user) is, inl (ap (λ r. r.atom) is))
mapped user (atom ∷ atoms) one (inr has) = let known = mapped user atoms one has in (known.0, inr known.1)

in_map : (user : ℕ) (atoms : List SourceAtom) (atom : SourceAtom) → Has atoms atom → Has (map (rest user) atoms) (rest user atom)
in_map user [] atom has = elim has [ ]
in_map user (first ∷ atoms) atom (inl is) = inl (ap (rest user) is)
in_map user (first ∷ atoms) atom (inr has) = inr (in_map user atoms atom has)

-- the atoms of the act at a site are uses of it
own_use : (body : Term) (user : ℕ) (atoms : List SourceAtom) → AreAtomsAt use_sources body user atoms → IsAt body user → (atom : SourceAtom) → Has atoms atom
    → IsUse body user (source_of atom)
own_use body user atoms are at atom has =
    let here = subst (λ z. AreAtomsAt use_sources body z atoms) (sym at.is_site) are in
    let expr = used (sources_in at.scope) (head at.term) (source_of atom) ((are at.scope at.term at.stands at.is_site).sound atom has) in
    (at.term, at.is_site, row_rests body at.term atoms at.scope expr.0 here at.stands expr.1 atom has)

pub one_more : (body : Term) (user : ℕ) (before : List Rest) (atoms : List SourceAtom) → Numbered [] 0 body → user < size body → AreAtomsAt use_sources body user atoms
    → AreRestsTo user body before → (after : List Rest) → after ≡ before ++ map (rest user) atoms → AreRestsTo (user + 1) body after
one_more body user before atoms numbered small are rests after is =
    record {
      sound = λ one has. elim (has_either before (map (rest user) atoms) one (subst (λ known. Has known one) is has)) [
        | inl old ↦ rests.sound one old
        | inr new ↦ (let known = mapped user atoms one new in subst (λ s. IsUse body s (source_of one.atom)) (sym known.0) (own_use body user atoms are (each_site body numbered user small) one.atom known.1))
      ];
      whole = λ other source below is_use. elim (cases_lt other user) [
        | inl k ↦ (let known = rests.whole other source k is_use in (known.0, subst (λ y. Has y known.0) (sym is) (has_left before _ known.0 known.1), known.2, known.3))
        | inr k ↦
            (let same : other ≡ user = omega (arith, below, k) in
            let there = subst (λ s. AreAtomsAt use_sources body s atoms) (sym same ∙ sym is_use.1) are in
            let row = rests_in_row body is_use.0 atoms source there is_use.2 in
            (rest user row.0, subst (λ y. Has y (rest user row.0)) (sym is) (has_right before _ _ (in_map user atoms row.0 row.1)), sym same, row.2))
      ];
    }

pub none_yet : (body : Term) → AreRestsTo 0 body []
none_yet body = record { sound = λ one has. elim has [ ]; whole = λ user source below is_use. absurd (omega (arith, below)) }

pub all_there : (body : Term) (high : ℕ) (rests : List Rest) → Numbered [] 0 body → size body ≤ high → AreRestsTo high body rests → AreRests body rests
all_there body high rests numbered reach are = record {
  sound = are.sound;
  whole = λ user source is_use. are.whole user source (let known = site_below body is_use.0 is_use.2.scope numbered is_use.2.stands in omega (arith, known, reach, is_use.1)) is_use;
}
