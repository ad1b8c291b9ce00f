-- A value all of whose atoms are what they were is the same when it is read again.
--
-- By induction over terms and expressions: an atom is what is read, and the operators are the same functions in both readings.
-- The hard case is an `if` with a width: read again it has its latest side, and the atom of its choice says that this is the
-- side taken.
use Rattle.std.proofs.Common.{◌≡◌, ℕ, ◌+◌, ◌-◌, ◌≤◌, inl, inr, arith, refl, sym, ◌∙◌, ap, List, [], ◌∷◌, ◌++◌, Bool, true, false, if◌then◌else◌, ◌==◌, nat_le}
use Rattle.std.proofs.lemmas.Bool.Decides.{nat_tests}
use Rattle.anvil_bits.specs.Operators.{not_of, slice_of}
use Rattle.core_term.specs.Term.{Expr, Lit, Var, Reg, Not, Bin, Slice, Choose, Term, One, Then, Both, Act, Cycle, Set, Send, Recv, If, When, Block, Wait, Pure, Nothing, site, head}
use Rattle.core_term.specs.Value.{Value, Outcome, Done, value, nothing, read, Atom, Wire, Choice}
use Rattle.core_term.specs.Inputs.{Inputs}
use Rattle.core_term.specs.Ends.{Sees, bind, ends, act_ends, first}
use Rattle.core_term.specs.Fate.{Fate, Lost, Runs, fate, inside}
use Rattle.core_term.specs.Numbering.{size, act_size, Mentions, Numbered, NumberedAct}
use Rattle.core_term.specs.Again.{Sight, number, put, again, act_again}
use Rattle.run_laws.proofs.rereading.FreshAtoms.{IsFresh, AllFresh}
use Rattle.run_laws.proofs.turn_points.Live.{Agrees}
use Rattle.run_laws.proofs.turn_points.Parts.{one_inner, then_inner, both_inner, both_rest, if_yes_is, if_no_is, block_in, runs_here}
use Rattle.run_laws.proofs.turn_points.Tails.{then_rest_is}
use Rattle.run_laws.proofs.turn_points.Done.{chain_done, both_done, decided_done, unit_done, waited_done, found_done}

fresh_left : (P : Atom → Type 0) (these others : List Atom) → AllFresh P (these ++ others) → AllFresh P these
fresh_left P [] others k = tt
fresh_left P (a ∷ these) others k = (k.0, fresh_left P these others k.1)

fresh_right : (P : Atom → Type 0) (these others : List Atom) → AllFresh P (these ++ others) → AllFresh P others
fresh_right P [] others k = k
fresh_right P (a ∷ these) others k = fresh_right P these others k.1

read_made : (o : Outcome) (s e : ℕ) (v : Value) → o ≡ Done e v → e ≤ s → read o s ≡ v
read_made o s e v k l = let decided : nat_le e s ≡ true = grind (arith, nat_tests) in ap (λ decided. read decided s) k ∙ rw decided refl

module _ (inputs : Inputs) (view : Sees) (run : ℕ → Fate) (g : Sight) (side : ℕ → ℕ → Bool) where
  abbrev pub F : Atom → Type 0
  F = IsFresh g inputs.data_at view.registers side

  -- what a variable is read again as
  abbrev pub Kept : (ℕ → Outcome) → (ℕ → ℕ) → ℕ → Type 0
  Kept scope now y = (e : ℕ) (v : Value) → scope y ≡ Done e v → AllFresh F v.atoms → now y ≡ v.number

  -- each variable is made before it is read
  abbrev pub Made : (ℕ → Outcome) → ℕ → Expr → Type 0
  Made scope s f = (y : ℕ) → Mentions f y → (e : ℕ) × (v : Value) × (scope y ≡ Done e v) × (e ≤ s)

  pub expr_fresh : (scope : ℕ → Outcome) (now : ℕ → ℕ) (s : ℕ) (f : Expr) → Made scope s f → ((y : ℕ) → Mentions f y → Kept scope now y) → AllFresh F (value view.registers scope s f).atoms → number g now f ≡ (value view.registers scope s f).number
  expr_fresh scope now s (Lit w n) m k a = refl
  expr_fresh scope now s (Var y) m k a =
      let part = m y refl in
      let equal : read (scope y) s ≡ part.1 = read_made (scope y) s part.0 part.1 part.2 part.3 in
      let a' : AllFresh F part.1.atoms = rw equal at a in
      k y refl part.0 part.1 part.2 a' ∙ ap (λ (v : Value). v.number) (sym equal)
  expr_fresh scope now s (Reg r) m k a = a.0
  expr_fresh scope now s (Not w f) m k a = ap (not_of w) (expr_fresh scope now s f m k a)
  expr_fresh scope now s (Bin o w v b c) m k a =
      let by_expr_fresh = expr_fresh scope now s b (λ y i. m y (inl i)) (λ y i. k y (inl i)) (fresh_left F _ _ a) in
      let next_by_expr_fresh = expr_fresh scope now s c (λ y i. m y (inr i)) (λ y i. k y (inr i)) (fresh_right F (value view.registers scope s b).atoms _ a) in
      rw (by_expr_fresh, next_by_expr_fresh) refl
  expr_fresh scope now s (Slice y high low) m k a =
      let next_part = m y refl in
      let next_equal : read (scope y) s ≡ next_part.1 = read_made (scope y) s next_part.0 next_part.1 next_part.2 next_part.3 in
      let a' : AllFresh F next_part.1.atoms = rw next_equal at a in
      ap (slice_of high low) (k y refl next_part.0 next_part.1 next_part.2 a' ∙ ap (λ (v : Value). v.number) (sym next_equal))
  expr_fresh scope now s (Choose d b c) m k a =
      let last_by_expr_fresh = expr_fresh scope now s d (λ y i. m y (inl i)) (λ y i. k y (inl i)) (fresh_left F _ _ a) in
      let a' = fresh_right F (value view.registers scope s d).atoms _ a in
      let other_by_expr_fresh = expr_fresh scope now s b (λ y i. m y (inr (inl i))) (λ y i. k y (inr (inl i))) (fresh_left F _ _ a') in
      let more_by_expr_fresh = expr_fresh scope now s c (λ y i. m y (inr (inr i))) (λ y i. k y (inr (inr i))) (fresh_right F (value view.registers scope s b).atoms _ a') in
      rw (last_by_expr_fresh, other_by_expr_fresh, more_by_expr_fresh) refl

  pub kept_bind : (scope : ℕ → Outcome) (now : ℕ → ℕ) (p : ℕ) (o : Outcome) (n : ℕ) → ((y : ℕ) → Kept scope now y) → ((e : ℕ) (v : Value) → o ≡ Done e v → AllFresh F v.atoms → n ≡ v.number) → (y : ℕ) → Kept (bind scope p o) (put now p n) y
  kept_bind scope now p o n k f y = go (y == p)
    where
      go : (b : Bool) → (e : ℕ) (v : Value) → (if b then o else scope y) ≡ Done e v → AllFresh F v.atoms → (if b then n else now y) ≡ v.number
      go true = f
      go false = k y

  -- what is known of a run: variables are made before they are read, and `side` says how each `if` decides
  pub record Steady : Type 0 where
    pub made : (q : ℕ) (scope : ℕ → Outcome) (s : ℕ) (u : Term) (p : ℕ) (f : Expr) → run q ≡ Runs scope s u → head u ≡ Pure p f → Made scope s f
    pub sides : (q : ℕ) (scope : ℕ → Outcome) (s : ℕ) (u : Term) (p : ℕ) (f : Expr) (t t' : Term) → run q ≡ Runs scope s u → head u ≡ If p f t t' true → view.decide p s scope f ≡ side p s

  module _ (steady : Steady) where
    pick_fresh : (b : Bool) (t u : Outcome) (m n : ℕ) (e : ℕ) (v : Value) → (if b then t else u) ≡ Done e v → AllFresh F v.atoms → (b ≡ true → t ≡ Done e v → AllFresh F v.atoms → m ≡ v.number) → (b ≡ false → u ≡ Done e v → AllFresh F v.atoms → n ≡ v.number) → (if b then m else n) ≡ v.number
    pick_fresh true t u m n e v q a i j = i refl q a
    pick_fresh false t u m n e v q a i j = j refl q a

    mutual
      pub fresh : (vs : List Act) (low : ℕ) (scope : ℕ → Outcome) (now : ℕ → ℕ) (s : ℕ) (t : Term) → Numbered vs low t → Agrees run (fate inputs view scope s t) low (low + size t) → ((y : ℕ) → Kept scope now y)
          → (e : ℕ) (v : Value) → ends inputs view scope s t ≡ Done e v → AllFresh F v.atoms → again g now t ≡ v.number
      fresh vs low scope now s (One c) n r k e v q a = act_fresh vs low scope now s c n (one_inner inputs view run vs low scope s c n r) (One c) refl (runs_here inputs view run vs low scope s (One c) n r) k e v q a
      fresh vs low scope now s (Then c t) n r k e v q a =
          let by_chain_done = chain_done inputs (act_ends inputs view scope s c) (λ d w. ends inputs view (bind scope (site c) (Done d w)) d t) e v q in
          fresh (c ∷ vs) (low + act_size c) (bind scope (site c) (Done by_chain_done.0 by_chain_done.1)) (put now (site c) (act_again g now c)) by_chain_done.0 t n.1 (then_rest_is inputs view run vs low scope s c t n r by_chain_done.0 by_chain_done.1 by_chain_done.2 by_chain_done.3)
          (kept_bind scope now (site c) (Done by_chain_done.0 by_chain_done.1) (act_again g now c) k
          (λ d w i. act_fresh vs low scope now s c n.0 (then_inner inputs view run vs low scope s c t n r) (Then c t) refl (runs_here inputs view run vs low scope s (Then c t) n r) k d w (by_chain_done.2 ∙ i)))
          e v by_chain_done.4 a
      fresh vs low scope now s (Both c t) n r k e v q a =
          let by_both_done = both_done (act_ends inputs view scope s c) (ends inputs view (bind scope (site c) (act_ends inputs view scope s c)) s t) e v q in
          fresh (c ∷ vs) (low + act_size c) (bind scope (site c) (act_ends inputs view scope s c)) (put now (site c) (act_again g now c)) s t n.1 (both_rest inputs view run vs low scope s c t n r)
          (kept_bind scope now (site c) (act_ends inputs view scope s c) (act_again g now c) k
          (λ d w i. act_fresh vs low scope now s c n.0 (both_inner inputs view run vs low scope s c t n r) (Both c t) refl (runs_here inputs view run vs low scope s (Both c t) n r) k d w i))
          by_both_done.0 v by_both_done.1 a

      pub act_fresh : (vs : List Act) (low : ℕ) (scope : ℕ → Outcome) (now : ℕ → ℕ) (s : ℕ) (c : Act) → NumberedAct vs low c → Agrees run (inside inputs view scope s c) (low + 1) (low + act_size c) → (u : Term) → head u ≡ c → run low ≡ Runs scope s u → ((y : ℕ) → Kept scope now y)
          → (e : ℕ) (v : Value) → act_ends inputs view scope s c ≡ Done e v → AllFresh F v.atoms → act_again g now c ≡ v.number
      act_fresh vs low scope now s (Recv p m) n r u i j k e v q a =
          let by_found_done = found_done (first (inputs.valid m) s (inputs.count - s)) (λ w. record { number = inputs.data_at m w; atoms = Wire m w ∷ [] }) e v q in
          let a' : AllFresh F (Wire m e ∷ []) = rw (ap (λ (v : Value). v.atoms) by_found_done) at a in
          a'.0 ∙ ap (λ (v : Value). v.number) (sym by_found_done)
      act_fresh vs low scope now s (If p f t w true) n r u i j k e v q a =
          let by_decided_done = decided_done p s (if view.decide p s scope f then ends inputs view scope s t else ends inputs view scope s w) e v q in
          let a' : AllFresh F (Choice p s ∷ by_decided_done.0.atoms) = rw (ap (λ (v : Value). v.atoms) by_decided_done.2) at a in
          let equal : g.side p ≡ view.decide p s scope f = a'.0 ∙ sym (steady.sides low scope s u p f t w j i) in
          rw equal (pick_fresh (view.decide p s scope f) (ends inputs view scope s t) (ends inputs view scope s w) (again g now t) (again g now w) e by_decided_done.0 by_decided_done.1 a'.1
          (λ d. fresh vs (low + 1) scope now s t n.1 (record { each = λ q l m. if_yes_is inputs view run vs low scope s p f t w true n r q l m ∙ ap (λ c. if c then fate inputs view scope s t q else Lost) d }) k e by_decided_done.0)
          (λ d. fresh vs (low + (1 + size t)) scope now s w n.2 (record { each = λ q l m. if_no_is inputs view run vs low scope s p f t w true n r q l m ∙ ap (λ c. if c then Lost else fate inputs view scope s w q) d }) k e by_decided_done.0))
          ∙ ap (λ (v : Value). v.number) (sym by_decided_done.2)
      act_fresh vs low scope now s (If p f t w false) n r u i j k e v q a = ap (λ (v : Value). v.number) (sym (unit_done p s _ e v q))
      act_fresh vs low scope now s (When p f t) n r u i j k e v q a = ap (λ (v : Value). v.number) (sym (unit_done p s _ e v q))
      act_fresh vs low scope now s (Block p t) n r u i j k e v q a = fresh vs (low + 1) scope now s t n.1 (block_in inputs view run low scope s p t r) k e v q a
      act_fresh vs low scope now s (Wait p y) n r u i j k e v q a = let by_waited_done = waited_done s (scope y) e v q in k y by_waited_done.0 v by_waited_done.1 a
      act_fresh vs low scope now s (Pure p f) n r u i j k e v q a =
          let next_equal : value view.registers scope s f ≡ v = cc in
          let a' : AllFresh F (value view.registers scope s f).atoms = rw next_equal a in
          expr_fresh scope now s f (steady.made low scope s u p f j i) (λ y m. k y) a' ∙ ap (λ (v : Value). v.number) next_equal
      act_fresh vs low scope now s (Cycle p m) n r u i j k e v q a = let equal : nothing ≡ v = cc in ap (λ (v : Value). v.number) equal
      act_fresh vs low scope now s (Set p m f) n r u i j k e v q a = let last_equal : nothing ≡ v = cc in ap (λ (v : Value). v.number) last_equal
      act_fresh vs low scope now s (Send p m f) n r u i j k e v q a = ap (λ (v : Value). v.number) (sym (found_done (first (inputs.ack m) s (inputs.count - s)) (λ w. nothing) e v q))
      act_fresh vs low scope now s (Nothing p) n r u i j k e v q a = let other_equal : nothing ≡ v = cc in ap (λ (v : Value). v.number) other_equal
