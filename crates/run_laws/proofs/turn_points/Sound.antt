-- Each atom of a value comes from a source that the text shows, and in this turn: the data of a `recv` that ended at the cycle
-- of the atom, a register read by an act that began then, the side of an `if` that began then.
--
-- By induction over terms and expressions, together with the same for the variables in scope. The hard case is an `if` with a
-- width: the text counts the sources of both sides and of the choice, a value has the atoms of the side taken and of the
-- choice.
use Rattle.std.proofs.Common.{◌≡◌, ℕ, ◌+◌, ◌-◌, ◌⊎◌, inl, inr, refl, ◌∙◌, ap, List, [], ◌∷◌, ◌++◌, Bool, true, false, if◌then◌else◌, ◌==◌, nat_le}
use Rattle.core_term.specs.Term.{Expr, Lit, Var, Reg, Not, Bin, Slice, Choose, Term, One, Then, Both, Act, Cycle, Set, Send, Recv, If, When, Block, Wait, Pure, Nothing, site, head}
use Rattle.core_term.specs.Value.{Value, Outcome, Open, Done, value, nothing, read, Atom, Wire, Register, Choice}
use Rattle.core_term.specs.Inputs.{Inputs}
use Rattle.core_term.specs.Ends.{Sees, bind, ends, act_ends, first}
use Rattle.core_term.specs.Fate.{Fate, Lost, Runs, fate, inside}
use Rattle.core_term.specs.Points.{Begin, End}
use Rattle.core_term.specs.Occurs.{At, occurrence, begin_at, end_at, of_outcome}
use Rattle.core_term.specs.Numbering.{size, act_size, Numbered, NumberedAct}
use Rattle.core_term.specs.Sources.{Source, WireOf, RegOf, ChoiceOf, bind_sources, expr_sources, sources, act_sources}
use Rattle.core_term.specs.Lists.{Has}
use Rattle.core_term.specs.Acts.{Asks}
use Rattle.core_term.proofs.code_tables.Fits.{has_either}
use Rattle.run_laws.proofs.turn_points.Live.{Agrees}
use Rattle.run_laws.proofs.turn_points.Parts.{one_inner, then_inner, both_inner, both_rest, if_yes_is, if_no_is, block_in, runs_here}
use Rattle.run_laws.proofs.turn_points.Tails.{then_rest_is}
use Rattle.run_laws.proofs.turn_points.Done.{chain_done, both_done, decided_done, unit_done, waited_done, found_done}

has_left : {A : Type 0} (these those : List A) (a : A) → Has these a → Has (these ++ those) a
has_left [] those a k = elim k [ ]
has_left (c ∷ these) those a (inl e) = inl e
has_left (c ∷ these) those a (inr k) = inr (has_left these those a k)

has_right : {A : Type 0} (these those : List A) (a : A) → Has those a → Has (these ++ those) a
has_right [] those a k = k
has_right (c ∷ these) those a k = inr (has_right these those a k)

module _ (inputs : Inputs) (view : Sees) (run : ℕ → Fate) where
  -- the source p of an atom, in this turn
  abbrev pub Matches : Source → Atom → Type 0
  Matches (WireOf p) (Wire m t) = (occurrence inputs view run (End p) ≡ At t) × ((scope : ℕ → Outcome) × (s : ℕ) × (u : Term) × (run p ≡ Runs scope s u) × (head u ≡ Recv p m))
  Matches (RegOf p r) (Register q t) = (q ≡ r) × (occurrence inputs view run (Begin p) ≡ At t)
  Matches (ChoiceOf p) (Choice q t) = (q ≡ p) × (occurrence inputs view run (Begin p) ≡ At t) × ((scope : ℕ → Outcome) × (u : Term) × (f : Expr) × (run p ≡ Runs scope t u) × Asks (head u) f)
  Matches (WireOf p) (Register q t) = ⊥
  Matches (WireOf p) (Choice q t) = ⊥
  Matches (RegOf p r) (Wire m t) = ⊥
  Matches (RegOf p r) (Choice q t) = ⊥
  Matches (ChoiceOf p) (Wire m t) = ⊥
  Matches (ChoiceOf p) (Register q t) = ⊥

  pub record Covers (from_sources : List Source) (these : List Atom) : Type 0 where
    pub each : (a : Atom) → Has these a → (b : Source) × Has from_sources b × Matches b a

  covers_none : (from_sources : List Source) → Covers from_sources []
  covers_none from_sources = record { each = λ a k. elim k [ ] }

  covers_append : (from_sources other_sources : List Source) (these those : List Atom) → Covers from_sources these → Covers other_sources those → Covers (from_sources ++ other_sources) (these ++ those)
  covers_append from_sources other_sources these those k l = record {
    each = λ a m. elim (has_either these those a m) [
      | inl n ↦ let by_each = k.each a n in (by_each.0, has_left from_sources other_sources by_each.0 by_each.1, by_each.2)
      | inr n ↦ let next_by_each = l.each a n in (next_by_each.0, has_right from_sources other_sources next_by_each.0 next_by_each.1, next_by_each.2)
    ];
  }

  covers_one : (s : Source) (a : Atom) → Matches s a → Covers (s ∷ []) (a ∷ [])
  covers_one s a m = record { each = λ b k. go b k }
    where
      go : (b : Atom) → Has (a ∷ []) b → (c : Source) × Has (s ∷ []) c × Matches c b
      go b (inl e) = (s, inl refl, rw e m)
      go b (inr k) = elim k [ ]

  covers_left : (from_sources other_sources : List Source) (these : List Atom) → Covers from_sources these → Covers (from_sources ++ other_sources) these
  covers_left from_sources other_sources these k = record { each = λ a n. let last_by_each = k.each a n in (last_by_each.0, has_left from_sources other_sources last_by_each.0 last_by_each.1, last_by_each.2) }

  covers_right : (from_sources other_sources : List Source) (these : List Atom) → Covers other_sources these → Covers (from_sources ++ other_sources) these
  covers_right from_sources other_sources these k = record { each = λ a n. let other_by_each = k.each a n in (other_by_each.0, has_right from_sources other_sources other_by_each.0 other_by_each.1, other_by_each.2) }

  covers_more : (s : Source) (from_sources : List Source) (a : Atom) (these : List Atom) → Matches s a → Covers from_sources these → Covers (s ∷ from_sources) (a ∷ these)
  covers_more s from_sources a these m k = record { each = go }
    where
      go : (b : Atom) → Has (a ∷ these) b → (c : Source) × Has (s ∷ from_sources) c × Matches c b
      go b (inl e) = (s, inl refl, rw e m)
      go b (inr n) = let by_each = k.each b n in (by_each.0, inr by_each.1, by_each.2)

  -- the sources of a variable cover its value
  abbrev pub Known : (ℕ → List Source) → (ℕ → Outcome) → Type 0
  Known known_sources scope = (y : ℕ) (e : ℕ) (v : Value) → scope y ≡ Done e v → Covers (known_sources y) v.atoms

  pub known_bind : (known_sources : ℕ → List Source) (scope : ℕ → Outcome) (p : ℕ) (o : Outcome) (from_sources : List Source) → Known known_sources scope → ((e : ℕ) (v : Value) → o ≡ Done e v → Covers from_sources v.atoms) → Known (bind_sources known_sources p from_sources) (bind scope p o)
  known_bind known_sources scope p o from_sources k f y = go (y == p)
    where
      go : (b : Bool) → (e : ℕ) (v : Value) → (if b then o else scope y) ≡ Done e v → Covers (if b then from_sources else known_sources y) v.atoms
      go true = f
      go false = k y

  read_covers : (from_sources : List Source) (o : Outcome) (s : ℕ) → ((e : ℕ) (v : Value) → o ≡ Done e v → Covers from_sources v.atoms) → Covers from_sources (read o s).atoms
  read_covers from_sources Open s k = covers_none from_sources
  read_covers from_sources (Done e v) s k = go (nat_le e s)
    where
      go : (b : Bool) → Covers from_sources (if b then v else nothing).atoms
      go true = k e v refl
      go false = covers_none from_sources

  pub expr_covers : (known_sources : ℕ → List Source) (scope : ℕ → Outcome) (p s : ℕ) (f : Expr) → occurrence inputs view run (Begin p) ≡ At s → Known known_sources scope → Covers (expr_sources p known_sources f) (value view.registers scope s f).atoms
  expr_covers known_sources scope p s (Lit w n) b k = covers_none []
  expr_covers known_sources scope p s (Var y) b k = read_covers (known_sources y) (scope y) s (k y)
  expr_covers known_sources scope p s (Reg r) b k = covers_one (RegOf p r) (Register r s) (refl, b)
  expr_covers known_sources scope p s (Not w f) b k = expr_covers known_sources scope p s f b k
  expr_covers known_sources scope p s (Bin o w v f g) b k = covers_append _ _ _ _ (expr_covers known_sources scope p s f b k) (expr_covers known_sources scope p s g b k)
  expr_covers known_sources scope p s (Slice y high low) b k = read_covers (known_sources y) (scope y) s (k y)
  expr_covers known_sources scope p s (Choose d f g) b k = covers_append _ _ _ _ (expr_covers known_sources scope p s d b k) (covers_append _ _ _ _ (expr_covers known_sources scope p s f b k) (expr_covers known_sources scope p s g b k))

  pick_covers : (b : Bool) (t u : Outcome) (from_sources other_sources : List Source) (e : ℕ) (v : Value) → (if b then t else u) ≡ Done e v → (b ≡ true → t ≡ Done e v → Covers from_sources v.atoms) → (b ≡ false → u ≡ Done e v → Covers other_sources v.atoms) → Covers (from_sources ++ other_sources) v.atoms
  pick_covers true t u from_sources other_sources e v q i j = covers_left from_sources other_sources v.atoms (i refl q)
  pick_covers false t u from_sources other_sources e v q i j = covers_right from_sources other_sources v.atoms (j refl q)

  mutual
    pub covers : (vs : List Act) (low : ℕ) (known_sources : ℕ → List Source) (scope : ℕ → Outcome) (s : ℕ) (t : Term) → Numbered vs low t → Agrees run (fate inputs view scope s t) low (low + size t) → Known known_sources scope
        → (e : ℕ) (v : Value) → ends inputs view scope s t ≡ Done e v → Covers (sources known_sources t) v.atoms
    covers vs low known_sources scope s (One c) n r k e v q = act_covers vs low known_sources scope s c n (one_inner inputs view run vs low scope s c n r) (One c) refl (runs_here inputs view run vs low scope s (One c) n r) k e v q
    covers vs low known_sources scope s (Then c t) n r k e v q =
        let by_chain_done = chain_done inputs (act_ends inputs view scope s c) (λ d w. ends inputs view (bind scope (site c) (Done d w)) d t) e v q in
        covers (c ∷ vs) (low + act_size c) (bind_sources known_sources (site c) (act_sources known_sources c)) (bind scope (site c) (Done by_chain_done.0 by_chain_done.1)) by_chain_done.0 t n.1 (then_rest_is inputs view run vs low scope s c t n r by_chain_done.0 by_chain_done.1 by_chain_done.2 by_chain_done.3)
        (known_bind known_sources scope (site c) (Done by_chain_done.0 by_chain_done.1) (act_sources known_sources c) k
        (λ d w i. act_covers vs low known_sources scope s c n.0 (then_inner inputs view run vs low scope s c t n r) (Then c t) refl (runs_here inputs view run vs low scope s (Then c t) n r) k d w (by_chain_done.2 ∙ i)))
        e v by_chain_done.4
    covers vs low known_sources scope s (Both c t) n r k e v q =
        let by_both_done = both_done (act_ends inputs view scope s c) (ends inputs view (bind scope (site c) (act_ends inputs view scope s c)) s t) e v q in
        covers (c ∷ vs) (low + act_size c) (bind_sources known_sources (site c) (act_sources known_sources c)) (bind scope (site c) (act_ends inputs view scope s c)) s t n.1 (both_rest inputs view run vs low scope s c t n r)
        (known_bind known_sources scope (site c) (act_ends inputs view scope s c) (act_sources known_sources c) k
        (λ d w i. act_covers vs low known_sources scope s c n.0 (both_inner inputs view run vs low scope s c t n r) (Both c t) refl (runs_here inputs view run vs low scope s (Both c t) n r) k d w i))
        by_both_done.0 v by_both_done.1

    pub act_covers : (vs : List Act) (low : ℕ) (known_sources : ℕ → List Source) (scope : ℕ → Outcome) (s : ℕ) (c : Act) → NumberedAct vs low c → Agrees run (inside inputs view scope s c) (low + 1) (low + act_size c) → (u : Term) → head u ≡ c → run low ≡ Runs scope s u → Known known_sources scope
        → (e : ℕ) (v : Value) → act_ends inputs view scope s c ≡ Done e v → Covers (act_sources known_sources c) v.atoms
    act_covers vs low known_sources scope s (Recv p m) n r u i j k e v q =
        let by_found_done = found_done (first (inputs.valid m) s (inputs.count - s)) (λ w. record { number = inputs.data_at m w; atoms = Wire m w ∷ [] }) e v q in
        let at_end : occurrence inputs view run (End p) ≡ At e = rw n (ap (end_at inputs view) j ∙ (ap (λ c. of_outcome (act_ends inputs view scope s c)) i ∙ ap of_outcome q)) in
        rw (ap (λ (v : Value). v.atoms) by_found_done) (covers_one (WireOf p) (Wire m e) (at_end, (scope, s, u, rw n j, i)))
    act_covers vs low known_sources scope s (If p f t w true) n r u i j k e v q =
        let by_decided_done = decided_done p s (if view.decide p s scope f then ends inputs view scope s t else ends inputs view scope s w) e v q in
        let equal : occurrence inputs view run (Begin p) ≡ At s = rw n.0 (ap begin_at j) in
        rw (ap (λ (v : Value). v.atoms) by_decided_done.2) (covers_more (ChoiceOf p) (sources known_sources t ++ sources known_sources w) (Choice p s) by_decided_done.0.atoms (refl, equal, (scope, u, f, rw n.0 j, rw i refl))
        (pick_covers (view.decide p s scope f) (ends inputs view scope s t) (ends inputs view scope s w) (sources known_sources t) (sources known_sources w) e by_decided_done.0 by_decided_done.1
        (λ d. covers vs (low + 1) known_sources scope s t n.1 (record { each = λ q l m. if_yes_is inputs view run vs low scope s p f t w true n r q l m ∙ ap (λ c. if c then fate inputs view scope s t q else Lost) d }) k e by_decided_done.0)
        (λ d. covers vs (low + (1 + size t)) known_sources scope s w n.2 (record { each = λ q l m. if_no_is inputs view run vs low scope s p f t w true n r q l m ∙ ap (λ c. if c then Lost else fate inputs view scope s w q) d }) k e by_decided_done.0)))
    act_covers vs low known_sources scope s (If p f t w false) n r u i j k e v q = rw (ap (λ (v : Value). v.atoms) (unit_done p s _ e v q)) (covers_none [])
    act_covers vs low known_sources scope s (When p f t) n r u i j k e v q = rw (ap (λ (v : Value). v.atoms) (unit_done p s _ e v q)) (covers_none [])
    act_covers vs low known_sources scope s (Block p t) n r u i j k e v q = covers vs (low + 1) known_sources scope s t n.1 (block_in inputs view run low scope s p t r) k e v q
    act_covers vs low known_sources scope s (Wait p y) n r u i j k e v q = let by_waited_done = waited_done s (scope y) e v q in k y by_waited_done.0 v by_waited_done.1
    act_covers vs low known_sources scope s (Pure p f) n r u i j k e v q =
        let next_equal : value view.registers scope s f ≡ v = cc in
        rw (← next_equal) (expr_covers known_sources scope p s f (rw n.0 (ap begin_at j)) k)
    act_covers vs low known_sources scope s (Cycle p m) n r u i j k e v q = let equal : nothing ≡ v = cc in rw (← equal) (covers_none [])
    act_covers vs low known_sources scope s (Set p m f) n r u i j k e v q = let last_equal : nothing ≡ v = cc in rw (← last_equal) (covers_none [])
    act_covers vs low known_sources scope s (Send p m f) n r u i j k e v q = rw (found_done (first (inputs.ack m) s (inputs.count - s)) (λ w. nothing) e v q) (covers_none [])
    act_covers vs low known_sources scope s (Nothing p) n r u i j k e v q = let other_equal : nothing ≡ v = cc in rw (← other_equal) (covers_none [])
