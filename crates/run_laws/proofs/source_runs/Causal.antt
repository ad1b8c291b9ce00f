-- What happens up to cycle t depends on what comes in up to t, and on what is shown and decided up to t.
--
-- Two walks through one term, over two input lists, see the same up to t. Then an outcome that is there by t in the one is the
-- outcome in the other, and an act that begins by t in the one begins in the other. By induction over terms and acts; the case
-- that needs care is a chain whose act has not ended by t, since what follows it then begins after t in both.
use Rattle.std.proofs.Common.{◌≡◌, ℕ, ◌+◌, ◌-◌, ◌<◌, ◌≤◌, arith, refl, sym, ◌∙◌, ap, subst, [], ◌∷◌, Bool, true, false, if◌then◌else◌, ◌==◌, nat_lt, nat_le, max, zero, suc, Option, Some, None}
use Rattle.std.proofs.lemmas.Bool.Decides.{nat_tests}
use Rattle.anvil_bits.specs.Operators.{not_of, slice_of}
use Rattle.core_term.specs.Inputs.{Inputs}
use Rattle.core_term.specs.Term.{Expr, Lit, Var, Reg, Not, Bin, Slice, Choose, Term, One, Then, Both, Act, Cycle, Set, Send, Recv, If, When, Block, Wait, Pure, Nothing, site, head}
use Rattle.core_term.specs.Value.{Value, Outcome, Open, Done, value, nothing, read, Wire, Register}
use Rattle.core_term.specs.Ends.{Sees, bind, ends, act_ends, first, found, after_end, later, decided, waited}
use Rattle.core_term.specs.Fate.{Fate, Waits, Lost, Runs, fate, inside, once}
use Rattle.run_laws.proofs.turn_points.NotBefore.{NotBefore, BeginsFrom, ends_from, fate_from}

-- the same outcome, if it is there by cycle t
pub record SameTo (t : ℕ) (o o' : Outcome) : Type 0 where
  pub there : (e : ℕ) (v : Value) → e ≤ t → o ≡ Done e v → o' ≡ Done e v
  pub back : (e : ℕ) (v : Value) → e ≤ t → o' ≡ Done e v → o ≡ Done e v

abbrev pub SameScope : ℕ → (ℕ → Outcome) → (ℕ → Outcome) → Type 0
SameScope t scope scope' = (y : ℕ) → SameTo t (scope y) (scope' y)

-- two walks that see the same up to cycle t
pub record Alike (t : ℕ) (inputs inputs' : Inputs) (view view' : Sees) : Type 0 where
  pub long : t < inputs.count
  pub long' : t < inputs'.count
  pub valid : (m u : ℕ) → u ≤ t → inputs.valid m u ≡ inputs'.valid m u
  pub data_at : (m u : ℕ) → u ≤ t → inputs.data_at m u ≡ inputs'.data_at m u
  pub ack : (m u : ℕ) → u ≤ t → inputs.ack m u ≡ inputs'.ack m u
  pub registers : (u r : ℕ) → u ≤ t → view.registers u r ≡ view'.registers u r
  pub decide : (p start : ℕ) (scope scope' : ℕ → Outcome) (e : Expr) → start ≤ t → SameScope t scope scope' → view.decide p start scope e ≡ view'.decide p start scope' e

pub turn_round : {t : ℕ} {o o' : Outcome} → SameTo t o o' → SameTo t o' o
turn_round s = record { there = s.back; back = s.there }

pub swap : {t : ℕ} {inputs inputs' : Inputs} {view view' : Sees} → Alike t inputs inputs' view view' → Alike t inputs' inputs view' view
swap a = record {
  long = a.long';
  long' = a.long;
  valid = λ m u l. sym (a.valid m u l);
  data_at = λ m u l. sym (a.data_at m u l);
  ack = λ m u l. sym (a.ack m u l);
  registers = λ u r l. sym (a.registers u r l);
  decide = λ p start scope scope' e l k. sym (a.decide p start scope' scope e l (λ y. turn_round (k y)));
}

pub same_bind : {t : ℕ} {scope scope' : ℕ → Outcome} {o o' : Outcome} (p : ℕ) → SameScope t scope scope' → SameTo t o o' → SameScope t (bind scope p o) (bind scope' p o')
same_bind {t = t} {scope = scope} {scope' = scope'} {o = o} {o' = o'} p s k y = go (y == p)
  where
    go : (b : Bool) → SameTo t (if b then o else scope y) (if b then o' else scope' y)
    go true = k
    go false = s y

pub same_refl : (t : ℕ) (o : Outcome) → SameTo t o o
same_refl t o = record { there = λ e v l k. k; back = λ e v l k. k }

-- a variable that is read by cycle t
read_same : (t s : ℕ) (o o' : Outcome) → s ≤ t → SameTo t o o' → read o s ≡ read o' s
read_same t s Open Open l k = refl
read_same t s Open (Done e v) l k = go (nat_le e s) refl
  where
    go : (b : Bool) → nat_le e s ≡ b → nothing ≡ (if b then v else nothing)
    go true f = let at_most : e ≤ s = grind (arith, nat_tests) in let equal : Open ≡ Done e v = k.back e v (omega arith) refl in absurd cc
    go false f = refl
read_same t s (Done e v) Open l k = go (nat_le e s) refl
  where
    go : (b : Bool) → nat_le e s ≡ b → (if b then v else nothing) ≡ nothing
    go true f = let next_at_most : e ≤ s = grind (arith, nat_tests) in let next_equal : Open ≡ Done e v = k.there e v (omega arith) refl in absurd cc
    go false f = refl
read_same t s (Done e v) (Done e' v') l k = go (nat_le e s) refl (nat_le e' s) refl
  where
    go : (b : Bool) → nat_le e s ≡ b → (b' : Bool) → nat_le e' s ≡ b' → (if b then v else nothing) ≡ (if b' then v' else nothing)
    go true f b' f' =
        let last_at_most : e ≤ s = grind (arith, nat_tests) in
        let last_equal : Done e' v' ≡ Done e v = k.there e v (omega arith) refl in
        let other_equal : e' ≡ e = cc in
        let more_equal : v' ≡ v = cc in
        let decided : nat_le e' s ≡ true = rw other_equal f in
        let b_is : b' ≡ true = sym f' ∙ decided in
        rw (b_is, more_equal) refl
    go false f true f' =
        let other_at_most : e' ≤ s = grind (arith, nat_tests) in
        let further_equal : Done e v ≡ Done e' v' = k.back e' v' (omega arith) refl in
        let second_equal : e ≡ e' = cc in
        let next_decided : nat_le e s ≡ true = rw second_equal f' in
        let last_decided : true ≡ false = sym next_decided ∙ f in absurd cc
    go false f false f' = refl

pub value_same : (t : ℕ) (registers registers' : ℕ → ℕ → ℕ) (scope scope' : ℕ → Outcome) (s : ℕ) → ((r : ℕ) → registers s r ≡ registers' s r) → s ≤ t → SameScope t scope scope' → (e : Expr) → value registers scope s e ≡ value registers' scope' s e
value_same t registers registers' scope scope' s g l k (Lit w n) = refl
value_same t registers registers' scope scope' s g l k (Var y) = read_same t s (scope y) (scope' y) l (k y)
value_same t registers registers' scope scope' s g l k (Reg r) = ap (λ n. record { number = n; atoms = Register r s ∷ [] }) (g r)
value_same t registers registers' scope scope' s g l k (Not w e) = ap (λ (v : Value). record { number = not_of w v.number; atoms = v.atoms }) (value_same t registers registers' scope scope' s g l k e)
value_same t registers registers' scope scope' s g l k (Bin o w v a b) = rw (value_same t registers registers' scope scope' s g l k a, value_same t registers registers' scope scope' s g l k b) refl
value_same t registers registers' scope scope' s g l k (Slice y high low) = ap (λ (v : Value). record { number = slice_of high low v.number; atoms = v.atoms }) (read_same t s (scope y) (scope' y) l (k y))
value_same t registers registers' scope scope' s g l k (Choose c a b) = rw (value_same t registers registers' scope scope' s g l k c, value_same t registers registers' scope scope' s g l k a, value_same t registers registers' scope scope' s g l k b) refl

-- the first cycle in which a wire is 1 is never before the start
pub first_from : (wire : ℕ → Bool) (s n u : ℕ) → first wire s n ≡ Some u → s ≤ u
first_from wire s zero u e = absurd cc
first_from wire s (suc n) u e = go (wire s) refl (first_from wire (s + 1) n u)
  where
    go : (b : Bool) → wire s ≡ b → (first wire (s + 1) n ≡ Some u → s + 1 ≤ u) → s ≤ u
    go true f k = let equal : Some s ≡ Some u = rw f at e in let next_equal : s ≡ u = cc in omega arith
    go false f k = let last_equal : first wire (s + 1) n ≡ Some u = rw f at e in let part = k last_equal in omega arith

first_same : (wire wire' : ℕ → Bool) (s n n' u : ℕ) → first wire s n ≡ Some u → ((w : ℕ) → w ≤ u → wire w ≡ wire' w) → u < s + n' → s ≤ u → first wire' s n' ≡ Some u
first_same wire wire' s zero n' u e k l m = absurd cc
first_same wire wire' s (suc n) zero u e k l m = absurd (omega arith)
first_same wire wire' s (suc n) (suc n') u e k l m = go (wire s) refl (first_same wire wire' (s + 1) n n' u)
  where
    go : (b : Bool) → wire s ≡ b → (first wire (s + 1) n ≡ Some u → ((w : ℕ) → w ≤ u → wire w ≡ wire' w) → u < s + 1 + n' → s + 1 ≤ u → first wire' (s + 1) n' ≡ Some u) → (if wire' s then Some s else first wire' (s + 1) n') ≡ Some u
    go true f i = let other_equal : Some s ≡ Some u = rw f at e in rw (← k s m, f) other_equal
    go false f i =
        let more_equal : first wire (s + 1) n ≡ Some u = rw f at e in
        let at_most : s + 1 ≤ u = first_from wire (s + 1) n u more_equal in
        rw (← k s m, f) (i more_equal k (omega arith) at_most)

pub found_there : (t : ℕ) (wire wire' : ℕ → Bool) (s c c' : ℕ) (f f' : ℕ → Value) → t < c' → s ≤ t → ((w : ℕ) → w ≤ t → wire w ≡ wire' w) → ((w : ℕ) → w ≤ t → f w ≡ f' w) → (e : ℕ) (v : Value) → e ≤ t → found (first wire s (c - s)) f ≡ Done e v → found (first wire' s (c' - s)) f' ≡ Done e v
found_there t wire wire' s c c' f f' l m k k' e v n q = go (first wire s (c - s)) refl q
  where
    go : (r : Option ℕ) → first wire s (c - s) ≡ r → found r f ≡ Done e v → found (first wire' s (c' - s)) f' ≡ Done e v
    go None r i = absurd cc
    go (Some u) r i =
        let equal : u ≡ e = cc in
        let next_at_most : s ≤ u = first_from wire s (c - s) u r in
        let next_equal : first wire' s (c' - s) ≡ Some u = first_same wire wire' s (c - s) (c' - s) u r (λ w y. k w (omega arith)) (omega arith) next_at_most in
        rw next_equal (rw (← k' u (omega arith)) i)

pub decided_there : (t : ℕ) (w : Bool) (p s : ℕ) (o o' : Outcome) → ((e : ℕ) (v : Value) → e ≤ t → o ≡ Done e v → o' ≡ Done e v) → (e : ℕ) (v : Value) → e ≤ t → decided w p s o ≡ Done e v → decided w p s o' ≡ Done e v
decided_there t w p s Open o' k e v l q = absurd cc
decided_there t true p s (Done a b) o' k e v l q = let last_equal : a ≡ e = cc in ap (decided true p s) (k a b (omega arith) refl) ∙ q
decided_there t false p s (Done a b) o' k e v l q = let other_equal : a ≡ e = cc in ap (decided false p s) (k a b (omega arith) refl) ∙ q

pub waited_there : (t s : ℕ) (o o' : Outcome) → SameTo t o o' → (e : ℕ) (v : Value) → e ≤ t → waited s o ≡ Done e v → waited s o' ≡ Done e v
waited_there t s Open o' k e v l q = absurd cc
waited_there t s (Done a b) o' k e v l q = let more_equal : max s a ≡ e = cc in ap (waited s) (k.there a b (omega arith) refl) ∙ q

pub later_there : (t : ℕ) (r u r' u' : Outcome) → ((e : ℕ) (v : Value) → e ≤ t → r ≡ Done e v → r' ≡ Done e v) → ((e : ℕ) (v : Value) → e ≤ t → u ≡ Done e v → u' ≡ Done e v) → (e : ℕ) (v : Value) → e ≤ t → later r u ≡ Done e v → later r' u' ≡ Done e v
later_there t Open u r' u' k k' e v l q = absurd cc
later_there t (Done a b) Open r' u' k k' e v l q = absurd cc
later_there t (Done a b) (Done c d) r' u' k k' e v l q = let equal : max a c ≡ e = cc in rw (k a b (omega arith) refl, k' c d (omega arith) refl) q

not_before : (c : ℕ) (o : Outcome) (e : ℕ) (v : Value) → NotBefore c o → o ≡ Done e v → c ≤ e
not_before c Open e v k q = absurd cc
not_before c (Done a b) e v k q = let next_equal : a ≡ e = cc in omega arith

chain_there : (t : ℕ) (inputs inputs' : Inputs) (r r' : Outcome) (k k' : ℕ → Value → Outcome) → t < inputs'.count → ((e : ℕ) (v : Value) → e ≤ t → r ≡ Done e v → r' ≡ Done e v) → ((c : ℕ) (w : Value) → NotBefore c (k c w))
    → ((c : ℕ) (w : Value) → c ≤ t → (e : ℕ) (v : Value) → e ≤ t → k c w ≡ Done e v → k' c w ≡ Done e v) → (e : ℕ) (v : Value) → e ≤ t → after_end inputs r k ≡ Done e v → after_end inputs' r' k' ≡ Done e v
chain_there t inputs inputs' Open r' k k' m f from g e v l q = absurd cc
chain_there t inputs inputs' (Done c w) r' k k' m f from g e v l q = go (nat_lt c inputs.count) q
  where
    go : (b : Bool) → (if b then k c w else Open) ≡ Done e v → after_end inputs' r' k' ≡ Done e v
    go true i =
        let at_most : c ≤ e = not_before c (k c w) e v (from c w) i in
        let decided : nat_lt c inputs'.count ≡ true = grind (arith, nat_tests) in
        rw (f c w (omega arith) refl, decided) (g c w (omega arith) e v l i)
    go false i = absurd cc

pick_there : (t : ℕ) (c : Bool) (o u o' u' : Outcome) → ((e : ℕ) (v : Value) → e ≤ t → o ≡ Done e v → o' ≡ Done e v) → ((e : ℕ) (v : Value) → e ≤ t → u ≡ Done e v → u' ≡ Done e v)
    → (e : ℕ) (v : Value) → e ≤ t → (if c then o else u) ≡ Done e v → (if c then o' else u') ≡ Done e v
pick_there t true o u o' u' i j = i
pick_there t false o u o' u' i j = j

module _ (t : ℕ) where
  mutual
    pub ends_there : (x x' : Inputs) (h h' : Sees) → Alike t x x' h h' → (scope scope' : ℕ → Outcome) (s : ℕ) → s ≤ t → SameScope t scope scope' → (u : Term) → (e : ℕ) (v : Value) → e ≤ t → ends x h scope s u ≡ Done e v → ends x' h' scope' s u ≡ Done e v
    ends_there x x' h h' a scope scope' s l k (One c) e v m q = act_there x x' h h' a scope scope' s l k c e v m q
    ends_there x x' h h' a scope scope' s l k (Then c u) e v m q =
        chain_there t x x' (act_ends x h scope s c) (act_ends x' h' scope' s c) _ _ a.long' (act_there x x' h h' a scope scope' s l k c)
        (λ b w. ends_from x h (bind scope (site c) (Done b w)) b u)
        (λ b w i. ends_there x x' h h' a (bind scope (site c) (Done b w)) (bind scope' (site c) (Done b w)) b i (same_bind (site c) k (same_refl t (Done b w))) u) e v m q
    ends_there x x' h h' a scope scope' s l k (Both c u) e v m q =
        later_there t (act_ends x h scope s c) (ends x h (bind scope (site c) (act_ends x h scope s c)) s u) (act_ends x' h' scope' s c) (ends x' h' (bind scope' (site c) (act_ends x' h' scope' s c)) s u)
        (act_there x x' h h' a scope scope' s l k c)
        (ends_there x x' h h' a (bind scope (site c) (act_ends x h scope s c)) (bind scope' (site c) (act_ends x' h' scope' s c)) s l
        (same_bind (site c) k (record { there = act_there x x' h h' a scope scope' s l k c; back = act_there x' x h' h (swap a) scope' scope s l (λ y. turn_round (k y)) c })) u) e v m q

    pub act_there : (x x' : Inputs) (h h' : Sees) → Alike t x x' h h' → (scope scope' : ℕ → Outcome) (s : ℕ) → s ≤ t → SameScope t scope scope' → (c : Act) → (e : ℕ) (v : Value) → e ≤ t → act_ends x h scope s c ≡ Done e v → act_ends x' h' scope' s c ≡ Done e v
    act_there x x' h h' a scope scope' s l k (Cycle p n) e v m q = q
    act_there x x' h h' a scope scope' s l k (Set p r f) e v m q = q
    act_there x x' h h' a scope scope' s l k (Send p n f) e v m q = found_there t (x.ack n) (x'.ack n) s x.count x'.count _ _ a.long' l (a.ack n) (λ w i. refl) e v m q
    act_there x x' h h' a scope scope' s l k (Recv p n) e v m q =
        found_there t (x.valid n) (x'.valid n) s x.count x'.count _ _ a.long' l (a.valid n) (λ w i. ap (λ d. record { number = d; atoms = Wire n w ∷ [] }) (a.data_at n w i)) e v m q
    act_there x x' h h' a scope scope' s l k (If p f u w b) e v m q =
        decided_there t b p s (if h.decide p s scope f then ends x h scope s u else ends x h scope s w) (if h'.decide p s scope' f then ends x' h' scope' s u else ends x' h' scope' s w)
        (rw (← a.decide p s scope scope' f l k) (pick_there t (h.decide p s scope f) _ _ _ _ (ends_there x x' h h' a scope scope' s l k u) (ends_there x x' h h' a scope scope' s l k w))) e v m q
    act_there x x' h h' a scope scope' s l k (When p f u) e v m q =
        decided_there t false p s (if h.decide p s scope f then ends x h scope s u else Done s nothing) (if h'.decide p s scope' f then ends x' h' scope' s u else Done s nothing)
        (rw (← a.decide p s scope scope' f l k) (pick_there t (h.decide p s scope f) _ _ _ _ (ends_there x x' h h' a scope scope' s l k u) (λ e v l z. z))) e v m q
    act_there x x' h h' a scope scope' s l k (Block p u) e v m q = ends_there x x' h h' a scope scope' s l k u e v m q
    act_there x x' h h' a scope scope' s l k (Wait p y) e v m q = waited_there t s (scope y) (scope' y) (k y) e v m q
    act_there x x' h h' a scope scope' s l k (Pure p f) e v m q = rw (← value_same t h.registers h'.registers scope scope' s (λ r. a.registers s r l) l k f) q
    act_there x x' h h' a scope scope' s l k (Nothing p) e v m q = q

-- the same both ways
module _ (t : ℕ) (x x' : Inputs) (h h' : Sees) (a : Alike t x x' h h') where
  pub ends_same : (scope scope' : ℕ → Outcome) (s : ℕ) → s ≤ t → SameScope t scope scope' → (u : Term) → SameTo t (ends x h scope s u) (ends x' h' scope' s u)
  ends_same scope scope' s l k u = record { there = ends_there t x x' h h' a scope scope' s l k u; back = ends_there t x' x h' h (swap a) scope' scope s l (λ y. turn_round (k y)) u }

  pub act_same : (scope scope' : ℕ → Outcome) (s : ℕ) → s ≤ t → SameScope t scope scope' → (c : Act) → SameTo t (act_ends x h scope s c) (act_ends x' h' scope' s c)
  act_same scope scope' s l k c = record { there = act_there t x x' h h' a scope scope' s l k c; back = act_there t x' x h' h (swap a) scope' scope s l (λ y. turn_round (k y)) c }

-- what begins by cycle t, the same in both
pub record SameFate (t : ℕ) (f f' : Fate) : Type 0 where
  pub there : (scope : ℕ → Outcome) (s : ℕ) (u : Term) → f ≡ Runs scope s u → s ≤ t → (scope' : ℕ → Outcome) × (f' ≡ Runs scope' s u) × SameScope t scope scope'
  pub back : (scope : ℕ → Outcome) (s : ℕ) (u : Term) → f' ≡ Runs scope s u → s ≤ t → (scope' : ℕ → Outcome) × (f ≡ Runs scope' s u) × SameScope t scope' scope

-- nothing begins by cycle t
abbrev pub Late : ℕ → Fate → Type 0
Late t f = (scope : ℕ → Outcome) (s : ℕ) (u : Term) → f ≡ Runs scope s u → s ≤ t → ⊥

pub same_late : {t : ℕ} {f f' : Fate} → Late t f → Late t f' → SameFate t f f'
same_late k l = record { there = λ scope s u e m. absurd (k scope s u e m); back = λ scope s u e m. absurd (l scope s u e m) }

pub waits_late : (t : ℕ) → Late t Waits
waits_late t scope s u e l = cc

lost_late : (t : ℕ) → Late t Lost
lost_late t scope s u e l = cc

pub late_from : (t c : ℕ) (f : Fate) → t < c → BeginsFrom c f → Late t f
late_from t c Waits k l scope s u e m = cc
late_from t c Lost k l scope s u e m = cc
late_from t c (Runs scope' b v) k l scope s u e m = let equal : b ≡ s = cc in omega arith

scope_of : (ℕ → Outcome) → Fate → ℕ → Outcome
scope_of otherwise Waits = otherwise
scope_of otherwise Lost = otherwise
scope_of otherwise (Runs scope s u) = scope

runs_same : {t : ℕ} (scope scope' : ℕ → Outcome) (s : ℕ) (u : Term) → SameScope t scope scope' → SameFate t (Runs scope s u) (Runs scope' s u)
unfolding scope_of
runs_same {t = t} scope scope' s u k = record {
  there = λ scope'' b v e l. (scope', let next_equal : s ≡ b = cc in let last_equal : u ≡ v = cc in rw (next_equal, last_equal) refl, subst (λ z. SameScope t z scope') (ap (scope_of scope) e) k);
  back = λ scope'' b v e l. (scope, let other_equal : s ≡ b = cc in let more_equal : u ≡ v = cc in rw (other_equal, more_equal) refl, subst (λ z. SameScope t scope z) (ap (scope_of scope') e) k);
}

pick_same : {t : ℕ} (b : Bool) (f g f' g' : Fate) → SameFate t f f' → SameFate t g g' → SameFate t (if b then f else g) (if b then f' else g')
pick_same true f g f' g' k l = k
pick_same false f g f' g' k l = l

-- whether an outcome is there by cycle t
data By (t : ℕ) (o : Outcome) : Type 0 where
  by : (c : ℕ) (v : Value) → o ≡ Done c v → c ≤ t → By t o
  not_by : ((c : ℕ) (v : Value) → o ≡ Done c v → c ≤ t → ⊥) → By t o

by_when : (t : ℕ) (o : Outcome) → By t o
by_when t Open = not_by (λ c v e l. cc)
by_when t (Done a v) = go (nat_le a t) refl
  where
    go : (b : Bool) → nat_le a t ≡ b → By t (Done a v)
    go true e = let at_most : a ≤ t = grind (arith, nat_tests) in by a v refl at_most
    go false e = let is_less : t < a = grind (arith, nat_tests) in not_by (λ c w f l. let equal : a ≡ c = cc in omega arith)

once_late : (t : ℕ) (inputs : Inputs) (o : Outcome) (k : ℕ → Value → Fate) → ((c : ℕ) (v : Value) → o ≡ Done c v → c ≤ t → ⊥) → ((c : ℕ) (v : Value) → BeginsFrom c (k c v)) → Late t (once inputs o k)
once_late t inputs Open k f from = waits_late t
once_late t inputs (Done c v) k f from = go (nat_lt c inputs.count) (nat_le c t) refl
  where
    go : (b d : Bool) → nat_le c t ≡ d → Late t (if b then k c v else Waits)
    go true true e = let next_at_most : c ≤ t = grind (arith, nat_tests) in λ scope s u i m. f c v refl next_at_most
    go true false e = let next_is_less : t < c = grind (arith, nat_tests) in late_from t c (k c v) next_is_less (from c v)
    go false d e = waits_late t

module _ (t : ℕ) (x x' : Inputs) (h h' : Sees) (a : Alike t x x' h h') where
  once_same : (o o' : Outcome) (k k' : ℕ → Value → Fate) → SameTo t o o' → ((c : ℕ) (v : Value) → BeginsFrom c (k c v)) → ((c : ℕ) (v : Value) → BeginsFrom c (k' c v)) → ((c : ℕ) (v : Value) → c ≤ t → SameFate t (k c v) (k' c v))
      → SameFate t (once x o k) (once x' o' k')
  once_same o o' k k' same from from' each = go (by_when t o)
    where
      go : By t o → SameFate t (once x o k) (once x' o' k')
      go (not_by f) = same_late (once_late t x o k f from) (once_late t x' o' k' (λ c v e l. f c v (same.back c v l e) l) from')
      go (by c v e l) =
          let lx : t < x.count = a.long in
          let lx' : t < x'.count = a.long' in
          let decided : nat_lt c x.count ≡ true = grind (arith, nat_tests) in
          let i' : nat_lt c x'.count ≡ true = grind (arith, nat_tests) in
          rw (e, same.there c v l e, decided, i') (each c v l)

  mutual
    pub fate_same : (scope scope' : ℕ → Outcome) (s : ℕ) → s ≤ t → SameScope t scope scope' → (u : Term) (q : ℕ) → SameFate t (fate x h scope s u q) (fate x' h' scope' s u q)
    fate_same scope scope' s l k (One c) q = pick_same (q == site c) _ _ _ _ (runs_same scope scope' s (One c) k) (inside_same scope scope' s l k c q)
    fate_same scope scope' s l k (Then c u) q =
        pick_same (nat_lt q (site (head u))) _ _ _ _ (pick_same (q == site c) _ _ _ _ (runs_same scope scope' s (Then c u) k) (inside_same scope scope' s l k c q))
        (once_same (act_ends x h scope s c) (act_ends x' h' scope' s c) _ _ (act_same t x x' h h' a scope scope' s l k c)
        (λ b w. fate_from x h (bind scope (site c) (Done b w)) b u q) (λ b w. fate_from x' h' (bind scope' (site c) (Done b w)) b u q)
        (λ b w i. fate_same (bind scope (site c) (Done b w)) (bind scope' (site c) (Done b w)) b i (same_bind (site c) k (same_refl t (Done b w))) u q))
    fate_same scope scope' s l k (Both c u) q =
        pick_same (nat_lt q (site (head u))) _ _ _ _ (pick_same (q == site c) _ _ _ _ (runs_same scope scope' s (Both c u) k) (inside_same scope scope' s l k c q))
        (fate_same (bind scope (site c) (act_ends x h scope s c)) (bind scope' (site c) (act_ends x' h' scope' s c)) s l (same_bind (site c) k (act_same t x x' h h' a scope scope' s l k c)) u q)

    pub inside_same : (scope scope' : ℕ → Outcome) (s : ℕ) → s ≤ t → SameScope t scope scope' → (c : Act) (q : ℕ) → SameFate t (inside x h scope s c q) (inside x' h' scope' s c q)
    inside_same scope scope' s l k (If p f u v w) q =
        rw (← a.decide p s scope scope' f l k)
        (pick_same (nat_lt q (site (head v))) _ _ _ _
        (pick_same (h.decide p s scope f) _ _ _ _ (fate_same scope scope' s l k u q) (same_late (lost_late t) (lost_late t)))
        (pick_same (h.decide p s scope f) _ _ _ _ (same_late (lost_late t) (lost_late t)) (fate_same scope scope' s l k v q)))
    inside_same scope scope' s l k (When p f u) q =
        rw (← a.decide p s scope scope' f l k) (pick_same (h.decide p s scope f) _ _ _ _ (fate_same scope scope' s l k u q) (same_late (lost_late t) (lost_late t)))
    inside_same scope scope' s l k (Block p u) q = fate_same scope scope' s l k u q
    inside_same scope scope' s l k (Cycle p n) q = same_late (waits_late t) (waits_late t)
    inside_same scope scope' s l k (Set p r f) q = same_late (waits_late t) (waits_late t)
    inside_same scope scope' s l k (Send p m f) q = same_late (waits_late t) (waits_late t)
    inside_same scope scope' s l k (Recv p m) q = same_late (waits_late t) (waits_late t)
    inside_same scope scope' s l k (Wait p y) q = same_late (waits_late t) (waits_late t)
    inside_same scope scope' s l k (Pure p f) q = same_late (waits_late t) (waits_late t)
    inside_same scope scope' s l k (Nothing p) q = same_late (waits_late t) (waits_late t)
