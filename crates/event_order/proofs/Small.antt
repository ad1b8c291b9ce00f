-- Entries of a closed table stay within the delays of its graph.
--
-- By induction over the sum of two nodes: an entry to b is at most the delays of the nodes up to b, and one from a at least
-- their negative up to a.
use Rattle.std.proofs.Common.{◌≡◌, ℕ, zero, suc, ◌+◌, ◌<◌, ◌≤◌, arith, refl, sym, subst, Bool, true, false, if◌then◌else◌, List, [], ◌∷◌, pos, neg_ℤ, ◌≤ℤ◌, ◌==◌}
use Rattle.std.proofs.lemmas.Int.{ints}
use Rattle.order_rules.specs.Form as form
use Rattle.order_rules.specs.Form.{Form}
use Rattle.order_rules.specs.Lag.{Lag, Never, AtLeast, Vacuous}
use Rattle.order_rules.specs.Entry.{most, least, more, fewer, right, left, entry, IsEarlier}
use Rattle.event_graph.specs.declared.node.Kind.{Kind}
use Rattle.event_graph.specs.declared.node.Kind.TheVariants as kind
use Rattle.event_graph.specs.Event.{Event}
use Rattle.event_graph.specs.Forms.{form_of, form_at, apart_at, delay_of, delays}

-- the lag is at least -low and at most high
abbrev pub Within : ℕ → ℕ → Lag → Type 0
Within low high Never = Unit {0}
Within low high (AtLeast d) = (neg_ℤ (pos low) ≤ℤ d) × (d ≤ℤ pos high)
Within low high Vacuous = Unit {0}

within_wider : (low high lower higher : ℕ) (x : Lag) → low ≤ lower → high ≤ higher → Within low high x → Within lower higher x
within_wider low high lower higher Never l h k = tt
within_wider low high lower higher (AtLeast d) l h k = let i = k.0 in let j = k.1 in (omega (arith, ints), omega (arith, ints))
within_wider low high lower higher Vacuous l h k = tt

most_within : (low high : ℕ) (x y : Lag) → Within low high x → Within low high y → Within low high (most x y)
most_within low high Never y k l = l
most_within low high Vacuous y k l = tt
most_within low high (AtLeast d) Never k l = k
most_within low high (AtLeast d) Vacuous k l = tt
most_within low high (AtLeast d) (AtLeast e) k l = let i = k.0 in let j = k.1 in let m = l.0 in let n = l.1 in (grind (arith, ints), grind (arith, ints))

least_within : (low high : ℕ) (x y : Lag) → Within low high x → Within low high y → Within low high (least x y)
least_within low high Never y k l = tt
least_within low high Vacuous y k l = l
least_within low high (AtLeast d) Never k l = tt
least_within low high (AtLeast d) Vacuous k l = k
least_within low high (AtLeast d) (AtLeast e) k l = let i = k.0 in let j = k.1 in let m = l.0 in let n = l.1 in (grind (arith, ints), grind (arith, ints))

more_within : (low high n : ℕ) (x : Lag) → Within low high x → Within low (high + n) (more n x)
more_within low high n Never k = tt
more_within low high n Vacuous k = tt
more_within low high n (AtLeast d) k = let i = k.0 in let j = k.1 in (omega (arith, ints), omega (arith, ints))

fewer_within : (low high n : ℕ) (x : Lag) → Within low high x → Within (low + n) high (fewer n x)
fewer_within low high n Never k = tt
fewer_within low high n Vacuous k = tt
fewer_within low high n (AtLeast d) k = let i = k.0 in let j = k.1 in (omega (arith, ints), omega (arith, ints))

-- the delays of the nodes up to one
pub upto : List Event → ℕ → ℕ
upto [] n = 0
upto (e ∷ events) zero = delay_of e.kind
upto (e ∷ events) (suc n) = delay_of e.kind + upto events n

upto_all : (events : List Event) (n : ℕ) → upto events n ≤ delays events
unfolding upto
upto_all [] n = omega arith
upto_all (e ∷ events) zero = omega arith
upto_all (e ∷ events) (suc n) = let k = upto_all events n in omega arith

upto_rises : (events : List Event) (a b : ℕ) → a ≤ b → upto events a ≤ upto events b
unfolding upto
upto_rises [] a b l = omega arith
upto_rises (e ∷ events) zero zero l = omega arith
upto_rises (e ∷ events) zero (suc b) l = omega arith
upto_rises (e ∷ events) (suc a) zero l = absurd (omega arith)
upto_rises (e ∷ events) (suc a) (suc b) l = let k = upto_rises events a b (omega arith) in omega arith

delay_here : (k : Kind) (preds : List ℕ) (n c : ℕ) → form_of k preds ≡ form.After n c → delay_of k ≡ n
delay_here kind.Start preds n c e = absurd cc
delay_here kind.Same preds n c e = absurd cc
delay_here (kind.After m) preds n c e = cc
delay_here kind.Sync preds n c e = absurd cc
delay_here kind.Join preds n c e = absurd cc
delay_here kind.Side preds n c e = absurd cc
delay_here kind.Merge preds n c e = absurd cc

upto_after : (events : List Event) (a b n c : ℕ) → form_at events b ≡ form.After n c → a < b → upto events a + n ≤ upto events b
unfolding upto
upto_after [] a b n c e l = absurd cc
upto_after (x ∷ events) a zero n c e l = absurd (omega arith)
upto_after (x ∷ events) zero (suc b) n c e l = let k = after_here events b n c e in omega arith
  where
    after_here : (events : List Event) (b n c : ℕ) → form_at events b ≡ form.After n c → n ≤ upto events b
    after_here [] b n c e = absurd cc
    after_here (x ∷ events) zero n c e = let k = delay_here x.kind x.preds n c e in omega arith
    after_here (x ∷ events) (suc b) n c e = let k = after_here events b n c e in omega arith
upto_after (x ∷ events) (suc a) (suc b) n c e l = let k = upto_after events a b n c e (omega arith) in omega arith

module _ (events : List Event) (earlier : (n : ℕ) → IsEarlier n (form_at events n)) (lags : ℕ → ℕ → Lag) (closed : (a b : ℕ) → lags a b ≡ entry (form_at events) (apart_at events) lags a b) where
  IsWithin : ℕ → ℕ → Type 0
  IsWithin a b = Within (upto events a) (upto events b) (lags a b)

  abbrev Below : ℕ → Type 0
  Below m = (a b : ℕ) → a + b < m → IsWithin a b

  right_within : (m a b : ℕ) (f : Form ℕ) → form_at events b ≡ f → IsEarlier b f → Below m → a + b < suc m → Within (upto events a) (upto events b) (right lags a f)
  unfolding IsWithin
  right_within m a b form.Start e i h l = tt
  right_within m a b (form.Same c) e i h l = within_wider (upto events a) (upto events c) (upto events a) (upto events b) (lags a c) (omega arith) (upto_rises events c b (omega arith)) (h a c (omega arith))
  right_within m a b (form.Side c) e i h l = within_wider (upto events a) (upto events c) (upto events a) (upto events b) (lags a c) (omega arith) (upto_rises events c b (omega arith)) (h a c (omega arith))
  right_within m a b (form.Sync c) e i h l = within_wider (upto events a) (upto events c) (upto events a) (upto events b) (lags a c) (omega arith) (upto_rises events c b (omega arith)) (h a c (omega arith))
  right_within m a b (form.After n c) e i h l = within_wider (upto events a) (upto events c + n) (upto events a) (upto events b) (more n (lags a c)) (omega arith) (upto_after events c b n c e i) (more_within (upto events a) (upto events c) n (lags a c) (h a c (omega arith)))
  right_within m a b (form.Join c g) e i h l =
      most_within (upto events a) (upto events b) (lags a c) (lags a g)
      (within_wider (upto events a) (upto events c) (upto events a) (upto events b) (lags a c) (omega arith) (upto_rises events c b (let j = i.0 in omega arith)) (h a c (let j = i.0 in omega arith)))
      (within_wider (upto events a) (upto events g) (upto events a) (upto events b) (lags a g) (omega arith) (upto_rises events g b (let j = i.1 in omega arith)) (h a g (let j = i.1 in omega arith)))
  right_within m a b (form.Merge c g) e i h l =
      least_within (upto events a) (upto events b) (lags a c) (lags a g)
      (within_wider (upto events a) (upto events c) (upto events a) (upto events b) (lags a c) (omega arith) (upto_rises events c b (let j = i.0 in omega arith)) (h a c (let j = i.0 in omega arith)))
      (within_wider (upto events a) (upto events g) (upto events a) (upto events b) (lags a g) (omega arith) (upto_rises events g b (let j = i.1 in omega arith)) (h a g (let j = i.1 in omega arith)))

  left_within : (m a b : ℕ) (f : Form ℕ) → form_at events a ≡ f → IsEarlier a f → Below m → a + b < suc m → Within (upto events a) (upto events b) (left lags b f)
  unfolding IsWithin
  left_within m a b form.Start e i h l = tt
  left_within m a b (form.Sync c) e i h l = tt
  left_within m a b (form.Same c) e i h l = within_wider (upto events c) (upto events b) (upto events a) (upto events b) (lags c b) (upto_rises events c a (omega arith)) (omega arith) (h c b (omega arith))
  left_within m a b (form.Side c) e i h l = within_wider (upto events c) (upto events b) (upto events a) (upto events b) (lags c b) (upto_rises events c a (omega arith)) (omega arith) (h c b (omega arith))
  left_within m a b (form.After n c) e i h l = within_wider (upto events c + n) (upto events b) (upto events a) (upto events b) (fewer n (lags c b)) (upto_after events c a n c e i) (omega arith) (fewer_within (upto events c) (upto events b) n (lags c b) (h c b (omega arith)))
  left_within m a b (form.Join c g) e i h l =
      least_within (upto events a) (upto events b) (lags c b) (lags g b)
      (within_wider (upto events c) (upto events b) (upto events a) (upto events b) (lags c b) (upto_rises events c a (let j = i.0 in omega arith)) (omega arith) (h c b (let j = i.0 in omega arith)))
      (within_wider (upto events g) (upto events b) (upto events a) (upto events b) (lags g b) (upto_rises events g a (let j = i.1 in omega arith)) (omega arith) (h g b (let j = i.1 in omega arith)))
  left_within m a b (form.Merge c g) e i h l =
      least_within (upto events a) (upto events b) (lags c b) (lags g b)
      (within_wider (upto events c) (upto events b) (upto events a) (upto events b) (lags c b) (upto_rises events c a (let j = i.0 in omega arith)) (omega arith) (h c b (let j = i.0 in omega arith)))
      (within_wider (upto events g) (upto events b) (upto events a) (upto events b) (lags g b) (upto_rises events g a (let j = i.1 in omega arith)) (omega arith) (h g b (let j = i.1 in omega arith)))

  choice : (low high : ℕ) (v : Bool) (x y : Lag) → Within low high x → Within low high y → Within low high (if v then x else y)
  choice low high true x y k l = k
  choice low high false x y k l = l

  here_within : (low high : ℕ) → Within low high (AtLeast (pos 0))
  here_within low high = (omega (arith, ints), omega (arith, ints))

  below : (m : ℕ) → Below m
  unfolding IsWithin
  below zero a b l = absurd (omega arith)
  below (suc m) a b l =
      let low = upto events a in
      let high = upto events b in
      subst (Within low high) (sym (closed a b))
      (choice low high (apart_at events a b) Vacuous _ tt
      (most_within low high (if a == b then AtLeast (pos 0) else Never) _ (choice low high (a == b) (AtLeast (pos 0)) Never (here_within low high) tt)
      (most_within low high _ _ (right_within m a b (form_at events b) refl (earlier b) (below m) l) (left_within m a b (form_at events a) refl (earlier a) (below m) l))))

  pub closed_small : (a b : ℕ) → Within (delays events) (delays events) (lags a b)
  unfolding IsWithin
  closed_small a b = within_wider (upto events a) (upto events b) (delays events) (delays events) (lags a b) (upto_all events a) (upto_all events b) (below (suc (a + b)) a b (omega arith))
