-- The lags of a last cycle in a closed table are numbers of 32 bits.
--
-- By induction over the events: the lag at b is at most one more than the delays of all events and those up to b together. An end
-- after so many cycles may lie that many cycles below the least lag of the order.
use Rattle.std.proofs.Common.{◌≡◌, ℕ, zero, suc, ◌+◌, ◌-◌, ◌<◌, ◌≤◌, arith, refl, sym, subst, Bool, true, false, if◌then◌else◌, List, [], ◌∷◌, pos, ◌==◌}
use Rattle.std.proofs.lemmas.Int.{ints}
use Rattle.order_rules.specs.Form as form
use Rattle.order_rules.specs.Form.{Form}
use Rattle.order_rules.specs.Last as last
use Rattle.order_rules.specs.Last.{Ending}
use Rattle.order_rules.specs.Lag.{Lag, Never, AtLeast, Vacuous}
use Rattle.order_rules.specs.Entry.{most, least, more, fewer, right, IsEarlier}
use Rattle.order_rules.specs.LastEntry.{from_zero, end_entry, ends_entry}
use Rattle.event_graph.specs.declared.node.Kind.{Kind}
use Rattle.event_graph.specs.declared.node.Kind.TheVariants as kind
use Rattle.event_graph.specs.Event.{Event, AreDrawn}
use Rattle.event_graph.specs.Forms.{form_of, form_at, apart_at, delay_of, delays}
use Rattle.event_graph.proofs.Early.{all_early}
use Rattle.event_order.specs.Lags.{Lags}
use Rattle.event_order.specs.Stored.{IsClosed}
use Rattle.event_order.proofs.Small.{Within, closed_small}
use Rattle.lifetimes.specs.Tables.{IsLastClosed, AreShort, FitsLag}

wider : (low high lower higher : ℕ) (lag : Lag) → low ≤ lower → high ≤ higher → Within low high lag → Within lower higher lag
wider low high lower higher Never down up within = tt
wider low high lower higher (AtLeast d) down up within = let down_is = within.0 in let up_is = within.1 in (omega (arith, ints), omega (arith, ints))
wider low high lower higher Vacuous down up within = tt

most_within : (low high : ℕ) (one other : Lag) → Within low high one → Within low high other → Within low high (most one other)
most_within low high Never other first second = second
most_within low high Vacuous other first second = tt
most_within low high (AtLeast d) Never first second = first
most_within low high (AtLeast d) Vacuous first second = tt
most_within low high (AtLeast d) (AtLeast e) first second = let one_down = first.0 in let one_up = first.1 in let other_down = second.0 in let other_up = second.1 in (grind (arith, ints), grind (arith, ints))

least_within : (low high : ℕ) (one other : Lag) → Within low high one → Within low high other → Within low high (least one other)
least_within low high Never other first second = tt
least_within low high Vacuous other first second = second
least_within low high (AtLeast d) Never first second = tt
least_within low high (AtLeast d) Vacuous first second = first
least_within low high (AtLeast d) (AtLeast e) first second = let one_down = first.0 in let one_up = first.1 in let other_down = second.0 in let other_up = second.1 in (grind (arith, ints), grind (arith, ints))

more_within : (low high cycles : ℕ) (lag : Lag) → Within low high lag → Within low (high + cycles) (more cycles lag)
more_within low high cycles Never within = tt
more_within low high cycles Vacuous within = tt
more_within low high cycles (AtLeast d) within = let down = within.0 in let up = within.1 in (omega (arith, ints), omega (arith, ints))

fewer_within : (low high cycles : ℕ) (lag : Lag) → Within low high lag → Within (low + cycles) high (fewer cycles lag)
fewer_within low high cycles Never within = tt
fewer_within low high cycles Vacuous within = tt
fewer_within low high cycles (AtLeast d) within = let down = within.0 in let up = within.1 in (omega (arith, ints), omega (arith, ints))

choice : (low high : ℕ) (which : Bool) (one other : Lag) → Within low high one → Within low high other → Within low high (if which then one else other)
choice low high true one other first second = first
choice low high false one other first second = second

-- what the ends say
end_within : (wide : ℕ) (lag : Lag) (b : ℕ) (ending : Ending ℕ) → AreShort (ending ∷ []) → Within wide wide lag → Within (wide + 65535) (wide + 1) (end_entry lag b ending)
end_within wide lag b (last.Within cycles) short within =
    let few = short.0 in
    choice (wide + 65535) (wide + 1) (cycles == 0) (more 1 lag) (fewer (cycles - 1) lag)
    (wider wide (wide + 1) (wide + 65535) (wide + 1) (more 1 lag) (omega arith) (omega arith) (more_within wide wide 1 lag within))
    (wider (wide + (cycles - 1)) wide (wide + 65535) (wide + 1) (fewer (cycles - 1) lag) (omega arith) (omega arith) (fewer_within wide wide (cycles - 1) lag within))
end_within wide lag b (last.At c) short within =
    choice (wide + 65535) (wide + 1) (c == b) (if from_zero lag then AtLeast (pos 0) else Never) Never
    (choice (wide + 65535) (wide + 1) (from_zero lag) (AtLeast (pos 0)) Never (omega (arith, ints), omega (arith, ints)) tt) tt

ends_within : (wide : ℕ) (lag : Lag) (b : ℕ) (ends : List (Ending ℕ)) → AreShort ends → Within wide wide lag → Within (wide + 65535) (wide + 1) (ends_entry lag b ends)
ends_within wide lag b [] short within = tt
ends_within wide lag b (last.Within cycles ∷ ends) short within =
    most_within (wide + 65535) (wide + 1) (end_entry lag b (last.Within cycles)) (ends_entry lag b ends)
    (end_within wide lag b (last.Within cycles) (short.0, tt) within) (ends_within wide lag b ends short.1 within)
ends_within wide lag b (last.At c ∷ ends) short within =
    most_within (wide + 65535) (wide + 1) (end_entry lag b (last.At c)) (ends_entry lag b ends)
    (end_within wide lag b (last.At c) tt within) (ends_within wide lag b ends short within)

-- the delays of the events up to one
delays_to : List Event → ℕ → ℕ
delays_to [] n = 0
delays_to (event ∷ events) zero = delay_of event.kind
delays_to (event ∷ events) (suc n) = delay_of event.kind + delays_to events n

to_all : (events : List Event) (n : ℕ) → delays_to events n ≤ delays events
unfolding delays_to
to_all [] n = omega arith
to_all (event ∷ events) zero = omega arith
to_all (event ∷ events) (suc n) = let rest = to_all events n in omega arith

to_rises : (events : List Event) (a b : ℕ) → a ≤ b → delays_to events a ≤ delays_to events b
unfolding delays_to
to_rises [] a b later = omega arith
to_rises (event ∷ events) zero zero later = omega arith
to_rises (event ∷ events) zero (suc b) later = omega arith
to_rises (event ∷ events) (suc a) zero later = absurd (omega arith)
to_rises (event ∷ events) (suc a) (suc b) later = let rest = to_rises events a b (omega arith) in omega arith

delay_here : (k : Kind) (preds : List ℕ) (n c : ℕ) → form_of k preds ≡ form.After n c → delay_of k ≡ n
delay_here kind.Start preds n c is = absurd cc
delay_here kind.Same preds n c is = absurd cc
delay_here (kind.After cycles) preds n c is = cc
delay_here kind.Sync preds n c is = absurd cc
delay_here kind.Join preds n c is = absurd cc
delay_here kind.Side preds n c is = absurd cc
delay_here kind.Merge preds n c is = absurd cc

to_after : (events : List Event) (a b n c : ℕ) → form_at events b ≡ form.After n c → a < b → delays_to events a + n ≤ delays_to events b
unfolding delays_to
to_after [] a b n c is later = absurd cc
to_after (event ∷ events) a zero n c is later = absurd (omega arith)
to_after (event ∷ events) zero (suc b) n c is later = let here = after_here events b n c is in omega arith
  where
    after_here : (events : List Event) (b n c : ℕ) → form_at events b ≡ form.After n c → n ≤ delays_to events b
    after_here [] b n c is = absurd cc
    after_here (event ∷ events) zero n c is = let here = delay_here event.kind event.preds n c is in omega arith
    after_here (event ∷ events) (suc b) n c is = let here = after_here events b n c is in omega arith
to_after (event ∷ events) (suc a) (suc b) n c is later = let rest = to_after events a b n c is (omega arith) in omega arith

module _ (events : List Event) (drawn : AreDrawn 0 events) (short : delays events < 1073741824) (lags : Lags) (closed : IsClosed events lags)
    (from : ℕ) (ends : List (Ending ℕ)) (short_ends : AreShort ends) (lasts : ℕ → Lag) (last_closed : IsLastClosed events lags from ends lasts) where
  abbrev low : ℕ
  low = delays events + 65535

  abbrev high : ℕ → ℕ
  high b = delays events + 1 + delays_to events b

  abbrev AllTo : ℕ → Type 0
  AllTo b = (c : ℕ) → c < b → Within low (high c) (lasts c)

  raised : (b c : ℕ) → c < b → AllTo b → Within low (high b) (lasts c)
  raised b c earlier all = wider low (high c) low (high b) (lasts c) (omega arith) (let rises = to_rises events c b (omega arith) in omega arith) (all c earlier)

  right_within : (b : ℕ) (f : Form ℕ) → form_at events b ≡ f → IsEarlier b f → AllTo b → Within low (high b) (right (λ c d. lasts d) from f)
  right_within b form.Start is earlier all = tt
  right_within b (form.Same c) is earlier all = raised b c earlier all
  right_within b (form.Side c) is earlier all = raised b c earlier all
  right_within b (form.Sync c) is earlier all = raised b c earlier all
  right_within b (form.After n c) is earlier all =
      wider low (high c + n) low (high b) (more n (lasts c)) (omega arith) (let rises = to_after events c b n c is earlier in omega arith) (more_within low (high c) n (lasts c) (all c earlier))
  right_within b (form.Join c e) is earlier all = most_within low (high b) (lasts c) (lasts e) (raised b c earlier.0 all) (raised b e earlier.1 all)
  right_within b (form.Merge c e) is earlier all = least_within low (high b) (lasts c) (lasts e) (raised b c earlier.0 all) (raised b e earlier.1 all)

  next_within : (b : ℕ) → AllTo b → Within low (high b) (lasts b)
  next_within b all =
      let here = ends_entry (lags from b) b ends in
      let onward = right (λ c d. lasts d) from (form_at events b) in
      subst (Within low (high b)) (sym (last_closed b))
      (choice low (high b) (apart_at events from b) Vacuous (most here onward) tt
      (most_within low (high b) here onward
      (wider low (delays events + 1) low (high b) here (omega arith) (omega arith) (ends_within (delays events) (lags from b) b ends short_ends (closed_small events (all_early events drawn) lags closed from b)))
      (right_within b (form_at events b) refl (all_early events drawn b) all)))

  all_to : (n : ℕ) → AllTo n
  all_to zero c below = absurd (omega arith)
  all_to (suc n) c below = next_within c (λ e earlier. all_to n e (omega arith))

  fits : (b : ℕ) (lag : Lag) → Within low (high b) lag → FitsLag lag
  fits b Never within = tt
  fits b (AtLeast d) within = let down = within.0 in let up = within.1 in let all = to_all events b in (omega (arith, ints), omega (arith, ints))
  fits b Vacuous within = tt

  -- what the rules say that go on from predecessors is a number of 32 bits
  pub onward_fits : (b : ℕ) → FitsLag (right (λ c d. lasts d) from (form_at events b))
  onward_fits b = fits b _ (right_within b (form_at events b) refl (all_early events drawn b) (all_to b))
