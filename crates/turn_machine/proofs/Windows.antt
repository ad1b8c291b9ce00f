-- In a turn that ends, each end falls within it; an end of the tail takes time, and each other end comes before the turn's own.
--
-- By induction over the parts of the tail. What comes before the last part of a chain has ended when that part begins, and the
-- part takes time; of parts that begin together and of both sides of an `if` it goes inward. What stands in no part of the tail is
-- known by the file `EndedTerms`.
use Rattle.std.proofs.Common.{◌≡◌, ℕ, ◌+◌, ◌<◌, ◌≤◌, arith, refl, sym, ◌∙◌, ap, subst, List, ◌∷◌, Bool, true, false, if◌then◌else◌, nat_lt, max}
use Rattle.std.proofs.lemmas.Bool.Decides.{nat_tests}
use Rattle.core_term.specs.Term.{Term, One, Then, Both, Act, Cycle, Set, Send, Recv, If, When, Block, Wait, Pure, Nothing, site, head}
use Rattle.core_term.specs.Value.{Outcome, Done}
use Rattle.core_term.specs.Inputs.{Inputs}
use Rattle.core_term.specs.Ends.{Sees, bind, ends, act_ends}
use Rattle.core_term.specs.Fate.{Fate, Waits, Lost, Runs, fate, inside}
use Rattle.core_term.specs.Occurs.{At, of_outcome}
use Rattle.core_term.specs.Numbering.{size, act_size, Numbered, NumberedAct}
use Rattle.core_term.specs.Tail.{IsTail, IsTailAct}
use Rattle.core_term.proofs.code_tables.FirstSites.{act_site}
use Rattle.run_laws.proofs.turn_points.Live.{Agrees}
use Rattle.run_laws.proofs.turn_points.Parts.{one_inner, then_inner, both_inner, both_rest, if_yes_is, if_no_is, block_in, runs_here}
use Rattle.run_laws.proofs.turn_points.Order.{act_from}
use Rattle.run_laws.proofs.turn_points.Strict.{takes, act_takes}
use Rattle.run_laws.proofs.turn_points.Tails.{chain_parts, both_parts, decided_part, then_rest_is}
use Rattle.turn_machine.specs.TailEnds.{TailEnds, AreTailEnds, AreTailEndsIn}
use Rattle.turn_machine.proofs.EndedTerms.{Ended, EndedIn, act_ended}

-- an end of what began at start, in a turn that ends at last
pub record Falls (start end last : ℕ) (tail : Bool) : Type 0 where
  pub by : end ≤ last
  pub inner : tail ≡ false → end < last
  pub outer : tail ≡ true → start < end

no_tail_falls : (start end last : ℕ) (tail : Bool) → tail ≡ false → end < last → Falls start end last tail
no_tail_falls start end last tail is_not before = record { by = omega arith; inner = λ again. before; outer = λ is. absurd (let impossible : true ≡ false = sym is ∙ is_not in cc) }

tail_falls : (start end last : ℕ) (tail : Bool) → tail ≡ true → start < end → end ≤ last → Falls start end last tail
tail_falls start end last tail is after by = record { by = by; inner = λ is_not. absurd (let impossible : true ≡ false = sym is ∙ is_not in cc); outer = λ again. after }

falls_later : {start end last : ℕ} {tail : Bool} (later : ℕ) → last ≤ later → Falls start end last tail → Falls start end later tail
falls_later later order falls = record { by = let by = falls.by in omega arith; inner = λ is_not. let before = falls.inner is_not in omega arith; outer = falls.outer }

module _ (inputs : Inputs) (view : Sees) (run : ℕ → Fate) (tail : TailEnds) where
  -- what began has ended, act and term, each where it may
  abbrev pub FitsIn : Fate → (last : ℕ) (act_is_tail term_is_tail : Bool) → Type 0
  FitsIn Waits last act_is_tail term_is_tail = Unit {0}
  FitsIn Lost last act_is_tail term_is_tail = Unit {0}
  FitsIn (Runs scope start term) last act_is_tail term_is_tail =
      (start < last) × (end : ℕ) × (of_outcome (act_ends inputs view scope start (head term)) ≡ At end) × Falls start end last act_is_tail
      × (term_end : ℕ) × (of_outcome (ends inputs view scope start term) ≡ At term_end) × Falls start term_end last term_is_tail

  pub record Fits (place last : ℕ) : Type 0 where
    pub is : FitsIn (run place) last (tail.act place) (tail.term place)

  fits_as : (became : Fate) (place last : ℕ) → run place ≡ became → FitsIn became last (tail.act place) (tail.term place) → Fits place last
  fits_as became place last is fits = let moved : FitsIn (run place) last (tail.act place) (tail.term place) = rw is fits in record { is = moved }

  later_in : (became : Fate) (last later : ℕ) (act_is_tail term_is_tail : Bool) → last ≤ later → FitsIn became last act_is_tail term_is_tail → FitsIn became later act_is_tail term_is_tail
  later_in Waits last later act_is_tail term_is_tail order fits = tt
  later_in Lost last later act_is_tail term_is_tail order fits = tt
  later_in (Runs scope start term) last later act_is_tail term_is_tail order fits = (omega (arith, fits.0), fits.1, fits.2, falls_later later order fits.3, fits.4, fits.5, falls_later later order fits.6)

  fits_later : {place last : ℕ} (later : ℕ) → last ≤ later → Fits place last → Fits place later
  fits_later later order fits = record { is = later_in _ _ later _ _ order fits.is }

  -- what has ended before the last cycle, and is none of the tail
  ended_in : (became : Fate) (by last : ℕ) (act_is_tail term_is_tail : Bool) → by < last → act_is_tail ≡ false → term_is_tail ≡ false → EndedIn inputs view run became by → FitsIn became last act_is_tail term_is_tail
  ended_in Waits by last act_is_tail term_is_tail order no_act no_term ended = tt
  ended_in Lost by last act_is_tail term_is_tail order no_act no_term ended = tt
  ended_in (Runs scope start term) by last act_is_tail term_is_tail order no_act no_term ended =
      let since = act_from inputs view scope start (head term) ended.0 ended.1 in
      (omega (arith, ended.2), ended.0, ended.1, no_tail_falls start ended.0 last act_is_tail no_act (omega (arith, ended.2)), ended.3, ended.4, no_tail_falls start ended.3 last term_is_tail no_term (omega (arith, ended.5)))

  from_ended : {place by : ℕ} (last : ℕ) → by < last → tail.act place ≡ false → tail.term place ≡ false → Ended inputs view run place by → Fits place last
  from_ended {by = by} last order no_act no_term ended = record { is = ended_in _ by last _ _ order no_act no_term ended.is }

  -- at all sites from low to high
  abbrev AllFit : (low high last : ℕ) → Type 0
  AllFit low high last = (place : ℕ) → low ≤ place → place < high → Fits place last

  joined : (low mid high last : ℕ) → AllFit low mid last → AllFit mid high last → AllFit low high last
  joined low mid high last before after place above below = by_place (nat_lt place mid) refl
    where
      by_place : (test : Bool) → nat_lt place mid ≡ test → Fits place last
      by_place true passes = let order : place < mid = grind (arith, nat_tests) in before place above order
      by_place false fails = let order : mid ≤ place = grind (arith, nat_tests) in after place order below

  with_first : (low high last : ℕ) → Fits low last → AllFit (low + 1) high last → AllFit low high last
  with_first low high last first others place above below = by_place (nat_lt low place) refl
    where
      by_place : (test : Bool) → nat_lt low place ≡ test → Fits place last
      by_place true passes = let order : low < place = grind (arith, nat_tests) in others place (omega arith) below
      by_place false fails = let order : place ≤ low = grind (arith, nat_tests) in let same : low ≡ place = omega arith in subst (λ at_place. Fits at_place last) same first

  mutual
    pub all_fit : (acts : List Act) (low : ℕ) (scope : ℕ → Outcome) (start : ℕ) (term : Term) (last : ℕ) → Numbered acts low term → IsTail term → AreTailEnds tail term
        → Agrees run (fate inputs view scope start term) low (low + size term) → of_outcome (ends inputs view scope start term) ≡ At last → AllFit low (low + size term) last
    all_fit acts low scope start (One act) last numbered is_tail ends_are agrees ends_at =
        let at_low : site act ≡ low = act_site acts low act numbered in
        let takes_time = act_takes inputs view scope start act last is_tail ends_at in
        with_first low (low + act_size act) last
        (fits_as (Runs scope start (One act)) low last (runs_here inputs view run acts low scope start (One act) numbered agrees)
        (takes_time, last, ends_at, tail_falls start last last _ (ap tail.act (sym at_low) ∙ ends_are.1) takes_time (omega arith), last, ends_at, tail_falls start last last _ (ap tail.term (sym at_low) ∙ ends_are.0) takes_time (omega arith)))
        (act_fits acts low scope start act last numbered is_tail ends_are.2 (one_inner inputs view run acts low scope start act numbered agrees) ends_at)
    all_fit acts low scope start (Then act rest) last numbered is_tail ends_are agrees ends_at =
        let at_low : site act ≡ low = act_site acts low act numbered.0 in
        let parts = chain_parts inputs view run (act_ends inputs view scope start act) (λ cycle value. ends inputs view (bind scope (site act) (Done cycle value)) cycle rest) last ends_at in
        let act_end : of_outcome (act_ends inputs view scope start act) ≡ At parts.0 = ap of_outcome parts.2 in
        let since : start ≤ parts.0 = act_from inputs view scope start act parts.0 act_end in
        let rest_takes_time : parts.0 < last = takes inputs view (bind scope (site act) (Done parts.0 parts.1)) parts.0 rest last is_tail parts.4 in
        with_first low (low + size (Then act rest)) last
        (fits_as (Runs scope start (Then act rest)) low last (runs_here inputs view run acts low scope start (Then act rest) numbered agrees)
        (omega arith, parts.0, act_end, no_tail_falls start parts.0 last _ (ap tail.act (sym at_low) ∙ ends_are.1) rest_takes_time, last, ends_at, tail_falls start last last _ (ap tail.term (sym at_low) ∙ ends_are.0) (omega arith) (omega arith)))
        (joined (low + 1) (low + act_size act) (low + size (Then act rest)) last
        (λ place above below. let none = ends_are.2 place (omega arith) (omega arith) in
        from_ended last rest_takes_time none.0 none.1 (act_ended inputs view run acts low scope start act parts.0 numbered.0 (then_inner inputs view run acts low scope start act rest numbered agrees) act_end place above below))
        (λ place above below. all_fit (act ∷ acts) (low + act_size act) (bind scope (site act) (Done parts.0 parts.1)) parts.0 rest last numbered.1 is_tail ends_are.3
        (then_rest_is inputs view run acts low scope start act rest numbered agrees parts.0 parts.1 parts.2 parts.3) parts.4 place above (omega arith)))
    all_fit acts low scope start (Both act rest) last numbered is_tail ends_are agrees ends_at =
        let at_low : site act ≡ low = act_site acts low act numbered.0 in
        let parts = both_parts inputs view run (act_ends inputs view scope start act) (ends inputs view (bind scope (site act) (act_ends inputs view scope start act)) start rest) last ends_at in
        let greatest : max parts.0 parts.1 ≡ last = parts.4 in
        let takes_time : start < parts.0 = act_takes inputs view scope start act parts.0 is_tail.0 parts.2 in
        with_first low (low + size (Both act rest)) last
        (fits_as (Runs scope start (Both act rest)) low last (runs_here inputs view run acts low scope start (Both act rest) numbered agrees)
        (omega arith, parts.0, parts.2, tail_falls start parts.0 last _ (ap tail.act (sym at_low) ∙ ends_are.1) takes_time (omega arith), last, ends_at, tail_falls start last last _ (ap tail.term (sym at_low) ∙ ends_are.0) (omega arith) (omega arith)))
        (joined (low + 1) (low + act_size act) (low + size (Both act rest)) last
        (λ place above below. fits_later last (omega arith) (act_fits acts low scope start act parts.0 numbered.0 is_tail.0 ends_are.2 (both_inner inputs view run acts low scope start act rest numbered agrees) parts.2 place above below))
        (λ place above below. fits_later last (omega arith) (all_fit (act ∷ acts) (low + act_size act) (bind scope (site act) (act_ends inputs view scope start act)) start rest parts.1 numbered.1 is_tail.1 ends_are.3
        (both_rest inputs view run acts low scope start act rest numbered agrees) parts.3 place above (omega arith))))

    pub act_fits : (acts : List Act) (low : ℕ) (scope : ℕ → Outcome) (start : ℕ) (act : Act) (last : ℕ) → NumberedAct acts low act → IsTailAct act → AreTailEndsIn tail act
        → Agrees run (inside inputs view scope start act) (low + 1) (low + act_size act) → of_outcome (act_ends inputs view scope start act) ≡ At last → AllFit (low + 1) (low + act_size act) last
    act_fits acts low scope start (If p condition first second valued) last numbered is_tail ends_are agrees ends_at place above below =
        joined (low + 1) (low + (1 + size first)) (low + (1 + (size first + size second))) last
        (λ place above below. in_first (view.decide p start scope condition) (decided_part inputs view run valued p start _ last ends_at) (if_yes_is inputs view run acts low scope start p condition first second valued numbered agrees)
        (all_fit acts (low + 1) scope start first last numbered.1 is_tail.0 ends_are.0) place above (omega arith))
        (λ place above below. in_second (view.decide p start scope condition) (decided_part inputs view run valued p start _ last ends_at) (if_no_is inputs view run acts low scope start p condition first second valued numbered agrees)
        (all_fit acts (low + (1 + size first)) scope start second last numbered.2 is_tail.1 ends_are.1) place above (omega arith)) place above below
      where
        in_first : (decision : Bool) → of_outcome (if decision then ends inputs view scope start first else ends inputs view scope start second) ≡ At last
            → ((place : ℕ) → low + 1 ≤ place → place < low + 1 + size first → run place ≡ (if decision then fate inputs view scope start first place else Lost))
            → (Agrees run (fate inputs view scope start first) (low + 1) (low + 1 + size first) → of_outcome (ends inputs view scope start first) ≡ At last → AllFit (low + 1) (low + 1 + size first) last) → AllFit (low + 1) (low + 1 + size first) last
        in_first true side_ends side_is inner place above below = inner (record { each = side_is }) side_ends place above below
        in_first false side_ends side_is inner place above below = fits_as Lost place last (side_is place above below) tt

        in_second : (decision : Bool) → of_outcome (if decision then ends inputs view scope start first else ends inputs view scope start second) ≡ At last
            → ((place : ℕ) → low + (1 + size first) ≤ place → place < low + (1 + size first) + size second → run place ≡ (if decision then Lost else fate inputs view scope start second place))
            → (Agrees run (fate inputs view scope start second) (low + (1 + size first)) (low + (1 + size first) + size second) → of_outcome (ends inputs view scope start second) ≡ At last → AllFit (low + (1 + size first)) (low + (1 + size first) + size second) last)
            → AllFit (low + (1 + size first)) (low + (1 + size first) + size second) last
        in_second false side_ends side_is inner place above below = inner (record { each = side_is }) side_ends place above below
        in_second true side_ends side_is inner place above below = fits_as Lost place last (side_is place above below) tt
    act_fits acts low scope start (Block p inner) last numbered is_tail ends_are agrees ends_at place above below =
        all_fit acts (low + 1) scope start inner last numbered.1 is_tail ends_are (block_in inputs view run low scope start p inner agrees) ends_at place above (omega arith)
    act_fits acts low scope start (Cycle p count) last numbered is_tail ends_are agrees ends_at place above below = absurd (omega arith)
    act_fits acts low scope start (Set p register value) last numbered is_tail ends_are agrees ends_at place above below = absurd (omega arith)
    act_fits acts low scope start (Send p port value) last numbered is_tail ends_are agrees ends_at place above below = elim is_tail [ ]
    act_fits acts low scope start (Recv p port) last numbered is_tail ends_are agrees ends_at place above below = elim is_tail [ ]
    act_fits acts low scope start (When p condition first) last numbered is_tail ends_are agrees ends_at place above below = elim is_tail [ ]
    act_fits acts low scope start (Wait p variable) last numbered is_tail ends_are agrees ends_at place above below = elim is_tail [ ]
    act_fits acts low scope start (Pure p value) last numbered is_tail ends_are agrees ends_at place above below = elim is_tail [ ]
    act_fits acts low scope start (Nothing p) last numbered is_tail ends_are agrees ends_at place above below = elim is_tail [ ]
