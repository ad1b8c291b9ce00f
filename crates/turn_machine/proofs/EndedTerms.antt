-- In a turn that ends, each act that began has ended by then, and so has the term that it heads.
--
-- By induction over terms: the end of a chain tells when its parts ended, and that of an `if` when its side did; the sides that were
-- not taken have nothing that began.
use Rattle.std.proofs.Common.{◌≡◌, ℕ, ◌+◌, ◌<◌, ◌≤◌, arith, refl, ap, subst, List, ◌∷◌, Bool, true, false, if◌then◌else◌, nat_lt, max}
use Rattle.std.proofs.lemmas.Bool.Decides.{nat_tests}
use Rattle.core_term.specs.Term.{Term, One, Then, Both, Act, Cycle, Set, Send, Recv, If, When, Block, Wait, Pure, Nothing, site, head}
use Rattle.core_term.specs.Value.{Outcome, Done, nothing}
use Rattle.core_term.specs.Inputs.{Inputs}
use Rattle.core_term.specs.Ends.{Sees, bind, ends, act_ends}
use Rattle.core_term.specs.Fate.{Fate, Waits, Lost, Runs, fate, inside}
use Rattle.core_term.specs.Occurs.{At, begin_at, of_outcome}
use Rattle.core_term.specs.Numbering.{size, act_size, Numbered, NumberedAct}
use Rattle.run_laws.proofs.turn_points.Idle.{Idle, gone as idle_gone}
use Rattle.run_laws.proofs.turn_points.Live.{Agrees}
use Rattle.run_laws.proofs.turn_points.Parts.{one_inner, then_inner, both_inner, both_rest, if_yes_is, if_no_is, block_in, runs_here}
use Rattle.run_laws.proofs.turn_points.Order.{from}
use Rattle.run_laws.proofs.turn_points.Tails.{chain_parts, both_parts, decided_part, then_rest_is}

module _ (inputs : Inputs) (view : Sees) (run : ℕ → Fate) where
  -- an act that has begun has ended by a cycle, and so has its term
  abbrev pub EndedIn : Fate → (by : ℕ) → Type 0
  EndedIn Waits by = Unit {0}
  EndedIn Lost by = Unit {0}
  EndedIn (Runs scope start term) by =
      (end : ℕ) × (of_outcome (act_ends inputs view scope start (head term)) ≡ At end) × (end ≤ by) × (term_end : ℕ) × (of_outcome (ends inputs view scope start term) ≡ At term_end) × (term_end ≤ by)

  pub record Ended (place by : ℕ) : Type 0 where
    pub is : EndedIn (run place) by

  idle_ended : (became : Fate) (place by : ℕ) → Idle (begin_at became) → run place ≡ became → Ended place by
  idle_ended Waits place by idle is = let ended : EndedIn (run place) by = rw is tt in record { is = ended }
  idle_ended Lost place by idle is = let ended : EndedIn (run place) by = rw is tt in record { is = ended }
  idle_ended (Runs scope start term) place by idle is = elim idle [ ]

  later_in : (became : Fate) (by later : ℕ) → by ≤ later → EndedIn became by → EndedIn became later
  later_in Waits by later order ended = tt
  later_in Lost by later order ended = tt
  later_in (Runs scope start term) by later order ended = (ended.0, ended.1, omega (arith, ended.2), ended.3, ended.4, omega (arith, ended.5))

  by_later : {place by : ℕ} (later : ℕ) → by ≤ later → Ended place by → Ended place later
  by_later later order ended = record { is = later_in _ _ later order ended.is }

  ended_here : (acts : List Act) (low : ℕ) (scope : ℕ → Outcome) (start : ℕ) (term : Term) (end by : ℕ) → Numbered acts low term → Agrees run (fate inputs view scope start term) low (low + size term)
      → of_outcome (act_ends inputs view scope start (head term)) ≡ At end → end ≤ by → of_outcome (ends inputs view scope start term) ≡ At by → Ended low by
  ended_here acts low scope start term end by numbered agrees act_end order term_end =
      let ended : EndedIn (run low) by = rw (runs_here inputs view run acts low scope start term numbered agrees) (end, act_end, order, by, term_end, omega arith) in record { is = ended }

  -- at all sites from low to high
  abbrev AllEnded : (low high by : ℕ) → Type 0
  AllEnded low high by = (place : ℕ) → low ≤ place → place < high → Ended place by

  joined : (low mid high by : ℕ) → AllEnded low mid by → AllEnded mid high by → AllEnded low high by
  joined low mid high by before after place above below = by_place (nat_lt place mid) refl
    where
      by_place : (test : Bool) → nat_lt place mid ≡ test → Ended place by
      by_place true passes = let order : place < mid = grind (arith, nat_tests) in before place above order
      by_place false fails = let order : mid ≤ place = grind (arith, nat_tests) in after place order below

  with_first : (low high by : ℕ) → Ended low by → AllEnded (low + 1) high by → AllEnded low high by
  with_first low high by first others place above below = by_place (nat_lt low place) refl
    where
      by_place : (test : Bool) → nat_lt low place ≡ test → Ended place by
      by_place true passes = let order : low < place = grind (arith, nat_tests) in others place (omega arith) below
      by_place false fails = let order : place ≤ low = grind (arith, nat_tests) in let same : low ≡ place = omega arith in subst (λ at_place. Ended at_place by) same first

  mutual
    pub ended : (acts : List Act) (low : ℕ) (scope : ℕ → Outcome) (start : ℕ) (term : Term) (end : ℕ) → Numbered acts low term → Agrees run (fate inputs view scope start term) low (low + size term)
        → of_outcome (ends inputs view scope start term) ≡ At end → AllEnded low (low + size term) end
    ended acts low scope start (One act) end numbered agrees ends_at =
        with_first low (low + act_size act) end (ended_here acts low scope start (One act) end end numbered agrees ends_at (omega arith) ends_at)
        (act_ended acts low scope start act end numbered (one_inner inputs view run acts low scope start act numbered agrees) ends_at)
    ended acts low scope start (Then act rest) end numbered agrees ends_at =
        let parts = chain_parts inputs view run (act_ends inputs view scope start act) (λ cycle value. ends inputs view (bind scope (site act) (Done cycle value)) cycle rest) end ends_at in
        let act_end : of_outcome (act_ends inputs view scope start act) ≡ At parts.0 = ap of_outcome parts.2 in
        let order : parts.0 ≤ end = from inputs view (bind scope (site act) (Done parts.0 parts.1)) parts.0 rest end parts.4 in
        with_first low (low + size (Then act rest)) end (ended_here acts low scope start (Then act rest) parts.0 end numbered agrees act_end order ends_at)
        (joined (low + 1) (low + act_size act) (low + size (Then act rest)) end
        (λ place above below. by_later end order (act_ended acts low scope start act parts.0 numbered.0 (then_inner inputs view run acts low scope start act rest numbered agrees) act_end place above below))
        (λ place above below. ended (act ∷ acts) (low + act_size act) (bind scope (site act) (Done parts.0 parts.1)) parts.0 rest end numbered.1
        (then_rest_is inputs view run acts low scope start act rest numbered agrees parts.0 parts.1 parts.2 parts.3) parts.4 place above (omega arith)))
    ended acts low scope start (Both act rest) end numbered agrees ends_at =
        let parts = both_parts inputs view run (act_ends inputs view scope start act) (ends inputs view (bind scope (site act) (act_ends inputs view scope start act)) start rest) end ends_at in
        let greatest : max parts.0 parts.1 ≡ end = parts.4 in
        with_first low (low + size (Both act rest)) end (ended_here acts low scope start (Both act rest) parts.0 end numbered agrees parts.2 (omega arith) ends_at)
        (joined (low + 1) (low + act_size act) (low + size (Both act rest)) end
        (λ place above below. by_later end (omega arith) (act_ended acts low scope start act parts.0 numbered.0 (both_inner inputs view run acts low scope start act rest numbered agrees) parts.2 place above below))
        (λ place above below. by_later end (omega arith) (ended (act ∷ acts) (low + act_size act) (bind scope (site act) (act_ends inputs view scope start act)) start rest parts.1 numbered.1
        (both_rest inputs view run acts low scope start act rest numbered agrees) parts.3 place above (omega arith))))

    pub act_ended : (acts : List Act) (low : ℕ) (scope : ℕ → Outcome) (start : ℕ) (act : Act) (end : ℕ) → NumberedAct acts low act → Agrees run (inside inputs view scope start act) (low + 1) (low + act_size act)
        → of_outcome (act_ends inputs view scope start act) ≡ At end → AllEnded (low + 1) (low + act_size act) end
    act_ended acts low scope start (If p condition first second valued) end numbered agrees ends_at place above below =
        joined (low + 1) (low + (1 + size first)) (low + (1 + (size first + size second))) end
        (λ place above below. in_first (view.decide p start scope condition) (decided_part inputs view run valued p start _ end ends_at) (if_yes_is inputs view run acts low scope start p condition first second valued numbered agrees)
        (ended acts (low + 1) scope start first end numbered.1) place above (omega arith))
        (λ place above below. in_second (view.decide p start scope condition) (decided_part inputs view run valued p start _ end ends_at) (if_no_is inputs view run acts low scope start p condition first second valued numbered agrees)
        (ended acts (low + (1 + size first)) scope start second end numbered.2) place above (omega arith)) place above below
      where
        in_first : (decision : Bool) → of_outcome (if decision then ends inputs view scope start first else ends inputs view scope start second) ≡ At end
            → ((place : ℕ) → low + 1 ≤ place → place < low + 1 + size first → run place ≡ (if decision then fate inputs view scope start first place else Lost))
            → (Agrees run (fate inputs view scope start first) (low + 1) (low + 1 + size first) → of_outcome (ends inputs view scope start first) ≡ At end → AllEnded (low + 1) (low + 1 + size first) end) → AllEnded (low + 1) (low + 1 + size first) end
        in_first true side_ends side_is inner place above below = inner (record { each = side_is }) side_ends place above below
        in_first false side_ends side_is inner place above below = idle_ended Lost place end idle_gone (side_is place above below)

        in_second : (decision : Bool) → of_outcome (if decision then ends inputs view scope start first else ends inputs view scope start second) ≡ At end
            → ((place : ℕ) → low + (1 + size first) ≤ place → place < low + (1 + size first) + size second → run place ≡ (if decision then Lost else fate inputs view scope start second place))
            → (Agrees run (fate inputs view scope start second) (low + (1 + size first)) (low + (1 + size first) + size second) → of_outcome (ends inputs view scope start second) ≡ At end → AllEnded (low + (1 + size first)) (low + (1 + size first) + size second) end)
            → AllEnded (low + (1 + size first)) (low + (1 + size first) + size second) end
        in_second false side_ends side_is inner place above below = inner (record { each = side_is }) side_ends place above below
        in_second true side_ends side_is inner place above below = idle_ended Lost place end idle_gone (side_is place above below)
    act_ended acts low scope start (When p condition first) end numbered agrees ends_at place above below =
        in_first (view.decide p start scope condition) (decided_part inputs view run false p start _ end ends_at) (λ place above below. agrees.each place (omega arith) (omega arith))
        (ended acts (low + 1) scope start first end numbered.1) place above (omega arith)
      where
        in_first : (decision : Bool) → of_outcome (if decision then ends inputs view scope start first else Done start nothing) ≡ At end
            → ((place : ℕ) → low + 1 ≤ place → place < low + 1 + size first → run place ≡ (if decision then fate inputs view scope start first place else Lost))
            → (Agrees run (fate inputs view scope start first) (low + 1) (low + 1 + size first) → of_outcome (ends inputs view scope start first) ≡ At end → AllEnded (low + 1) (low + 1 + size first) end) → AllEnded (low + 1) (low + 1 + size first) end
        in_first true side_ends side_is inner place above below = inner (record { each = side_is }) side_ends place above below
        in_first false side_ends side_is inner place above below = idle_ended Lost place end idle_gone (side_is place above below)
    act_ended acts low scope start (Block p inner) end numbered agrees ends_at place above below =
        ended acts (low + 1) scope start inner end numbered.1 (block_in inputs view run low scope start p inner agrees) ends_at place above (omega arith)
    act_ended acts low scope start (Cycle p count) end numbered agrees ends_at place above below = absurd (omega arith)
    act_ended acts low scope start (Set p register value) end numbered agrees ends_at place above below = absurd (omega arith)
    act_ended acts low scope start (Send p port value) end numbered agrees ends_at place above below = absurd (omega arith)
    act_ended acts low scope start (Recv p port) end numbered agrees ends_at place above below = absurd (omega arith)
    act_ended acts low scope start (Wait p variable) end numbered agrees ends_at place above below = absurd (omega arith)
    act_ended acts low scope start (Pure p value) end numbered agrees ends_at place above below = absurd (omega arith)
    act_ended acts low scope start (Nothing p) end numbered agrees ends_at place above below = absurd (omega arith)
