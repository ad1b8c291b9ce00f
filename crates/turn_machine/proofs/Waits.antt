-- The end of an act on a port comes in the first cycle, from its begin on, in which its wire is 1.
use Rattle.std.proofs.Common.{◌≡◌, ℕ, ◌<◌, ◌≤◌, arith, refl, sym, ◌∙◌, ap, [], Bool, true, false}
use Rattle.core_term.specs.Inputs.{Inputs}
use Rattle.core_term.specs.Term.{Term}
use Rattle.core_term.specs.Points.{Begin, End}
use Rattle.core_term.specs.Occurs.{At, begin_at}
use Rattle.core_term.specs.Numbering.{Numbered}
use Rattle.core_term.specs.Ends.{Sees}
use Rattle.core_term.specs.Tail.{IsTail}
use Rattle.core_term.specs.Reread.{deciding}
use Rattle.run_laws.proofs.turn_points.TurnRules.{obeys_rules}
use Rattle.turn_machine.specs.Draws.{IsEndedBy, OfAct}
use Rattle.turn_machine.proofs.Turns.{at, runs_at, begin_is}

-- from start on the wire is first 1 in the cycle
abbrev pub IsFirstOn : (wire : ℕ → Bool) → (start cycle : ℕ) → Type 0
IsFirstOn wire start cycle = (start ≤ cycle) × (wire cycle ≡ true) × ((between : ℕ) → start ≤ between → between < cycle → wire between ≡ false)

off : (bit : Bool) → (bit ≡ true → ⊥) → bit ≡ false
off true none = absurd (none refl)
off false none = refl

module _ (inputs : Inputs) (registers : ℕ → ℕ → ℕ) (decision : ℕ → ℕ → Bool) (body : Term) (numbered : Numbered [] 0 body) (tails : IsTail body) where
  abbrev view : Sees
  view = deciding registers decision

  pub port_ended : (turn cycle place : ℕ) (wire : ℕ → Bool) → OfAct body place (λ act. IsEndedBy inputs act wire) → at inputs registers decision body numbered tails turn (End place) ≡ At cycle
      → (start : ℕ) × (at inputs registers decision body numbered tails turn (Begin place) ≡ At start) × IsFirstOn wire start cycle
  port_ended turn cycle place wire ended_by comes =
      let act = runs_at inputs registers decision body numbered tails turn cycle (End place) comes in
      let rules = obeys_rules inputs view body numbered turn in
      let stands = rules.stands place act.scope act.begin act.term act.runs in
      let port = ended_by stands.0 act.term stands.1 stands.2 in
      let first = (rules.sync place act.scope act.begin act.term port.0 act.runs port.1 cycle).0 comes in
      (act.begin, ap begin_at act.runs, (first.from, port.2 cycle ∙ first.is, λ between above below. off (wire between) (λ on. first.none between above below (sym (port.2 between) ∙ on))))

  pub port_ends : (turn cycle place : ℕ) (wire : ℕ → Bool) → OfAct body place (λ act. IsEndedBy inputs act wire) → cycle < inputs.count → (start : ℕ) → at inputs registers decision body numbered tails turn (Begin place) ≡ At start
      → IsFirstOn wire start cycle → at inputs registers decision body numbered tails turn (End place) ≡ At cycle
  port_ends turn cycle place wire ended_by within start comes first_on =
      let act = runs_at inputs registers decision body numbered tails turn start (Begin place) comes in
      let same : act.begin ≡ start = begin_is inputs registers decision body numbered tails turn place start act comes in
      let rules = obeys_rules inputs view body numbered turn in
      let stands = rules.stands place act.scope act.begin act.term act.runs in
      let port = ended_by stands.0 act.term stands.1 stands.2 in
      (rules.sync place act.scope act.begin act.term port.0 act.runs port.1 cycle).1
      (record {
        within = within;
        from = let order = first_on.0 in omega arith;
        is = sym (port.2 cycle) ∙ first_on.1;
        none = λ between above below on. let quiet = first_on.2 between (omega arith) below in let also_on : wire between ≡ true = port.2 between ∙ on in cc;
      })
