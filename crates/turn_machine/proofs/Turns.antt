-- The turns of a body: when they begin and end, and where the points of a turn fall in it.
--
-- A point that comes at a cycle is of an act that runs in that turn, so the turn has begun by then. In a turn that ends, every act
-- that runs has ended, and the file `Windows` tells how late: by the end of the turn, and before it where the point is none of the
-- tail. An end of the tail is that of an act or term that takes time, so it comes after the begin.
use Rattle.std.proofs.Common.{◌≡◌, ℕ, ◌+◌, ◌<◌, ◌≤◌, ◌⊎◌, inl, inr, arith, refl, sym, ◌∙◌, ap, subst, [], Bool, true, false, if◌then◌else◌, nat_lt, suc, Option, Some, None}
use Rattle.std.proofs.lemmas.Bool.Decides.{nat_tests}
use Rattle.order_rules.specs.Form.{Form}
use Rattle.core_term.specs.Inputs.{Inputs}
use Rattle.core_term.specs.Term.{Term, Act, Cycle, Set, Send, Recv, If, When, Block, Wait, Pure, Nothing, site, head}
use Rattle.core_term.specs.Value.{Outcome, Open, Done}
use Rattle.core_term.specs.Ends.{Sees, ends}
use Rattle.core_term.specs.Fate.{Fate, Waits, Lost, Runs}
use Rattle.core_term.specs.Points.{Spot, TermBegin, TermEnd, Begin, End, NoSide, forms}
use Rattle.core_term.specs.Occurs.{Occurrence, Gone, At, of_outcome, begin_at, end_at, term_end_at, no_side, no_side_at, occurrence, LocalRule}
use Rattle.core_term.specs.Numbering.{size, Numbered}
use Rattle.core_term.specs.Turns.{no_variable, next_begin, begin_after, begins, run_from, run_of}
use Rattle.core_term.specs.Order.{IsFormed, spot_site}
use Rattle.core_term.specs.Tail.{IsTail, IsTailAct}
use Rattle.core_term.specs.Reread.{deciding}
use Rattle.run_laws.specs.TurnLaws.{times}
use Rattle.run_laws.proofs.turn_points.Idle.{idle_not, later as idle_later, gone as idle_gone}
use Rattle.run_laws.proofs.turn_points.Order.{next_from, body_end, from, act_from}
use Rattle.run_laws.proofs.turn_points.Strict.{takes, act_takes}
use Rattle.run_laws.proofs.turn_points.Placed.{some_start, begins_short, begin_since, turn_end}
use Rattle.run_laws.proofs.rereading.Decide.{within as is_within}
use Rattle.run_laws.proofs.turn_points.TurnRules.{obeys_rules}
use Rattle.turn_machine.specs.TailEnds.{TailEnds, is_tail, tail_ends}
use Rattle.turn_machine.proofs.TailEnds.{tail_ends_are}
use Rattle.turn_machine.proofs.Windows.{Fits, FitsIn, Falls, all_fit}
use Rattle.turn_machine.proofs.TailActs.{take_time}

-- at or before the end of the turn, and before it where it is none of the tail
pub record Bounds (tail : Bool) (cycle end : ℕ) : Type 0 where
  pub by : cycle ≤ end
  pub inner : tail ≡ false → cycle < end

module _ (inputs : Inputs) (registers : ℕ → ℕ → ℕ) (decision : ℕ → ℕ → Bool) (body : Term) (numbered : Numbered [] 0 body) (tails : IsTail body) where
  abbrev view : Sees
  view = deciding registers decision

  abbrev tail : TailEnds
  tail = tail_ends body

  -- what became of each act of a turn, when each point comes, and when the turn begins
  abbrev pub run : (turn : ℕ) → ℕ → Fate
  run turn = run_of inputs view body turn

  abbrev pub at : (turn : ℕ) → Spot → Occurrence
  at turn = times inputs view body turn

  abbrev pub Begins : (turn cycle : ℕ) → Type 0
  Begins turn cycle = begins inputs view body turn ≡ Some cycle

  -- an act that runs
  pub record RunsAt (turn place : ℕ) : Type 0 where
    pub scope : ℕ → Outcome
    pub begin : ℕ
    pub term : Term
    pub runs : run turn place ≡ Runs scope begin term

  idle_point : (turn cycle : ℕ) (became : Fate) (point : Spot) → run turn (spot_site point) ≡ became → at turn point ≡ At cycle → (became ≡ Waits) ⊎ (became ≡ Lost) → ⊥
  idle_point turn cycle became (TermBegin p) is comes (inl waits) = idle_not idle_later (sym (ap begin_at (is ∙ waits)) ∙ comes)
  idle_point turn cycle became (TermEnd p) is comes (inl waits) = idle_not idle_later (sym (ap (term_end_at inputs view) (is ∙ waits)) ∙ comes)
  idle_point turn cycle became (Begin p) is comes (inl waits) = idle_not idle_later (sym (ap begin_at (is ∙ waits)) ∙ comes)
  idle_point turn cycle became (End p) is comes (inl waits) = idle_not idle_later (sym (ap (end_at inputs view) (is ∙ waits)) ∙ comes)
  idle_point turn cycle became (NoSide p) is comes (inl waits) = idle_not idle_later (sym (ap (no_side_at view) (is ∙ waits)) ∙ comes)
  idle_point turn cycle became (TermBegin p) is comes (inr lost) = idle_not idle_gone (sym (ap begin_at (is ∙ lost)) ∙ comes)
  idle_point turn cycle became (TermEnd p) is comes (inr lost) = idle_not idle_gone (sym (ap (term_end_at inputs view) (is ∙ lost)) ∙ comes)
  idle_point turn cycle became (Begin p) is comes (inr lost) = idle_not idle_gone (sym (ap begin_at (is ∙ lost)) ∙ comes)
  idle_point turn cycle became (End p) is comes (inr lost) = idle_not idle_gone (sym (ap (end_at inputs view) (is ∙ lost)) ∙ comes)
  idle_point turn cycle became (NoSide p) is comes (inr lost) = idle_not idle_gone (sym (ap (no_side_at view) (is ∙ lost)) ∙ comes)

  -- a point that comes is of an act that runs
  pub runs_at : (turn cycle : ℕ) (point : Spot) → at turn point ≡ At cycle → RunsAt turn (spot_site point)
  runs_at turn cycle point comes = by_fate (run turn (spot_site point)) refl
    where
      by_fate : (became : Fate) → run turn (spot_site point) ≡ became → RunsAt turn (spot_site point)
      by_fate (Runs scope begin term) is = record { scope = scope; begin = begin; term = term; runs = is }
      by_fate Waits is = absurd (idle_point turn cycle Waits point is comes (inl refl))
      by_fate Lost is = absurd (idle_point turn cycle Lost point is comes (inr refl))

  pub begin_is : (turn place cycle : ℕ) (act : RunsAt turn place) → at turn (Begin place) ≡ At cycle → act.begin ≡ cycle
  begin_is turn place cycle act comes = let runs = act.runs in let same : At act.begin ≡ At cycle = sym (ap begin_at runs) ∙ comes in cc

  no_side_is : (scope : ℕ → Outcome) (start cycle : ℕ) (act : Act) → no_side view scope start act ≡ At cycle → start ≡ cycle
  no_side_is scope start cycle (When p condition first) comes = by_decision (decision p start) comes
    where
      by_decision : (decided : Bool) → (if decided then Gone else At start) ≡ At cycle → start ≡ cycle
      by_decision true comes = absurd (idle_not idle_gone comes)
      by_decision false comes = cc
  no_side_is scope start cycle (If p condition first second valued) comes = absurd (idle_not idle_later comes)
  no_side_is scope start cycle (Block p inner) comes = absurd (idle_not idle_later comes)
  no_side_is scope start cycle (Cycle p count) comes = absurd (idle_not idle_later comes)
  no_side_is scope start cycle (Set p register value) comes = absurd (idle_not idle_later comes)
  no_side_is scope start cycle (Send p port value) comes = absurd (idle_not idle_later comes)
  no_side_is scope start cycle (Recv p port) comes = absurd (idle_not idle_later comes)
  no_side_is scope start cycle (Wait p variable) comes = absurd (idle_not idle_later comes)
  no_side_is scope start cycle (Pure p value) comes = absurd (idle_not idle_later comes)
  no_side_is scope start cycle (Nothing p) comes = absurd (idle_not idle_later comes)

  -- a point comes no earlier than its act begins
  since_act : (turn cycle : ℕ) (point : Spot) (scope : ℕ → Outcome) (start : ℕ) (term : Term) → run turn (spot_site point) ≡ Runs scope start term → at turn point ≡ At cycle → start ≤ cycle
  since_act turn cycle (TermBegin p) scope start term runs comes = let same : At start ≡ At cycle = sym (ap begin_at runs) ∙ comes in let equal : start ≡ cycle = cc in omega arith
  since_act turn cycle (Begin p) scope start term runs comes = let same : At start ≡ At cycle = sym (ap begin_at runs) ∙ comes in let equal : start ≡ cycle = cc in omega arith
  since_act turn cycle (End p) scope start term runs comes = act_from inputs view scope start (head term) cycle (sym (ap (end_at inputs view) runs) ∙ comes)
  since_act turn cycle (TermEnd p) scope start term runs comes = from inputs view scope start term cycle (sym (ap (term_end_at inputs view) runs) ∙ comes)
  since_act turn cycle (NoSide p) scope start term runs comes = let equal : start ≡ cycle = no_side_is scope start cycle (head term) (sym (ap (no_side_at view) runs) ∙ comes) in omega arith

  -- so its turn has begun by then
  pub since_begin : (turn cycle : ℕ) (point : Spot) → at turn point ≡ At cycle → (start : ℕ) × Begins turn start × (start ≤ cycle)
  since_begin turn cycle point comes =
      let act = runs_at turn cycle point comes in
      let start = some_start inputs view body numbered (begins inputs view body turn) (spot_site point) act.scope act.begin act.term act.runs in
      let begun = begin_since inputs view body numbered (begins inputs view body turn) start.0 (spot_site point) act.begin start.1 (ap begin_at act.runs) in
      let since = since_act turn cycle point act.scope act.begin act.term act.runs comes in
      (start.0, start.1, omega arith)

  pub begins_within : (turn cycle : ℕ) → Begins turn cycle → cycle < inputs.count
  begins_within turn cycle begun = begins_short inputs view body numbered turn cycle begun

  -- a turn ends where the next begins
  pub turn_ends : (turn end : ℕ) → Begins (turn + 1) end → at turn (TermEnd (site (head body))) ≡ At end
  turn_ends turn end next =
      let same : turn + 1 ≡ suc turn = omega arith in
      let moved : begins inputs view body (suc turn) ≡ Some end = rw same at next in
      next_from inputs view body numbered (begins inputs view body turn) end moved

  next_after : (start : Option ℕ) (cycle : ℕ) → cycle < inputs.count → occurrence inputs view (run_from inputs view body start) (TermEnd (site (head body))) ≡ At cycle → next_begin inputs view body start ≡ Some cycle
  next_after None cycle within ended = absurd (idle_not idle_later ended)
  next_after (Some start) cycle within ended = by_end (ends inputs view no_variable start body) (sym (body_end inputs view body numbered start) ∙ ended)
    where
      by_end : (outcome : Outcome) → of_outcome outcome ≡ At cycle → begin_after inputs outcome ≡ Some cycle
      by_end Open ended = absurd (idle_not idle_later ended)
      by_end (Done end value) ended = let same : end ≡ cycle = cc in let in_list : nat_lt end inputs.count ≡ true = grind (arith, nat_tests) in rw in_list (ap Some same)

  pub next_begins : (turn cycle : ℕ) → cycle < inputs.count → at turn (TermEnd (site (head body))) ≡ At cycle → Begins (turn + 1) cycle
  next_begins turn cycle within ended =
      let same : suc turn ≡ turn + 1 = omega arith in let AtTurn : ℕ → Type 0 = λ n. Begins n cycle in subst AtTurn same (next_after (begins inputs view body turn) cycle within ended)

  -- in a turn that ends, what runs has ended where it may
  fits : (turn place end : ℕ) → place < size body → Begins (turn + 1) end → Fits inputs view (run turn) tail place end
  fits turn place end within next = by_begin (begins inputs view body turn) refl
    where
      ended : at turn (TermEnd (site (head body))) ≡ At end
      ended = turn_ends turn end next

      by_begin : (start : Option ℕ) → begins inputs view body turn ≡ start → Fits inputs view (run turn) tail place end
      by_begin None none = absurd (let begun = since_begin turn end (TermEnd (site (head body))) ended in let impossible : None ≡ Some begun.0 = sym none ∙ begun.1 in cc)
      by_begin (Some start) begun =
          let body_ends : of_outcome (ends inputs view no_variable start body) ≡ At end = turn_end inputs view body numbered (begins inputs view body turn) start end begun ended in
          let FitsFrom : Option ℕ → Type 0 = λ start. Fits inputs view (run_from inputs view body start) tail place end in
          subst FitsFrom (sym begun)
          (all_fit inputs view (run_from inputs view body (Some start)) tail [] 0 no_variable start body end numbered tails (tail_ends_are body numbered) (record { each = λ place above below. refl }) body_ends place (omega arith) (omega arith))

  begins_early : (of_tail : Bool) (start cycle end : ℕ) → start < end → start ≡ cycle → Bounds of_tail cycle end
  begins_early of_tail start cycle end before same = record { by = omega arith; inner = λ is_not. omega arith }

  falls_at : (cycle last start end : ℕ) (of_tail : Bool) (occurs : Occurrence) → occurs ≡ At end → occurs ≡ At cycle → Falls start end last of_tail → Bounds of_tail cycle last
  falls_at cycle last start end of_tail occurs ends_then comes falls =
      let both : At end ≡ At cycle = sym ends_then ∙ comes in
      let same : end ≡ cycle = cc in
      record { by = let by = falls.by in omega arith; inner = λ is_not. let before = falls.inner is_not in omega arith }

  bounds_in : (turn cycle end : ℕ) (point : Spot) (scope : ℕ → Outcome) (start : ℕ) (term : Term) → run turn (spot_site point) ≡ Runs scope start term
      → FitsIn inputs view (run turn) tail (Runs scope start term) end (tail.act (spot_site point)) (tail.term (spot_site point)) → at turn point ≡ At cycle → Bounds (is_tail tail point) cycle end
  bounds_in turn cycle end (TermBegin p) scope start term runs fit comes = begins_early false start cycle end fit.0 (let same : At start ≡ At cycle = sym (ap begin_at runs) ∙ comes in cc)
  bounds_in turn cycle end (Begin p) scope start term runs fit comes = begins_early false start cycle end fit.0 (let same : At start ≡ At cycle = sym (ap begin_at runs) ∙ comes in cc)
  bounds_in turn cycle end (NoSide p) scope start term runs fit comes = begins_early false start cycle end fit.0 (no_side_is scope start cycle (head term) (sym (ap (no_side_at view) runs) ∙ comes))
  bounds_in turn cycle end (End p) scope start term runs fit comes = falls_at cycle end start fit.1 (tail.act p) _ fit.2 (sym (ap (end_at inputs view) runs) ∙ comes) fit.3
  bounds_in turn cycle end (TermEnd p) scope start term runs fit comes = falls_at cycle end start fit.4 (tail.term p) _ fit.5 (sym (ap (term_end_at inputs view) runs) ∙ comes) fit.6

  runs_within : (turn place : ℕ) → RunsAt turn place → place < size body
  runs_within turn place act = is_within inputs body numbered view turn place act.scope act.begin act.term act.runs

  pub bounds : (turn cycle end : ℕ) (point : Spot) → at turn point ≡ At cycle → Begins (turn + 1) end → Bounds (is_tail tail point) cycle end
  bounds turn cycle end point comes next =
      let act = runs_at turn cycle point comes in
      let runs = act.runs in
      let fit = fits turn (spot_site point) end (runs_within turn (spot_site point) act) next in
      let fit_here = rw runs at (fit.is) in
      bounds_in turn cycle end point act.scope act.begin act.term runs fit_here comes

  -- in a turn that ends, the term of an act that runs has ended
  pub term_ends : (turn place end : ℕ) → Begins (turn + 1) end → RunsAt turn place → (cycle : ℕ) × (at turn (TermEnd place) ≡ At cycle)
  term_ends turn place end next act =
      let runs = act.runs in
      let fit = fits turn place end (runs_within turn place act) next in
      let fit_here : FitsIn inputs view (run turn) tail (Runs act.scope act.begin act.term) end (tail.act place) (tail.term place) = rw runs at (fit.is) in
      (fit_here.4, ap (term_end_at inputs view) runs ∙ fit_here.5)

  -- an end of the tail takes time
  takes_in : (turn cycle : ℕ) (point : Spot) (scope : ℕ → Outcome) (start : ℕ) (term : Term) → run turn (spot_site point) ≡ Runs scope start term
      → (tail.act (spot_site point) ≡ true → IsTailAct (head term)) → (tail.term (spot_site point) ≡ true → IsTail term) → is_tail tail point ≡ true → at turn point ≡ At cycle → start < cycle
  takes_in turn cycle (TermBegin p) scope start term runs act_takes_time term_takes_time is comes = absurd cc
  takes_in turn cycle (Begin p) scope start term runs act_takes_time term_takes_time is comes = absurd cc
  takes_in turn cycle (NoSide p) scope start term runs act_takes_time term_takes_time is comes = absurd cc
  takes_in turn cycle (End p) scope start term runs act_takes_time term_takes_time is comes = act_takes inputs view scope start (head term) cycle (act_takes_time is) (sym (ap (end_at inputs view) runs) ∙ comes)
  takes_in turn cycle (TermEnd p) scope start term runs act_takes_time term_takes_time is comes = takes inputs view scope start term cycle (term_takes_time is) (sym (ap (term_end_at inputs view) runs) ∙ comes)

  pub tail_since : (turn cycle start : ℕ) (point : Spot) → is_tail tail point ≡ true → at turn point ≡ At cycle → Begins turn start → start < cycle
  tail_since turn cycle start point is comes begun =
      let act = runs_at turn cycle point comes in
      let runs = act.runs in
      let place = (obeys_rules inputs view body numbered turn).stands (spot_site point) act.scope act.begin act.term runs in
      let takes_time = take_time tail place.1 0 numbered tails (tail_ends_are body numbered) in
      let takes_time_here : (tail.act (spot_site point) ≡ true → IsTailAct (head act.term)) × (tail.term (spot_site point) ≡ true → IsTail act.term) = rw (place.2) at takes_time in
      let after : act.begin < cycle = takes_in turn cycle point act.scope act.begin act.term runs takes_time_here.0 takes_time_here.1 is comes in
      let since = begin_since inputs view body numbered (begins inputs view body turn) start (spot_site point) act.begin begun (ap begin_at runs) in
      omega arith

  -- the local rules
  pub rule : (turn : ℕ) (point : Spot) (form : Form Spot) → IsFormed (forms body) point form → LocalRule inputs.count (at turn) point form
  rule turn point form formed = (obeys_rules inputs view body numbered turn).rule point form formed

  pub turn_begins : (turn cycle : ℕ) → Begins turn cycle → at turn (TermBegin (site (head body))) ≡ At cycle
  turn_begins turn cycle begun = (obeys_rules inputs view body numbered turn).begin cycle begun

  pub turn_begun : (turn cycle : ℕ) → at turn (TermBegin (site (head body))) ≡ At cycle → Begins turn cycle
  turn_begun turn cycle comes = (obeys_rules inputs view body numbered turn).begin_back cycle comes
