-- The places of a thread's acts are points of its text, and have their nodes in the graph; so what the tables say of two nodes is the
-- answer to what is asked of two places.
use Rattle.std.proofs.Common.{◌≡◌, ℕ, ◌<◌, ◌≤◌, inl, inr, arith, refl, sym, ◌∙◌, ap, subst, List, [], ◌∷◌, length, map, zero, suc, Bool, true, false, Some, None, slice_get, if◌then◌else◌, IsSome}
use Rattle.std.specs.Prelude.{ℤ}
use Rattle.std.proofs.lemmas.Bool.{cases_lt}
use Rattle.order_rules.specs.Lag.{Admits}
use Rattle.order_rules.specs.Standing.{IsPoint}
use Rattle.core_term.specs.declared.process.CoreProc.{CoreProc}
use Rattle.core_term.specs.declared.term.CoreTerm.{CoreTerm}
use Rattle.core_term.specs.Term.{Term, site}
use Rattle.core_term.specs.Numbering.{size, Numbered}
use Rattle.core_term.specs.Acts.{HasAct, Sends, IsAt}
use Rattle.core_term.specs.Points.{Begin, End}
use Rattle.core_term.specs.Order.{Point, point, HasForm, spot_site}
use Rattle.core_term.specs.Process.{Thread, life_of}
use Rattle.core_term.specs.Rules.{end_of}
use Rattle.core_term.specs.Widths.{Widths}
use Rattle.core_term.specs.View.{term_of}
use Rattle.core_term.specs.ProcessView.{widths_of, thread_of}
use Rattle.core_term.specs.AcceptedFile.{process_in}
use Rattle.core_term.proofs.code_tables.Acting.{each_site}
use Rattle.run_laws.proofs.graph_tables.OfText.{begin_real, end_real}
use Rattle.run_laws.proofs.graph_tables.Told.{order_told, last_told}
use Rattle.event_graph.specs.Event.{Event}
use Rattle.event_order.specs.declared.lag.Lag.{Lag}
use Rattle.event_order.specs.Lags.{lag_of}
use Rattle.event_order.specs.Order.{IsLagOf, IsOrderOf}
use Rattle.event_points.specs.Nodes.{twice, node_of}
use Rattle.event_points.specs.Endings.{endings, graph_of}
use Rattle.event_points.proofs.Endings.{graph_is}
use Rattle.order_rules.specs.Last.{Ending}
use Rattle.lifetimes.specs.declared.table.EndTable.{EndTable}
use Rattle.lifetimes.specs.Lasts.{table_of}
use Rattle.lifetimes.specs.Tables.{IsTableOf, event_count}
use Rattle.lifetimes.specs.Ends.{IsEndLagOf}
use Rattle.act_deeds.specs.declared.deed.Deed.TheVariants as deed
use Rattle.demand_checks.specs.Deeds.{AreDeeds, deed_at}
use Rattle.demand_checks.proofs.Numbers.{site_below}
use Rattle.act_deeds.proofs.Deeds.{send_deed}
use Rattle.demand_checks.specs.declared.place.Place.{Place}
use Rattle.demand_checks.specs.declared.judge.Judge.{Judge}
use Rattle.demand_checks.specs.Answers.{Answers, Decides}
use Rattle.demand_checks.specs.Places.{point_of}
use Rattle.demand_checks.specs.Thread.{nth_thread, body_of, IsReady}
use Rattle.demand_checks.specs.Judge.{IsJudge, TellOf, body_at, process_at}

-- the body of a thread is that of the code's term
nth_of : (f : CoreTerm → Thread) (cores : List CoreTerm) (j : ℕ) (core : CoreTerm) → slice_get cores j ≡ Some core → nth_thread (map f cores) j ≡ f core
nth_of f [] j core is = absurd cc
nth_of f (first ∷ cores) zero core is = let same : first ≡ core = cc in ap f same
nth_of f (first ∷ cores) (suc j) core is = nth_of f cores j core is

abbrev pub widths_in : CoreProc → Widths
widths_in proc = widths_of (process_in proc).ports (process_in proc).registers

pub body_is : (proc : CoreProc) (j : ℕ) (core : CoreTerm) → slice_get proc.threads.items j ≡ Some core → body_of proc j ≡ term_of (widths_in proc) core
body_is proc j core is = ap (λ t. t.body) (nth_of (thread_of (widths_in proc)) proc.threads.items j core is)

-- of two answers that are right
pub same_answer : (A : Type 0) (one other : Bool) → Decides one A → Decides other A → one ≡ other
same_answer A true true k l = refl
same_answer A true false k l = absurd (l k)
same_answer A false true k l = absurd (k l)
same_answer A false false k l = refl

pub decided_by : (A B : Type 0) (answer : Bool) → (A → B) × (B → A) → Decides answer B → Decides answer A
decided_by A B true same k = same.1 k
decided_by A B false same k = λ h. k (same.0 h)

site_is : (place : Place) → spot_site (point_of place).spot ≡ place.site
site_is place = go place.end
  where
    go : (e : Bool) → spot_site (if e then End place.site else Begin place.site) ≡ place.site
    go true = refl
    go false = refl

-- a site that has no node is none, and one that has is one
pub is_inside : {N : Type 0} (site count : ℕ) (node : N) (right : N) → (site < count → Some node ≡ Some right) → (count ≤ site → Some node ≡ None) → (site < count) × (node ≡ right)
is_inside site count node right inside outside = elim (cases_lt site count) [
  | inl k ↦ (k, (let known = inside k in cc))
  | inr k ↦ (let known = outside k in absurd cc)
]

pub is_outside : {N : Type 0} (site count : ℕ) (right : N) → (site < count → None ≡ Some right) → count ≤ site
is_outside site count right inside = elim (cases_lt site count) [ inl k ↦ (let known = inside k in absurd cc) | inr k ↦ k ]

module _ (body : Term) (numbered : Numbered [] 0 body) where
  pub pointed : (place : Place) → place.site < size body → IsPoint Point (HasForm body) (point_of place)
  pointed place small = go place.end
    where
      at : IsAt body place.site
      at = each_site body numbered place.site small

      go : (e : Bool) → IsPoint Point (HasForm body) (point place.late (if e then End place.site else Begin place.site))
      go true = end_real body place.late place.site (at.scope, at.term, at.stands, at.is_site)
      go false = begin_real body place.late place.site (at.scope, at.term, at.stands, at.is_site)

module _ (judge : Judge) (is : IsJudge judge) where
  counted : length judge.deeds.items ≡ size (body_at judge)
  counted = is.deeds.count

  -- the node of a place is one of the graph
  pub node_small : (place : Place) (node : ℕ) → place.site < length judge.deeds.items → node ≡ node_of (body_at judge) (point_of place) → node < judge.order.now.count
  node_small place node small at =
      let of_text = pointed (body_at judge) is.numbered place (let known = counted in omega (arith, known, small)) in
      let inside = is.ready.twice.stands.inside (point_of place) of_text in
      let all = is.ready.order_is.count in
      omega (arith, inside.0, all, at)

  pub order_answer : (a b : Place) (d : ℤ) (from to : ℕ) (lag : Lag) (answer : Bool) → a.site < length judge.deeds.items → b.site < length judge.deeds.items
      → from ≡ node_of (body_at judge) (point_of a) → to ≡ node_of (body_at judge) (point_of b)
      → ((events : List Event) → IsOrderOf events judge.order.now → IsLagOf events lag from to) → Decides answer (Admits (lag_of lag) d)
      → (answers : Answers) → TellOf judge answers → answer ≡ answers.order (point_of a) d (point_of b)
  order_answer a b d from to lag answer small_a small_b from_is to_is is_lag decides answers tell =
      let known = counted in
      let below_a : a.site < size (body_at judge) = omega (arith, known, small_a) in
      let below_b : b.site < size (body_at judge) = omega (arith, known, small_b) in
      let process = process_at judge in
      let graph = graph_is process (body_at judge) is.numbered in
      let of_graph : IsLagOf (twice (body_at judge)) lag (node_of (body_at judge) (point_of a)) (node_of (body_at judge) (point_of b)) =
      subst (λ v. IsLagOf (twice (body_at judge)) lag (node_of (body_at judge) (point_of a)) v) to_is
      (subst (λ u. IsLagOf (twice (body_at judge)) lag u to) from_is
      (subst (λ e. IsLagOf e lag from to) is.ready.twice.graph (is_lag judge.elab.now.graph is.ready.order_is))) in
      let tells = order_told process (body_at judge) (graph_of process (body_at judge)) graph (point_of a) (point_of b) (pointed (body_at judge) is.numbered a below_a)
      (pointed (body_at judge) is.numbered b below_b) (lag_of lag) of_graph in
      same_answer _ answer (answers.order (point_of a) d (point_of b)) (decided_by _ _ answer (tells d) decides)
      (tell.order (point_of a) d (point_of b) (pointed (body_at judge) is.numbered a below_a) (pointed (body_at judge) is.numbered b below_b))

  pub no_first_answer : (a b : Place) (d : ℤ) → length judge.deeds.items ≤ a.site → (answers : Answers) → TellOf judge answers → false ≡ answers.order (point_of a) d (point_of b)
  no_first_answer a b d large answers tell = sym (tell.no_first (point_of a) d (point_of b) (let known = counted in let place_site = site_is a in omega (arith, known, place_site, large)))

  pub no_second_answer : (a b : Place) (d : ℤ) → length judge.deeds.items ≤ b.site → (answers : Answers) → TellOf judge answers → false ≡ answers.order (point_of a) d (point_of b)
  no_second_answer a b d large answers tell = sym (tell.no_second (point_of a) d (point_of b) (let known = counted in let place_site = site_is b in omega (arith, known, place_site, large)))

  -- the table of a send
  pub table_there : (send m : ℕ) → HasAct (body_at judge) send (λ a. Sends a m) → IsSome (table_of judge.lasts.now send)
  table_there send m sends = let known = is.ready.lasts_are send m sends in subst IsSome (sym known.1) refl

  pub table_wide : (send m : ℕ) (table : EndTable) → HasAct (body_at judge) send (λ a. Sends a m) → table_of judge.lasts.now send ≡ Some table
      → (b : Place) (node : ℕ) → b.site < length judge.deeds.items → node ≡ node_of (body_at judge) (point_of b) → node < event_count table
  table_wide send m table sends found b node small at =
      let known = is.ready.lasts_are send m sends in
      let same : Some known.0 ≡ Some table = sym known.1 ∙ found in
      let tables : known.0 ≡ table = cc in
      let count : event_count table ≡ length (twice (body_at judge)) = subst (λ t. event_count t ≡ length (twice (body_at judge))) tables known.2.count in
      let order_count = is.ready.order_is.count in
      let graph = ap length is.ready.twice.graph in
      let there = node_small b node small at in
      omega (arith, count, order_count, graph, there)

  pub last_answer : (send m : ℕ) (table : EndTable) (b : Place) (d : ℤ) (to : ℕ) (lag : Lag) (answer : Bool) → HasAct (body_at judge) send (λ a. Sends a m)
      → table_of judge.lasts.now send ≡ Some table → b.site < length judge.deeds.items → to ≡ node_of (body_at judge) (point_of b)
      → ((events : List Event) (from : ℕ) (ends : List (Ending ℕ)) → IsTableOf events from ends table → IsEndLagOf events from ends lag to)
      → Decides answer (Admits (lag_of lag) d) → (answers : Answers) → TellOf judge answers → answer ≡ answers.last send d (point_of b)
  last_answer send m table b d to lag answer sends found small to_is is_lag decides answers tell =
      let known = is.ready.lasts_are send m sends in
      let same : Some known.0 ≡ Some table = sym known.1 ∙ found in
      let tables : known.0 ≡ table = cc in
      let count_is = counted in
      let below_b : b.site < size (body_at judge) = omega (arith, count_is, small) in
      let below_send : send < size (body_at judge) = (let seen = site_below (body_at judge) sends.1 sends.0 is.numbered sends.2 in omega (arith, seen, sends.3)) in
      let process = process_at judge in
      let graph = graph_is process (body_at judge) is.numbered in
      let start = node_of (body_at judge) (end_of send) in
      let ends = endings (body_at judge) (node_of (body_at judge)) (life_of process m) in
      let of_graph : IsEndLagOf (twice (body_at judge)) start ends lag (node_of (body_at judge) (point_of b)) =
      subst (λ v. IsEndLagOf (twice (body_at judge)) start ends lag v) to_is
      (is_lag (twice (body_at judge)) start ends (subst (λ t. IsTableOf (twice (body_at judge)) start ends t) tables known.2)) in
      let at_send = pointed (body_at judge) is.numbered (record { late = false; end = true; site = send }) below_send in
      let tells = last_told process (body_at judge) (graph_of process (body_at judge)) graph send m (point_of b) at_send (pointed (body_at judge) is.numbered b below_b) (lag_of lag) of_graph in
      same_answer _ answer (answers.last send d (point_of b)) (decided_by _ _ answer (tells d) decides)
      (tell.last send m sends d (point_of b) (pointed (body_at judge) is.numbered b below_b))

  pub no_last_answer : (send : ℕ) (d : ℤ) (b : Place) → length judge.deeds.items ≤ b.site → (answers : Answers) → TellOf judge answers → false ≡ answers.last send d (point_of b)
  no_last_answer send d b large answers tell = sym (tell.no_last send d (point_of b) (let known = counted in let place_site = site_is b in omega (arith, known, place_site, large)))

  pub no_send_answer : (send : ℕ) (d : ℤ) (b : Place) → ((m : ℕ) → deed_at judge.deeds.items send ≡ deed.Sends m → ⊥) → (answers : Answers) → TellOf judge answers → false ≡ answers.last send d (point_of b)
  no_send_answer send d b none answers tell = sym (tell.no_send send (λ m sends. none m (send_deed (body_at judge) judge.deeds.items is.deeds send m sends)) d (point_of b))

pub made_judge : (judge : Judge) (core : CoreTerm) → slice_get judge.proc.now.threads.items judge.number ≡ Some core
    → IsReady judge.proc.now judge.number judge.elab.now judge.order.now judge.lasts.now → Numbered [] 0 (term_of (widths_in judge.proc.now) core)
    → AreDeeds (term_of (widths_in judge.proc.now) core) judge.deeds.items → length judge.deeds.items ≤ 512 → IsJudge judge
made_judge judge core is ready numbered deeds few =
    let same = sym (body_is judge.proc.now judge.number core is) in
    record { ready = ready; numbered = subst (λ t. Numbered [] 0 t) same numbered; deeds = subst (λ t. AreDeeds t judge.deeds.items) same deeds; few = few }
