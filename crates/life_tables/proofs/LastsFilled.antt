-- The tables of the lives are filled site by site.
use Rattle.std.proofs.Common.{◌≡◌, ℕ, ◌+◌, ◌<◌, ◌≤◌, ◌⊎◌, inl, inr, arith, refl, sym, ◌∙◌, ap, subst, List, [], ◌∷◌, length, zero, suc, Some, true, false, map}
use Rattle.order_rules.specs.Last.{Ending}
use Rattle.core_term.specs.declared.process.CorePort.{CorePort}
use Rattle.core_term.specs.Term.{Term}
use Rattle.core_term.specs.Numbering.{size, Numbered}
use Rattle.core_term.specs.Widths.{Widths}
use Rattle.core_term.specs.Process.{Process, Port, nth_port, life_of}
use Rattle.core_term.specs.ProcessView.{port_of}
use Rattle.core_term.specs.AcceptedFile.{process_in}
use Rattle.core_term.specs.Rules.{end_of}
use Rattle.event_graph.specs.Event.{Event}
use Rattle.event_points.specs.Nodes.{node_of}
use Rattle.event_points.specs.Endings.{endings}
use Rattle.elaborator.specs.declared.points.Points.{Points}
use Rattle.elaborator.specs.declared.elab.Elab.{Elab}
use Rattle.elaborator.specs.Seen.{points_in}
use Rattle.elaborator.specs.Turns.{IsTwice}
use Rattle.lifetimes.specs.declared.lasts.Lasts.{Lasts}
use Rattle.lifetimes.specs.declared.life.End as life
use Rattle.lifetimes.specs.Ends.{endings_of}
use Rattle.lifetimes.specs.Lasts.{table_of, HasTableOf}
use Rattle.act_deeds.specs.declared.deed.Deed.{Deed}
use Rattle.act_deeds.specs.declared.deed.Deed.TheVariants as deed
use Rattle.demand_checks.specs.Deeds.{AreDeeds, deed_at}
use Rattle.demand_checks.specs.Thread.{AreLastsOf}
use Rattle.act_deeds.proofs.Deeds.{send_deed}
use Rattle.demand_checks.proofs.Numbers.{site_below}
use Rattle.demand_checks.proofs.Pointed.{pointed}
use Rattle.life_tables.specs.declared.lasts.Setting.{Setting}
use Rattle.life_tables.specs.Lives.{HasLife, AreLastsTo, body_in}
use Rattle.life_tables.proofs.EndsAdded.{end_is}

-- a number that is no port has a life without ends
past_port : (ports : List Port) (m : ℕ) → length ports ≤ m → (nth_port ports m).life ≡ []
past_port [] m past = refl
past_port (port ∷ ports) zero past = absurd (omega arith)
past_port (port ∷ ports) (suc m) past = past_port ports m (omega arith)

length_ports : (ports : List CorePort) → length (map port_of ports) ≡ length ports
length_ports [] = refl
length_ports (port ∷ ports) = let rest = length_ports ports in omega arith

pub no_life : (ports : List CorePort) (m : ℕ) → length ports ≤ m → (nth_port (map port_of ports) m).life ≡ []
no_life ports m past = let same = length_ports ports in past_port (map port_of ports) m (omega arith)

-- the node from which a life lasts is one of the graph
pub node_there : (body : Term) (elab : Elab) → IsTwice body elab → Numbered [] 0 body → (site : ℕ) → site < size body → node_of body (end_of site) < length elab.graph
node_there body elab is numbered site inside =
    (is.stands.inside (end_of site) (pointed body numbered (record { late = false; end = true; site = site }) inside)).0

pub from_there : (body : Term) (elab : Elab) → IsTwice body elab → Numbered [] 0 body → (site : ℕ) → site < size body → (points : Points) → points_in elab 1 site ≡ Some points → points.end < length elab.graph
from_there body elab is numbered site inside points read =
    let Less : ℕ → Type 0 = λ node. node < length elab.graph in
    subst Less (sym (end_is body elab is false site inside points read)) (node_there body elab is numbered site inside)

-- what was filled is the table of the life
pub life_there : (p : Process) (body : Term) (elab : Elab) → IsTwice body elab → (lasts : Lasts) (site port : ℕ) → site < size body
    → (points : Points) → points_in elab 1 site ≡ Some points → (ends : List life.End) → endings_of ends ≡ endings body (node_of body) (life_of p port)
    → HasTableOf lasts site elab.graph points.end (endings_of ends) → HasLife p body lasts site port
life_there p body elab is lasts site port inside points read ends ends_are has =
    let OfEvents : List Event → Type 0 = λ events. HasTableOf lasts site events (node_of body (end_of site)) (endings body (node_of body) (life_of p port)) in
    let OfFrom : ℕ → Type 0 = λ from. HasTableOf lasts site elab.graph from (endings body (node_of body) (life_of p port)) in
    let OfEnds : List (Ending ℕ) → Type 0 = λ these. HasTableOf lasts site elab.graph points.end these in
    subst OfEvents is.graph (subst OfFrom (end_is body elab is false site inside points read) (subst OfEnds ends_are has))

two_ways : (k n : ℕ) → k < n + 1 → (k < n) ⊎ (k ≡ n)
two_ways k n within = grind arith

still_has : (old new : Lasts) (site : ℕ) (events : List Event) (from : ℕ) (ends : List (Ending ℕ)) → table_of new site ≡ table_of old site → HasTableOf old site events from ends → HasTableOf new site events from ends
still_has old new site events from ends same has = (has.0, same ∙ has.1, has.2)

pub next_site : (setting : Setting) (deeds : List Deed) (to : ℕ) (old new : Lasts) (here : Deed) → here ≡ deed_at deeds to → AreLastsTo setting deeds to old
    → ((widths : Widths) (port : ℕ) → here ≡ deed.Sends port → HasLife (process_in setting.proc.now) (body_in widths setting) new to port)
    → ((other : ℕ) → (other ≡ to → ⊥) → table_of new other ≡ table_of old other) → AreLastsTo setting deeds (to + 1) new
next_site setting deeds to old new here is before added others =
    record {
      has = λ widths site port within told. has widths site port told (two_ways site to within);
      free = λ site after. others site (λ same. let at : site ≡ to = same in let none : ⊥ = omega arith in none) ∙ before.free site (omega arith);
    }
  where
    has : (widths : Widths) (site port : ℕ) → deed_at deeds site ≡ deed.Sends port → (site < to) ⊎ (site ≡ to) → HasLife (process_in setting.proc.now) (body_in widths setting) new site port
    has widths site port told (inl earlier) = still_has old new site _ _ _ (others site (λ same. let at : site ≡ to = same in let none : ⊥ = omega arith in none)) (before.has widths site port earlier told)
    has widths site port told (inr at) =
        let Life : ℕ → Type 0 = λ q. HasLife (process_in setting.proc.now) (body_in widths setting) new q port in
        subst Life (sym at) (added widths port (is ∙ (ap (deed_at deeds) (sym at) ∙ told)))

pub all_sites : (setting : Setting) (widths : Widths) (deeds : List Deed) → Numbered [] 0 (body_in widths setting) → AreDeeds (body_in widths setting) deeds → (to : ℕ) (lasts : Lasts)
    → size (body_in widths setting) ≤ to → AreLastsTo setting deeds to lasts → AreLastsOf (process_in setting.proc.now) (body_in widths setting) lasts
all_sites setting widths deeds numbered are to lasts past filled site port has =
    let body = body_in widths setting in
    let Below : ℕ → Type 0 = λ q. q < size body in
    let below : site < size body = subst Below has.3 (site_below body has.1 has.0 numbered has.2) in
    filled.has widths site port (omega arith) (send_deed body deeds are site port has)
