-- The tables of lives while they are filled, site by site.
use Rattle.std.specs.Prelude.{ℕ, ◌≡◌, ◌<◌, ◌≤◌, List, [], None}
use Rattle.core_term.specs.Term.{Term}
use Rattle.core_term.specs.Numbering.{Numbered}
use Rattle.core_term.specs.Widths.{Widths}
use Rattle.core_term.specs.View.{term_of}
use Rattle.core_term.specs.Process.{Process, life_of}
use Rattle.core_term.specs.Rules.{end_of}
use Rattle.core_term.specs.AcceptedFile.{process_in}
use Rattle.event_graph.specs.Forms.{delays}
use Rattle.event_order.specs.Order.{IsOrderOf}
use Rattle.event_points.specs.Nodes.{twice, node_of}
use Rattle.event_points.specs.Endings.{endings}
use Rattle.elaborator.specs.Turns.{IsTwice}
use Rattle.lifetimes.specs.declared.lasts.Lasts.{Lasts}
use Rattle.lifetimes.specs.Lasts.{table_of, HasTableOf}
use Rattle.act_deeds.specs.declared.deed.Deed.{Deed}
use Rattle.act_deeds.specs.declared.deed.Deed.TheVariants.{Sends}
use Rattle.demand_checks.specs.Deeds.{deed_at}
use Rattle.life_tables.specs.declared.lasts.Setting.{Setting}

-- the site has the table of the life of what it sends on the port
abbrev pub HasLife : Process → Term → Lasts → (site port : ℕ) → Type 0
HasLife p body lasts site port =
    HasTableOf lasts site (twice body) (node_of body (end_of site)) (endings body (node_of body) (life_of p port))

abbrev pub body_in : Widths → Setting → Term
body_in widths setting = term_of widths setting.thread.now

-- the graph is that of two turns of the thread, with its order
pub record IsSetting (setting : Setting) : Type 0 where
  pub twice : (widths : Widths) → IsTwice (body_in widths setting) setting.elab.now
  pub numbered : (widths : Widths) → Numbered [] 0 (body_in widths setting)
  pub order_is : IsOrderOf setting.elab.now.graph setting.order.now
  pub short : delays setting.elab.now.graph < 1073741824

-- the sends before a site have their tables, and the other sites have none yet
pub record AreLastsTo (setting : Setting) (deeds : List Deed) (to : ℕ) (lasts : Lasts) : Type 0 where
  pub has : (widths : Widths) (site port : ℕ) → site < to → deed_at deeds site ≡ Sends port
      → HasLife (process_in setting.proc.now) (body_in widths setting) lasts site port
  pub free : (site : ℕ) → to ≤ site → table_of lasts site ≡ None
