-- A run on a stimulus is one.
--
-- The claim: of a stimulus there are rows at most once, but for what they are beside their cells, so what is seen of a run on them is
-- one, and so are its first broken promise and what is told of it.
use Rattle.std.proofs.Common.{◌≡◌, ◌∙◌, inl, inr, ℕ, ◌<◌, List, length, map, ap, sym, subst}
use Rattle.std.specs.Prelude.{IsTrue}
use Rattle.std.specs.List.{list_all}
use Rattle.std.proofs.lemmas.Bool.{cases_order}
use Rattle.core_term.specs.declared.rows.Row.{Row}
use Rattle.core_term.specs.Breach.{IsFirstBreach}
use Rattle.core_term.specs.Process.{Process, nth_port}
use Rattle.core_term.specs.Sized.{port_fits}
use Rattle.core_term.specs.Wires.{Wires}
use Rattle.stim_text.specs.Answers.{cells_of, AreRowsOf}
use Rattle.run_log.specs.Shown.{Shown}
use Rattle.run_log.specs.Log.{IsKeptTo, log_to}
use Rattle.tool_stages.specs.Logs.{IsBrokenLog, breach_line}
use Rattle.tool_stages.proofs.Stimuli.{rows_once}

-- what is seen of a run depends on the cells of the rows alone, and has a cycle for each row
pub record IsRun (shown : List Row → Shown) : Type 0 where
  pub alike : (rows others : List Row) → map cells_of rows ≡ map cells_of others → shown rows ≡ shown others
  pub count : (rows : List Row) → (shown rows).wires.count ≡ length rows

-- The first broken promise.

module _ (p : Process) (seen : Wires) where
  earlier : (cycle other port next : ℕ) → IsFirstBreach p seen cycle port → IsFirstBreach p seen other next → cycle < other → ⊥
  earlier cycle other port next first second less = first.broken (second.before cycle less port first.received)

  lower : (cycle port next : ℕ) → IsFirstBreach p seen cycle port → IsFirstBreach p seen cycle next → port < next → ⊥
  lower cycle port next first second less = first.broken (second.first port less first.received)

  pub same_cycle : (cycle other port next : ℕ) → IsFirstBreach p seen cycle port → IsFirstBreach p seen other next → cycle ≡ other
  same_cycle cycle other port next first second = elim (cases_order cycle other) [
    | inl same ↦ same
    | inr (inl less) ↦ absurd (earlier cycle other port next first second less)
    | inr (inr more) ↦ absurd (earlier other cycle next port second first more)
  ]

  pub same_port : (cycle port next : ℕ) → IsFirstBreach p seen cycle port → IsFirstBreach p seen cycle next → port ≡ next
  same_port cycle port next first second = elim (cases_order port next) [
    | inl same ↦ same
    | inr (inl less) ↦ absurd (lower cycle port next first second less)
    | inr (inr more) ↦ absurd (lower cycle next port second first more)
  ]

module _ (p : Process) (shown : List Row → Shown) (run : IsRun shown) (stimulus : List ℕ) (widths : IsTrue (list_all port_fits p.ports)) where
  same_shown : (rows others : List Row) → AreRowsOf p.ports stimulus rows → AreRowsOf p.ports stimulus others → shown rows ≡ shown others
  same_shown rows others are are_too = run.alike rows others (rows_once p.ports stimulus widths rows others are are_too)

  pub broken_once : (text other line said : List ℕ) → IsBrokenLog p shown stimulus text line → IsBrokenLog p shown stimulus other said → (text ≡ other) × (line ≡ said)
  broken_once text other line said one two =
      let same = same_shown one.rows two.rows one.are two.are in
      let second : IsFirstBreach p (shown one.rows).wires two.cycle two.port = subst (λ (seen : Shown). IsFirstBreach p seen.wires two.cycle two.port) (sym same) two.first in
      let cycle = same_cycle p (shown one.rows).wires one.cycle two.cycle one.port two.port one.first second in
      let at_cycle : IsFirstBreach p (shown one.rows).wires one.cycle two.port = subst (λ t. IsFirstBreach p (shown one.rows).wires t two.port) (sym cycle) second in
      let port = same_port p (shown one.rows).wires one.cycle one.port two.port one.first at_cycle in (
        one.is ∙ (ap (λ seen. log_to p seen one.cycle) same ∙ (ap (log_to p (shown two.rows)) cycle ∙ sym two.is)),
        one.told ∙ (ap (λ t. breach_line t (nth_port p.ports one.port)) cycle ∙ (ap (λ m. breach_line two.cycle (nth_port p.ports m)) port ∙ sym two.told)),
      )

  -- where every promise is kept none is the first that is broken
  pub kept_or_broken : (rows : List Row) → AreRowsOf p.ports stimulus rows → IsKeptTo p (shown rows) (length rows) → (text line : List ℕ) → IsBrokenLog p shown stimulus text line → ⊥
  kept_or_broken rows are kept text line broken =
      let same = same_shown broken.rows rows broken.are are in
      let first : IsFirstBreach p (shown rows).wires broken.cycle broken.port = subst (λ (seen : Shown). IsFirstBreach p seen.wires broken.cycle broken.port) same broken.first in
      let within : broken.cycle < length rows = subst (λ n. broken.cycle < n) (run.count rows) first.within in
      first.broken (kept broken.cycle within broken.port first.received)
