-- The processes of the generated file are as many as the number says, have its ports, and keep the timing rules.
use Rattle.std.proofs.Common.{◌≡◌, ◌∙◌, ℕ, zero, suc, ◌≤◌, List, [], ◌∷◌, length, map, refl, ap, sym, subst}
use Rattle.std.specs.Prelude.{replicate}
use Rattle.std.specs.List.{All}
use Rattle.std.proofs.lemmas.List.Elements.{All-cons, All-nil}
use Rattle.std.proofs.lemmas.List.{length-map, length-replicate}
use Rattle.core_file.specs.CoreFile.{Placed, placed_of}
use Rattle.core_term.specs.declared.process.CoreProc.{CoreProc}
use Rattle.core_term.specs.AcceptedFile.{file_of, process_in}
use Rattle.core_term.specs.Process.{Process}
use Rattle.core_term.specs.Rules.{KeepsDemands}
use Rattle.core_term.specs.Violations.{IsNth}
use Rattle.run_laws.proofs.safe_runs.NoViolations.{from_empty}
use Rattle.checked_files.specs.Check.{IsAcceptedCore, processes_in}
use Rattle.checked_files.proofs.Ruled.{processes_are}
use Rattle.generated_file.specs.Generated.{generated}
use Rattle.generated_tree.specs.Ports.{generated_ports, ports_in}
use Rattle.generated_tree.proofs.Ports.{ports_are_known}
use Rattle.generated_runs.specs.Ready.{IsReady}

each_ready : (count : ℕ) (procs : List CoreProc) → ports_in (map placed_of procs) ≡ replicate count generated_ports
    → ((i : ℕ) (p : Process) → IsNth (file_of procs) i p → KeepsDemands p) → All (λ proc. IsReady (process_in proc)) procs
each_ready count [] are keep = All-nil _
each_ready zero (proc ∷ procs) are keep = absurd cc
each_ready (suc count) (proc ∷ procs) are keep =
    let here : (process_in proc).ports ≡ generated_ports = cc in
    let rest : ports_in (map placed_of procs) ≡ replicate count generated_ports = cc in
    All-cons (λ proc. IsReady (process_in proc)) proc procs (record { ports = here; keeps = keep 0 (process_in proc) refl })
    (each_ready count procs rest (λ i p nth. keep (suc i) p nth))

pub record AreReady (count : ℕ) (procs : List CoreProc) : Type 0 where
  pub many : length procs ≡ count
  pub ready : All (λ proc. IsReady (process_in proc)) procs

pub are_ready : (count : ℕ) → 1 ≤ count → count ≤ 64 → (procs : List CoreProc) → IsAcceptedCore (generated count) procs → AreReady count procs
are_ready count some few procs core =
    let text = core.accepted.spelled.spelled in
    let ports : ports_in (map placed_of procs) ≡ replicate count generated_ports =
    ap ports_in core.core ∙ ports_are_known count some few text.tokens core.file text.spelled text.accepted.is in
    record {
      many = sym (length-map procs placed_of) ∙ (sym (length-map (map placed_of procs) (λ (placed : Placed). placed.process.ports)) ∙ (ap length ports ∙ length-replicate count generated_ports));
      ready = each_ready count procs ports
          (subst (λ (processes : List Process). (i : ℕ) (p : Process) → IsNth processes i p → KeepsDemands p) (sym (processes_are core.file procs core.core))
          (from_empty (processes_in core.file) core.accepted.accepted));
    }
