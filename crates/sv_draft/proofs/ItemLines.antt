-- What a line comes to where it is a declaration, and where it is none.
use Rattle.std.proofs.Common.{◌≡◌, ℕ, List, Option, Result, sym, subst}
use Rattle.sv_tree.specs.Module.{Module}
use Rattle.sv_lines.specs.Lines.{Declared, declaration}
use Rattle.sv_lines.specs.Step.{Reached, item_by, item_step}
use Rattle.sv_draft.specs.declared.fault.Fault.{Fault}
use Rattle.sv_draft.specs.Reached.{IsReading}

pub item_read : {T : Type 0} (view : T → Reached) (draft : Module) (line : List ℕ) (found : Option Declared) (result : Result T Fault) → declaration line ≡ found
    → IsReading view (item_by draft line found) result → IsReading view (item_step draft line) result
item_read view draft line found result is reads = subst (λ declared. IsReading view (item_by draft line declared) result) (sym is) reads
