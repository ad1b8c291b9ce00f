-- The line of a summary is what `gen` writes, and what is promised where it begins is promised of its words.
use Rattle.std.proofs.Common.{◌≤◌, ℕ, List, ap₂, subst, sym}
use Rattle.command_words.specs.Form.{gen_form, most_number}
use Rattle.tool_answers.specs.declared.status.Status.{Status}
use Rattle.tool_answers.specs.Answered.{Answered, ShelfSeen, SinkSeen}
use Rattle.checked_files.specs.Check.{IsAcceptedText}
use Rattle.generated_file.specs.Generated.{generated}
use Rattle.generated_runs.specs.declared.summary.Summary.{Summary}
use Rattle.generated_runs.specs.Summary.{IsSummary, IsSummed, summary_line}
use Rattle.tool_stages.specs.Stages.{start_of}
use Rattle.tool_stages.proofs.Exact.{gen_begins, gen_start}

pub from_start : (count : ℕ) → 1 ≤ count → count ≤ most_number → (status : Status) (shelf : ShelfSeen) (out err : SinkSeen) → Answered (gen_start count) status shelf out err
    → Answered (start_of (gen_form count)) status shelf out err
from_start count some few status shelf out err one = subst (λ begin. Answered begin status shelf out err) (sym (gen_begins count some few)) one

abbrev pub line_of : Summary → List ℕ
line_of summary = summary_line summary.processes summary.bytes summary.totals

module _ (count : ℕ) (summary : Summary) (summed : IsSummed count summary) where
  pub accepted_by : IsAcceptedText (generated count)
  accepted_by = record { file = summed.counted.file; is = summed.counted.accepted }

  pub written_by : IsSummary count (line_of summary)
  written_by = record {
    totals = summary.totals;
    counted = summed.counted;
    is = ap₂ (λ processes bytes. summary_line processes bytes summary.totals) summed.processes summed.bytes;
  }
