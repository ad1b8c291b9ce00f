-- A module that the line makes whole is well-formed and of a new name.
use Rattle.sv_lines.specs.Good.{IsGood}
use Rattle.sv_lines.specs.State.{inside}
use Rattle.sv_lines.proofs.kept.Finishing.{finished_of}
use Rattle.sv_draft.specs.SeenDraft.{draft_of}
use Rattle.sv_draft.specs.Reached.{wanted_of}
use Rattle.sv_reader.proofs.reading.Reading.step.Goals as goal

pub end-requires : goal.end-requires
end-requires c =
    let whole = c.args.self.now.whole in
    let draft = draft_of c.in-Some.draft in
    let wanted = wanted_of c.args.self.now.wanted in
    let good : IsGood (inside whole draft wanted) = rw c.in-Some.is at c.requires in
    let done = finished_of whole draft wanted c.args.line.now (draft_of c.draft_step.new.draft) good (rw c.in-Ok-Finished.field-0-is at c.in-Ok-Finished.ensures) in
    record { well_formed = done.well_formed; fresh = done.name.is_new }
