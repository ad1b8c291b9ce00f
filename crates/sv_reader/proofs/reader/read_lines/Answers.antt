-- Each line is read, or stops the reading at its place; a rest without a line feed is left.
use Rattle.std.proofs.Common.{◌≡◌, ◌⊎◌, ◌-◌, ℕ, List, [], length, None, inl, inr}
use Rattle.sv_reader.specs.declared.error.SvErr.{SvErr}
use Rattle.sv_reader.specs.declared.error.SvErr.TheVariants.{NotEmitted, NoMemory}
use Rattle.sv_draft.specs.declared.fault.Fault.{Fault}
use Rattle.sv_draft.specs.declared.fault.Fault.TheVariants as fault
use Rattle.sv_lines.specs.State.{start}
use Rattle.sv_lines.specs.Step.{read_on, stopped, step}
use Rattle.sv_reader.specs.SeenState.{fault_at, state_of}
use Rattle.sv_lines.proofs.answer.ReadLines.{line_passed, line_stopped, piece_left'}
use Rattle.sv_reader.proofs.reader.read_lines.Goals as goal

-- a line that is not read, with the answer for it
refused : (fault' : Fault) (result : SvErr) (whole : List ℕ) (place : ℕ) (cannot : Type 0) → (cannot → read_on start 0 [] whole ≡ stopped place)
    → (fault' ≡ fault.NoMemory) ⊎ (cannot × (fault' ≡ fault.CannotStand)) → result ≡ fault_at place fault'
    → (result ≡ NoMemory) ⊎ ((at : ℕ) × (result ≡ NotEmitted at) × (read_on start 0 [] whole ≡ stopped at))
refused fault' result whole place cannot stops (inl full) is = inl (rw full at is)
refused fault' result whole place cannot stops (inr (none, known)) is = inr (place, rw known at is, stops none)

pub loop-line-preserved : goal.loop-line-preserved
loop-line-preserved c =
    let cut = c.in-Some.ensures in
    line_passed c.args.text.now c.loop-line.rest.now c.in-Some.line.now c.in-Some.behind.now (state_of c.loop-line.reading) (state_of c.step.new.self)
    c.loop-line.invariant cut.0 cut.1 c.in-Ok.ensures

pub returns-in-Err-clause-lines : goal.returns-in-Err-clause-lines
returns-in-Err-clause-lines c =
    let cut = c.in-Some.ensures in
    refused c.in-Err.fault c.refusal.result c.args.text.now (length c.args.text.now - length c.loop-line.rest.now) (step (state_of c.loop-line.reading) c.in-Some.line.now ≡ None)
    (λ none. line_stopped c.args.text.now c.loop-line.rest.now c.in-Some.line.now c.in-Some.behind.now (state_of c.loop-line.reading) c.loop-line.invariant cut.0 cut.1 none)
    c.in-Err.ensures c.refusal.ensures

pub returns-clause-lines : goal.returns-clause-lines
returns-clause-lines c = piece_left' c.args.text.now c.loop-line.rest.now (state_of c.loop-line.reading) c.loop-line.invariant c.in_default.ensures
