-- The clauses are those of the command, or no memory was found for its words.
use Rattle.std.proofs.Common.{◌≡◌, ◌∙◌, ◌⊎◌, inl, inr, List, ℕ, Option, Some, None, refl, subst, sym}
use Rattle.std.specs.Prelude.{IfSome}
use Rattle.std.specs.Io.KnownBytes.{Appends}
use Rattle.command_words.specs.Form.{Form, form_of, words_of}
use Rattle.command_words.specs.Seen.{form_seen}
use Rattle.tool_answers.specs.declared.refusal.Refusal.{Refusal}
use Rattle.tool_answers.specs.declared.status.Status.{Status}
use Rattle.tool_answers.specs.declared.status.Status.TheVariants.{Breach, Done, NoMemory, Refused, TooLong, WriteFault}
use Rattle.tool_answers.specs.Answer.{Breaks, Ends, HasNoFault, IsFirstRefusal, IsUntouched, LineFailed, Overflows, Tells, of_memory}
use Rattle.tool_answers.specs.Answered.{Says, ShelfSeen, SinkSeen, shelf_seen, sink_seen}
use Rattle.tool_answers.specs.Lines.{IsLineOf, no_memory_line, refusal_line}
use Rattle.tool_answers.proofs.Ways.{no_rise}
use Rattle.tool_stages.specs.SameLog.{AnswersAsRun, HasWritten}
use Rattle.tool_stages.specs.Stages.{IsLineFor, start_of}
use Rattle.tool_stages.proofs.AsRun.{as_run}
use Rattle.anvil_tool.proofs.tool.run_tool.Goals as goal

-- what holds of every form holds of that which there is
of_form : (form : Option Form) (G : Form → Type 0) → ((one : Form) → G one) → IfSome form G
of_form None G each = tt
of_form (Some one) G each = each one

-- What a clause says of one form.

abbrev Lengths : ShelfSeen → Status → Form → Type 0
Lengths shelf status form = (loaded : List (List ℕ)) → Overflows shelf.told (start_of form) loaded → HasNoFault shelf.before shelf.now → (status ≡ TooLong) ⊎ (status ≡ WriteFault) ⊎ (status ≡ NoMemory)

abbrev Refusals : ShelfSeen → (out err : SinkSeen) → Status → Form → Type 0
Refusals shelf out err status form = (refusal : Refusal) → IsFirstRefusal (Tells shelf.told) (start_of form) refusal → HasNoFault shelf.before shelf.now
    → ((status ≡ Refused) × Appends err.old err.new (refusal_line refusal)) ⊎ (status ≡ NoMemory)
    ⊎ ((status ≡ WriteFault) × IsUntouched out.old out.new out.before out.now × LineFailed (IsLineOf refusal) err.old err.new err.before err.now)

abbrev Breaches : ShelfSeen → (out err : SinkSeen) → Status → Form → Type 0
Breaches shelf out err status form = (text line : List ℕ) → Breaks (Tells shelf.told) (start_of form) text line → HasNoFault shelf.before shelf.now → HasNoFault out.before out.now → HasNoFault err.before err.now
    → ((status ≡ Breach) × Appends out.old out.new text × Appends err.old err.new line) ⊎ (status ≡ NoMemory)

abbrev Completes : ShelfSeen → (out err : SinkSeen) → Status → Form → Type 0
Completes shelf out err status form = (loaded : List (List ℕ)) → Ends (Tells shelf.told) (start_of form) loaded → HasNoFault shelf.before shelf.now → HasNoFault out.before out.now → HasNoFault err.before err.now
    → (status ≡ Done) ⊎ (status ≡ NoMemory)

abbrev SameLogs : ShelfSeen → (out err : SinkSeen) → Status → Form → Type 0
SameLogs shelf out err status form = (bytes name stimulus : List ℕ) → HasWritten shelf.told form bytes name stimulus → AnswersAsRun bytes name stimulus status out.old out.new err.old err.new

-- a status is one alone
both : (status one other : Status) → status ≡ one → status ≡ other → one ≡ other
both status one other is is_too = sym is ∙ is_too

done_or_memory : Done ≡ NoMemory → ⊥
done_or_memory same = cc

done_or_fault : Done ≡ WriteFault → ⊥
done_or_fault same = cc

breach_or_memory : Breach ≡ NoMemory → ⊥
breach_or_memory same = cc

breach_or_fault : Breach ≡ WriteFault → ⊥
breach_or_fault same = cc

refused_or_memory : Refused ≡ NoMemory → ⊥
refused_or_memory same = cc

refused_or_fault : Refused ≡ WriteFault → ⊥
refused_or_fault same = cc

-- Where no memory was found for the words, whatever form they have.
module _ (shelf : ShelfSeen) (out err : SinkSeen) (status : Status) (says : Says no_memory_line NoMemory status err) (untouched : IsUntouched out.old out.new out.before out.now) (form : Form) where
  lengths : Lengths shelf status form
  lengths loaded long fine = elim says.said [ inl is ↦ inr (inr is) | inr is ↦ inr (inl is) ]

  refusals : Refusals shelf out err status form
  refusals refusal first fine = elim says.said [
    | inl is ↦ inr (inl is)
    | inr is ↦ inr (inr (is, untouched, record { line = no_memory_line; one = inr refl; part = says.part is; cause = says.cause is }))
  ]

  breaches : Breaches shelf out err status form
  breaches text line broken loads puts lines = elim says.said [
    | inl is ↦ inr is
    | inr is ↦ absurd (no_rise err.before err.now lines (says.cause is))
  ]

  completes : Completes shelf out err status form
  completes loaded ends loads puts lines = elim says.said [
    | inl is ↦ inr is
    | inr is ↦ absurd (no_rise err.before err.now lines (says.cause is))
  ]

  same_logs : SameLogs shelf out err status form
  same_logs bytes name stimulus has = record {
    done = λ is. absurd (elim says.said [
      | inl memory ↦ done_or_memory (both status Done NoMemory is memory)
      | inr fault ↦ done_or_fault (both status Done WriteFault is fault)
    ]);
    breach = λ is. absurd (elim says.said [
      | inl memory ↦ breach_or_memory (both status Breach NoMemory is memory)
      | inr fault ↦ breach_or_fault (both status Breach WriteFault is fault)
    ]);
    refused = λ is. absurd (elim says.said [
      | inl memory ↦ refused_or_memory (both status Refused NoMemory is memory)
      | inr fault ↦ refused_or_fault (both status Refused WriteFault is fault)
    ]);
  }

memory_line : (told : List ℕ → Option (List ℕ)) (form : Option Form) → IsLineFor told form no_memory_line
memory_line told None = inr refl
memory_line told (Some form) = of_memory

pub returns-in-Ok-Some-clause-every_breach : goal.returns-in-Ok-Some-clause-every_breach
returns-in-Ok-Some-clause-every_breach g c =
    let shelf = shelf_seen (g.S.Shelf.told c.args.shelf.now) (g.S.Shelf.faults c.args.shelf.now) (g.S.Shelf.faults c.obey.new.shelf) (g.S.Shelf.taken c.args.shelf.now) (g.S.Shelf.taken c.obey.new.shelf) in
    let out = sink_seen (g.O.Sink.held c.args.out.now) (g.O.Sink.held c.obey.new.out) (g.O.Sink.faults c.args.out.now) (g.O.Sink.faults c.obey.new.out) in
    let err = sink_seen (g.E.Sink.held c.args.err.now) (g.E.Sink.held c.obey.new.err) (g.E.Sink.faults c.args.err.now) (g.E.Sink.faults c.obey.new.err) in
    let here : Breaches shelf out err c.obey.result (form_seen c.in-Ok-Some.command) = λ text line broken loads puts lines. c.obey.ensures.every_breach text line broken (record { loads = loads; puts = puts; lines = lines }) in
    let same : Some (form_seen c.in-Ok-Some.command) ≡ form_of (words_of c.args.words.now) = rw c.in-Ok-Some.field-0-is at c.in-Ok-Some.ensures.form in
    subst (λ form. IfSome form (Breaches shelf out err c.obey.result)) same here

pub returns-in-Ok-Some-clause-same_log : goal.returns-in-Ok-Some-clause-same_log
returns-in-Ok-Some-clause-same_log g c =
    let shelf = shelf_seen (g.S.Shelf.told c.args.shelf.now) (g.S.Shelf.faults c.args.shelf.now) (g.S.Shelf.faults c.obey.new.shelf) (g.S.Shelf.taken c.args.shelf.now) (g.S.Shelf.taken c.obey.new.shelf) in
    let out = sink_seen (g.O.Sink.held c.args.out.now) (g.O.Sink.held c.obey.new.out) (g.O.Sink.faults c.args.out.now) (g.O.Sink.faults c.obey.new.out) in
    let err = sink_seen (g.E.Sink.held c.args.err.now) (g.E.Sink.held c.obey.new.err) (g.E.Sink.faults c.args.err.now) (g.E.Sink.faults c.obey.new.err) in
    let here : SameLogs shelf out err c.obey.result (form_seen c.in-Ok-Some.command) = λ bytes name stimulus has. as_run (g.S.Shelf.told c.args.shelf.now) (form_seen c.in-Ok-Some.command) bytes name stimulus has c.obey.result shelf out err refl c.obey.ensures in
    let same : Some (form_seen c.in-Ok-Some.command) ≡ form_of (words_of c.args.words.now) = rw c.in-Ok-Some.field-0-is at c.in-Ok-Some.ensures.form in
    subst (λ form. IfSome form (SameLogs shelf out err c.obey.result)) same here

pub returns-in-Err-clause-every_length : goal.returns-in-Err-clause-every_length
returns-in-Err-clause-every_length g c =
    let shelf = shelf_seen (g.S.Shelf.told c.args.shelf.now) (g.S.Shelf.faults c.args.shelf.now) (g.S.Shelf.faults c.args.shelf.now) (g.S.Shelf.taken c.args.shelf.now) (g.S.Shelf.taken c.args.shelf.now) in
    let out = sink_seen (g.O.Sink.held c.args.out.now) (g.O.Sink.held c.args.out.now) (g.O.Sink.faults c.args.out.now) (g.O.Sink.faults c.args.out.now) in
    let err = sink_seen (g.E.Sink.held c.args.err.now) (g.E.Sink.held c.complain_memory.new.err) (g.E.Sink.faults c.args.err.now) (g.E.Sink.faults c.complain_memory.new.err) in
    of_form (form_of (words_of c.args.words.now)) (Lengths shelf c.complain_memory.result) (lengths shelf out err c.complain_memory.result c.complain_memory.ensures (record { same = refl; fine = refl }))

pub returns-in-Err-clause-every_refusal : goal.returns-in-Err-clause-every_refusal
returns-in-Err-clause-every_refusal g c =
    let shelf = shelf_seen (g.S.Shelf.told c.args.shelf.now) (g.S.Shelf.faults c.args.shelf.now) (g.S.Shelf.faults c.args.shelf.now) (g.S.Shelf.taken c.args.shelf.now) (g.S.Shelf.taken c.args.shelf.now) in
    let out = sink_seen (g.O.Sink.held c.args.out.now) (g.O.Sink.held c.args.out.now) (g.O.Sink.faults c.args.out.now) (g.O.Sink.faults c.args.out.now) in
    let err = sink_seen (g.E.Sink.held c.args.err.now) (g.E.Sink.held c.complain_memory.new.err) (g.E.Sink.faults c.args.err.now) (g.E.Sink.faults c.complain_memory.new.err) in
    of_form (form_of (words_of c.args.words.now)) (Refusals shelf out err c.complain_memory.result) (refusals shelf out err c.complain_memory.result c.complain_memory.ensures (record { same = refl; fine = refl }))

pub returns-in-Err-clause-every_breach : goal.returns-in-Err-clause-every_breach
returns-in-Err-clause-every_breach g c =
    let shelf = shelf_seen (g.S.Shelf.told c.args.shelf.now) (g.S.Shelf.faults c.args.shelf.now) (g.S.Shelf.faults c.args.shelf.now) (g.S.Shelf.taken c.args.shelf.now) (g.S.Shelf.taken c.args.shelf.now) in
    let out = sink_seen (g.O.Sink.held c.args.out.now) (g.O.Sink.held c.args.out.now) (g.O.Sink.faults c.args.out.now) (g.O.Sink.faults c.args.out.now) in
    let err = sink_seen (g.E.Sink.held c.args.err.now) (g.E.Sink.held c.complain_memory.new.err) (g.E.Sink.faults c.args.err.now) (g.E.Sink.faults c.complain_memory.new.err) in
    of_form (form_of (words_of c.args.words.now)) (Breaches shelf out err c.complain_memory.result) (breaches shelf out err c.complain_memory.result c.complain_memory.ensures (record { same = refl; fine = refl }))

pub returns-in-Err-clause-write_fault : goal.returns-in-Err-clause-write_fault
returns-in-Err-clause-write_fault g c = λ failed.
    inr (inl (record { same = refl; fine = refl }, record { line = no_memory_line; one = memory_line (g.S.Shelf.told c.args.shelf.now) (form_of (words_of c.args.words.now)); part = c.complain_memory.ensures.part failed; cause = c.complain_memory.ensures.cause failed }))

pub returns-in-Err-clause-complete : goal.returns-in-Err-clause-complete
returns-in-Err-clause-complete g c =
    let shelf = shelf_seen (g.S.Shelf.told c.args.shelf.now) (g.S.Shelf.faults c.args.shelf.now) (g.S.Shelf.faults c.args.shelf.now) (g.S.Shelf.taken c.args.shelf.now) (g.S.Shelf.taken c.args.shelf.now) in
    let out = sink_seen (g.O.Sink.held c.args.out.now) (g.O.Sink.held c.args.out.now) (g.O.Sink.faults c.args.out.now) (g.O.Sink.faults c.args.out.now) in
    let err = sink_seen (g.E.Sink.held c.args.err.now) (g.E.Sink.held c.complain_memory.new.err) (g.E.Sink.faults c.args.err.now) (g.E.Sink.faults c.complain_memory.new.err) in
    of_form (form_of (words_of c.args.words.now)) (Completes shelf out err c.complain_memory.result) (completes shelf out err c.complain_memory.result c.complain_memory.ensures (record { same = refl; fine = refl }))

pub returns-in-Err-clause-same_log : goal.returns-in-Err-clause-same_log
returns-in-Err-clause-same_log g c =
    let shelf = shelf_seen (g.S.Shelf.told c.args.shelf.now) (g.S.Shelf.faults c.args.shelf.now) (g.S.Shelf.faults c.args.shelf.now) (g.S.Shelf.taken c.args.shelf.now) (g.S.Shelf.taken c.args.shelf.now) in
    let out = sink_seen (g.O.Sink.held c.args.out.now) (g.O.Sink.held c.args.out.now) (g.O.Sink.faults c.args.out.now) (g.O.Sink.faults c.args.out.now) in
    let err = sink_seen (g.E.Sink.held c.args.err.now) (g.E.Sink.held c.complain_memory.new.err) (g.E.Sink.faults c.args.err.now) (g.E.Sink.faults c.complain_memory.new.err) in
    of_form (form_of (words_of c.args.words.now)) (SameLogs shelf out err c.complain_memory.result) (same_logs shelf out err c.complain_memory.result c.complain_memory.ensures (record { same = refl; fine = refl }))
