-- The steps of a command, each with what it promises.
--
-- The claim: at a stage a load fails, or gives bytes, and then what is promised from the stage behind it is promised from this one;
-- or the stage refuses, or no memory is found; or behind the last stage a text is put, or stops at a broken promise. The argument is
-- by the status, with what the ways from the stage lead to.
use Rattle.std.proofs.Common.{◌≡◌, ◌≢◌, inl, inr, ℕ, ◌<◌, ◌≤◌, List, [], ◌∷◌, length, Option, IfSome, IfNone, refl, sym, ap, subst}
use Rattle.std.specs.Io.KnownBytes.{Appends}
use Rattle.std.specs.Prelude.{Err}
use Rattle.anvil_io.specs.Causes.{AppendsPrefix, FaultHasCause, GrewPast, LengthHasCause, Rose}
use Rattle.anvil_io.specs.declared.outside.LoadErr.{LoadErr}
use Rattle.anvil_io.specs.declared.outside.LoadErr.TheVariants as fault
use Rattle.command_words.specs.Form.{Load}
use Rattle.tool_answers.specs.declared.refusal.Refusal.{Refusal}
use Rattle.tool_answers.specs.declared.refusal.Refusal.TheVariants.{Bare, Placed, Paired, Lined}
use Rattle.tool_answers.specs.declared.refusal.Refusal.TheVariants as why
use Rattle.tool_answers.specs.declared.status.Status.{Status}
use Rattle.tool_answers.specs.declared.status.Status.TheVariants.{Done, Refused, ReadFault, TooLong, WriteFault, Breach, NoMemory}
use Rattle.tool_answers.specs.Stages.{AreExact, Stage, Stages, behind}
use Rattle.tool_answers.specs.Lines.{no_memory_line, read_fault_line, refusal_line, too_long_line}
use Rattle.tool_answers.specs.Answer.{MayGive, Tells, Asks, IsFirstRefusal, Passes, Overflows, of_fault, of_length, of_memory, of_refusal, IsUntouched}
use Rattle.tool_answers.specs.Answered.{Answered, Says, SaysLoad, ShelfSeen, SinkSeen, WriteFailed, shelf_seen, status_of}
use Rattle.tool_answers.proofs.Ways.{last_passes, last_refusal, last_overflow, last_break, last_ends, refuses_first, refuses_once, refuses_overflow, refuses_passes, loading_asks, loading_refusal, loading_passes, on_line, on_read_fault, on_too_long, on_refused, on_written, on_cut, on_breach, on_breach_cut, back_refusal, back_overflow, back_ends, back_breaks, more_taken, past_or_told, no_rise}
use Rattle.tool_answers.proofs.Statuses.{line_cut, is_read_fault, is_too_long, is_refused, is_no_memory, is_done, text_cut, is_breach, breach_cut}

-- No memory is found, at whatever stage.
module _ (begin : Stage) (status : Status) (shelf : ShelfSeen) (out err : SinkSeen) (untouched : IsUntouched out.old out.new out.before out.now) where
  pub wants_memory : shelf.now ≡ shelf.before → Says no_memory_line NoMemory status err → Answered begin status shelf out err
  wants_memory shelf_fine says = elim says.said [
    | inl is ↦
        let put : status ≢ WriteFault = λ failed. cc in
        subst (λ s. Answered begin s shelf out err) (sym is) (is_no_memory begin shelf out err untouched (says.fine put) shelf_fine (says.whole put))
    | inr is ↦ subst (λ s. Answered begin s shelf out err) (sym is)
        (line_cut begin shelf out err untouched no_memory_line of_memory (says.part is) (says.cause is) (λ refusal first fine. inr refl))
  ]

-- A load fails.
module _ (stages : Stages) (exact : AreExact stages) (loaded : List (List ℕ)) (load : Load) (loads : List Load) (goes : stages.goes_on loaded)
    (status : Status) (shelf : ShelfSeen) (out err : SinkSeen) (untouched : IsUntouched out.old out.new out.before out.now) where
  abbrev here : Stage
  here = record { of = stages; loaded = loaded; loads = load ∷ loads }

  asks : Asks (MayGive shelf.told) here loaded load
  asks = loading_asks stages exact loaded load loads goes (MayGive shelf.told)

  pub load_faults : Rose shelf.before shelf.now → Says (read_fault_line load.name) ReadFault status err → Answered here status shelf out err
  load_faults rose says = elim says.said [
    | inl is ↦
        let put : status ≢ WriteFault = λ failed. cc in
        subst (λ s. Answered here s shelf out err) (sym is) (is_read_fault here shelf out err untouched (says.fine put) loaded load asks rose (says.whole put))
    | inr is ↦ subst (λ s. Answered here s shelf out err) (sym is)
        (line_cut here shelf out err untouched (read_fault_line load.name) (of_fault loaded load asks) (says.part is) (says.cause is)
        (λ refusal first fine. absurd (no_rise shelf.before shelf.now fine rose)))
  ]

  pub load_exceeds : IfSome (shelf.told load.name) (λ bytes. load.limit < length bytes) → IfNone (shelf.told load.name) (GrewPast load.limit shelf.taken_before shelf.taken_now)
      → shelf.now ≡ shelf.before → Says (too_long_line load.name) TooLong status err → Answered here status shelf out err
  load_exceeds long taken shelf_fine says =
      let none : (bytes : List ℕ) → Tells shelf.told load bytes → ⊥ = λ bytes tells. past_or_told (shelf.told load.name) load.limit bytes tells.tells tells.within long in
      let no_refusal = loading_refusal stages exact loaded load loads goes shelf.told none in
      elim says.said [
        | inl is ↦
            let put : status ≢ WriteFault = λ failed. cc in
            subst (λ s. Answered here s shelf out err) (sym is)
            (is_too_long here shelf out err untouched (says.fine put) shelf_fine loaded load asks long taken (says.whole put) no_refusal (loading_passes stages exact loaded load loads goes shelf.told none))
        | inr is ↦ subst (λ s. Answered here s shelf out err) (sym is)
            (line_cut here shelf out err untouched (too_long_line load.name) (of_length loaded load asks) (says.part is) (says.cause is) (λ refusal first fine. absurd (no_refusal refusal first)))
      ]

  -- whatever the fault
  pub load_fails : {T : Type 0} (why : LoadErr) → FaultHasCause {T = T} shelf.before shelf.now (Err why) → LengthHasCause {T = T} (shelf.told load.name) load.limit shelf.taken_before shelf.taken_now (Err why)
      → SaysLoad why load.name status err → Answered here status shelf out err
  load_fails fault.Fault cause lengths says = load_faults (cause.fault refl) says
  load_fails fault.TooLong cause lengths says = load_exceeds (lengths.told_long refl) (lengths.untold refl) (cause.too_long refl) says
  load_fails fault.NoMemory cause lengths says = wants_memory here status shelf out err untouched (cause.no_memory refl) says

-- A stage refuses, or finds no memory.
module _ (stages : Stages) (exact : AreExact stages) (loaded : List (List ℕ)) (loads : List Load)
    (status : Status) (shelf : ShelfSeen) (out err : SinkSeen) (untouched : IsUntouched out.old out.new out.before out.now) (shelf_fine : shelf.now ≡ shelf.before) where
  abbrev there : Stage
  there = record { of = stages; loaded = loaded; loads = loads }

  refuses_by : (refusal : Refusal) → stages.refuses loaded refusal → Says (refusal_line refusal) Refused status err → Answered there status shelf out err
  refuses_by refusal refuses says = elim says.said [
    | inl is ↦
        let put : status ≢ WriteFault = λ failed. cc in
        subst (λ s. Answered there s shelf out err) (sym is)
        (is_refused there shelf out err untouched (says.fine put) shelf_fine refusal (refuses_first stages exact loaded loads refusal refuses (MayGive shelf.told)) (says.whole put)
        (refuses_once stages exact loaded loads refusal refuses (Tells shelf.told)) (refuses_overflow stages exact loaded loads refusal refuses shelf.told)
        (refuses_passes stages exact loaded loads refusal refuses (Tells shelf.told)))
    | inr is ↦ subst (λ s. Answered there s shelf out err) (sym is)
        (line_cut there shelf out err untouched (refusal_line refusal) (of_refusal refusal (refuses_first stages exact loaded loads refusal refuses (MayGive shelf.told))) (says.part is) (says.cause is)
        (λ other first fine. inl (ap refusal_line (sym (refuses_once stages exact loaded loads refusal refuses (Tells shelf.told) other first)))))
  ]

  pub stage_refuses : (refusal : Refusal) → (refusal ≢ why.NoMemory → stages.refuses loaded refusal) → Says (refusal_line refusal) (status_of refusal) status err → Answered there status shelf out err
  stage_refuses (Bare code) refuses says = refuses_by (Bare code) (refuses (λ is. cc)) says
  stage_refuses (Placed code at) refuses says = refuses_by (Placed code at) (refuses (λ is. cc)) says
  stage_refuses (Paired code at other) refuses says = refuses_by (Paired code at other) (refuses (λ is. cc)) says
  stage_refuses (Lined code line) refuses says = refuses_by (Lined code line) (refuses (λ is. cc)) says
  stage_refuses why.NoMemory refuses says = wants_memory there status shelf out err untouched shelf_fine says

-- Behind the last stage.
module _ (stages : Stages) (exact : AreExact stages) (loaded : List (List ℕ)) (goes : stages.goes_on loaded) (status : Status) (shelf : ShelfSeen) (out err : SinkSeen) (shelf_fine : shelf.now ≡ shelf.before) where
  abbrev end : Stage
  end = record { of = stages; loaded = loaded; loads = [] }

  passes : Passes (MayGive shelf.told) end loaded
  passes = last_passes stages exact loaded goes (MayGive shelf.told)

  no_refusal : (refusal : Refusal) → IsFirstRefusal (Tells shelf.told) end refusal → ⊥
  no_refusal = last_refusal stages exact loaded goes (Tells shelf.told)

  no_overflow : (found : List (List ℕ)) → Overflows shelf.told end found → ⊥
  no_overflow = last_overflow stages exact loaded goes shelf.told

  -- the text was put
  pub puts_text : status ≡ Done → (text : List ℕ) → stages.writes loaded text → Appends out.old out.new text → out.now ≡ out.before → IsUntouched err.old err.new err.before err.now
      → ((whole line : List ℕ) → stages.breaks loaded whole line → ⊥) → Answered end status shelf out err
  puts_text is text writes appended out_fine quiet unbroken =
      subst (λ s. Answered end s shelf out err) (sym is)
      (is_done end shelf out err loaded passes shelf_fine no_refusal no_overflow text writes appended out_fine quiet
      (λ whole line broken. unbroken whole line (last_break stages exact loaded goes (Tells shelf.told) whole line broken)))

  -- its put failed
  pub cuts_text : status ≡ WriteFault → (text : List ℕ) → stages.begins loaded text → AppendsPrefix out.old out.new text → Rose out.before out.now → IsUntouched err.old err.new err.before err.now
      → Answered end status shelf out err
  cuts_text is text begins part cause quiet =
      subst (λ s. Answered end s shelf out err) (sym is) (text_cut end shelf out err loaded passes shelf_fine no_refusal no_overflow text begins part cause quiet)

  -- it stops at a broken promise
  pub breaks_text : (text line : List ℕ) → stages.breaks loaded text line → Appends out.old out.new text → out.now ≡ out.before → Says line Breach status err → Answered end status shelf out err
  breaks_text text line breaks appended out_fine says = elim says.said [
    | inl is ↦
        let put : status ≢ WriteFault = λ failed. cc in
        subst (λ s. Answered end s shelf out err) (sym is)
        (is_breach end shelf out err loaded passes shelf_fine no_refusal no_overflow text line breaks appended out_fine (says.whole put) (says.fine put)
        (λ whole told broken. exact.one_break loaded whole text told line (last_break stages exact loaded goes (Tells shelf.told) whole told broken) breaks)
        (λ found ends. last_ends stages exact loaded goes (Tells shelf.told) found ends text line breaks))
    | inr is ↦ subst (λ s. Answered end s shelf out err) (sym is)
        (breach_cut end shelf out err loaded passes shelf_fine no_refusal no_overflow text line breaks appended out_fine (says.part is) (says.cause is))
  ]

-- A load gives bytes, and the call goes on from the stage behind it.
module _ (stages : Stages) (exact : AreExact stages) (loaded : List (List ℕ)) (load : Load) (loads : List Load) (goes : stages.goes_on loaded) (told : List ℕ → Option (List ℕ)) (bytes : List ℕ)
    (given : MayGive told load bytes) (before now taken_before taken_now : ℕ) (status : Status) (out err : SinkSeen) where
  abbrev from : Stage
  from = record { of = stages; loaded = loaded; loads = load ∷ loads }

  abbrev then : Stage
  then = behind stages loaded bytes loads

  failed_behind : WriteFailed then (shelf_seen told before now taken_before taken_now) out err → WriteFailed from (shelf_seen told before now taken_before taken_now) out err
  failed_behind (inl (cut, quiet)) = inl (on_cut stages exact loaded load loads goes told bytes given out.old out.new out.before out.now cut, quiet)
  failed_behind (inr (inl (untouched, line))) =
      inr (inl (untouched, record { line = line.line; one = on_line stages exact loaded load loads goes told bytes given line.line line.one; part = line.part; cause = line.cause }))
  failed_behind (inr (inr cut)) = inr (inr (on_breach_cut stages exact loaded load loads goes told bytes given out.old out.new out.before out.now err.old err.new err.before err.now cut))

  goes_behind : (taken_then : ℕ) → taken_before ≤ taken_then → Answered then status (shelf_seen told before now taken_then taken_now) out err → Answered from status (shelf_seen told before now taken_before taken_now) out err
  goes_behind taken_then later one = record {
    no_usage = one.no_usage;
    read_fault = one.read_fault;
    fault_read = one.fault_read;
    read_fault_line = λ is. on_read_fault stages exact loaded load loads goes told bytes given err.old err.new (one.read_fault_line is);
    too_long = λ is. more_taken told from taken_before taken_then taken_now err.old err.new later (on_too_long stages exact loaded load loads goes told bytes given taken_then taken_now err.old err.new (one.too_long is));
    every_length = λ found long fine. one.every_length found (back_overflow stages exact loaded load loads goes told bytes given found long) fine;
    refused = λ is. on_refused stages exact loaded load loads goes told bytes given err.old err.new (one.refused is);
    every_refusal = λ refusal first fine. one.every_refusal refusal (back_refusal stages exact loaded load loads goes told bytes given refusal first) fine;
    done = λ is. on_written stages exact loaded load loads goes told bytes given out.old out.new (one.done is);
    quiet = one.quiet;
    complete = λ found ends fine. one.complete found (back_ends stages exact loaded load loads goes told bytes given found ends) (record { loads = fine.loads; puts = fine.puts; lines = fine.lines });
    breach = λ is. on_breach stages exact loaded load loads goes told bytes given out.old out.new err.old err.new (one.breach is);
    every_breach = λ text line broken fine. one.every_breach text line (back_breaks stages exact loaded load loads goes told bytes given text line broken) (record { loads = fine.loads; puts = fine.puts; lines = fine.lines });
    no_memory_line = one.no_memory_line;
    untouched = one.untouched;
    write_fault = λ is. failed_behind (one.write_fault is);
    out_fault = one.out_fault;
    err_fault = one.err_fault;
  }

  -- the later call sees what the shelf tells then, and its counts from then on
  pub loads_on : (told_then : List ℕ → Option (List ℕ)) (before_then taken_then : ℕ) → told_then ≡ told → before_then ≡ before → taken_before ≤ taken_then
      → Answered then status (shelf_seen told_then before_then now taken_then taken_now) out err → Answered from status (shelf_seen told before now taken_before taken_now) out err
  loads_on told_then before_then taken_then same fine later one =
      goes_behind taken_then later
      (subst (λ n. Answered then status (shelf_seen told n now taken_then taken_now) out err) fine
      (subst (λ one. Answered then status (shelf_seen one before_then now taken_then taken_now) out err) same one))
