-- What is promised with each status, from what is known of it.
--
-- The claim: of each status so much has to be known, and then all that a call promises holds: what the status tells, and that what
-- would have to be told otherwise is not so. The argument is that the promises of every other status ask for that status.
use Rattle.std.proofs.Common.{◌≡◌, inl, inr, ℕ, ◌<◌, List, length, IfSome, IfNone, refl, sym, subst, arith}
use Rattle.std.specs.Io.KnownBytes.{Appends}
use Rattle.anvil_io.specs.Causes.{AppendsPrefix, GrewPast, Rose}
use Rattle.command_words.specs.Form.{Load}
use Rattle.tool_answers.specs.declared.refusal.Refusal.{Refusal}
use Rattle.tool_answers.specs.declared.status.Status.TheVariants.{Done, Refused, ReadFault, TooLong, WriteFault, Breach, NoMemory}
use Rattle.tool_answers.specs.Stages.{Stage}
use Rattle.tool_answers.specs.Lines.{IsLineOf, no_memory_line, read_fault_line, refusal_line, too_long_line}
use Rattle.tool_answers.specs.Answer.{MayGive, Tells, Asks, IsFirstRefusal, Passes, Ends, Breaks, Overflows, IsLine, IsUntouched, HasNoFault}
use Rattle.tool_answers.specs.Answered.{Answered, ShelfSeen, SinkSeen}
use Rattle.tool_answers.proofs.Ways.{no_rise}

-- a count that is the same did not grow
still : (before now : ℕ) → now ≡ before → before < now → ⊥
still before now same grew = omega (arith, same, grew)

module _ (begin : Stage) (shelf : ShelfSeen) (out err : SinkSeen) where
  -- Nothing was put to `out`.
  module _ (untouched : IsUntouched out.old out.new out.before out.now) where
    -- the put of a line failed
    pub line_cut : (line : List ℕ) → IsLine shelf.told begin line → AppendsPrefix err.old err.new line → Rose err.before err.now
        → ((refusal : Refusal) → IsFirstRefusal (Tells shelf.told) begin refusal → HasNoFault shelf.before shelf.now → IsLineOf refusal line)
        → Answered begin WriteFault shelf out err
    line_cut line is part cause line_of = record {
      no_usage = λ is. cc;
      read_fault = λ is. absurd cc;
      fault_read = λ grew. inr refl;
      read_fault_line = λ is. absurd cc;
      too_long = λ is. absurd cc;
      every_length = λ loaded long fine. inr (inl refl);
      refused = λ is. absurd cc;
      every_refusal = λ refusal first fine. inr (inr (refl, untouched, record { line = line; one = line_of refusal first fine; part = part; cause = cause }));
      done = λ is. absurd cc;
      quiet = λ is. absurd cc;
      complete = λ loaded ends fine. absurd (no_rise err.before err.now fine.lines cause);
      breach = λ is. absurd cc;
      every_breach = λ text said broken fine. absurd (no_rise err.before err.now fine.lines cause);
      no_memory_line = λ is. absurd cc;
      untouched = λ not_done not_failed not_broken. absurd (not_failed refl);
      write_fault = λ failed. inr (inl (untouched, record { line = line; one = is; part = part; cause = cause }));
      out_fault = λ grew. refl;
      err_fault = λ grew. refl;
    }

    -- The line was put.
    module _ (err_fine : err.now ≡ err.before) where
      -- a load was a fault
      pub is_read_fault : (loaded : List (List ℕ)) (load : Load) → Asks (MayGive shelf.told) begin loaded load → Rose shelf.before shelf.now
          → Appends err.old err.new (read_fault_line load.name) → Answered begin ReadFault shelf out err
      is_read_fault loaded load asked rose appended = record {
        no_usage = λ is. cc;
        read_fault = λ is. rose;
        fault_read = λ grew. inl refl;
        read_fault_line = λ is. record { loaded = loaded; load = load; asked = asked; appended = appended };
        too_long = λ is. absurd cc;
        every_length = λ found long fine. absurd (no_rise shelf.before shelf.now fine rose);
        refused = λ is. absurd cc;
        every_refusal = λ refusal first fine. absurd (no_rise shelf.before shelf.now fine rose);
        done = λ is. absurd cc;
        quiet = λ is. absurd cc;
        complete = λ found ends fine. absurd (no_rise shelf.before shelf.now fine.loads rose);
        breach = λ is. absurd cc;
        every_breach = λ text said broken fine. absurd (no_rise shelf.before shelf.now fine.loads rose);
        no_memory_line = λ is. absurd cc;
        untouched = λ not_done not_failed not_broken. untouched;
        write_fault = λ failed. absurd cc;
        out_fault = λ grew. absurd (still out.before out.now untouched.fine grew);
        err_fault = λ grew. absurd (still err.before err.now err_fine grew);
      }

      -- no load was
      module _ (shelf_fine : shelf.now ≡ shelf.before) where
        -- a file is too long
        pub is_too_long : (loaded : List (List ℕ)) (load : Load) → Asks (MayGive shelf.told) begin loaded load
            → IfSome (shelf.told load.name) (λ bytes. load.limit < length bytes) → IfNone (shelf.told load.name) (GrewPast load.limit shelf.taken_before shelf.taken_now)
            → Appends err.old err.new (too_long_line load.name)
            → ((refusal : Refusal) → IsFirstRefusal (Tells shelf.told) begin refusal → ⊥) → ((found : List (List ℕ)) → Passes (Tells shelf.told) begin found → ⊥)
            → Answered begin TooLong shelf out err
        is_too_long loaded load asked long taken appended no_refusal no_pass = record {
          no_usage = λ is. cc;
          read_fault = λ is. absurd cc;
          fault_read = λ grew. absurd (still shelf.before shelf.now shelf_fine grew);
          read_fault_line = λ is. absurd cc;
          too_long = λ is. record { loaded = loaded; load = load; asked = asked; long = long; taken = taken; appended = appended };
          every_length = λ found overflows fine. inl refl;
          refused = λ is. absurd cc;
          every_refusal = λ refusal first fine. absurd (no_refusal refusal first);
          done = λ is. absurd cc;
          quiet = λ is. absurd cc;
          complete = λ found ends fine. absurd (no_pass found ends.passes);
          breach = λ is. absurd cc;
          every_breach = λ text said broken fine. absurd (no_pass broken.loaded broken.passes);
          no_memory_line = λ is. absurd cc;
          untouched = λ not_done not_failed not_broken. untouched;
          write_fault = λ failed. absurd cc;
          out_fault = λ grew. absurd (still out.before out.now untouched.fine grew);
          err_fault = λ grew. absurd (still err.before err.now err_fine grew);
        }

        -- a stage refuses
        pub is_refused : (refusal : Refusal) → IsFirstRefusal (MayGive shelf.told) begin refusal → Appends err.old err.new (refusal_line refusal)
            → ((other : Refusal) → IsFirstRefusal (Tells shelf.told) begin other → other ≡ refusal) → ((found : List (List ℕ)) → Overflows shelf.told begin found → ⊥)
            → ((found : List (List ℕ)) → Passes (Tells shelf.told) begin found → ⊥) → Answered begin Refused shelf out err
        is_refused refusal first appended once no_overflow no_pass = record {
          no_usage = λ is. cc;
          read_fault = λ is. absurd cc;
          fault_read = λ grew. absurd (still shelf.before shelf.now shelf_fine grew);
          read_fault_line = λ is. absurd cc;
          too_long = λ is. absurd cc;
          every_length = λ found long fine. absurd (no_overflow found long);
          refused = λ is. record { refusal = refusal; first = first; appended = appended };
          every_refusal = λ other second fine. inl (refl, subst (λ one. Appends err.old err.new (refusal_line one)) (sym (once other second)) appended);
          done = λ is. absurd cc;
          quiet = λ is. absurd cc;
          complete = λ found ends fine. absurd (no_pass found ends.passes);
          breach = λ is. absurd cc;
          every_breach = λ text said broken fine. absurd (no_pass broken.loaded broken.passes);
          no_memory_line = λ is. absurd cc;
          untouched = λ not_done not_failed not_broken. untouched;
          write_fault = λ failed. absurd cc;
          out_fault = λ grew. absurd (still out.before out.now untouched.fine grew);
          err_fault = λ grew. absurd (still err.before err.now err_fine grew);
        }

        -- no memory was found
        pub is_no_memory : Appends err.old err.new no_memory_line → Answered begin NoMemory shelf out err
        is_no_memory appended = record {
          no_usage = λ is. cc;
          read_fault = λ is. absurd cc;
          fault_read = λ grew. absurd (still shelf.before shelf.now shelf_fine grew);
          read_fault_line = λ is. absurd cc;
          too_long = λ is. absurd cc;
          every_length = λ found long fine. inr (inr refl);
          refused = λ is. absurd cc;
          every_refusal = λ refusal first fine. inr (inl refl);
          done = λ is. absurd cc;
          quiet = λ is. absurd cc;
          complete = λ found ends fine. inr refl;
          breach = λ is. absurd cc;
          every_breach = λ text said broken fine. inr refl;
          no_memory_line = λ is. appended;
          untouched = λ not_done not_failed not_broken. untouched;
          write_fault = λ failed. absurd cc;
          out_fault = λ grew. absurd (still out.before out.now untouched.fine grew);
          err_fault = λ grew. absurd (still err.before err.now err_fine grew);
        }

  -- Behind the last stage, which goes on: nothing is loaded any more.
  module _ (loaded : List (List ℕ)) (passes : Passes (MayGive shelf.told) begin loaded) (shelf_fine : shelf.now ≡ shelf.before)
      (no_refusal : (refusal : Refusal) → IsFirstRefusal (Tells shelf.told) begin refusal → ⊥) (no_overflow : (found : List (List ℕ)) → Overflows shelf.told begin found → ⊥) where
    -- the text was put
    pub is_done : (text : List ℕ) → begin.of.writes loaded text → Appends out.old out.new text → out.now ≡ out.before → IsUntouched err.old err.new err.before err.now
        → ((whole line : List ℕ) → Breaks (Tells shelf.told) begin whole line → ⊥) → Answered begin Done shelf out err
    is_done text writes appended out_fine quiet no_break = record {
      no_usage = λ is. cc;
      read_fault = λ is. absurd cc;
      fault_read = λ grew. absurd (still shelf.before shelf.now shelf_fine grew);
      read_fault_line = λ is. absurd cc;
      too_long = λ is. absurd cc;
      every_length = λ found long fine. absurd (no_overflow found long);
      refused = λ is. absurd cc;
      every_refusal = λ refusal first fine. absurd (no_refusal refusal first);
      done = λ is. record { loaded = loaded; passes = passes; text = text; writes = writes; appended = appended };
      quiet = λ is. quiet;
      complete = λ found ends fine. inl refl;
      breach = λ is. absurd cc;
      every_breach = λ whole line broken fine. absurd (no_break whole line broken);
      no_memory_line = λ is. absurd cc;
      untouched = λ not_done not_failed not_broken. absurd (not_done refl);
      write_fault = λ failed. absurd cc;
      out_fault = λ grew. absurd (still out.before out.now out_fine grew);
      err_fault = λ grew. absurd (still err.before err.now quiet.fine grew);
    }

    -- the put of the text failed
    pub text_cut : (text : List ℕ) → begin.of.begins loaded text → AppendsPrefix out.old out.new text → Rose out.before out.now → IsUntouched err.old err.new err.before err.now
        → Answered begin WriteFault shelf out err
    text_cut text begins part cause quiet = record {
      no_usage = λ is. cc;
      read_fault = λ is. absurd cc;
      fault_read = λ grew. inr refl;
      read_fault_line = λ is. absurd cc;
      too_long = λ is. absurd cc;
      every_length = λ found long fine. inr (inl refl);
      refused = λ is. absurd cc;
      every_refusal = λ refusal first fine. absurd (no_refusal refusal first);
      done = λ is. absurd cc;
      quiet = λ is. absurd cc;
      complete = λ found ends fine. absurd (no_rise out.before out.now fine.puts cause);
      breach = λ is. absurd cc;
      every_breach = λ whole line broken fine. absurd (no_rise out.before out.now fine.puts cause);
      no_memory_line = λ is. absurd cc;
      untouched = λ not_done not_failed not_broken. absurd (not_failed refl);
      write_fault = λ failed. inl (record { loaded = loaded; passes = passes; text = text; begins = begins; part = part; cause = cause }, quiet);
      out_fault = λ grew. refl;
      err_fault = λ grew. refl;
    }

    -- The text stops at a broken promise.
    module _ (text line : List ℕ) (breaks : begin.of.breaks loaded text line) (appended : Appends out.old out.new text) (out_fine : out.now ≡ out.before) where
      pub is_breach : Appends err.old err.new line → err.now ≡ err.before
          → ((whole said : List ℕ) → Breaks (Tells shelf.told) begin whole said → (whole ≡ text) × (said ≡ line))
          → ((found : List (List ℕ)) → Ends (Tells shelf.told) begin found → ⊥) → Answered begin Breach shelf out err
      is_breach said err_fine once no_end = record {
        no_usage = λ is. cc;
        read_fault = λ is. absurd cc;
        fault_read = λ grew. absurd (still shelf.before shelf.now shelf_fine grew);
        read_fault_line = λ is. absurd cc;
        too_long = λ is. absurd cc;
        every_length = λ found long fine. absurd (no_overflow found long);
        refused = λ is. absurd cc;
        every_refusal = λ refusal first fine. absurd (no_refusal refusal first);
        done = λ is. absurd cc;
        quiet = λ is. absurd cc;
        complete = λ found ends fine. absurd (no_end found ends);
        breach = λ is. record { text = text; line = line; breaks = record { loaded = loaded; passes = passes; breaks = breaks }; appended = appended; said = said };
        every_breach = λ whole told broken fine.
            let (same, same_line) = once whole told broken in
            inl (refl, subst (Appends out.old out.new) (sym same) appended, subst (Appends err.old err.new) (sym same_line) said);
        no_memory_line = λ is. absurd cc;
        untouched = λ not_done not_failed not_broken. absurd (not_broken refl);
        write_fault = λ failed. absurd cc;
        out_fault = λ grew. absurd (still out.before out.now out_fine grew);
        err_fault = λ grew. absurd (still err.before err.now err_fine grew);
      }

      -- the put of its line failed
      pub breach_cut : AppendsPrefix err.old err.new line → Rose err.before err.now → Answered begin WriteFault shelf out err
      breach_cut part cause = record {
        no_usage = λ is. cc;
        read_fault = λ is. absurd cc;
        fault_read = λ grew. inr refl;
        read_fault_line = λ is. absurd cc;
        too_long = λ is. absurd cc;
        every_length = λ found long fine. inr (inl refl);
        refused = λ is. absurd cc;
        every_refusal = λ refusal first fine. absurd (no_refusal refusal first);
        done = λ is. absurd cc;
        quiet = λ is. absurd cc;
        complete = λ found ends fine. absurd (no_rise err.before err.now fine.lines cause);
        breach = λ is. absurd cc;
        every_breach = λ whole told broken fine. absurd (no_rise err.before err.now fine.lines cause);
        no_memory_line = λ is. absurd cc;
        untouched = λ not_done not_failed not_broken. absurd (not_failed refl);
        write_fault = λ failed.
            inr (inr (record { text = text; line = line; breaks = record { loaded = loaded; passes = passes; breaks = breaks }; appended = appended; fine = out_fine; part = part; cause = cause }));
        out_fault = λ grew. refl;
        err_fault = λ grew. refl;
      }
