-- `runsv` of what `compile` wrote for a file answers as `run` does.
--
-- The claim: where the shelf tells the file, the text that was written for it and the stimulus, each answer of `runsv` that tells
-- something of them is one of `run`. The argument: the loads give what the shelf tells, so the text is that of the file, and the law
-- on logs says the rest; and no process of the file is refused for that text.
use Rattle.std.proofs.Common.{◌≡◌, ◌⊎◌, inl, inr, ℕ, List, [], ◌∷◌, ◌++◌, Option, Some, subst}
use Rattle.command_words.specs.Form.{Form, Load, file_load, runsv_form, stimulus_load, text_load}
use Rattle.tool_answers.specs.declared.refusal.Refusal.{Refusal}
use Rattle.tool_answers.specs.declared.status.Status.{Status}
use Rattle.tool_answers.specs.Answer.{Leads, MayGive}
use Rattle.tool_answers.specs.Answered.{Answered, ShelfSeen, SinkSeen}
use Rattle.tool_answers.proofs.Ways.{last_reached, next_reached, told_loaded}
use Rattle.checked_files.specs.Named.{HasProcess, IsProcessRefused}
use Rattle.tool_stages.specs.Run.{IsTextRefused}
use Rattle.tool_stages.specs.RunModule.{IsBrokenModule, IsModuleLog, IsModuleTextRefused, IsSvRefused}
use Rattle.tool_stages.specs.SameLog.{AnswersAsRun, HasOneLog, HasWritten}
use Rattle.tool_stages.specs.Stages.{module_goes_on, module_refuses, module_texts, start_of}
use Rattle.tool_stages.proofs.ModuleRuns.{sv_or_refused}
use Rattle.tool_stages.proofs.SameLog.{logs_are_one}

module _ (told : List ℕ → Option (List ℕ)) (form : Form) (bytes name stimulus : List ℕ) (has : HasWritten told form bytes name stimulus) where
  abbrev gives : Load → List ℕ → Type 0
  gives = MayGive told

  abbrev Ways : List (List ℕ) → List Load → List (List ℕ) → List Load → Type 0
  Ways loaded rest before loads = Leads gives (module_goes_on name) loaded rest before loads

  abbrev own : Form
  own = runsv_form has.file has.text name has.rows

  one_log : HasOneLog bytes has.modules name stimulus
  one_log = logs_are_one bytes has.modules name stimulus has.written

  -- each load gives what the shelf tells, so the stage that is reached is known

  next : (loaded : List (List ℕ)) (rest : List Load) (before : List (List ℕ)) (load : Load) (loads : List Load) (there : List ℕ) → told load.name ≡ Some there → Ways loaded rest before (load ∷ loads)
      → (loaded ≡ before) ⊎ (module_goes_on name before × Ways loaded rest (before ++ there ∷ []) loads)
  next loaded rest before load loads there is leads = elim (next_reached gives (module_goes_on name) loaded rest before load loads leads) [
    | inl (same, others) ↦ inl same
    | inr (found, went, gave, later) ↦ inr (went, subst (λ one. Ways loaded rest (before ++ one ∷ []) loads) (told_loaded (told load.name) there found is gave.kept) later)
  ]

  abbrev Reached : List (List ℕ) → Type 0
  Reached loaded =
      (loaded ≡ []) ⊎ ((loaded ≡ bytes ∷ []) ⊎ ((HasProcess bytes name × (loaded ≡ bytes ∷ has.modules ∷ [])) ⊎ (loaded ≡ bytes ∷ has.modules ∷ stimulus ∷ [])))

  reached : (loaded : List (List ℕ)) (rest : List Load) → Ways loaded rest [] (file_load has.file ∷ text_load has.text ∷ stimulus_load has.rows ∷ []) → Reached loaded
  reached loaded rest leads = elim (next loaded rest [] (file_load has.file) (text_load has.text ∷ stimulus_load has.rows ∷ []) bytes has.of_file leads) [
    | inl same ↦ inl same
    | inr (start, second) ↦ elim (next loaded rest (bytes ∷ []) (text_load has.text) (stimulus_load has.rows ∷ []) has.modules has.of_text second) [
      | inl same ↦ inr (inl same)
      | inr (process, third) ↦ elim (next loaded rest (bytes ∷ has.modules ∷ []) (stimulus_load has.rows) [] stimulus has.of_rows third) [
        | inl same ↦ inr (inr (inl (process, same)))
        | inr (went, last) ↦ inr (inr (inr (last_reached gives (module_goes_on name) loaded rest (bytes ∷ has.modules ∷ stimulus ∷ []) last).0))
      ]
    ]
  ]

  -- a text is one of all three files

  text_of : (texts : (file text rows : List ℕ) → Type 0) (loaded : List (List ℕ)) → Reached loaded → module_texts texts loaded → texts bytes has.modules stimulus
  text_of texts loaded (inl is) some = absurd (subst (λ one. module_texts texts one) is some)
  text_of texts loaded (inr (inl is)) some = absurd (subst (λ one. module_texts texts one) is some)
  text_of texts loaded (inr (inr (inl (process, is)))) some = absurd (subst (λ one. module_texts texts one) is some)
  text_of texts loaded (inr (inr (inr is))) some = subst (λ one. module_texts texts one) is some

  -- a refusal is one of the process or of the stimulus, since the text has the module of the process

  abbrev Own : Refusal → Type 0
  Own refusal = IsProcessRefused bytes name refusal ⊎ IsTextRefused bytes name stimulus refusal

  of_rows : (refusal : Refusal) → IsModuleTextRefused bytes has.modules name stimulus refusal → Own refusal
  of_rows refusal refused = inr (record { process = refused.process; of_file = refused.pair.of_file; refused = refused.refused })

  refusal_of : (loaded : List (List ℕ)) (refusal : Refusal) → Reached loaded → module_refuses name loaded refusal → Own refusal
  refusal_of loaded refusal (inl is) refuses = absurd (subst (λ one. module_refuses name one refusal) is refuses)
  refusal_of loaded refusal (inr (inl is)) refuses = inl (subst (λ one. module_refuses name one refusal) is refuses)
  refusal_of loaded refusal (inr (inr (inl (process, is)))) refuses =
      let here : IsSvRefused bytes has.modules name refusal = subst (λ one. module_refuses name one refusal) is refuses in
      absurd (sv_or_refused bytes has.modules name refusal here (one_log.has_module process))
  refusal_of loaded refusal (inr (inr (inr is))) refuses = of_rows refusal (subst (λ one. module_refuses name one refusal) is refuses)

  -- the answer of the call

  pub as_run : (status : Status) (shelf : ShelfSeen) (out err : SinkSeen) → shelf.told ≡ told → Answered (start_of form) status shelf out err
      → AnswersAsRun bytes name stimulus status out.old out.new err.old err.new
  as_run status shelf out err same answered = by_own (subst (λ one. Answered (start_of one) status shelf out err) has.is answered)
    where
      as_told : (loaded : List (List ℕ)) (rest : List Load) → Leads (MayGive shelf.told) (module_goes_on name) loaded rest [] (start_of own).loads → Ways loaded rest [] (start_of own).loads
      as_told loaded rest leads = subst (λ some. Leads (MayGive some) (module_goes_on name) loaded rest [] (start_of own).loads) same leads

      by_own : Answered (start_of own) status shelf out err → AnswersAsRun bytes name stimulus status out.old out.new err.old err.new
      by_own one = record {
        done = λ is.
            let written = one.done is in
            let log : IsModuleLog bytes has.modules name stimulus written.text =
            text_of (λ file text rows. IsModuleLog file text name rows written.text) written.loaded (reached written.loaded [] (as_told written.loaded [] written.passes.reached)) written.writes in
            (written.text, (one_log.whole written.text).1 log, written.appended);
        breach = λ is.
            let broken = one.breach is in
            let stops = broken.breaks in
            let log : IsBrokenModule bytes has.modules name stimulus broken.text broken.line =
            text_of (λ file text rows. IsBrokenModule file text name rows broken.text broken.line) stops.loaded (reached stops.loaded [] (as_told stops.loaded [] stops.passes.reached)) stops.breaks in
            (broken.text, broken.line, (one_log.broken broken.text broken.line).1 log, broken.appended, broken.said);
        refused = λ is.
            let why = one.refused is in
            let first = why.first in
            (why.refusal, refusal_of first.loaded why.refusal (reached first.loaded first.rest (as_told first.loaded first.rest first.reached)) first.refuses, why.appended);
      }
