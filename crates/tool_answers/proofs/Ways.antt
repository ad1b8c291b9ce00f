-- The ways from a stage to those that it leads to.
--
-- The claim: from a stage without loads to come no other is reached; from one with a load to come, itself, or what is reached
-- from the stage behind the load. So what is known of the stage behind is known of the stage before, and back.
use Rattle.std.proofs.Common.{◌≡◌, ◌⊎◌, inl, inr, ℕ, ◌<◌, ◌≤◌, List, [], ◌∷◌, ◌++◌, length, Option, Some, None, IfSome, IfNone, refl, sym, ap, subst, arith}
use Rattle.anvil_io.specs.Causes.{GrewPast, Rose}
use Rattle.command_words.specs.Form.{Load}
use Rattle.tool_answers.specs.declared.refusal.Refusal.{Refusal}
use Rattle.tool_answers.specs.Stages.{AreExact, Stage, Stages, behind}
use Rattle.tool_answers.specs.Answer.{MayGive, Tells, Exceeds, Leads, here, on, Asks, IsFirstRefusal, Passes, Ends, Breaks, Overflows, IsLine, of_fault, of_length, of_memory, of_refusal, HasNoFault, IsReadFault, IsTooLong, IsRefusedBy, IsWritten, OutFailed, IsBreach, BreachFailed}

-- What was told.

-- told bytes are those that were loaded
pub told_loaded : (told : Option (List ℕ)) (bytes loaded : List ℕ) → told ≡ Some bytes → IfSome told (λ under. loaded ≡ under) → loaded ≡ bytes
told_loaded told bytes loaded is kept = subst (λ one. IfSome one (λ under. loaded ≡ under)) is kept

-- no bytes are within a limit and past it
pub within_or_past : (told : Option (List ℕ)) (limit : ℕ) → Exceeds told limit → IfSome told (λ bytes. length bytes ≤ limit) → ⊥
within_or_past None limit past within = past
within_or_past (Some bytes) limit past within = omega (arith, past, within)

pub past_or_told : (told : Option (List ℕ)) (limit : ℕ) (bytes : List ℕ) → told ≡ Some bytes → length bytes ≤ limit → IfSome told (λ under. limit < length under) → ⊥
past_or_told told limit bytes is within past = let long : limit < length bytes = subst (λ one. IfSome one (λ under. limit < length under)) is past in omega (arith, long, within)

-- bytes that a load can give are within its limit
pub past_given : (told : List ℕ → Option (List ℕ)) (load : Load) (bytes : List ℕ) → MayGive told load bytes → Exceeds (told load.name) load.limit → ⊥
past_given told load bytes given past = by_case (told load.name) given.kept past
  where
    by_case : (under : Option (List ℕ)) → IfSome under (λ one. bytes ≡ one) → Exceeds under load.limit → ⊥
    by_case None kept past = past
    by_case (Some one) kept past = let same = ap length kept in let within = given.within in omega (arith, past, same, within)

-- a count that rose is none without a fault
pub no_rise : (before now : ℕ) → HasNoFault before now → Rose before now → ⊥
no_rise before now fine rose = omega (arith, fine.same, fine.counts, rose)

-- The stages that are reached.

-- at the last stage no other
pub last_reached : (gives : Load → List ℕ → Type 0) (goes_on : List (List ℕ) → Type 0) (loaded : List (List ℕ)) (rest : List Load) (before : List (List ℕ))
    → Leads gives goes_on loaded rest before [] → (loaded ≡ before) × (rest ≡ [])
last_reached gives goes_on loaded rest before here = (refl, refl)

-- with a load to come this stage, or one from the stage behind the load
pub next_reached : (gives : Load → List ℕ → Type 0) (goes_on : List (List ℕ) → Type 0) (loaded : List (List ℕ)) (rest : List Load) (before : List (List ℕ)) (load : Load) (loads : List Load)
    → Leads gives goes_on loaded rest before (load ∷ loads)
    → ((loaded ≡ before) × (rest ≡ load ∷ loads))
    ⊎ ((bytes : List ℕ) × goes_on before × gives load bytes × Leads gives goes_on loaded rest (before ++ bytes ∷ []) loads)
next_reached gives goes_on loaded rest before load loads here = inl (refl, refl)
next_reached gives goes_on loaded rest before load loads (on first one others bytes went given leads) = inr (bytes, went, given, leads)

-- with any
pub any_reached : (gives : Load → List ℕ → Type 0) (goes_on : List (List ℕ) → Type 0) (loaded : List (List ℕ)) (rest : List Load) (before : List (List ℕ)) (loads : List Load)
    → Leads gives goes_on loaded rest before loads → ((loaded ≡ before) × (rest ≡ loads)) ⊎ goes_on before
any_reached gives goes_on loaded rest before loads here = inl (refl, refl)
any_reached gives goes_on loaded rest before loads (on first one others bytes went given leads) = inr went

-- A stage behind which no load is to come.
module _ (stages : Stages) (exact : AreExact stages) (loaded : List (List ℕ)) (goes : stages.goes_on loaded) where
  abbrev last : Stage
  last = record { of = stages; loaded = loaded; loads = [] }

  pub last_passes : (gives : Load → List ℕ → Type 0) → Passes gives last loaded
  last_passes gives = record { reached = here; goes_on = goes }

  pub last_refusal : (gives : Load → List ℕ → Type 0) (refusal : Refusal) → IsFirstRefusal gives last refusal → ⊥
  last_refusal gives refusal first =
      let (same, rest) = last_reached gives stages.goes_on first.loaded first.rest loaded first.reached in
      exact.apart loaded refusal (subst (λ some. stages.refuses some refusal) same first.refuses) goes

  pub last_overflow : (told : List ℕ → Option (List ℕ)) (found : List (List ℕ)) → Overflows told last found → ⊥
  last_overflow told found long =
      let (same, rest) = last_reached (Tells told) stages.goes_on found (long.load ∷ long.asked.later) loaded long.asked.reached in absurd cc

  pub last_break : (gives : Load → List ℕ → Type 0) (text line : List ℕ) → Breaks gives last text line → stages.breaks loaded text line
  last_break gives text line broken =
      let (same, rest) = last_reached gives stages.goes_on broken.loaded [] loaded broken.passes.reached in
      subst (λ some. stages.breaks some text line) same broken.breaks

  pub last_ends : (gives : Load → List ℕ → Type 0) (found : List (List ℕ)) → Ends gives last found → (text line : List ℕ) → stages.breaks loaded text line → ⊥
  last_ends gives found ends text line broken =
      let (same, rest) = last_reached gives stages.goes_on found [] loaded ends.passes.reached in
      ends.unbroken text line (subst (λ some. stages.breaks some text line) (sym same) broken)

-- A stage that refuses.
module _ (stages : Stages) (exact : AreExact stages) (loaded : List (List ℕ)) (loads : List Load) (refusal : Refusal) (refuses : stages.refuses loaded refusal) where
  abbrev refusing : Stage
  refusing = record { of = stages; loaded = loaded; loads = loads }

  pub refuses_first : (gives : Load → List ℕ → Type 0) → IsFirstRefusal gives refusing refusal
  refuses_first gives = record { loaded = loaded; rest = loads; reached = here; refuses = refuses }

  pub refuses_once : (gives : Load → List ℕ → Type 0) (other : Refusal) → IsFirstRefusal gives refusing other → other ≡ refusal
  refuses_once gives other first = elim (any_reached gives stages.goes_on first.loaded first.rest loaded loads first.reached) [
    | inl (same, rest) ↦ exact.once loaded other refusal (subst (λ some. stages.refuses some other) same first.refuses) refuses
    | inr goes ↦ absurd (exact.apart loaded refusal refuses goes)
  ]

  stays : (gives : Load → List ℕ → Type 0) (found : List (List ℕ)) (rest : List Load) → Leads gives stages.goes_on found rest loaded loads → stages.goes_on found → ⊥
  stays gives found rest leads goes = elim (any_reached gives stages.goes_on found rest loaded loads leads) [
    | inl (same, others) ↦ exact.apart loaded refusal refuses (subst stages.goes_on same goes)
    | inr went ↦ exact.apart loaded refusal refuses went
  ]

  pub refuses_overflow : (told : List ℕ → Option (List ℕ)) (found : List (List ℕ)) → Overflows told refusing found → ⊥
  refuses_overflow told found long = stays (Tells told) found (long.load ∷ long.asked.later) long.asked.reached long.asked.goes_on

  pub refuses_passes : (gives : Load → List ℕ → Type 0) (found : List (List ℕ)) → Passes gives refusing found → ⊥
  refuses_passes gives found passes = stays gives found [] passes.reached passes.goes_on

-- A stage that goes on to a load.
module _ (stages : Stages) (exact : AreExact stages) (loaded : List (List ℕ)) (load : Load) (loads : List Load) (goes : stages.goes_on loaded) where
  abbrev loading : Stage
  loading = record { of = stages; loaded = loaded; loads = load ∷ loads }

  pub loading_asks : (gives : Load → List ℕ → Type 0) → Asks gives loading loaded load
  loading_asks gives = record { later = loads; reached = here; goes_on = goes }

  -- Where the load gives no bytes, no other stage is reached.
  module _ (told : List ℕ → Option (List ℕ)) (none : (bytes : List ℕ) → Tells told load bytes → ⊥) where
    pub loading_refusal : (refusal : Refusal) → IsFirstRefusal (Tells told) loading refusal → ⊥
    loading_refusal refusal first = elim (next_reached (Tells told) stages.goes_on first.loaded first.rest loaded load loads first.reached) [
      | inl (same, rest) ↦ exact.apart loaded refusal (subst (λ some. stages.refuses some refusal) same first.refuses) goes
      | inr (bytes, went, tells, leads) ↦ none bytes tells
    ]

    pub loading_passes : (found : List (List ℕ)) → Passes (Tells told) loading found → ⊥
    loading_passes found passes = elim (next_reached (Tells told) stages.goes_on found [] loaded load loads passes.reached) [
      | inl (same, rest) ↦ absurd cc
      | inr (bytes, went, tells, leads) ↦ none bytes tells
    ]

  -- Where it gives bytes, what is known behind is known before,
  module _ (told : List ℕ → Option (List ℕ)) (bytes : List ℕ) (given : MayGive told load bytes) where
    abbrev then : Stage
    then = behind stages loaded bytes loads

    on_reached : (found : List (List ℕ)) (rest : List Load) → Leads (MayGive told) stages.goes_on found rest (loaded ++ bytes ∷ []) loads → Leads (MayGive told) stages.goes_on found rest loaded (load ∷ loads)
    on_reached found rest leads = on loaded load loads bytes goes given leads

    on_asks : (found : List (List ℕ)) (next : Load) → Asks (MayGive told) then found next → Asks (MayGive told) loading found next
    on_asks found next asks = record { later = asks.later; reached = on_reached found (next ∷ asks.later) asks.reached; goes_on = asks.goes_on }

    on_first : (refusal : Refusal) → IsFirstRefusal (MayGive told) then refusal → IsFirstRefusal (MayGive told) loading refusal
    on_first refusal first = record { loaded = first.loaded; rest = first.rest; reached = on_reached first.loaded first.rest first.reached; refuses = first.refuses }

    on_passes : (found : List (List ℕ)) → Passes (MayGive told) then found → Passes (MayGive told) loading found
    on_passes found passes = record { reached = on_reached found [] passes.reached; goes_on = passes.goes_on }

    on_breaks : (text line : List ℕ) → Breaks (MayGive told) then text line → Breaks (MayGive told) loading text line
    on_breaks text line broken = record { loaded = broken.loaded; passes = on_passes broken.loaded broken.passes; breaks = broken.breaks }

    pub on_line : (line : List ℕ) → IsLine told then line → IsLine told loading line
    on_line line (of_fault found next asks) = of_fault found next (on_asks found next asks)
    on_line line (of_length found next asks) = of_length found next (on_asks found next asks)
    on_line line of_memory = of_memory
    on_line line (of_refusal refusal first) = of_refusal refusal (on_first refusal first)

    pub on_read_fault : (old new : Option (List ℕ)) → IsReadFault told then old new → IsReadFault told loading old new
    on_read_fault old new fault = record { loaded = fault.loaded; load = fault.load; asked = on_asks fault.loaded fault.load fault.asked; appended = fault.appended }

    pub on_too_long : (before now : ℕ) (old new : Option (List ℕ)) → IsTooLong told then before now old new → IsTooLong told loading before now old new
    on_too_long before now old new long = record { loaded = long.loaded; load = long.load; asked = on_asks long.loaded long.load long.asked; long = long.long; taken = long.taken; appended = long.appended }

    pub on_refused : (old new : Option (List ℕ)) → IsRefusedBy told then old new → IsRefusedBy told loading old new
    on_refused old new refused = record { refusal = refused.refusal; first = on_first refused.refusal refused.first; appended = refused.appended }

    pub on_written : (old new : Option (List ℕ)) → IsWritten told then old new → IsWritten told loading old new
    on_written old new written = record { loaded = written.loaded; passes = on_passes written.loaded written.passes; text = written.text; writes = written.writes; appended = written.appended }

    pub on_cut : (old new : Option (List ℕ)) (before now : ℕ) → OutFailed told then old new before now → OutFailed told loading old new before now
    on_cut old new before now cut = record { loaded = cut.loaded; passes = on_passes cut.loaded cut.passes; text = cut.text; begins = cut.begins; part = cut.part; cause = cut.cause }

    pub on_breach : (old new line_old line_new : Option (List ℕ)) → IsBreach told then old new line_old line_new → IsBreach told loading old new line_old line_new
    on_breach old new line_old line_new breach =
        record { text = breach.text; line = breach.line; breaks = on_breaks breach.text breach.line breach.breaks; appended = breach.appended; said = breach.said }

    pub on_breach_cut : (old new : Option (List ℕ)) (before now : ℕ) (line_old line_new : Option (List ℕ)) (line_before line_now : ℕ)
        → BreachFailed told then old new before now line_old line_new line_before line_now → BreachFailed told loading old new before now line_old line_new line_before line_now
    on_breach_cut old new before now line_old line_new line_before line_now cut = record {
      text = cut.text;
      line = cut.line;
      breaks = on_breaks cut.text cut.line cut.breaks;
      appended = cut.appended;
      fine = cut.fine;
      part = cut.part;
      cause = cut.cause;
    }

    -- and back, where the shelf tells what it gives.

    same_bytes : (others : List ℕ) → Tells told load others → others ≡ bytes
    same_bytes others tells = sym (told_loaded (told load.name) others bytes tells.tells given.kept)

    back_reached : (found : List (List ℕ)) (rest : List Load) → Leads (Tells told) stages.goes_on found rest loaded (load ∷ loads)
        → ((found ≡ loaded) × (rest ≡ load ∷ loads)) ⊎ Leads (Tells told) stages.goes_on found rest (loaded ++ bytes ∷ []) loads
    back_reached found rest leads = elim (next_reached (Tells told) stages.goes_on found rest loaded load loads leads) [
      | inl (same, others) ↦ inl (same, others)
      | inr (others, went, tells, later) ↦ inr (subst (λ some. Leads (Tells told) stages.goes_on found rest (loaded ++ some ∷ []) loads) (same_bytes others tells) later)
    ]

    pub back_refusal : (refusal : Refusal) → IsFirstRefusal (Tells told) loading refusal → IsFirstRefusal (Tells told) then refusal
    back_refusal refusal first = elim (back_reached first.loaded first.rest first.reached) [
      | inl (same, rest) ↦ absurd (exact.apart loaded refusal (subst (λ some. stages.refuses some refusal) same first.refuses) goes)
      | inr later ↦ record { loaded = first.loaded; rest = first.rest; reached = later; refuses = first.refuses }
    ]

    pub back_overflow : (found : List (List ℕ)) → Overflows told loading found → Overflows told then found
    back_overflow found long = elim (back_reached found (long.load ∷ long.asked.later) long.asked.reached) [
      | inl (same, rest) ↦
          let is : long.load ≡ load = cc in
          absurd (past_given told load bytes given (subst (λ (some : Load). Exceeds (told some.name) some.limit) is long.past))
      | inr later ↦ record { load = long.load; asked = record { later = long.asked.later; reached = later; goes_on = long.asked.goes_on }; past = long.past }
    ]

    back_passes : (found : List (List ℕ)) → Passes (Tells told) loading found → Passes (Tells told) then found
    back_passes found passes = elim (back_reached found [] passes.reached) [
      | inl (same, rest) ↦ absurd cc
      | inr later ↦ record { reached = later; goes_on = passes.goes_on }
    ]

    pub back_ends : (found : List (List ℕ)) → Ends (Tells told) loading found → Ends (Tells told) then found
    back_ends found ends = record { passes = back_passes found ends.passes; unbroken = ends.unbroken }

    pub back_breaks : (text line : List ℕ) → Breaks (Tells told) loading text line → Breaks (Tells told) then text line
    back_breaks text line broken = record { loaded = broken.loaded; passes = back_passes broken.loaded broken.passes; breaks = broken.breaks }

-- Bytes taken.

grew_under : (under : Option (List ℕ)) (old middle new limit : ℕ) → old ≤ middle → IfNone under (GrewPast limit middle new) → IfNone under (GrewPast limit old new)
grew_under None old middle new limit later grew = omega (arith, later, grew)
grew_under (Some bytes) old middle new limit later grew = tt

-- a load before takes bytes too
pub more_taken : (told : List ℕ → Option (List ℕ)) (begin : Stage) (before middle now : ℕ) (old new : Option (List ℕ)) → before ≤ middle → IsTooLong told begin middle now old new → IsTooLong told begin before now old new
more_taken told begin before middle now old new later long = record {
  loaded = long.loaded;
  load = long.load;
  asked = long.asked;
  long = long.long;
  taken = grew_under (told long.load.name) before middle now long.load.limit later long.taken;
  appended = long.appended;
}
