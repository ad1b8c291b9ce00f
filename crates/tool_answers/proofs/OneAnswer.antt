-- At most one answer has its cause.
--
-- The claim: from one stage two ways of loading and going on lead to the same answer. The argument is by both ways together: where
-- both load, the shelf tells the same bytes, so they reach the same stage; and a stage that refuses does not go on, a load that is
-- too long gives no bytes, and behind the last stage there is no load.
use Rattle.std.proofs.Common.{◌≡◌, ℕ, ◌<◌, ◌≤◌, List, [], ◌∷◌, ◌++◌, length, Option, Some, refl, sym, ap, ◌∙◌, subst, arith}
use Rattle.command_words.specs.Form.{Load}
use Rattle.tool_answers.specs.declared.refusal.Refusal.{Refusal}
use Rattle.tool_answers.specs.declared.status.Status.{Status}
use Rattle.tool_answers.specs.declared.status.Status.TheVariants.{Done, Refused, TooLong, Breach}
use Rattle.tool_answers.specs.Lines.{refusal_line, too_long_line}
use Rattle.tool_answers.specs.Stages.{AreExact, Stage, Stages}
use Rattle.tool_answers.specs.Answer.{Tells, Exceeds, Leads, here, on}
use Rattle.tool_answers.specs.OneAnswer.{HasCause, of_length, of_stage, of_text, of_breach, HasOneAnswer}

-- where a way ends: refused, too long, or behind the last stage
data Stops (told : List ℕ → Option (List ℕ)) (stages : Stages) : List (List ℕ) → List Load → Status → List ℕ → Type 0 where
  refuses : (loaded : List (List ℕ)) (rest : List Load) (refusal : Refusal) → stages.refuses loaded refusal → Stops told stages loaded rest Refused (refusal_line refusal)
  exceeds : (loaded : List (List ℕ)) (load : Load) (rest : List Load) → stages.goes_on loaded → Exceeds (told load.name) load.limit
      → Stops told stages loaded (load ∷ rest) TooLong (too_long_line load.name)
  ends : (loaded : List (List ℕ)) → stages.goes_on loaded → ((text line : List ℕ) → stages.breaks loaded text line → ⊥) → Stops told stages loaded [] Done []
  breaks : (loaded : List (List ℕ)) (text line : List ℕ) → stages.goes_on loaded → stages.breaks loaded text line → Stops told stages loaded [] Breach line

module _ (told : List ℕ → Option (List ℕ)) (stages : Stages) (sound : AreExact stages) where
  -- one stage stops in one way
  stops_once : (loaded : List (List ℕ)) (rest : List Load) (one other : Status) (line said : List ℕ) → Stops told stages loaded rest one line
      → Stops told stages loaded rest other said → (one ≡ other) × (line ≡ said)
  stops_once loaded rest one other line said (refuses a b refusal first) (refuses c d found second) = (refl, ap refusal_line (sound.once loaded refusal found first second))
  stops_once loaded rest one other line said (refuses a b refusal first) (exceeds c load d went past) = absurd (sound.apart loaded refusal first went)
  stops_once loaded rest one other line said (refuses a b refusal first) (ends c went whole) = absurd (sound.apart loaded refusal first went)
  stops_once loaded rest one other line said (refuses a b refusal first) (breaks c text told_line went stops) = absurd (sound.apart loaded refusal first went)
  stops_once loaded rest one other line said (exceeds a load b went past) (refuses c d found second) = absurd (sound.apart loaded found second went)
  stops_once loaded rest one other line said (exceeds a load b went past) (exceeds c next d went_too past_too) = (refl, refl)
  stops_once loaded rest one other line said (ends a went whole) (refuses c d found second) = absurd (sound.apart loaded found second went)
  stops_once loaded rest one other line said (ends a went whole) (ends c went_too whole_too) = (refl, refl)
  stops_once loaded rest one other line said (ends a went whole) (breaks c text told_line went_too stops) = absurd (whole text told_line stops)
  stops_once loaded rest one other line said (breaks a text told_line went stops) (refuses c d found second) = absurd (sound.apart loaded found second went)
  stops_once loaded rest one other line said (breaks a text told_line went stops) (ends c went_too whole) = absurd (whole text told_line stops)
  stops_once loaded rest one other line said (breaks a text told_line went stops) (breaks c text_too line_too went_too stops_too) = (refl, (sound.one_break loaded text text_too told_line line_too stops stops_too).1)

  told_past : (told_bytes : Option (List ℕ)) (limit : ℕ) (bytes : List ℕ) → told_bytes ≡ Some bytes → length bytes ≤ limit → Exceeds told_bytes limit → ⊥
  told_past told_bytes limit bytes is within past = let long : limit < length bytes = subst (λ it. Exceeds it limit) is past in omega (arith, long, within)

  -- a stage that stops is not passed
  stops_or_passes : (before : List (List ℕ)) (load : Load) (loads : List Load) (bytes : List ℕ) (one : Status) (line : List ℕ)
      → Stops told stages before (load ∷ loads) one line → stages.goes_on before → Tells told load bytes → ⊥
  stops_or_passes before load loads bytes one line (refuses a b refusal first) went tells = sound.apart before refusal first went
  stops_or_passes before load loads bytes one line (exceeds a next b went_too past) went tells = told_past (told load.name) load.limit bytes tells.tells tells.within past

  same_bytes : (load : Load) (bytes others : List ℕ) → Tells told load bytes → Tells told load others → others ≡ bytes
  same_bytes load bytes others tells tells_too = let same : Some others ≡ Some bytes = sym tells_too.tells ∙ tells.tells in cc

  -- two ways from one stage
  one_way : (loaded found : List (List ℕ)) (rest left : List Load) (before : List (List ℕ)) (loads : List Load) (one other : Status) (line said : List ℕ)
      → Leads (Tells told) stages.goes_on loaded rest before loads → Stops told stages loaded rest one line
      → Leads (Tells told) stages.goes_on found left before loads → Stops told stages found left other said → (one ≡ other) × (line ≡ said)
  one_way loaded found rest left before loads one other line said here stop here stop_too = stops_once before loads one other line said stop stop_too
  one_way loaded found rest left before loads one other line said here stop (on a load later bytes went tells next) stop_too =
      absurd (stops_or_passes before load later bytes one line stop went tells)
  one_way loaded found rest left before loads one other line said (on a load later bytes went tells next) stop here stop_too =
      absurd (stops_or_passes before load later bytes other said stop_too went tells)
  one_way loaded found rest left before loads one other line said (on a load later bytes went tells next) stop (on b first more others went_too tells_too next_too) stop_too =
      one_way loaded found rest left (before ++ bytes ∷ []) later one other line said next stop
      (subst (λ it. Leads (Tells told) stages.goes_on found left (before ++ it ∷ []) later) (same_bytes load bytes others tells tells_too) next_too) stop_too

-- the way of an answer with a cause
record Way (told : List ℕ → Option (List ℕ)) (begin : Stage) (status : Status) (line : List ℕ) : Type 0 where
  loaded : List (List ℕ)
  rest : List Load
  leads : Leads (Tells told) begin.of.goes_on loaded rest begin.loaded begin.loads
  stops : Stops told begin.of loaded rest status line

way : (told : List ℕ → Option (List ℕ)) (begin : Stage) (status : Status) (line : List ℕ) → HasCause told begin status line → Way told begin status line
way told begin status line (of_length loaded long) = record {
  loaded = loaded;
  rest = long.load ∷ long.asked.later;
  leads = long.asked.reached;
  stops = exceeds loaded long.load long.asked.later long.asked.goes_on long.past;
}
way told begin status line (of_stage refusal first) = record {
  loaded = first.loaded;
  rest = first.rest;
  leads = first.reached;
  stops = refuses first.loaded first.rest refusal first.refuses;
}
way told begin status line (of_text loaded whole) = record {
  loaded = loaded;
  rest = [];
  leads = whole.passes.reached;
  stops = ends loaded whole.passes.goes_on whole.unbroken;
}
way told begin status line (of_breach text said broken) = record {
  loaded = broken.loaded;
  rest = [];
  leads = broken.passes.reached;
  stops = breaks broken.loaded text said broken.passes.goes_on broken.breaks;
}

pub one_answer : HasOneAnswer
one_answer told begin exact one other line said first second =
    let here = way told begin one line first in
    let there = way told begin other said second in
    one_way told begin.of exact here.loaded there.loaded here.rest there.rest begin.loaded begin.loads one other line said here.leads here.stops there.leads there.stops
