-- What a command does with the bytes of the files that it loads.
--
-- A command has one stage more than it has files. A stage has loaded the first so many of them, none at first: it
-- refuses their bytes, or goes on, to the load of the next file, and behind the last one to the output. The bytes are
-- listed in the order of the loads.
use Rattle.std.specs.Prelude.{◌≡◌, ℕ, List, [], ◌∷◌, ◌++◌}
use Rattle.command_words.specs.Form.{Load}
use Rattle.tool_answers.specs.declared.refusal.Refusal.{Refusal}

-- what the stages of a command say of the bytes that they have
pub record Stages : Type 1 where
  pub refuses : List (List ℕ) → Refusal → Type 0
  pub goes_on : List (List ℕ) → Type 0
  -- behind the last stage: the text that is written, and a text with which it begins
  pub writes : List (List ℕ) → List ℕ → Type 0
  pub begins : List (List ℕ) → List ℕ → Type 0
  -- a text that stops early, at a promise that is broken, and the line that says so
  pub breaks : List (List ℕ) → List ℕ → List ℕ → Type 0

-- a stage has one refusal at most, and does not go on where it has one; and a text stops early in one way
pub record AreExact (stages : Stages) : Type 0 where
  pub once : (loaded : List (List ℕ)) (one other : Refusal)
      → stages.refuses loaded one → stages.refuses loaded other → one ≡ other
  pub apart : (loaded : List (List ℕ)) (refusal : Refusal)
      → stages.refuses loaded refusal → stages.goes_on loaded → ⊥
  pub one_break : (loaded : List (List ℕ)) (text other line said : List ℕ)
      → stages.breaks loaded text line → stages.breaks loaded other said → (text ≡ other) × (line ≡ said)

-- where a call stands: the stages of its command, the bytes that it has, and the loads that are to come
pub record Stage : Type 1 where
  pub of : Stages
  pub loaded : List (List ℕ)
  pub loads : List Load

-- the stage behind a load
abbrev pub behind : Stages → List (List ℕ) → List ℕ → List Load → Stage
behind stages loaded bytes loads = record { of = stages; loaded = loaded ++ bytes ∷ []; loads = loads }
