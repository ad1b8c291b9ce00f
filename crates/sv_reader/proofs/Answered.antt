-- What the answer to a whole text says: its modules, or the one place where it is not emitted. A text that is read to its end between
-- two modules is theirs; one that is left inside a module, or with a piece, or stopped at a line, is not emitted there; and no text is both.
use Rattle.std.proofs.Common.{◌≡◌, ◌≢◌, ◌⊎◌, ◌-◌, ◌≤◌, ℕ, List, [], ◌∷◌, length, Result, Ok, Err, inl, inr, refl, arith, ap, ◌∙◌}
use Rattle.std.specs.Prelude.{IfOk, IfErr, MatchResult}
use Rattle.sv_tree.specs.Module.{Module}
use Rattle.sv_tree.specs.Text.{IsTextOf}
use Rattle.sv_reader.specs.declared.error.SvErr.{SvErr}
use Rattle.sv_reader.specs.declared.error.SvErr.TheVariants.{NotEmitted, NoMemory}
use Rattle.sv_lines.specs.Refused.{IsNotEmitted}
use Rattle.sv_reader.specs.SeenState.{IsRefusedBy}
use Rattle.sv_lines.specs.State.{State, between, inside, start}
use Rattle.sv_lines.specs.Step.{read_on, read_to_end, stopped}
use Rattle.sv_lines.proofs.back.TextRead.{one_list}
use Rattle.sv_lines.proofs.answer.NotEmitted.{stopped_is_not_emitted, piece_is_not_emitted, inside_is_not_emitted, one_place, emitted_or_not}
use Rattle.sv_lines.proofs.begun.Whole.{viable, read_is_text}

-- want of memory, or the place where the text is not emitted
abbrev pub Refuses : List ℕ → SvErr → Type 0
Refuses text fault = (fault ≡ NoMemory) ⊎ ((at : ℕ) × (fault ≡ NotEmitted at) × IsNotEmitted text at)

abbrev pub Answers : {V : Type 0} → (V → List Module) → List ℕ → Result V SvErr → Type 0
Answers items text result = MatchResult result (λ modules. IsTextOf text (items modules)) (Refuses text)

-- The clauses.

pub its_modules : {V : Type 0} (items : V → List Module) (text : List ℕ) (result : Result V SvErr) → Answers items text result → IfOk result (λ modules. IsTextOf text (items modules))
its_modules items text (Ok modules) answers = answers
its_modules items text (Err fault) answers = tt

no_text : (text : List ℕ) (fault : SvErr) (modules : List Module) → Refuses text fault → IsTextOf text modules → fault ≡ NoMemory
no_text text fault modules (inl full) is = full
no_text text fault modules (inr (at, same, refused)) is = absurd (emitted_or_not text modules at is refused)

pub its_text : {V : Type 0} (items : V → List Module) (text : List ℕ) (result : Result V SvErr) → Answers items text result → (modules : List Module) → IsTextOf text modules
    → MatchResult result (λ found. items found ≡ modules) (λ fault. fault ≡ NoMemory)
its_text items text (Ok found) answers modules is = one_list text (items found) modules answers is
its_text items text (Err fault) answers modules is = no_text text fault modules answers is

refused_by : (text : List ℕ) (fault : SvErr) → Refuses text fault → fault ≢ NoMemory → IsRefusedBy text fault
refused_by text fault (inl full) other = absurd (other full)
refused_by text fault (inr (at, same, refused)) other = rw same refused

pub its_refusal : {V : Type 0} (items : V → List Module) (text : List ℕ) (result : Result V SvErr) → Answers items text result
    → IfErr result (λ fault. fault ≢ NoMemory → IsRefusedBy text fault)
its_refusal items text (Ok modules) answers = tt
its_refusal items text (Err fault) answers = refused_by text fault answers

refused_at : (text : List ℕ) (fault : SvErr) (place : ℕ) → Refuses text fault → IsNotEmitted text place → (fault ≡ NotEmitted place) ⊎ (fault ≡ NoMemory)
refused_at text fault place (inl full) is = inr full
refused_at text fault place (inr (at, same, refused)) is = let one = one_place viable text at place refused is in inl (same ∙ ap NotEmitted one)

pub its_place : {V : Type 0} (items : V → List Module) (text : List ℕ) (result : Result V SvErr) → Answers items text result → (place : ℕ) → IsNotEmitted text place
    → MatchResult result (λ _. ⊥) (λ fault. (fault ≡ NotEmitted place) ⊎ (fault ≡ NoMemory))
its_place items text (Ok modules) answers place is = emitted_or_not text (items modules) place answers is
its_place items text (Err fault) answers place is = refused_at text fault place answers is

-- Where the answer comes from.

pub stopped_answers : (text : List ℕ) (fault : SvErr) → (fault ≡ NoMemory) ⊎ ((at : ℕ) × (fault ≡ NotEmitted at) × (read_on start 0 [] text ≡ stopped at)) → Refuses text fault
stopped_answers text fault (inl full) = inl full
stopped_answers text fault (inr (at, same, stops)) = inr (at, same, stopped_is_not_emitted viable text at stops)

nothing_left : (text : List ℕ) (state : State) → read_on start 0 [] text ≡ read_to_end state [] → ((modules : List Module) → state ≢ between modules) → IsNotEmitted text (length text)
nothing_left text (between whole) read other = absurd (other whole refl)
nothing_left text (inside whole draft wanted) read other = inside_is_not_emitted viable text whole draft wanted read

not_emitted : (text : List ℕ) (state : State) (left : List ℕ) → length left ≤ length text → read_on start 0 [] text ≡ read_to_end state left
    → ((length left ≡ 0) → (modules : List Module) → state ≢ between modules) → IsNotEmitted text (length text - length left)
not_emitted text state [] within read other =
    let all : length text - 0 ≡ length text = omega arith in
    rw all (nothing_left text state read (other refl))
not_emitted text state (byte ∷ piece) within read other =
    piece_is_not_emitted viable text state byte piece (length text - length (byte ∷ piece)) read (omega (arith, within))

modules_of : (text : List ℕ) (state : State) (left : List ℕ) (modules : List Module) → read_on start 0 [] text ≡ read_to_end state left → length left ≡ 0 → state ≡ between modules
    → IsTextOf text modules
modules_of text state [] modules read none is = read_is_text text modules (rw is at read)
modules_of text state (byte ∷ piece) modules read none is = absurd (omega (arith, none))

pub end_answers : {V : Type 0} (items : V → List Module) (text : List ℕ) (state : State) (left : List ℕ) (result : Result V SvErr) → length left ≤ length text
    → read_on start 0 [] text ≡ read_to_end state left
    → MatchResult result (λ modules. (length left ≡ 0) × (state ≡ between (items modules)))
    (λ fault. (fault ≡ NotEmitted (length text - length left)) × ((length left ≡ 0) → (modules : List Module) → state ≢ between modules))
    → Answers items text result
end_answers items text state left (Ok modules) within read ended = modules_of text state left (items modules) read ended.0 ended.1
end_answers items text state left (Err fault) within read ended = inr (length text - length left, ended.0, not_emitted text state left within read ended.1)
