-- A reading that stands before the rest of a text, line by line: a line that is read leaves it before what follows, one that cannot
-- stand stops it at the line's place, and a rest without a line feed is left.
use Rattle.std.proofs.Common.{◌≡◌, ◌+◌, ◌-◌, ◌≤◌, ℕ, List, [], ◌∷◌, ◌++◌, length, Some, None, refl, arith, ap, ◌∙◌, length-append}
use Rattle.sv_lines.specs.Good.{IsGood}
use Rattle.sv_lines.specs.State.{State, start}
use Rattle.sv_lines.specs.Step.{read_to_end, stopped, step, line_read, read_on}
use Rattle.sv_lines.proofs.back.Goes.{Quiet, line_read_on}
use Rattle.sv_lines.proofs.kept.GoodKept.{good_kept}
use Rattle.sv_lines.proofs.answer.NotEmitted.{quiet_left}

pub record Stands (whole rest : List ℕ) (state : State) : Type 0 where
  pub good : IsGood state
  pub within : length rest ≤ length whole
  pub same : read_on start 0 [] whole ≡ read_on state (length whole - length rest) [] rest

longer : (rest line behind : List ℕ) → rest ≡ line ++ (10 ∷ behind) → length rest ≡ length line + 1 + length behind
longer rest line behind joined =
    let whole = ap length joined ∙ length-append line (10 ∷ behind) in
    let one : length (10 ∷ behind) ≡ length behind + 1 = omega arith in
    omega (arith, whole, one)

line_first : (rest line behind : List ℕ) (state : State) (place : ℕ) → rest ≡ line ++ (10 ∷ behind) → Quiet line
    → read_on state place [] rest ≡ line_read place (step state line) (λ next. read_on next (place + length line + 1) [] behind)
line_first rest line behind state place joined quiet = rw joined (line_read_on state place line behind quiet)

pub line_passed : (whole rest line behind : List ℕ) (state next : State) → Stands whole rest state → Quiet line → rest ≡ line ++ (10 ∷ behind) → step state line ≡ Some next
    → Stands whole behind next
line_passed whole rest line behind state next stands quiet joined is =
    let long = longer rest line behind joined in
    let within = stands.within in
    let first = line_first rest line behind state (length whole - length rest) joined quiet in
    let place : length whole - length rest + length line + 1 ≡ length whole - length behind = omega (arith, long, within) in
    let passed : read_on state (length whole - length rest) [] rest ≡ read_on next (length whole - length rest + length line + 1) [] behind = first ∙ (rw is refl) in
    record {
      good = good_kept state next line stands.good is;
      within = omega (arith, long, within);
      same = stands.same ∙ (passed ∙ ap (λ at. read_on next at [] behind) place);
    }

pub line_stopped : (whole rest line behind : List ℕ) (state : State) → Stands whole rest state → Quiet line → rest ≡ line ++ (10 ∷ behind) → step state line ≡ None
    → read_on start 0 [] whole ≡ stopped (length whole - length rest)
line_stopped whole rest line behind state stands quiet joined is =
    stands.same ∙ (line_first rest line behind state (length whole - length rest) joined quiet ∙ (rw is refl))

pub piece_left' : (whole rest : List ℕ) (state : State) → Stands whole rest state → Quiet rest → read_on start 0 [] whole ≡ read_to_end state rest
piece_left' whole rest state stands quiet = stands.same ∙ quiet_left state (length whole - length rest) [] rest quiet
