-- A text that is not read to its end between two modules is not emitted, at the place where the reading stops, or where the
-- piece without a line feed begins, or at its end; such a text is that of no modules; and there is one such place. That what
-- is read begins a valid text, `Viable`, is proved elsewhere and taken here as an argument.
use Rattle.std.proofs.Common.{◌≡◌, ℕ, ◌+◌, Bool, true, false, List, [], ◌∷◌, ◌++◌, length, Option, Some, None, refl, ap, sym, ◌∙◌, arith, append-nil, append_assoc, length-append}
use Rattle.std.proofs.lemmas.Bool.{and_parts, not-true}
use Rattle.std.specs.Prelude.{◌==◌}
use Rattle.std.specs.List.{list_all}
use Rattle.sv_tree.specs.Module.{Module}
use Rattle.sv_tree.specs.Text.{IsTextOf}
use Rattle.sv_lines.specs.Refused.{BeginsText, AreWholeLines, no_lines, ends_line, StopsBefore, line_cannot, piece_left, nothing_left, IsNotEmitted}
use Rattle.sv_lines.specs.State.{State, Wanted, between, inside, start}
use Rattle.sv_lines.specs.Step.{Outcome, read_to_end, stopped, step, line_read, read_on}
use Rattle.sv_lines.proofs.back.Goes.{is_quiet_byte, Quiet, line_read_on}
use Rattle.sv_lines.proofs.back.TextRead.{text_read}
use Rattle.sv_lines.proofs.answer.Fronts.{at_feed, elsewhere, front_reads, reads_on, stopped_begins_none, ends_between}
use Rattle.sv_lines.proofs.answer.Stops.{no_feed_there, is_quiet, stops_at, leaves}

-- what is read without a line that cannot stand, and with no piece left, begins a valid text
abbrev pub Viable : Type 0
Viable = (front : List ℕ) (state : State) → read_on start 0 [] front ≡ read_to_end state [] → BeginsText front

-- the reading of a front, and of a line behind it
line_behind : (before line later : List ℕ) (state : State) → read_on start 0 [] before ≡ read_to_end state [] → Quiet line
    → read_on start 0 [] (before ++ (line ++ (10 ∷ later))) ≡ line_read (length before) (step state line) (λ next. read_on next (length before + length line + 1) [] later)
line_behind before line later state read quiet =
    let placed : length before + 0 ≡ 0 + 0 + length before = omega arith in
    front_reads state (length before) [] before (line ++ (10 ∷ later)) start 0 [] placed read ∙ line_read_on state (length before) line later quiet

-- The three ways.

pub stopped_is_not_emitted : Viable → (text : List ℕ) (there : ℕ) → read_on start 0 [] text ≡ stopped there → IsNotEmitted text there
stopped_is_not_emitted viable text there e =
    let at = stops_at there text start 0 [] refl e in
    let front = at.front in
    let placed = front.placed in
    let cannot : read_on start 0 [] (front.before ++ (at.line ++ (10 ∷ []))) ≡ stopped (length front.before) =
    line_behind front.before at.line [] at.state front.read at.quiet ∙ (rw (at.cannot) refl) in
    record {
      before = front.before;
      behind = at.line ++ (10 ∷ at.later);
      joined = front.joined;
      placed = omega arith;
      lines = front.lines;
      goes_on = viable front.before at.state front.read;
      stops = line_cannot at.line at.later (no_feed_there at.line at.quiet) (stopped_begins_none (front.before ++ (at.line ++ (10 ∷ []))) (length front.before) cannot);
    }

pub piece_is_not_emitted : Viable → (text : List ℕ) (state : State) (byte : ℕ) (piece : List ℕ) (there : ℕ) → read_on start 0 [] text ≡ read_to_end state (byte ∷ piece)
    → there + length (byte ∷ piece) ≡ length text → IsNotEmitted text there
piece_is_not_emitted viable text state byte piece there e is_there =
    let left = leaves state (byte ∷ piece) text start 0 [] refl e in
    let front = left.front in
    let total : length text ≡ length front.before + length (byte ∷ piece) = ap length front.joined ∙ length-append front.before (byte ∷ piece) in
    record {
      before = front.before;
      behind = byte ∷ piece;
      joined = front.joined;
      placed = omega arith;
      lines = front.lines;
      goes_on = viable front.before state front.read;
      stops = piece_left byte piece (no_feed_there (byte ∷ piece) left.quiet);
    }

never_between : (text : List ℕ) (whole : List Module) (draft : Module) (wanted : Wanted) → read_on start 0 [] text ≡ read_to_end (inside whole draft wanted) []
    → (modules : List Module) → ¬ (IsTextOf text modules)
never_between text whole draft wanted e modules is =
    let ends = ends_between text (inside whole draft wanted) [] modules e is in
    let clash : inside whole draft wanted ≡ between modules = ends.is_between in
    absurd cc

pub inside_is_not_emitted : Viable → (text : List ℕ) (whole : List Module) (draft : Module) (wanted : Wanted)
    → read_on start 0 [] text ≡ read_to_end (inside whole draft wanted) [] → IsNotEmitted text (length text)
inside_is_not_emitted viable text whole draft wanted e =
    let front = (leaves (inside whole draft wanted) [] text start 0 [] refl e).front in
    let same : text ≡ front.before = front.joined ∙ append-nil front.before in
    record {
      before = text;
      behind = [];
      joined = sym (append-nil text);
      placed = refl;
      lines = rw same front.lines;
      goes_on = viable text (inside whole draft wanted) e;
      stops = nothing_left (never_between text whole draft wanted e);
    }

-- What whole lines leave, and what a piece leaves.

empty_by : (from end : State) (place : ℕ) (line left : List ℕ) (found : Option State) → step from line ≡ found → read_on from place line (10 ∷ []) ≡ read_to_end end left → left ≡ []
empty_by from end place line left None is e =
    let short : read_on from place line (10 ∷ []) ≡ stopped place = at_feed from place line 10 [] refl ∙ rw is refl in
    let clash : stopped place ≡ read_to_end end left = sym short ∙ e in
    absurd cc
empty_by from end place line left (Some next) is e =
    let short : read_on from place line (10 ∷ []) ≡ read_to_end next [] = at_feed from place line 10 [] refl ∙ rw is refl in
    let same : read_to_end next [] ≡ read_to_end end left = sym short ∙ e in
    cc

empty_step : (from end : State) (place : ℕ) (line left : List ℕ) (byte : ℕ) (text : List ℕ) (feed : Bool) (found : Option State) → (byte == 10) ≡ feed → step from line ≡ found
    → ((next : State) (place : ℕ) (line : List ℕ) → read_on next place line text ≡ read_to_end end left → left ≡ []) → read_on from place line (byte ∷ text) ≡ read_to_end end left
    → left ≡ []
empty_step from end place line left byte text true None is_feed is later e =
    let short : read_on from place line (byte ∷ text) ≡ stopped place = at_feed from place line byte text is_feed ∙ rw is refl in
    let clash : stopped place ≡ read_to_end end left = sym short ∙ e in
    absurd cc
empty_step from end place line left byte text true (Some next) is_feed is later e =
    let short : read_on from place line (byte ∷ text) ≡ read_on next (place + length line + 1) [] text = at_feed from place line byte text is_feed ∙ rw is refl in
    later next (place + length line + 1) [] (sym short ∙ e)
empty_step from end place line left byte text false found is_feed is later e = later from place (line ++ (byte ∷ [])) (sym (elsewhere from place line byte text is_feed) ∙ e)

line_leaves_nothing : (end : State) (left front : List ℕ) (from : State) (place : ℕ) (line : List ℕ) → read_on from place line (front ++ (10 ∷ [])) ≡ read_to_end end left → left ≡ []
line_leaves_nothing end left [] from place line e = empty_by from end place line left (step from line) refl e
line_leaves_nothing end left (byte ∷ front) from place line e =
    empty_step from end place line left byte (front ++ (10 ∷ [])) (byte == 10) (step from line) refl refl
    (λ next place line e. line_leaves_nothing end left front next place line e) e

lines_leave_nothing : (end : State) (left before : List ℕ) → AreWholeLines before → read_on start 0 [] before ≡ read_to_end end left → left ≡ []
lines_leave_nothing end left [] no_lines e = cc
lines_leave_nothing end left before (ends_line front) e = line_leaves_nothing end left front start 0 [] e

pub quiet_left : (from : State) (place : ℕ) (line text : List ℕ) → Quiet text → read_on from place line text ≡ read_to_end from (line ++ text)
quiet_left from place line [] quiet = rw (append-nil line) refl
quiet_left from place line (byte ∷ text) quiet =
    let parts = and_parts (is_quiet_byte byte) (list_all is_quiet_byte text) quiet in
    let joined : (line ++ (byte ∷ [])) ++ text ≡ line ++ (byte ∷ text) = append_assoc line (byte ∷ []) text in
    elsewhere from place line byte text (not-true (byte == 10) parts.0) ∙ (rw joined at (quiet_left from place (line ++ (byte ∷ [])) text parts.1))

-- whole lines that begin a valid text are read, with nothing left
record FrontRead (before : List ℕ) : Type 0 where
  state : State
  read : read_on start 0 [] before ≡ read_to_end state []

front_read : (before : List ℕ) → AreWholeLines before → BeginsText before → FrontRead before
front_read before lines (more, modules, is) =
    let on = reads_on before more modules is in
    let nothing = lines_leave_nothing on.state on.left before lines on.read in
    record { state = on.state; read = rw nothing at on.read }

-- No text is both.

pub emitted_or_not : (text : List ℕ) (modules : List Module) (place : ℕ) → IsTextOf text modules → IsNotEmitted text place → ⊥
emitted_or_not text modules place is refused = never refused.behind refused.joined refused.stops
  where
    piece_is_left : (byte : ℕ) (piece : List ℕ) → Quiet (byte ∷ piece) → text ≡ refused.before ++ (byte ∷ piece) → ⊥
    piece_is_left byte piece quiet joined =
        let front = front_read refused.before refused.lines refused.goes_on in
        let placed : length refused.before + 0 ≡ 0 + 0 + length refused.before = omega arith in
        let read : read_on start 0 [] (refused.before ++ (byte ∷ piece)) ≡ read_to_end front.state (byte ∷ piece) =
        front_reads front.state (length refused.before) [] refused.before (byte ∷ piece) start 0 [] placed front.read
        ∙ quiet_left front.state (length refused.before) [] (byte ∷ piece) quiet in
        let whole : read_on start 0 [] (refused.before ++ (byte ∷ piece)) ≡ read_to_end (between modules) [] = rw (← joined) (text_read text modules is) in
        let clash : read_to_end front.state (byte ∷ piece) ≡ read_to_end (between modules) [] = sym read ∙ whole in
        absurd cc

    never : (behind : List ℕ) → text ≡ refused.before ++ behind → StopsBefore text refused.before behind → ⊥
    never behind joined (line_cannot line later none cannot) =
        let cut : (refused.before ++ (line ++ (10 ∷ []))) ++ later ≡ refused.before ++ (line ++ (10 ∷ later)) =
        append_assoc refused.before (line ++ (10 ∷ [])) later ∙ ap (λ (piece : List ℕ). refused.before ++ piece) (append_assoc line (10 ∷ []) later) in
        let same : text ≡ (refused.before ++ (line ++ (10 ∷ []))) ++ later = joined ∙ sym cut in
        cannot (later, modules, rw (← same) is)
    never behind joined (piece_left byte piece none) = piece_is_left byte piece (is_quiet (byte ∷ piece) none) joined
    never behind joined (nothing_left none) = none modules is

-- One place.

-- what the outcome says of the place
abbrev Refuses : (place total : ℕ) → Outcome → Type 0
Refuses place total (stopped there) = there ≡ place
Refuses place total (read_to_end state left) = place + length left ≡ total

line_by : Viable → (before line later : List ℕ) (state : State) (found : Option State) → step state line ≡ found → read_on start 0 [] before ≡ read_to_end state [] → Quiet line
    → ¬ (BeginsText (before ++ (line ++ (10 ∷ [])))) → read_on start 0 [] (before ++ (line ++ (10 ∷ later))) ≡ stopped (length before)
line_by viable before line later state None is read quiet cannot = line_behind before line later state read quiet ∙ (rw is refl)
line_by viable before line later state (Some next) is read quiet cannot =
    let reached : read_on start 0 [] (before ++ (line ++ (10 ∷ []))) ≡ read_to_end next [] = line_behind before line [] state read quiet ∙ (rw is refl) in
    absurd (cannot (viable (before ++ (line ++ (10 ∷ []))) next reached))

refuses : Viable → (text before behind : List ℕ) → text ≡ before ++ behind → AreWholeLines before → BeginsText before → StopsBefore text before behind
    → Refuses (length before) (length text) (read_on start 0 [] text)
refuses viable text before behind joined lines begins (line_cannot line later none cannot) =
    let front = front_read before lines begins in
    let read : read_on start 0 [] text ≡ stopped (length before) =
    ap (λ (whole : List ℕ). read_on start 0 [] whole) joined
    ∙ line_by viable before line later front.state (step front.state line) refl front.read (is_quiet line none) cannot in
    rw read refl
refuses viable text before behind joined lines begins (piece_left byte piece none) =
    let front = front_read before lines begins in
    let placed : length before + 0 ≡ 0 + 0 + length before = omega arith in
    let read : read_on start 0 [] text ≡ read_to_end front.state (byte ∷ piece) =
    ap (λ (whole : List ℕ). read_on start 0 [] whole) joined
    ∙ (front_reads front.state (length before) [] before (byte ∷ piece) start 0 [] placed front.read
    ∙ quiet_left front.state (length before) [] (byte ∷ piece) (is_quiet (byte ∷ piece) none)) in
    let total : length text ≡ length before + length (byte ∷ piece) = ap length joined ∙ length-append before (byte ∷ piece) in
    rw read (sym total)
refuses viable text before behind joined lines begins (nothing_left none) =
    let front = front_read before lines begins in
    let same : text ≡ before = joined ∙ append-nil before in
    let read : read_on start 0 [] text ≡ read_to_end front.state [] = rw same front.read in
    let total : length before + 0 ≡ length text = let long = ap length same in omega arith in
    rw read total

one_place_by : (one other total : ℕ) (outcome : Outcome) → Refuses one total outcome → Refuses other total outcome → one ≡ other
one_place_by one other total (stopped there) first second = sym first ∙ second
one_place_by one other total (read_to_end state left) first second = omega arith

pub one_place : Viable → (text : List ℕ) (one other : ℕ) → IsNotEmitted text one → IsNotEmitted text other → one ≡ other
one_place viable text one other first second =
    let is_first = refuses viable text first.before first.behind first.joined first.lines first.goes_on first.stops in
    let is_second = refuses viable text second.before second.behind second.joined second.lines second.goes_on second.stops in
    let same = one_place_by (length first.before) (length second.before) (length text) (read_on start 0 [] text) is_first is_second in
    sym first.placed ∙ (same ∙ second.placed)
