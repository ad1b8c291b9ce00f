-- Where the reading of a text stops, or what it leaves: the text falls into whole lines, which are read, and what is behind
-- them, which begins with a line that cannot stand or has no line feed.
use Rattle.std.proofs.Common.{◌≡◌, ℕ, ◌+◌, Bool, true, false, not, List, [], ◌∷◌, ◌++◌, length, Option, Some, None, refl, ap, sym, ◌∙◌, arith, append-nil, append_assoc, length-append}
use Rattle.std.proofs.lemmas.Bool.{and_parts}
use Rattle.std.specs.Prelude.{◌≢◌, ◌==◌}
use Rattle.std.specs.List.{list_all}
use Rattle.sv_lines.specs.Refused.{has_no_line_feed, AreWholeLines, no_lines, ends_line}
use Rattle.sv_lines.specs.State.{State}
use Rattle.sv_lines.specs.Step.{read_to_end, stopped, step, read_on}
use Rattle.sv_lines.proofs.read.Decided.{number_same}
use Rattle.sv_lines.proofs.back.Goes.{is_quiet_byte, Quiet, goes_line}
use Rattle.sv_lines.proofs.back.BytesBack.{both_hold, quiet_join}
use Rattle.sv_lines.proofs.back.Once.{not_false}
use Rattle.sv_lines.proofs.answer.Fronts.{at_feed, elsewhere}

differs_by : (byte : ℕ) → is_quiet_byte byte ≡ true → byte ≢ 10
differs_by byte quiet is =
    let feed : is_quiet_byte byte ≡ false = rw is refl in
    let clash : true ≡ false = sym quiet ∙ feed in
    absurd cc

pub no_feed_there : (line : List ℕ) → Quiet line → has_no_line_feed line
no_feed_there [] quiet = tt
no_feed_there (byte ∷ line) quiet =
    let parts = and_parts (is_quiet_byte byte) (list_all is_quiet_byte line) quiet in
    (differs_by byte parts.0, no_feed_there line parts.1)

quiet_by_test : (byte : ℕ) → byte ≢ 10 → (test : Bool) → (byte == 10) ≡ test → not test ≡ true
quiet_by_test byte differs true e = absurd (differs (number_same byte 10 e))
quiet_by_test byte differs false e = refl

pub is_quiet : (line : List ℕ) → has_no_line_feed line → Quiet line
is_quiet [] none = refl
is_quiet (byte ∷ line) none = both_hold (is_quiet_byte byte) (list_all is_quiet_byte line) (quiet_by_test byte none.0 (byte == 10) refl) (is_quiet line none.1)

lines_join : (line before : List ℕ) → AreWholeLines before → AreWholeLines ((line ++ (10 ∷ [])) ++ before)
lines_join line [] no_lines = rw (append-nil (line ++ (10 ∷ []))) (ends_line line)
lines_join line before (ends_line front) =
    let joined : (line ++ (10 ∷ [])) ++ (front ++ (10 ∷ [])) ≡ ((line ++ (10 ∷ [])) ++ front) ++ (10 ∷ []) = sym (append_assoc (line ++ (10 ∷ [])) front (10 ∷ [])) in
    rw joined (ends_line ((line ++ (10 ∷ [])) ++ front))

-- the whole lines in front of a place, and the state behind them
pub record Lines (from : State) (place : ℕ) (text behind : List ℕ) (there : ℕ) (reached : State) : Type 0 where
  pub before : List ℕ
  pub joined : text ≡ before ++ behind
  pub placed : place + length before ≡ there
  pub lines : AreWholeLines before
  pub read : read_on from place [] before ≡ read_to_end reached []

pub record StopsAt (from : State) (place : ℕ) (text : List ℕ) (there : ℕ) : Type 0 where
  pub line : List ℕ
  pub later : List ℕ
  pub state : State
  pub front : Lines from place text (line ++ (10 ∷ later)) there state
  pub quiet : Quiet line
  pub cannot : step state line ≡ None

one_line_more : (from next : State) (place : ℕ) (line text behind : List ℕ) (there : ℕ) (reached : State) → Quiet line → step from line ≡ Some next
    → Lines next (place + length line + 1) text behind there reached → Lines from place (line ++ (10 ∷ text)) behind there reached
one_line_more from next place line text behind there reached quiet steps rest =
    let first = line ++ (10 ∷ []) in
    let long : length first ≡ length line + 1 = omega (arith, length-append line (10 ∷ [])) in
    let placed = rest.placed in
    let moved : place + length first ≡ place + length line + 1 = omega arith in
    record {
      before = first ++ rest.before;
      joined = let cut : line ++ (10 ∷ text) ≡ first ++ text = sym (append_assoc line (10 ∷ []) text) in
          cut ∙ ap (λ (piece : List ℕ). first ++ piece) rest.joined ∙ sym (append_assoc first rest.before behind);
      placed = omega (arith, length-append first rest.before);
      lines = lines_join line rest.before rest.lines;
      read = (goes_line from next line quiet steps).on place rest.before ∙ (rw moved rest.read);
    }

stops_here : (from : State) (place : ℕ) (line text : List ℕ) (byte there : ℕ) → Quiet line → byte ≡ 10 → step from line ≡ None → place ≡ there → StopsAt from place (line ++ (byte ∷ text)) there
stops_here from place line text byte there quiet is cannot placed = record {
  line = line;
  later = text;
  state = from;
  front = record { before = []; joined = rw is refl; placed = omega arith; lines = no_lines; read = refl };
  quiet = quiet;
  cannot = cannot;
}

stops_by : (from : State) (place : ℕ) (line : List ℕ) (byte : ℕ) (text : List ℕ) (there : ℕ) (feed : Bool) (found : Option State) → Quiet line → (byte == 10) ≡ feed
    → step from line ≡ found
    → ((next : State) (place : ℕ) (line : List ℕ) → Quiet line → read_on next place line text ≡ stopped there → StopsAt next place (line ++ text) there)
    → read_on from place line (byte ∷ text) ≡ stopped there → StopsAt from place (line ++ (byte ∷ text)) there
stops_by from place line byte text there true None quiet is_feed is_found later e =
    let short : read_on from place line (byte ∷ text) ≡ stopped place = at_feed from place line byte text is_feed ∙ rw is_found refl in
    let same : stopped place ≡ stopped there = sym short ∙ e in
    stops_here from place line text byte there quiet (number_same byte 10 is_feed) is_found cc
stops_by from place line byte text there true (Some next) quiet is_feed is_found later e =
    let short : read_on from place line (byte ∷ text) ≡ read_on next (place + length line + 1) [] text = at_feed from place line byte text is_feed ∙ rw is_found refl in
    let rest = later next (place + length line + 1) [] refl (sym short ∙ e) in
    let is = number_same byte 10 is_feed in
    rw is (record {
      line = rest.line;
      later = rest.later;
      state = rest.state;
      front = one_line_more from next place line text (rest.line ++ (10 ∷ rest.later)) there rest.state quiet is_found rest.front;
      quiet = rest.quiet;
      cannot = rest.cannot;
    })
stops_by from place line byte text there false found quiet is_feed is_found later e =
    let short = elsewhere from place line byte text is_feed in
    let one : Quiet (byte ∷ []) = both_hold (is_quiet_byte byte) true (not_false (byte == 10) is_feed) refl in
    let joined : (line ++ (byte ∷ [])) ++ text ≡ line ++ (byte ∷ text) = append_assoc line (byte ∷ []) text in
    rw joined at (later from place (line ++ (byte ∷ [])) (quiet_join line (byte ∷ []) quiet one) (sym short ∙ e))

pub stops_at : (there : ℕ) (text : List ℕ) (from : State) (place : ℕ) (line : List ℕ) → Quiet line → read_on from place line text ≡ stopped there → StopsAt from place (line ++ text) there
stops_at there [] from place line quiet e = absurd cc
stops_at there (byte ∷ text) from place line quiet e =
    stops_by from place line byte text there (byte == 10) (step from line) quiet refl refl (λ next place line quiet e. stops_at there text next place line quiet e) e

-- What is left at the end.

pub record Leaves (from : State) (place : ℕ) (text : List ℕ) (reached : State) (left : List ℕ) : Type 0 where
  pub there : ℕ
  pub front : Lines from place text left there reached
  pub quiet : Quiet left

leaves_by : (from end : State) (place : ℕ) (line : List ℕ) (byte : ℕ) (text left : List ℕ) (feed : Bool) (found : Option State) → Quiet line → (byte == 10) ≡ feed
    → step from line ≡ found
    → ((next : State) (place : ℕ) (line : List ℕ) → Quiet line → read_on next place line text ≡ read_to_end end left → Leaves next place (line ++ text) end left)
    → read_on from place line (byte ∷ text) ≡ read_to_end end left → Leaves from place (line ++ (byte ∷ text)) end left
leaves_by from end place line byte text left true None quiet is_feed is_found later e =
    let short : read_on from place line (byte ∷ text) ≡ stopped place = at_feed from place line byte text is_feed ∙ rw is_found refl in
    let clash : stopped place ≡ read_to_end end left = sym short ∙ e in
    absurd cc
leaves_by from end place line byte text left true (Some next) quiet is_feed is_found later e =
    let short : read_on from place line (byte ∷ text) ≡ read_on next (place + length line + 1) [] text = at_feed from place line byte text is_feed ∙ rw is_found refl in
    let rest = later next (place + length line + 1) [] refl (sym short ∙ e) in
    let is = number_same byte 10 is_feed in
    rw is (record { there = rest.there; front = one_line_more from next place line text left rest.there end quiet is_found rest.front; quiet = rest.quiet })
leaves_by from end place line byte text left false found quiet is_feed is_found later e =
    let short = elsewhere from place line byte text is_feed in
    let one : Quiet (byte ∷ []) = both_hold (is_quiet_byte byte) true (not_false (byte == 10) is_feed) refl in
    let joined : (line ++ (byte ∷ [])) ++ text ≡ line ++ (byte ∷ text) = append_assoc line (byte ∷ []) text in
    rw joined at (later from place (line ++ (byte ∷ [])) (quiet_join line (byte ∷ []) quiet one) (sym short ∙ e))

leaves_all : (from end : State) (place : ℕ) (line left : List ℕ) → Quiet line → from ≡ end → line ≡ left → Leaves from place (line ++ []) end left
leaves_all from end place line left quiet same_state same_line = record {
  there = place;
  front = record { before = []; joined = append-nil line ∙ same_line; placed = omega arith; lines = no_lines; read = rw same_state refl };
  quiet = rw (← same_line) quiet;
}

pub leaves : (end : State) (left text : List ℕ) (from : State) (place : ℕ) (line : List ℕ) → Quiet line → read_on from place line text ≡ read_to_end end left
    → Leaves from place (line ++ text) end left
leaves end left [] from place line quiet e =
    let same_state : from ≡ end = cc in
    let same_line : line ≡ left = cc in
    leaves_all from end place line left quiet same_state same_line
leaves end left (byte ∷ text) from place line quiet e =
    leaves_by from end place line byte text left (byte == 10) (step from line) quiet refl refl (λ next place line quiet e. leaves end left text next place line quiet e) e
