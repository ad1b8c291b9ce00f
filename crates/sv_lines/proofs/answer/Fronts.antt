-- Fronts of texts. What stands behind a front changes nothing of how the front is read: a line that cannot stand in it stops
-- the whole text too, and where the reading comes to its end, the rest is read from there. So no front of a valid text stops,
-- and a text that is read to another end than between two modules, with nothing left, is not valid.
use Rattle.std.proofs.Common.{◌≡◌, ℕ, ◌+◌, Bool, true, false, List, [], ◌∷◌, ◌++◌, length, Option, Some, None, refl, ap, sym, ◌∙◌, arith, length-append}
use Rattle.std.specs.Prelude.{◌==◌}
use Rattle.sv_tree.specs.Module.{Module}
use Rattle.sv_tree.specs.Text.{IsTextOf}
use Rattle.sv_lines.specs.Refused.{BeginsText}
use Rattle.sv_lines.specs.State.{State, between, start}
use Rattle.sv_lines.specs.Step.{Outcome, read_to_end, stopped, step, line_read, read_on}
use Rattle.sv_lines.proofs.back.TextRead.{text_read}

-- What is read of one byte more, at a line feed and elsewhere.

pub at_feed : (from : State) (place : ℕ) (line : List ℕ) (byte : ℕ) (text : List ℕ) → (byte == 10) ≡ true
    → read_on from place line (byte ∷ text) ≡ line_read place (step from line) (λ next. read_on next (place + length line + 1) [] text)
at_feed from place line byte text e = rw (e, read_on) refl

pub elsewhere : (from : State) (place : ℕ) (line : List ℕ) (byte : ℕ) (text : List ℕ) → (byte == 10) ≡ false
    → read_on from place line (byte ∷ text) ≡ read_on from place (line ++ (byte ∷ [])) text
elsewhere from place line byte text e = rw (e, read_on) refl

-- A line that cannot stand in the front stops the whole text.

stops_by : (from : State) (place there : ℕ) (line : List ℕ) (byte : ℕ) (front more : List ℕ) (feed : Bool) (found : Option State) → (byte == 10) ≡ feed → step from line ≡ found
    → ((next : State) (place : ℕ) (line : List ℕ) → read_on next place line front ≡ stopped there → read_on next place line (front ++ more) ≡ stopped there)
    → read_on from place line (byte ∷ front) ≡ stopped there → read_on from place line (byte ∷ (front ++ more)) ≡ stopped there
stops_by from place there line byte front more true None is_feed is_found later e =
    let short : read_on from place line (byte ∷ front) ≡ stopped place = at_feed from place line byte front is_feed ∙ rw is_found refl in
    let whole : read_on from place line (byte ∷ (front ++ more)) ≡ stopped place = at_feed from place line byte (front ++ more) is_feed ∙ rw is_found refl in
    whole ∙ sym short ∙ e
stops_by from place there line byte front more true (Some next) is_feed is_found later e =
    let short : read_on from place line (byte ∷ front) ≡ read_on next (place + length line + 1) [] front = at_feed from place line byte front is_feed ∙ rw is_found refl in
    let whole : read_on from place line (byte ∷ (front ++ more)) ≡ read_on next (place + length line + 1) [] (front ++ more) =
    at_feed from place line byte (front ++ more) is_feed ∙ rw is_found refl in
    whole ∙ later next (place + length line + 1) [] (sym short ∙ e)
stops_by from place there line byte front more false found is_feed is_found later e =
    let short = elsewhere from place line byte front is_feed in
    let whole = elsewhere from place line byte (front ++ more) is_feed in
    whole ∙ later from place (line ++ (byte ∷ [])) (sym short ∙ e)

pub front_stops : (there : ℕ) (front more : List ℕ) (from : State) (place : ℕ) (line : List ℕ) → read_on from place line front ≡ stopped there
    → read_on from place line (front ++ more) ≡ stopped there
front_stops there [] more from place line e = absurd cc
front_stops there (byte ∷ front) more from place line e =
    stops_by from place there line byte front more (byte == 10) (step from line) refl refl (λ next place line. front_stops there front more next place line) e

-- Where the reading of a front comes to its end, the rest is read from there; `behind` is the place of the piece that is left.

reads_by : (from end : State) (place behind : ℕ) (line left : List ℕ) (byte : ℕ) (front more : List ℕ) (feed : Bool) (found : Option State) → (byte == 10) ≡ feed
    → step from line ≡ found
    → ((next : State) (place : ℕ) (line : List ℕ) → behind + length left ≡ place + length line + length front → read_on next place line front ≡ read_to_end end left
    → read_on next place line (front ++ more) ≡ read_on end behind left more)
    → behind + length left ≡ place + length line + length (byte ∷ front) → read_on from place line (byte ∷ front) ≡ read_to_end end left
    → read_on from place line (byte ∷ (front ++ more)) ≡ read_on end behind left more
reads_by from end place behind line left byte front more true None is_feed is_found later placed e =
    let short : read_on from place line (byte ∷ front) ≡ stopped place = at_feed from place line byte front is_feed ∙ rw is_found refl in
    let clash : stopped place ≡ read_to_end end left = sym short ∙ e in
    absurd cc
reads_by from end place behind line left byte front more true (Some next) is_feed is_found later placed e =
    let short : read_on from place line (byte ∷ front) ≡ read_on next (place + length line + 1) [] front = at_feed from place line byte front is_feed ∙ rw is_found refl in
    let whole : read_on from place line (byte ∷ (front ++ more)) ≡ read_on next (place + length line + 1) [] (front ++ more) =
    at_feed from place line byte (front ++ more) is_feed ∙ rw is_found refl in
    let placed_too : behind + length left ≡ place + length line + 1 + 0 + length front = omega arith in
    whole ∙ later next (place + length line + 1) [] placed_too (sym short ∙ e)
reads_by from end place behind line left byte front more false found is_feed is_found later placed e =
    let short = elsewhere from place line byte front is_feed in
    let whole = elsewhere from place line byte (front ++ more) is_feed in
    let placed_too : behind + length left ≡ place + length (line ++ (byte ∷ [])) + length front = omega (arith, length-append line (byte ∷ [])) in
    whole ∙ later from place (line ++ (byte ∷ [])) placed_too (sym short ∙ e)

pub front_reads : (end : State) (behind : ℕ) (left front more : List ℕ) (from : State) (place : ℕ) (line : List ℕ)
    → behind + length left ≡ place + length line + length front → read_on from place line front ≡ read_to_end end left
    → read_on from place line (front ++ more) ≡ read_on end behind left more
front_reads end behind left [] more from place line placed e =
    let same_state : from ≡ end = cc in
    let same_line : line ≡ left = cc in
    let long : length line ≡ length left = ap length same_line in
    let same_place : place ≡ behind = omega arith in
    rw (same_state, same_line, same_place) refl
front_reads end behind left (byte ∷ front) more from place line placed e =
    reads_by from end place behind line left byte front more (byte == 10) (step from line) refl refl
    (λ next place line. front_reads end behind left front more next place line) placed e

-- Fronts of valid texts.

pub record ReadsOn (front more : List ℕ) (modules : List Module) : Type 0 where
  pub state : State
  pub left : List ℕ
  pub read : read_on start 0 [] front ≡ read_to_end state left
  -- the reading of the front reads the rest
  pub rest : (behind : ℕ) → behind + length left ≡ length front → read_on state behind left more ≡ read_to_end (between modules) []

reads_on_by : (front more : List ℕ) (modules : List Module) (outcome : Outcome) → read_on start 0 [] front ≡ outcome → IsTextOf (front ++ more) modules → ReadsOn front more modules
reads_on_by front more modules (stopped there) e is =
    let stops = front_stops there front more start 0 [] e in
    let clash : stopped there ≡ read_to_end (between modules) [] = sym stops ∙ text_read (front ++ more) modules is in
    absurd cc
reads_on_by front more modules (read_to_end state left) e is = record {
  state = state;
  left = left;
  read = e;
  rest = λ behind placed.
      let placed_too : behind + length left ≡ 0 + 0 + length front = omega arith in
      sym (front_reads state behind left front more start 0 [] placed_too e) ∙ text_read (front ++ more) modules is;
}

pub reads_on : (front more : List ℕ) (modules : List Module) → IsTextOf (front ++ more) modules → ReadsOn front more modules
reads_on front more modules is = reads_on_by front more modules (read_on start 0 [] front) refl is

-- no valid text begins with what stops
pub stopped_begins_none : (front : List ℕ) (there : ℕ) → read_on start 0 [] front ≡ stopped there → ¬ (BeginsText front)
stopped_begins_none front there e (more, modules, is) =
    let on = reads_on front more modules is in
    let clash : stopped there ≡ read_to_end on.state on.left = sym e ∙ on.read in
    absurd cc

-- where the reading of a valid text ends
pub record EndsBetween (state : State) (left : List ℕ) (modules : List Module) : Type 0 where
  pub is_between : state ≡ between modules
  pub nothing_left : left ≡ []

pub ends_between : (text : List ℕ) (state : State) (left : List ℕ) (modules : List Module) → read_on start 0 [] text ≡ read_to_end state left → IsTextOf text modules
    → EndsBetween state left modules
ends_between text state left modules e is =
    let same : read_to_end state left ≡ read_to_end (between modules) [] = sym e ∙ text_read text modules is in
    record { is_between = cc; nothing_left = cc }
