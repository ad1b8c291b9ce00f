-- Reading goes on: what a text that ends with a line feed brings one state to, whatever stands behind it. A line without a
-- line feed is gathered byte by byte and then stepped on; so a text is read piece by piece, and pieces are joined.
use Rattle.std.proofs.Common.{◌≡◌, ℕ, ◌+◌, Bool, true, false, not, List, [], ◌∷◌, ◌++◌, length, Some, refl, ◌∙◌, arith, append-nil, append_assoc, length-append}
use Rattle.std.proofs.lemmas.Bool.{and_parts}
use Rattle.std.specs.Prelude.{◌==◌}
use Rattle.std.specs.List.{list_all}
use Rattle.sv_lines.specs.State.{State}
use Rattle.sv_lines.specs.Step.{step, read_on, line_read}

-- a byte that is no line feed
abbrev pub is_quiet_byte : ℕ → Bool
is_quiet_byte byte = not (byte == 10)

abbrev pub Quiet : List ℕ → Type 0
Quiet line = list_all is_quiet_byte line ≡ true

no_feed : (test : Bool) → not test ≡ true → test ≡ false
no_feed true e = absurd cc
no_feed false e = refl

byte_read : (from : State) (place : ℕ) (before : List ℕ) (byte : ℕ) (rest : List ℕ) → (byte == 10) ≡ false
    → read_on from place before (byte ∷ rest) ≡ read_on from place (before ++ (byte ∷ [])) rest
byte_read from place before byte rest e = rw (e, read_on) refl

-- `before` is what has been gathered of the line
gathered : (from : State) (place : ℕ) (before line more : List ℕ) → Quiet line
    → read_on from place before (line ++ (10 ∷ more))
    ≡ line_read place (step from (before ++ line)) (λ next. read_on next (place + length (before ++ line) + 1) [] more)
gathered from place before [] more none = rw (append-nil before) refl
gathered from place before (byte ∷ line) more none =
    let parts = and_parts (is_quiet_byte byte) (list_all is_quiet_byte line) none in
    let joined : (before ++ (byte ∷ [])) ++ line ≡ before ++ (byte ∷ line) = append_assoc before (byte ∷ []) line in
    byte_read from place before byte (line ++ (10 ∷ more)) (no_feed (byte == 10) parts.0)
    ∙ (rw joined at (gathered from place (before ++ (byte ∷ [])) line more parts.1))

pub line_read_on : (from : State) (place : ℕ) (line more : List ℕ) → Quiet line
    → read_on from place [] (line ++ (10 ∷ more)) ≡ line_read place (step from line) (λ next. read_on next (place + length line + 1) [] more)
line_read_on from place line more none = gathered from place [] line more none

-- the text brings the one state to the other
pub record Goes (from : State) (text : List ℕ) (next : State) : Type 0 where
  pub on : (place : ℕ) (more : List ℕ) → read_on from place [] (text ++ more) ≡ read_on next (place + length text) [] more

pub stays : (from : State) → Goes from [] from
stays from = record { on = λ place more. let same : place + 0 ≡ place = omega arith in rw same refl }

pub goes_then : (from middle next : State) (one other : List ℕ) → Goes from one middle → Goes middle other next → Goes from (one ++ other) next
goes_then from middle next one other first second = record {
  on = λ place more.
      let shifted : place + length (one ++ other) ≡ place + length one + length other = omega (arith, length-append one other) in
      rw (shifted, append_assoc one other more) (first.on place (other ++ more) ∙ second.on (place + length one) more);
}

pub goes_line : (from next : State) (line : List ℕ) → Quiet line → step from line ≡ Some next → Goes from (line ++ (10 ∷ [])) next
goes_line from next line none steps = record {
  on = λ place more.
      let shifted : place + length (line ++ (10 ∷ [])) ≡ place + length line + 1 = omega (arith, length-append line (10 ∷ [])) in
      rw (shifted, append_assoc line (10 ∷ []) more) (line_read_on from place line more none ∙ (rw steps refl));
}

pub goes_same : (from next : State) (text other : List ℕ) → text ≡ other → Goes from text next → Goes from other next
goes_same from next text other same goes = rw (← same) goes
