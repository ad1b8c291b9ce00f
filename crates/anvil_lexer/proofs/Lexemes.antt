-- The lexeme that the code reads at the front of a text of bytes is the one that the reader finds among its characters, by the
-- first character: an identifier, digits or a mark.
use Rattle.std.proofs.Common.{◌≡◌, ℕ, ◌<◌, ◌≤◌, true, false, List, [], ◌∷◌, ◌++◌, refl, ap, sym, ◌∙◌, length, take, drop, Some, None, Result, Ok, Err, ◌==◌, take-append-drop, inl, inr, arith, cond, nat_le}
use Rattle.std.specs.Prelude.{slice_get, MatchResult}
use Rattle.std.specs.Borrow.{Bor}
use Rattle.std.specs.Str.{IsUtf8, encode_utf8_all, chars}
use Rattle.std.proofs.lemmas.Bool.{cases_Bool, eqb-true, lt-leb, le-leb}
use Rattle.std.proofs.lemmas.Str.{encodes-chars}
use Rattle.unicode_ident.proofs.Computing.{unicode_ident}
use Rattle.unicode_ident.proofs.IdentLemmas.{is_xid_start-is_xid_continue}
use Rattle.anvil_lexer.specs.declared.class.Base.TheVariants.{Decimal}
use Rattle.anvil_lexer.specs.declared.error.LexErr.{LexErr}
use Rattle.anvil_lexer.specs.declared.error.LexErr.TheVariants.{LongName}
use Rattle.anvil_lexer.specs.declared.token.Mark.{Mark}
use Rattle.anvil_lexer.specs.declared.token.TokenKind.{TokenKind}
use Rattle.anvil_lexer.specs.declared.token.TokenKind.TheVariants as kind
use Rattle.anvil_lexer.specs.Characters.{begins_identifier, continues_identifier, is_digit, begins_with}
use Rattle.anvil_lexer.specs.Spelling.{kind_of_word}
use Rattle.anvil_lexer.specs.Lexeme.{Lexeme, mark, characters_of, text_of}
use Rattle.anvil_lexer.specs.TokenText.{said_by}
use Rattle.anvil_lexer.specs.Scan.{front, after_front, numeral, mark_spelled, mark_at, named, scan, IsMarkAt, Reads, Fails, ReadsNext, FailsNext, said_refusal}
use Rattle.anvil_lexer.proofs.Fronts.{front_joined, front_more}
use Rattle.anvil_lexer.proofs.Marks.{mark_read}
use Rattle.anvil_lexer.proofs.Bytes.{some_bytes}
use Rattle.anvil_lexer.proofs.Longest.{identifier_scanned, digits_scanned, other_scanned}

-- the first characters of a text, as bytes
bytes_are : (count : ℕ) (text before : List ℕ) → IsUtf8 before → chars before ≡ take count (chars text)
    → encode_utf8_all (take count (chars text)) ≡ before
bytes_are count text before utf8 taken = ap encode_utf8_all (sym taken) ∙ encodes-chars before utf8

module _ (text two after_two : List ℕ) (utf8 : IsUtf8 two) (taken : chars two ≡ take 2 (chars text)) where
  pub two_mark : (m : Mark) → IsUtf8 after_two → chars after_two ≡ drop 2 (chars text) → text ≡ two ++ after_two
      → mark_spelled two ≡ Some m → IsMarkAt text m after_two
  two_mark m left_utf8 left joined found =
      let spelled : mark_spelled (encode_utf8_all (take 2 (chars text))) ≡ Some m = ap mark_spelled (bytes_are 2 text two utf8 taken)
      ∙ found in
      record {
        found = rw spelled refl;
        joined = sym (take-append-drop 2 (chars text)) ∙ rw (mark_read (take 2 (chars text)) m spelled, left) refl;
        end = (two, joined);
        utf8 = left_utf8;
      }

  module _ (one after_one : List ℕ) (one_utf8 : IsUtf8 one) (one_taken : chars one ≡ take 1 (chars text))
      (no_two : mark_spelled two ≡ None) where
    none_of_two : mark_spelled (encode_utf8_all (take 2 (chars text))) ≡ None
    none_of_two = ap mark_spelled (bytes_are 2 text two utf8 taken) ∙ no_two

    pub one_mark : (m : Mark) → IsUtf8 after_one → chars after_one ≡ drop 1 (chars text) → text ≡ one ++ after_one
        → mark_spelled one ≡ Some m → IsMarkAt text m after_one
    one_mark m left_utf8 left joined found =
        let spelled : mark_spelled (encode_utf8_all (take 1 (chars text))) ≡ Some m = ap mark_spelled
        (bytes_are 1 text one one_utf8 one_taken)
        ∙ found in
        record {
          found = rw (none_of_two, spelled) refl;
          joined = sym (take-append-drop 1 (chars text)) ∙ rw (mark_read (take 1 (chars text)) m spelled, left) refl;
          end = (one, joined);
          utf8 = left_utf8;
        }

    pub no_mark : mark_spelled one ≡ None → mark_at (chars text) ≡ None
    no_mark none = rw (none_of_two, ap mark_spelled (bytes_are 1 text one one_utf8 one_taken) ∙ none) refl

-- what begins an identifier goes on with one
begins_continues : (c : ℕ) → begins_identifier c ≡ true → continues_identifier c ≡ true
unfolding unicode_ident
begins_continues c begins =
    elim (cases_Bool (c == 95)) [
      | inl line ↦ ap continues_identifier (eqb-true c 95 line)
      | inr other ↦ is_xid_start-is_xid_continue c (rw other at begins)
    ]

name_front : (cs : List ℕ) → begins_with begins_identifier cs ≡ true → front continues_identifier cs ≡ characters_of (named cs)
name_front [] begins = absurd cc
name_front (c ∷ cs) begins = front_more continues_identifier c cs (begins_continues c begins)

said_by_name : (at : ℕ) (cs after : List ℕ)
    → said_by at (named cs) after ≡ cond (nat_le (length (text_of (named cs))) 64) (Ok (kind_of_word (text_of (named cs))))
    (Err (LongName at))
said_by_name at [] after = refl
said_by_name at (c ∷ cs) after = refl

module _ (at : ℕ) (text name after : List ℕ) (begins : begins_with begins_identifier (chars text) ≡ true) (utf8 : IsUtf8 name)
    (passing : chars name ≡ front continues_identifier (chars text))
    (left : chars after ≡ after_front continues_identifier (chars text)) (joined : text ≡ name ++ after)
    (after_utf8 : IsUtf8 after) where
  name_is : chars name ≡ characters_of (named (chars text))
  name_is = passing ∙ name_front (chars text) begins

  name_bytes : text_of (named (chars text)) ≡ name
  name_bytes = ap encode_utf8_all (sym name_is) ∙ encodes-chars name utf8

  name_joined : chars text ≡ characters_of (named (chars text)) ++ chars after
  name_joined = sym (front_joined continues_identifier (chars text))
      ∙ ap (λ l. l ++ after_front continues_identifier (chars text)) (name_front (chars text) begins)
      ∙ ap (λ l. characters_of (named (chars text)) ++ l) (sym left)

  pub name_some : 1 ≤ length name
  name_some = go (chars text) name_bytes
    where
      go : (cs : List ℕ) → text_of (named cs) ≡ name → 1 ≤ length name
      go [] is = omega (arith, ap length is, some_bytes 0 [])
      go (c ∷ cs) is = omega (arith, ap length is, some_bytes c (front continues_identifier cs))

  pub name_long : 64 < length name → Fails at (named (chars text)) (chars text) (LongName at)
  name_long long = record {
    rest = chars after;
    says = said_by_name at (chars text) (chars after) ∙ rw (name_bytes, lt-leb (length name) 64 long) refl;
    joined = name_joined;
  }

  pub name_reads : length name ≤ 64 → Reads at (named (chars text)) text (kind_of_word name) after
  name_reads short = record {
    says = said_by_name at (chars text) (chars after) ∙ rw (name_bytes, le-leb (length name) 64 short) refl;
    joined = name_joined;
    end = (name, joined);
    utf8 = after_utf8;
  }

-- the first character tells what is scanned
first_is : (cs : List ℕ) (first : ℕ) → slice_get cs 0 ≡ Some first → (rest : List ℕ) × (cs ≡ first ∷ rest)
first_is [] first e = absurd cc
first_is (c ∷ cs) first e = let same : c ≡ first = cc in (cs, ap (λ d. d ∷ cs) same)

pub first_begins : (cs : List ℕ) (first : ℕ) → slice_get cs 0 ≡ Some first → begins_identifier first ≡ true
    → begins_with begins_identifier cs ≡ true
first_begins cs first e begins = let is = first_is cs first e in rw is.1 begins

pub scanned_name : (cs : List ℕ) (first : ℕ) → slice_get cs 0 ≡ Some first → begins_identifier first ≡ true → scan cs ≡ Some (named cs)
scanned_name cs first e begins = let is = first_is cs first e in rw is.1 (identifier_scanned first is.0 begins)

pub scanned_digits : (cs : List ℕ) (first : ℕ) → slice_get cs 0 ≡ Some first → is_digit Decimal first ≡ true → scan cs ≡ Some (numeral cs)
scanned_digits cs first e digit = let is = first_is cs first e in rw is.1 (digits_scanned first is.0 digit)

pub scanned_mark : (cs : List ℕ) (first : ℕ) → slice_get cs 0 ≡ Some first → begins_identifier first ≡ false
    → is_digit Decimal first ≡ false → scan cs ≡ mark_at cs
scanned_mark cs first e no_name no_digit = let is = first_is cs first e in rw is.1 (other_scanned first is.0 no_name no_digit)

-- what is read of the lexeme that is scanned is what comes next
pub reads_next : (at : ℕ) (lexeme : Lexeme) (text : List ℕ) (r : Result (TokenKind × Bor (List ℕ)) LexErr) → scan (chars text) ≡ Some lexeme
    → MatchResult r (λ read. Reads at lexeme text read.0 read.1.now) (λ e. Fails at lexeme (chars text) e) → MatchResult r
    (λ read. ReadsNext at text read.0 read.1.now) (λ e. FailsNext at text e)
reads_next at lexeme text (Ok read) scanned reads = record { lexeme = lexeme; scanned = scanned; reads = reads }
reads_next at lexeme text (Err e) scanned fails = said_refusal lexeme e scanned fails

pub mark_next : (at : ℕ) (text : List ℕ) (m : Mark) (rest : List ℕ) → scan (chars text) ≡ mark_at (chars text)
    → IsMarkAt text m rest → ReadsNext at text (kind.Mark m) rest
mark_next at text m rest scanned is = record {
  lexeme = mark m;
  scanned = scanned ∙ is.found;
  reads = record { says = refl; joined = is.joined; end = is.end; utf8 = is.utf8 };
}
