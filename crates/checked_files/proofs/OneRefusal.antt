-- Bytes have one refusal of the checks before the timing rules at most, and none where they spell a file that passes them.
--
-- The claim: two refusals of the same bytes are the same, and bytes with a refusal spell no file that passes. The argument: bytes have one
-- list of tokens or one first fault; tokens are one file, or have first refusals of one code at one place, and not both; a file
-- passes its checks, or one of them is the first to fail.
use Rattle.std.proofs.Common.{◌≡◌, ◌∙◌, ℕ, List, ap, arith, sym, subst}
use Rattle.std.proofs.lemmas.Str.{utf8_valid_len-IsValidUpTo}
use Rattle.anvil_lexer.specs.declared.token.Token.{Token}
use Rattle.anvil_lexer.specs.declared.error.LexErr.{LexErr}
use Rattle.anvil_lexer.specs.declared.error.LexErr.TheVariants as lexer
use Rattle.anvil_lexer.specs.TokenText.{IsTokenText, IsLexRefusal}
use Rattle.anvil_lexer.proofs.Unique.{one_list, one_refusal, tokens_or_refusal}
use Rattle.anvil_grammar.specs.declared.error.ParseErr.{ParseErr}
use Rattle.anvil_grammar.specs.declared.error.ParseErr.TheVariants as parser
use Rattle.anvil_grammar.specs.Refusal.{IsAccepted, IsRefusal, IsFirstRefusal, IsSameRefusal}
use Rattle.anvil_grammar.proofs.Refused.Refusals.{accepted_has_no_refusal, first_refusals_same}
use Rattle.anvil_grammar.proofs.Walked.OneTree.{one_tree}
use Rattle.anvil_tree.specs.Tree.{File}
use Rattle.tool_answers.specs.declared.refusal.Refusal.{Refusal}
use Rattle.checked_files.specs.FileText.{IsFileText, IsCheckedText}
use Rattle.checked_files.specs.Refused.{IsUnread, by_lexer, by_parser, IsUnchecked, IsFileRefused, unread, unchecked, of_lexer, of_parser}
use Rattle.checked_files.proofs.Checks.{checked_or_unchecked, unchecked_once}

-- one list of tokens
pub same_tokens : (bytes : List ℕ) (tokens others : List Token) → IsTokenText bytes tokens → IsTokenText bytes others → tokens ≡ others
same_tokens bytes tokens others one other = one_list bytes 0 tokens others one.0 one.1 other.1

-- tokens or a fault
pub no_fault : (bytes : List ℕ) (tokens : List Token) (fault : LexErr) → IsTokenText bytes tokens → IsLexRefusal bytes fault → ⊥
no_fault bytes tokens (lexer.NotUtf8 at) text first = first.0 text.0
no_fault bytes tokens (lexer.BadChar at) text first = tokens_or_refusal bytes 0 tokens (lexer.BadChar at) text.0 text.1 first.1
no_fault bytes tokens (lexer.BadNumber at) text first = tokens_or_refusal bytes 0 tokens (lexer.BadNumber at) text.0 text.1 first.1
no_fault bytes tokens (lexer.LongName at) text first = tokens_or_refusal bytes 0 tokens (lexer.LongName at) text.0 text.1 first.1
no_fault bytes tokens lexer.NoMemory text first = first

-- first faults are the same
pub same_fault : (bytes : List ℕ) (one other : LexErr) → IsLexRefusal bytes one → IsLexRefusal bytes other → one ≡ other
same_fault bytes (lexer.NotUtf8 at) (lexer.NotUtf8 other) first second =
    ap lexer.NotUtf8 (sym (utf8_valid_len-IsValidUpTo bytes at first.1) ∙ utf8_valid_len-IsValidUpTo bytes other second.1)
same_fault bytes (lexer.NotUtf8 at) (lexer.BadChar other) first second = absurd (first.0 second.0)
same_fault bytes (lexer.NotUtf8 at) (lexer.BadNumber other) first second = absurd (first.0 second.0)
same_fault bytes (lexer.NotUtf8 at) (lexer.LongName other) first second = absurd (first.0 second.0)
same_fault bytes (lexer.NotUtf8 at) lexer.NoMemory first second = absurd second
same_fault bytes (lexer.BadChar at) (lexer.NotUtf8 other) first second = absurd (second.0 first.0)
same_fault bytes (lexer.BadChar at) (lexer.BadChar other) first second = one_refusal bytes 0 _ _ first.0 first.1 second.1
same_fault bytes (lexer.BadChar at) (lexer.BadNumber other) first second = one_refusal bytes 0 _ _ first.0 first.1 second.1
same_fault bytes (lexer.BadChar at) (lexer.LongName other) first second = one_refusal bytes 0 _ _ first.0 first.1 second.1
same_fault bytes (lexer.BadChar at) lexer.NoMemory first second = absurd second
same_fault bytes (lexer.BadNumber at) (lexer.NotUtf8 other) first second = absurd (second.0 first.0)
same_fault bytes (lexer.BadNumber at) (lexer.BadChar other) first second = one_refusal bytes 0 _ _ first.0 first.1 second.1
same_fault bytes (lexer.BadNumber at) (lexer.BadNumber other) first second = one_refusal bytes 0 _ _ first.0 first.1 second.1
same_fault bytes (lexer.BadNumber at) (lexer.LongName other) first second = one_refusal bytes 0 _ _ first.0 first.1 second.1
same_fault bytes (lexer.BadNumber at) lexer.NoMemory first second = absurd second
same_fault bytes (lexer.LongName at) (lexer.NotUtf8 other) first second = absurd (second.0 first.0)
same_fault bytes (lexer.LongName at) (lexer.BadChar other) first second = one_refusal bytes 0 _ _ first.0 first.1 second.1
same_fault bytes (lexer.LongName at) (lexer.BadNumber other) first second = one_refusal bytes 0 _ _ first.0 first.1 second.1
same_fault bytes (lexer.LongName at) (lexer.LongName other) first second = one_refusal bytes 0 _ _ first.0 first.1 second.1
same_fault bytes (lexer.LongName at) lexer.NoMemory first second = absurd second
same_fault bytes lexer.NoMemory other first second = absurd first

-- refusals of one code at one place tell the same
same_told : (tokens : List Token) (one other : ParseErr) → IsRefusal tokens one → IsRefusal tokens other → IsSameRefusal one other → of_parser one ≡ of_parser other
same_told tokens (parser.Unexpected at) (parser.Unexpected other) first second (place, rank) = ap (λ p. of_parser (parser.Unexpected p)) place
same_told tokens (parser.Unexpected at) (parser.TooDeep other) first second (place, rank) = absurd (omega (arith, rank))
same_told tokens (parser.Unexpected at) (parser.TooMany kind other) first second (place, rank) = absurd (omega (arith, rank))
same_told tokens (parser.Unexpected at) parser.NoMemory first second same = absurd second
same_told tokens (parser.TooDeep at) (parser.Unexpected other) first second (place, rank) = absurd (omega (arith, rank))
same_told tokens (parser.TooDeep at) (parser.TooDeep other) first second (place, rank) = ap (λ p. of_parser (parser.TooDeep p)) place
same_told tokens (parser.TooDeep at) (parser.TooMany kind other) first second (place, rank) = absurd (omega (arith, rank))
same_told tokens (parser.TooDeep at) parser.NoMemory first second same = absurd second
same_told tokens (parser.TooMany kind at) (parser.Unexpected other) first second (place, rank) = absurd (omega (arith, rank))
same_told tokens (parser.TooMany kind at) (parser.TooDeep other) first second (place, rank) = absurd (omega (arith, rank))
same_told tokens (parser.TooMany kind at) (parser.TooMany sort other) first second (place, rank) = ap (λ p. of_parser (parser.TooMany kind p)) place
same_told tokens (parser.TooMany kind at) parser.NoMemory first second same = absurd second
same_told tokens parser.NoMemory other first second same = absurd first

-- bytes that spell no file have one refusal
pub unread_once : (bytes : List ℕ) (one other : Refusal) → IsUnread bytes one → IsUnread bytes other → one ≡ other
unread_once bytes one other (by_lexer fault first) (by_lexer found second) = ap of_lexer (same_fault bytes fault found first second)
unread_once bytes one other (by_lexer fault first) (by_parser tokens found spelled second) = absurd (no_fault bytes tokens fault spelled first)
unread_once bytes one other (by_parser tokens fault spelled first) (by_lexer found second) = absurd (no_fault bytes tokens found spelled second)
unread_once bytes one other (by_parser tokens fault spelled first) (by_parser others found spelled_too second) =
    let same : IsFirstRefusal tokens found = subst (λ list. IsFirstRefusal list found) (sym (same_tokens bytes tokens others spelled spelled_too)) second in
    same_told tokens fault found first.is same.is (first_refusals_same tokens fault found first same)

-- and spell no file
pub file_or_unread : (bytes : List ℕ) (file : File) (refusal : Refusal) → IsFileText bytes file → IsUnread bytes refusal → ⊥
file_or_unread bytes file refusal text (by_lexer fault first) = no_fault bytes text.tokens fault text.spelled first
file_or_unread bytes file refusal text (by_parser tokens fault spelled first) =
    accepted_has_no_refusal tokens file fault (subst (λ list. IsAccepted list file) (sym (same_tokens bytes tokens text.tokens spelled text.spelled)) text.accepted) first.is

-- bytes spell one file
pub one_file : (bytes : List ℕ) (file other : File) → IsFileText bytes file → IsFileText bytes other → file ≡ other
one_file bytes file other text text_too =
    let accepted : IsAccepted text.tokens other = subst (λ list. IsAccepted list other) (sym (same_tokens bytes text.tokens text_too.tokens text.spelled text_too.spelled)) text_too.accepted in
    one_tree text.tokens file other text.accepted.is accepted.is

-- one refusal of each file
pub file_refused_once : (bytes : List ℕ) (one other : Refusal) → IsFileRefused bytes one → IsFileRefused bytes other → one ≡ other
file_refused_once bytes one other (unread told first) (unread found second) = unread_once bytes one other first second
file_refused_once bytes one other (unread told first) (unchecked file found text second) = absurd (file_or_unread bytes file one text first)
file_refused_once bytes one other (unchecked file told text first) (unread found second) = absurd (file_or_unread bytes file other text second)
file_refused_once bytes one other (unchecked file told text first) (unchecked file_too found text_too second) =
    unchecked_once file one other first (subst (λ f. IsUnchecked f other) (sym (one_file bytes file file_too text text_too)) second)

-- and none where the bytes spell a file that passes
pub checked_or_refused : (bytes : List ℕ) (file : File) (refusal : Refusal) → IsCheckedText bytes file → IsFileRefused bytes refusal → ⊥
checked_or_refused bytes file refusal text (unread told first) = file_or_unread bytes file refusal text.spelled first
checked_or_refused bytes file refusal text (unchecked found told found_text first) =
    checked_or_unchecked file refusal text.checked (subst (λ f. IsUnchecked f refusal) (sym (one_file bytes file found text.spelled found_text)) first)
