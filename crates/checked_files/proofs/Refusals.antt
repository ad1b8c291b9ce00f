-- Which refusal bytes have, stage by stage.
--
-- The claim: the answer of the first stage that fails is the refusal of the bytes, where they have one, or want of memory. The
-- argument: bytes have one list of tokens, and that is one file, so what is known of those that were found holds of all; and a
-- stage that did not fail leaves no refusal of its own.
use Rattle.std.proofs.Common.{◌≡◌, ◌≢◌, ◌⊎◌, inr, List, ℕ, sym, subst}
use Rattle.std.specs.Prelude.{Result, Ok, Err, MatchResult, IfErr, IfOk}
use Rattle.anvil_lexer.specs.declared.token.Token.{Token}
use Rattle.anvil_lexer.specs.declared.error.LexErr.{LexErr}
use Rattle.anvil_lexer.specs.TokenText.{IsTokenText, IsLexRefusal}
use Rattle.anvil_tree.specs.Tree.{File}
use Rattle.anvil_grammar.specs.declared.error.ParseErr.{ParseErr}
use Rattle.anvil_grammar.specs.Refusal.{IsAccepted, IsFirstRefusal}
use Rattle.tool_answers.specs.declared.refusal.Refusal.{Refusal}
use Rattle.tool_answers.specs.declared.refusal.Refusal.TheVariants.{NoMemory}
use Rattle.checked_files.specs.FileText.{IsFileText, IsChecked, IsCheckedText}
use Rattle.checked_files.specs.Refused.{IsUnread, by_lexer, by_parser, IsUnchecked, IsFileRefused, unread, unchecked, of_lexer, of_parser}
use Rattle.checked_files.proofs.Checks.{checked_or_unchecked}

-- From bytes to a file.

-- the bytes have these tokens alone, and no fault
pub record AreTheTokens (bytes : List ℕ) (tokens : List Token) : Type 0 where
  pub spelled : IsTokenText bytes tokens
  pub only : (others : List Token) → IsTokenText bytes others → tokens ≡ others
  pub faultless : (fault : LexErr) → ¬ (IsLexRefusal bytes fault)

-- a file of the bytes is one of the tokens
pub accepted_by : (bytes : List ℕ) (tokens : List Token) (file : File) → AreTheTokens bytes tokens → IsFileText bytes file → IsAccepted tokens file
accepted_by bytes tokens file are text = subst (λ l. IsAccepted l file) (sym (are.only text.tokens text.spelled)) text.accepted

-- where the lexer failed
pub told_by_lexer : (bytes : List ℕ) (found : Refusal) → ((tokens : List Token) → IsTokenText bytes tokens → found ≡ NoMemory)
    → ((fault : LexErr) → IsLexRefusal bytes fault → (found ≡ of_lexer fault) ⊎ (found ≡ NoMemory))
    → (refusal : Refusal) → IsUnread bytes refusal → (found ≡ refusal) ⊎ (found ≡ NoMemory)
told_by_lexer bytes found no_tokens each refusal (by_lexer fault first) = each fault first
told_by_lexer bytes found no_tokens each refusal (by_parser tokens fault spelled first) = inr (no_tokens tokens spelled)

-- where it gave tokens
module _ {T : Type 0} (bytes : List ℕ) (tokens : List Token) (result : Result T Refusal) (are : AreTheTokens bytes tokens) where
  pub told_by_parser : ((fault : ParseErr) → IsFirstRefusal tokens fault → MatchResult result (λ _. ⊥) (λ found. (found ≡ of_parser fault) ⊎ (found ≡ NoMemory)))
      → (refusal : Refusal) → IsUnread bytes refusal → MatchResult result (λ _. ⊥) (λ found. (found ≡ refusal) ⊎ (found ≡ NoMemory))
  told_by_parser each refusal (by_lexer fault first) = absurd (are.faultless fault first)
  told_by_parser each refusal (by_parser others fault spelled first) = each fault (subst (λ l. IsFirstRefusal l fault) (sym (are.only others spelled)) first)

-- what the parser tells is a refusal of the bytes
pub unread_by_parser : {T : Type 0} (bytes : List ℕ) (tokens : List Token) (result : Result T Refusal) → IsTokenText bytes tokens
    → IfErr result (λ refusal. refusal ≢ NoMemory → (fault : ParseErr) × IsFirstRefusal tokens fault × (refusal ≡ of_parser fault))
    → IfErr result (λ refusal. refusal ≢ NoMemory → IsUnread bytes refusal)
unread_by_parser bytes tokens (Ok value) spelled told = tt
unread_by_parser bytes tokens (Err refusal) spelled told = λ not_memory. let (fault, first, is) = told not_memory in rw is (by_parser tokens fault spelled first)

-- and its file is spelled by the bytes
pub spelled_by_parser : {T : Type 0} (view : T → File) (bytes : List ℕ) (tokens : List Token) (result : Result T Refusal) → IsTokenText bytes tokens
    → IfOk result (λ file. IsAccepted tokens (view file)) → IfOk result (λ file. IsFileText bytes (view file))
spelled_by_parser view bytes tokens (Ok file) spelled accepted = record { tokens = tokens; spelled = spelled; accepted = accepted }
spelled_by_parser view bytes tokens (Err refusal) spelled accepted = tt

-- From a file to its modules.

-- the bytes spell this file alone
pub record IsTheFile (bytes : List ℕ) (file : File) : Type 0 where
  pub spelled : IsFileText bytes file
  pub only : (other : File) → IsFileText bytes other → file ≡ other
  pub read : (refusal : Refusal) → ¬ (IsUnread bytes refusal)

-- where no file was read
pub told_by_reader : (bytes : List ℕ) (found : Refusal) → ((file : File) → IsFileText bytes file → found ≡ NoMemory)
    → ((refusal : Refusal) → IsUnread bytes refusal → (found ≡ refusal) ⊎ (found ≡ NoMemory))
    → (refusal : Refusal) → IsFileRefused bytes refusal → (found ≡ refusal) ⊎ (found ≡ NoMemory)
told_by_reader bytes found no_file each refusal (unread told of_bytes) = each refusal of_bytes
told_by_reader bytes found no_file each refusal (unchecked file told text fails) = inr (no_file file text)

-- where a check failed
pub told_by_checks : (bytes : List ℕ) (tree : File) (found : Refusal) → IsTheFile bytes tree
    → ((refusal : Refusal) → IsUnchecked tree refusal → (found ≡ refusal) ⊎ (found ≡ NoMemory))
    → (refusal : Refusal) → IsFileRefused bytes refusal → (found ≡ refusal) ⊎ (found ≡ NoMemory)
told_by_checks bytes tree found the each refusal (unread told of_bytes) = absurd (the.read refusal of_bytes)
told_by_checks bytes tree found the each refusal (unchecked file told text fails) = each refusal (subst (λ f. IsUnchecked f refusal) (sym (the.only file text)) fails)

-- a checked file of the bytes is the one that was read
pub checked_by : (bytes : List ℕ) (tree file : File) → IsTheFile bytes tree → IsCheckedText bytes file → IsChecked tree
checked_by bytes tree file the text = subst IsChecked (sym (the.only file text.spelled)) text.checked

-- no refusal is left where the checks pass
pub none_for_file : (bytes : List ℕ) (tree : File) (refusal : Refusal) → IsTheFile bytes tree → IsChecked tree → IsFileRefused bytes refusal → ⊥
none_for_file bytes tree refusal the checked (unread told of_bytes) = the.read refusal of_bytes
none_for_file bytes tree refusal the checked (unchecked file told text fails) =
    checked_or_unchecked tree refusal checked (subst (λ f. IsUnchecked f refusal) (sym (the.only file text)) fails)
