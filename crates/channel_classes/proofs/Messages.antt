-- The messages of a class one after the other: what is left to check after some of them, and what has been read.
use Rattle.std.proofs.Common.{◌≡◌, ℕ, ◌+◌, ◌<◌, List, [], ◌∷◌, ◌++◌, Option, None, Some, ap, sym, ◌∙◌, take, drop, length, map, get_or, add-one}
use Rattle.std.proofs.Math.Seq.{drop-cons}
use Rattle.std.proofs.lemmas.List.{take_more, map_push}
use Rattle.anvil_tree.specs.declared.file.Message.{Message}
use Rattle.channel_classes.specs.declared.error.ClassErr.{ClassErr}
use Rattle.channel_classes.specs.declared.message.ClassMessage.{ClassMessage}
use Rattle.first_check.specs.Check.{first_refusal}
use Rattle.channel_classes.specs.Classes.{message_of}
use Rattle.channel_classes.specs.ClassChecks.{message_checks, messages_checks}
use Rattle.first_check.proofs.Walks.{passes, stops}

-- what the checks of the messages from one on refuse
abbrev pub refused_from : List Message → ℕ → Option ClassErr
refused_from all index = first_refusal (messages_checks all (take index all) (drop index all))

later : (all : List Message) (index : ℕ) (message : Message) → index < length all → message ≡ get_or all index message → drop index all ≡ message ∷ drop (index + 1) all
later all index message inside is = drop-cons all index message inside ∙ rw (sym is) (ap (λ n. message ∷ drop n all) (sym (add-one index)))

earlier : (all : List Message) (index : ℕ) (message : Message) → index < length all → message ≡ get_or all index message → take (index + 1) all ≡ take index all ++ (message ∷ [])
earlier all index message inside is = take_more all index message inside ∙ ap (λ m. take index all ++ (m ∷ [])) (sym is)

pub one_passes : (all : List Message) (index : ℕ) (message : Message) → index < length all → message ≡ get_or all index message
    → first_refusal (message_checks all (take index all) message) ≡ None → refused_from all index ≡ refused_from all (index + 1)
one_passes all index message inside is none =
    rw (later all index message inside is, earlier all index message inside is)
    (passes (message_checks all (take index all) message) (messages_checks all (take index all ++ (message ∷ [])) (drop (index + 1) all)) none)

pub one_stops : (all : List Message) (index : ℕ) (message : Message) (fault : ClassErr) → index < length all → message ≡ get_or all index message
    → first_refusal (message_checks all (take index all) message) ≡ Some fault → refused_from all index ≡ Some fault
one_stops all index message fault inside is some =
    rw (later all index message inside is)
    (stops (message_checks all (take index all) message) (messages_checks all (take index all ++ (message ∷ [])) (drop (index + 1) all)) fault some)

pub one_read : (all : List Message) (index : ℕ) (message : Message) (read : List ClassMessage) → index < length all → message ≡ get_or all index message
    → read ≡ map (message_of all) (take index all) → read ++ (message_of all message ∷ []) ≡ map (message_of all) (take (index + 1) all)
one_read all index message read inside is so_far =
    ap (λ r. r ++ (message_of all message ∷ [])) so_far ∙ sym (map_push (message_of all) (take index all) message) ∙ ap (map (message_of all)) (sym (earlier all index message inside is))
