-- Bytes that are read and written bit by bit.
--
-- The claim: what two reads took in turn is the join of what each took, and a count that was raised twice was raised by the
-- sum. What is hard is only that counts stop at the end of their type: then both sides stand there.
use Rattle.std.proofs.Common.{◌≡◌, ℕ, ◌+◌, ◌≤◌, List, ◌++◌, length, take, drop, None, Some, Option, arith, append_assoc, length-append, length-take-le, ◌∙◌, ap, sym}
use Rattle.std.proofs.Math.Seq.{take-add}
use Rattle.std.specs.Io.KnownBytes.{Appends, Consumes}
use Rattle.anvil_io.specs.Causes.{raised, TakesCounted}
use Rattle.anvil_io.proofs.PieceLemmas.{appends_then}

-- two reads in turn took the join of their bytes
pub consumes_then : (old middle new : Option (List ℕ)) (first second : List ℕ) → Consumes old middle first → Consumes middle new second → Consumes old new (first ++ second)
consumes_then None middle new first second took_first took_second = tt
consumes_then (Some left) None new first second took_first took_second = absurd took_first
consumes_then (Some left) (Some less) None first second took_first took_second = absurd took_second
consumes_then (Some left) (Some less) (Some least) first second took_first took_second =
    took_first ∙ ap (λ bytes. first ++ bytes) took_second ∙ sym (append_assoc first second least)

-- a count raised twice is raised by the sum
pub raised_then : (before more most : ℕ) → raised (raised before more) most ≡ raised before (more + most)
raised_then before more most = omega arith

-- a read after others: what was taken so far, and the count of it, with one piece more
pub takes_more : (old middle new : Option (List ℕ)) (most before between now count : ℕ) (so_far piece : List ℕ)
    → Consumes old middle so_far → between ≡ raised before (length so_far)
    → Consumes middle new (take count piece) → count ≤ length piece → length so_far + count ≤ most → now ≡ raised between count
    → TakesCounted old new most before now
takes_more old middle new most before between now count so_far piece took_so_far counted took_piece inside within risen =
    let piece_length : length (take count piece) ≡ count = length-take-le count piece inside in
    let lengths : length (so_far ++ take count piece) ≡ length so_far + count = length-append so_far (take count piece) ∙ ap (λ n. length so_far + n) piece_length in
    (so_far ++ take count piece, consumes_then old middle new so_far (take count piece) took_so_far took_piece, omega (arith, lengths), omega (arith, lengths, counted, risen))

-- a write behind others adds the next part of the piece
pub appends_part : (old middle new : Option (List ℕ)) (at count : ℕ) (piece : List ℕ)
    → Appends old middle (take at piece) → Appends middle new (take count (drop at piece)) → Appends old new (take (at + count) piece)
appends_part old middle new at count piece so_far part = rw (take-add at count piece) (appends_then old middle new (take at piece) (take count (drop at piece)) so_far part)
