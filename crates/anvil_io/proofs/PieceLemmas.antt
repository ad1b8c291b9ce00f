-- Texts that are put one after another.
--
-- The claim: where a first text was appended and then a second, or a front part of the second, their join was appended, or
-- a front part of it. The argument: appending associates, and a front part of the second text behind the whole first one
-- is a front part of the join. The hard case is that front part, whose length is the first text's and so many bytes more.
use Rattle.std.proofs.Common.{◌≡◌, ℕ, ◌+◌, ◌-◌, ◌^◌, ◌<◌, List, ◌++◌, length, take, drop, get_or, None, Some, Option, arith, append_assoc, length-append, ◌∙◌, sym, ap, refl, Bor, append-nil, [], ◌∷◌}
use Rattle.std.proofs.Math.Seq.{take-append-add}
use Rattle.std.proofs.lemmas.List.{take_more, take-append-le, take-append-drop}
use Rattle.std.proofs.lemmas.List.Concat.{flat_map-append}
use Rattle.std.specs.Prelude.{Result, Ok, Err, IsOk}
use Rattle.std.specs.Io.KnownBytes.{Appends}
use Rattle.anvil_io.specs.declared.outside.SinkFault.{SinkFault}
use Rattle.anvil_io.specs.Causes.{joined, AppendsPrefix, Puts}

-- two texts appended in turn are their join appended
pub appends_then : (old middle new : Option (List ℕ)) (first second : List ℕ) → Appends old middle first → Appends middle new second → Appends old new (first ++ second)
appends_then None middle new first second put_first put_second = tt
appends_then (Some held) None new first second put_first put_second = absurd put_first
appends_then (Some held) (Some more) None first second put_first put_second = absurd put_second
appends_then (Some held) (Some more) (Some most) first second put_first put_second =
    put_second ∙ ap (λ bytes. bytes ++ second) put_first ∙ append_assoc held first second

-- a text appended whole and then a front part of a second is a front part of their join
pub prefix_then : (old middle new : Option (List ℕ)) (first second : List ℕ) → Appends old middle first → AppendsPrefix middle new second → AppendsPrefix old new (first ++ second)
prefix_then old middle new first second put_first (count, within, put_part) =
    let front : take (length first + count) (first ++ second) ≡ first ++ take count second = take-append-add first second count in
    let lengths : length (first ++ second) ≡ length first + length second = length-append first second in
    (length first + count, omega (arith, lengths), rw front (appends_then old middle new first (take count second) put_first put_part))

-- a front part of a text is a front part of a longer one
pub prefix_longer : (old new : Option (List ℕ)) (text rest : List ℕ) → AppendsPrefix old new text → AppendsPrefix old new (text ++ rest)
prefix_longer old new text rest (count, within, put_part) =
    let front : take count (text ++ rest) ≡ take count text = take-append-le count text rest within in
    let lengths : length (text ++ rest) ≡ length text + length rest = length-append text rest in
    (count, omega (arith, lengths), rw front put_part)

-- a call that put a text whole, and then a call that put a second one, make one call that put their join
pub puts_then : {T U : Type 0} (old middle new : Option (List ℕ)) (before between now : ℕ) (first second : List ℕ) (done : T) (result : Result U SinkFault)
    → Puts old middle before between first (Ok done) → Puts middle new between now second result → Puts old new before now (first ++ second) result
puts_then old middle new before between now first second done (Ok value) one two = record {
  whole = appends_then old middle new first second one.whole two.whole;
  part = tt;
  cause = tt;
  fine = two.fine ∙ one.fine;
  later = omega (arith, one.later, two.later);
}
puts_then old middle new before between now first second done (Err fault) one two = record {
  whole = tt;
  part = prefix_then old middle new first second one.whole two.part;
  cause = omega (arith, one.later, two.cause);
  fine = tt;
  later = omega (arith, one.later, two.later);
}

-- a call that failed within a first text put a front part of every text that begins with it
pub puts_part : {T U : Type 0} (old new : Option (List ℕ)) (before now : ℕ) (text rest : List ℕ) (fault : SinkFault)
    → Puts {T = T} old new before now text (Err fault) → Puts {T = U} old new before now (text ++ rest) (Err fault)
puts_part old new before now text rest fault puts = record {
  whole = tt;
  part = prefix_longer old new text rest puts.part;
  cause = puts.cause;
  fine = tt;
  later = puts.later;
}

-- where no put failed the answer is `Ok`: a count that stands where it stood, below its end, did not rise
pub ok_where_no_put_failed : {T : Type 0} (old new : Option (List ℕ)) (before now : ℕ) (text : List ℕ) (result : Result T SinkFault)
    → Puts old new before now text result → now ≡ before → before < 2 ^ 64 - 1 → IsOk result
ok_where_no_put_failed old new before now text (Ok value) puts stands below = refl
ok_where_no_put_failed old new before now text (Err fault) puts stands below = absurd (omega (arith, puts.cause, stands, below))

-- the joined text of one piece more
pub joined_more : (pieces : List (Bor (List ℕ))) (index : ℕ) (other : Bor (List ℕ)) → index < length pieces → joined (take (index + 1) pieces) ≡ joined (take index pieces) ++ (get_or pieces index other).now
joined_more pieces index other inside = rw (take_more pieces index other inside)
    (flat_map-append (λ piece. piece.now) (take index pieces) (get_or pieces index other ∷ []) ∙ ap (λ text. joined (take index pieces) ++ text) (append-nil (get_or pieces index other).now))

-- the joined text, cut round one piece
pub joined_at : (pieces : List (Bor (List ℕ))) (index : ℕ) (other : Bor (List ℕ)) → index < length pieces → joined pieces ≡ joined (take index pieces) ++ ((get_or pieces index other).now ++ joined (drop (index + 1) pieces))
joined_at pieces index other inside =
    ap joined (sym (take-append-drop (index + 1) pieces)) ∙ flat_map-append (λ piece. piece.now) (take (index + 1) pieces) (drop (index + 1) pieces)
    ∙ ap (λ text. text ++ joined (drop (index + 1) pieces)) (joined_more pieces index other inside)
    ∙ append_assoc (joined (take index pieces)) ((get_or pieces index other).now) (joined (drop (index + 1) pieces))
