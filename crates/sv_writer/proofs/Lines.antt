-- Lines that are put one after another by a loop over what they are written of.
--
-- The claim: where the lines of the first items were put whole, and then that of the next, those of one item more were put
-- whole; where the next put failed, a front part of all lines was put. The argument: the lines of all items are those of the
-- first ones, that of the next and those behind it. The hard case is the failure: its front part ends inside the next line.
use Rattle.std.proofs.Common.{◌≡◌, ℕ, ◌+◌, ◌<◌, ◌≤◌, zero-add, List, [], ◌∷◌, ◌++◌, ◌∙◌, length, take, drop, get_or, sym, ap, append_assoc, append-nil, arith, Option, flat_map}
use Rattle.std.specs.Prelude.{Result, Ok, Err, IsErr}
use Rattle.std.specs.List.{zip, enumerate_from}
use Rattle.std.proofs.lemmas.List.{take_more, take_all, take-append-drop}
use Rattle.std.proofs.lemmas.List.FromFn.{get_or-enumerate_from, length-enumerate_from}
use Rattle.std.proofs.lemmas.Slice.Zip.{length-zip, get_or-zip}
use Rattle.std.proofs.lemmas.List.Concat.{flat_map-append}
use Rattle.std.specs.Io.KnownBytes.{Appends}
use Rattle.anvil_io.specs.declared.outside.SinkFault.{SinkFault}
use Rattle.anvil_io.specs.Causes.{Puts}
use Rattle.anvil_io.proofs.PieceLemmas.{appends_then, prefix_then, prefix_longer}

-- the lines of one item more
pub one_more : {X : Type 0} (line : X → List ℕ) (items : List X) (index : ℕ) (item : X) → index < length items → item ≡ get_or items index item
    → flat_map line (take (index + 1) items) ≡ flat_map line (take index items) ++ line item
one_more line items index item inside is_item =
    ap (flat_map line) (take_more items index item inside)
    ∙ flat_map-append line (take index items) (get_or items index item ∷ [])
    ∙ ap (λ text. flat_map line (take index items) ++ text) (append-nil (line (get_or items index item)))
    ∙ ap (λ one. flat_map line (take index items) ++ line one) (sym is_item)

-- all lines, cut round that of one item
pub cut_at : {X : Type 0} (line : X → List ℕ) (items : List X) (index : ℕ) (item : X) → index < length items → item ≡ get_or items index item
    → flat_map line items ≡ flat_map line (take index items) ++ (line item ++ flat_map line (drop (index + 1) items))
cut_at line items index item inside is_item =
    ap (flat_map line) (sym (take-append-drop (index + 1) items))
    ∙ flat_map-append line (take (index + 1) items) (drop (index + 1) items)
    ∙ ap (λ text. text ++ flat_map line (drop (index + 1) items)) (one_more line items index item inside is_item)
    ∙ append_assoc (flat_map line (take index items)) (line item) (flat_map line (drop (index + 1) items))

-- what a loop keeps: the lines so far were put whole, and no put failed
pub record LinesPut (old now : Option (List ℕ)) (faults_before faults_now : ℕ) (text : List ℕ) : Type 0 where
  pub written : Appends old now text
  pub fine : faults_now ≡ faults_before

-- a line that was put whole
pub line_put : {X T : Type 0} (line : X → List ℕ) (items : List X) (index : ℕ) (item : X) (old middle new : Option (List ℕ)) (before between now : ℕ) (done : T)
    → index < length items → item ≡ get_or items index item
    → LinesPut old middle before between (flat_map line (take index items))
    → Puts middle new between now (line item) (Ok done)
    → LinesPut old new before now (flat_map line (take (index + 1) items))
line_put line items index item old middle new before between now done inside is_item so_far put = record {
  written = rw (one_more line items index item inside is_item) (appends_then old middle new (flat_map line (take index items)) (line item) so_far.written put.whole);
  fine = put.fine ∙ so_far.fine;
}

-- a line at which a put failed
pub line_failed : {X T U : Type 0} (line : X → List ℕ) (items : List X) (index : ℕ) (item : X) (old middle new : Option (List ℕ)) (before between now : ℕ) (fault : SinkFault) (result : Result U SinkFault)
    → index < length items → item ≡ get_or items index item
    → LinesPut old middle before between (flat_map line (take index items))
    → IsErr result
    → Puts {T = T} middle new between now (line item) (Err fault)
    → Puts old new before now (flat_map line items) result
line_failed line items index item old middle new before between now fault (Ok value) inside is_item so_far is_failure failed = cc
line_failed line items index item old middle new before between now fault (Err other) inside is_item so_far is_failure failed = record {
  whole = tt;
  part = rw (cut_at line items index item inside is_item)
      (prefix_then old middle new (flat_map line (take index items)) (line item ++ flat_map line (drop (index + 1) items)) so_far.written
      (prefix_longer middle new (line item) (flat_map line (drop (index + 1) items)) failed.part));
  cause = rw (← so_far.fine) failed.cause;
  fine = tt;
  later = rw (← so_far.fine) failed.later;
}

-- all lines, once there is no further item
pub lines_done : {X T : Type 0} (line : X → List ℕ) (items : List X) (count : ℕ) (old new : Option (List ℕ)) (before now : ℕ) (done : T)
    → length items ≤ count
    → LinesPut old new before now (flat_map line (take count items))
    → Puts old new before now (flat_map line items) (Ok done)
lines_done line items count old new before now done all_there so_far =
    let all_taken : take count items ≡ items = take_all count items all_there in
    record {
      whole = rw (← ap (flat_map line) all_taken) so_far.written;
      part = tt;
      cause = tt;
      fine = so_far.fine;
      later = omega (arith, so_far.fine);
    }

-- the pair at an index of two lists
pub pair_at : {X Y : Type 0} (firsts : List X) (seconds : List Y) (index : ℕ) (first : X) (second : Y)
    → index < length firsts → index < length seconds → first ≡ get_or firsts index first → second ≡ get_or seconds index second
    → (index < length (zip firsts seconds)) × ((first, second) ≡ get_or (zip firsts seconds) index (first, second))
pair_at firsts seconds index first second in_firsts in_seconds is_first is_second =
    let lengths = length-zip firsts seconds in
    let pair = get_or-zip firsts seconds index (first, second) in_firsts in_seconds in
    (omega (arith, lengths), cc)

-- the item at an index with its number
pub numbered_at : {X : Type 0} (items : List X) (index : ℕ) (item : X)
    → index < length items → item ≡ get_or items index item
    → (index < length (enumerate_from 0 items)) × ((index, item) ≡ get_or (enumerate_from 0 items) index (index, item))
numbered_at items index item inside is_item =
    let lengths = length-enumerate_from 0 items in
    let numbered = get_or-enumerate_from 0 items index (index, item) inside in
    let number = zero-add index in
    (omega (arith, lengths), cc)
