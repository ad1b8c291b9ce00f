-- Parts of a text that are put one after another, and texts that a loop puts.
--
-- Where a first part was put whole and then a second was put, or failed, so was their join; where a part failed, a front part of
-- every text that begins with it was put. Of the answer that `?` makes only that it is a failure matters, since a fault carries
-- nothing. A loop keeps that the texts of the first items were put whole.
use Rattle.std.proofs.Common.{◌≡◌, ℕ, ◌+◌, ◌<◌, ◌≤◌, zero-add, List, [], ◌∷◌, ◌++◌, ◌∙◌, length, take, drop, get_or, sym, refl, ap, subst, append_assoc, append-nil, arith, Option, Some, None, flat_map}
use Rattle.std.specs.Prelude.{Result, Ok, Err, IsErr}
use Rattle.std.specs.List.{enumerate_from}
use Rattle.std.proofs.lemmas.List.{take_more, take_all, take-append-drop}
use Rattle.std.proofs.lemmas.List.FromFn.{get_or-enumerate_from, length-enumerate_from}
use Rattle.std.proofs.lemmas.List.Concat.{flat_map-append}
use Rattle.std.specs.Io.KnownBytes.{Appends}
use Rattle.anvil_io.specs.declared.outside.SinkFault.{SinkFault}
use Rattle.anvil_io.specs.Causes.{Puts}
use Rattle.anvil_io.proofs.PieceLemmas.{appends_then, prefix_then, puts_then, prefix_longer}

-- a part behind one that was put whole
pub then_put : {T U : Type 0} {old middle new : Option (List ℕ)} {before between now : ℕ} {first second : List ℕ} {done : T} {result : Result U SinkFault}
    → Puts old middle before between first (Ok done) → Puts middle new between now second result → Puts old new before now (first ++ second) result
then_put {old = old} {middle = middle} {new = new} {before = before} {between = between} {now = now} {first = first} {second = second} {done = done} {result = result} one two =
    puts_then old middle new before between now first second done result one two

-- a part that failed, before the rest of the text
pub failed_before : {T U : Type 0} {old new : Option (List ℕ)} {before now : ℕ} {text : List ℕ} {fault : SinkFault} (rest : List ℕ) (result : Result U SinkFault)
    → IsErr result → Puts {T = T} old new before now text (Err fault) → Puts old new before now (text ++ rest) result
failed_before rest (Ok value) is_failure failed = cc
failed_before {old = old} {new = new} {text = text} rest (Err fault) is_failure failed = record {
  whole = tt;
  part = prefix_longer old new text rest failed.part;
  cause = failed.cause;
  fine = tt;
  later = failed.later;
}

-- no part at all
pub nothing_put : {T : Type 0} (held : Option (List ℕ)) (faults : ℕ) (done : T) → Puts held held faults faults [] (Ok done)
nothing_put None faults done = record { whole = tt; part = tt; cause = tt; fine = refl; later = omega arith }
nothing_put (Some bytes) faults done = record { whole = sym (append-nil bytes); part = tt; cause = tt; fine = refl; later = omega arith }

-- the lines of one item more
pub one_more : {X : Type 0} (line : X → List ℕ) (items : List X) (index : ℕ) (item : X) → index < length items → item ≡ get_or items index item
    → flat_map line (take (index + 1) items) ≡ flat_map line (take index items) ++ line item
one_more line items index item inside is_item =
    ap (flat_map line) (take_more items index item inside)
    ∙ flat_map-append line (take index items) (get_or items index item ∷ [])
    ∙ ap (λ text. flat_map line (take index items) ++ text) (append-nil (line (get_or items index item)))
    ∙ ap (λ one. flat_map line (take index items) ++ line one) (sym is_item)

-- all lines, cut round that of one item
pub cut_at : {X : Type 0} (line : X → List ℕ) (items : List X) (index : ℕ) (item : X) → index < length items → item ≡ get_or items index item
    → flat_map line items ≡ flat_map line (take index items) ++ (line item ++ flat_map line (drop (index + 1) items))
cut_at line items index item inside is_item =
    ap (flat_map line) (sym (take-append-drop (index + 1) items))
    ∙ flat_map-append line (take (index + 1) items) (drop (index + 1) items)
    ∙ ap (λ text. text ++ flat_map line (drop (index + 1) items)) (one_more line items index item inside is_item)
    ∙ append_assoc (flat_map line (take index items)) (line item) (flat_map line (drop (index + 1) items))

-- what a loop keeps: the lines so far were put whole, and no put failed
pub record LinesPut (old now : Option (List ℕ)) (faults_before faults_now : ℕ) (text : List ℕ) : Type 0 where
  pub written : Appends old now text
  pub fine : faults_now ≡ faults_before

-- a line that was put whole
pub line_put : {X T : Type 0} (line : X → List ℕ) (items : List X) (index : ℕ) (item : X) (old middle new : Option (List ℕ)) (before between now : ℕ) (done : T)
    → index < length items → item ≡ get_or items index item
    → LinesPut old middle before between (flat_map line (take index items))
    → Puts middle new between now (line item) (Ok done)
    → LinesPut old new before now (flat_map line (take (index + 1) items))
line_put line items index item old middle new before between now done inside is_item so_far put = record {
  written = rw (one_more line items index item inside is_item) (appends_then old middle new (flat_map line (take index items)) (line item) so_far.written put.whole);
  fine = put.fine ∙ so_far.fine;
}

-- a line at which a put failed
pub line_failed : {X T U : Type 0} (line : X → List ℕ) (items : List X) (index : ℕ) (item : X) (old middle new : Option (List ℕ)) (before between now : ℕ) (fault : SinkFault) (result : Result U SinkFault)
    → index < length items → item ≡ get_or items index item
    → LinesPut old middle before between (flat_map line (take index items))
    → IsErr result
    → Puts {T = T} middle new between now (line item) (Err fault)
    → Puts old new before now (flat_map line items) result
line_failed line items index item old middle new before between now fault (Ok value) inside is_item so_far is_failure failed = cc
line_failed line items index item old middle new before between now fault (Err other) inside is_item so_far is_failure failed = record {
  whole = tt;
  part = rw (cut_at line items index item inside is_item)
      (prefix_then old middle new (flat_map line (take index items)) (line item ++ flat_map line (drop (index + 1) items)) so_far.written
      (prefix_longer middle new (line item) (flat_map line (drop (index + 1) items)) failed.part));
  cause = rw (← so_far.fine) failed.cause;
  fine = tt;
  later = rw (← so_far.fine) failed.later;
}

-- all lines, once there is no further item
pub lines_done : {X T : Type 0} (line : X → List ℕ) (items : List X) (count : ℕ) (old new : Option (List ℕ)) (before now : ℕ) (done : T)
    → length items ≤ count
    → LinesPut old new before now (flat_map line (take count items))
    → Puts old new before now (flat_map line items) (Ok done)
lines_done line items count old new before now done all_there so_far =
    let all_taken : take count items ≡ items = take_all count items all_there in
    record {
      whole = rw (← ap (flat_map line) all_taken) so_far.written;
      part = tt;
      cause = tt;
      fine = so_far.fine;
      later = omega (arith, so_far.fine);
    }

-- the item at an index with its number
pub numbered_from : {X : Type 0} (start : ℕ) (items : List X) (index : ℕ) (item : X)
    → index < length items → item ≡ get_or items index item
    → (index < length (enumerate_from start items)) × ((start + index, item) ≡ get_or (enumerate_from start items) index (start + index, item))
numbered_from start items index item inside is_item =
    let lengths = length-enumerate_from start items in
    let numbered = get_or-enumerate_from start items index (start + index, item) inside in
    (omega (arith, lengths), cc)

-- the same text
pub puts_as : {T : Type 0} {old new : Option (List ℕ)} {before now : ℕ} {text other : List ℕ} {result : Result T SinkFault} → text ≡ other → Puts old new before now text result → Puts old new before now other result
puts_as {old = old} {new = new} {before = before} {now = now} {result = result} same put = subst (λ t. Puts old new before now t result) same put
