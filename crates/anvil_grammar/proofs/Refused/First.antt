-- What the limited reading refuses has the refusal that it names, and no other comes before it. A token that cannot stand ends every
-- file; a bracket that opens one too many and a thing that finds the most of its kind are refused in a front that begins a file, and
-- every file that begins so has the thing. That nothing is refused before is shown in Later; of one place, a token that is refused for
-- its bracket can stand, and one that is refused for what it begins can stand and keeps the brackets within the limit.
use Rattle.std.proofs.Common.{◌≡◌, ◌≤◌, ◌<◌, ◌⊎◌, inl, inr, ℕ, List, [], ◌∷◌, ◌++◌, ◌∙◌, refl, sym, subst, ap, arith, append_assoc, append-nil, le_refl, eq-or-lt_of_le}
use Rattle.anvil_lexer.specs.declared.token.Token.{Token}
use Rattle.anvil_lexer.specs.declared.token.TokenKind.TheVariants.{Mark}
use Rattle.anvil_lexer.specs.declared.token.Mark.TheVariants as mark
use Rattle.anvil_lexer.specs.TokenText.{ArePlacesRising}
use Rattle.anvil_tree.specs.Tree.{File}
use Rattle.anvil_grammar.specs.declared.error.Counted.TheVariants as counted
use Rattle.anvil_grammar.specs.declared.error.ParseErr.{ParseErr}
use Rattle.anvil_grammar.specs.declared.error.ParseErr.TheVariants.{Unexpected, TooDeep, TooMany, NoMemory}
use Rattle.anvil_grammar.specs.Grammar.{IsFile}
use Rattle.anvil_grammar.specs.Begun.{Begin, most, count, HasOnePast}
use Rattle.anvil_grammar.specs.Limits.{most_open, open_after, open_brackets, begun_in}
use Rattle.anvil_grammar.specs.State as states
use Rattle.anvil_grammar.specs.State.{Frame, ProcessDraft, State, start}
use Rattle.anvil_grammar.specs.Step.{step, onward, walk, Walk, stands, behind}
use Rattle.anvil_grammar.specs.Refusal.{BeginsFile, IsUnexpected, IsRefusal, place_of, rank_of, ComesFirst, IsFirstRefusal}
use Rattle.anvil_grammar.proofs.Refused.Refusals.{token_joined}
use Rattle.anvil_grammar.proofs.Walk.Joined.{walk_from, walk_stepped, first_stands}
use Rattle.anvil_grammar.proofs.Limited.Counts.{AllFit, count_both}
use Rattle.anvil_grammar.proofs.Limited.Walked.{AllShallow}
use Rattle.anvil_grammar.proofs.Places.Begun.{AllAt, Pends, stepped_placed}
use Rattle.anvil_grammar.proofs.Places.Walked.{Closes, PendsBefore, pends_walked, at_middle, pends_more, Opened, opened, free, is_opened}
use Rattle.anvil_grammar.proofs.Walk.Completed.{Facts, begun_behind, file_stands, viable}
use Rattle.anvil_grammar.proofs.Refused.Later.{none, unexpected_later, deep_later, many_later}

first_of_places : (one other : ParseErr) → place_of one ≤ place_of other → rank_of one ≤ rank_of other → ComesFirst one other
first_of_places one other less rank = by_order (eq-or-lt_of_le less)
  where
    by_order : (place_of one ≡ place_of other) ⊎ (place_of one < place_of other) → ComesFirst one other
    by_order (inl same) = inr (same, rank)
    by_order (inr before) = inl before

starts_before : (tokens : List Token) → PendsBefore start tokens
starts_before [] = tt
starts_before (token ∷ tokens) = tt

-- where a `(` is pending, `)` begins a thing at its place
closing_places : (items : File) (draft : ProcessDraft) (stack : List Frame) (at : ℕ) (token : Token) (new : List Begin) (next : State) → token.kind ≡ Mark mark.CloseParen
    → step (states.in_process items (states.in_thread draft (record { stack = stack; state = states.parenthesis_opened at }))) token ≡ onward new next
    → AllAt (λ place. place ≤ at) new
closing_places items draft stack at token new next closing stepped =
    let came = rw closing at stepped in
    let things : record { kind = counted.Expr; at = at } ∷ [] ≡ new = cc in
    subst (AllAt (λ place. place ≤ at)) things (le_refl at, tt)

closes_by : (state next : State) (token : Token) (new before after : List Begin) (begin : Begin) → step state token ≡ onward new next → new ≡ before ++ (begin ∷ after)
    → Opened state → token.kind ≡ Mark mark.CloseParen → Pends (λ at. begin.at ≤ at) state
closes_by state next token new before after begin stepped joined (free pends) closing = pends_more (λ at. ⊥) (λ at. begin.at ≤ at) (λ at no_place. absurd no_place) state pends
closes_by state next token new before after begin stepped joined (opened items draft stack at) closing =
    at_middle (λ place. place ≤ at) before after begin (subst (AllAt (λ place. place ≤ at)) joined (closing_places items draft stack at token new next closing stepped))

module _ (facts : Facts) (front : List Token) (token : Token) (rest : List Token) (begun : List Begin) (state : State)
    (walked : walk start front ≡ record { begun = begun; stop = stands state }) (rising : ArePlacesRising (front ++ (token ∷ rest)))
    (fit : AllFit none begun) (shallow : AllShallow 0 front) where
  -- the token cannot stand
  stuck_ends : ((first : List Begin) (next : State) → step state token ≡ onward first next → ⊥) → BeginsFile (front ++ (token ∷ [])) → ⊥
  stuck_ends stuck begins =
      let after = file_stands facts (front ++ (token ∷ [])) begins in
      let stop = ap (λ (w : Walk). w.stop) (sym (walk_from front (token ∷ []) start state begun walked) ∙ after.walked) in
      let one = first_stands state token [] (walk state (token ∷ [])).begun after.state (ap (λ s. record { begun = (walk state (token ∷ [])).begun; stop = s }) stop) in
      stuck one.first one.next one.stepped

  stuck_least : (BeginsFile (front ++ (token ∷ [])) → ⊥) → (other : ParseErr) → IsRefusal (front ++ (token ∷ rest)) other → ComesFirst (Unexpected token.at) other
  stuck_least ends (Unexpected at) refused = by_place (unexpected_later facts front token rest begun state walked rising at refused)
    where
      by_place : (token.at < at) ⊎ ((at ≡ token.at) × (BeginsFile (front ++ (token ∷ [])) → ⊥)) → ComesFirst (Unexpected token.at) (Unexpected at)
      by_place (inl less) = inl less
      by_place (inr same) = inr (sym same.0, omega arith)
  stuck_least ends (TooDeep at) refused = by_place (deep_later facts front token rest begun state walked rising shallow at refused)
    where
      by_place : (token.at < at) ⊎ ((at ≡ token.at) × (open_brackets 0 front ≡ most_open) × (most_open < open_after most_open token.kind))
          → ComesFirst (Unexpected token.at) (TooDeep at)
      by_place (inl less) = inl less
      by_place (inr same) = inr (sym same.0, omega arith)
  stuck_least ends (TooMany kind at) refused =
      first_of_places (Unexpected token.at) (TooMany kind at)
      (many_later facts front token rest begun state walked fit token.at kind at rising (le_refl token.at) (λ begins. absurd (ends begins)) refused) (omega arith)
  stuck_least ends NoMemory refused = absurd refused

  pub stuck_first : ((first : List Begin) (next : State) → step state token ≡ onward first next → ⊥) → IsFirstRefusal (front ++ (token ∷ rest)) (Unexpected token.at)
  stuck_first stuck = record {
    is = record {
      before = front;
      token = token;
      stands = record { behind = rest; joined = refl };
      placed = refl;
      goes_on = viable facts front begun state walked;
      ends = stuck_ends stuck;
    };
    least = stuck_least (stuck_ends stuck);
  }

  module _ (new : List Begin) (next : State) (stepped : step state token ≡ onward new next) where
    -- the token can stand
    token_walked : walk start (front ++ (token ∷ [])) ≡ record { begun = begun ++ (new ++ []); stop = stands next }
    token_walked = walk_from front (token ∷ []) start state begun walked ∙ ap (behind begun) (walk_stepped token [] state next new stepped)

    token_begins : BeginsFile (front ++ (token ∷ []))
    token_begins = viable facts (front ++ (token ∷ [])) (begun ++ (new ++ [])) next token_walked

    -- so a token that is unexpected stands behind it
    unexpected_behind : (at : ℕ) → IsUnexpected (front ++ (token ∷ rest)) at → token.at < at
    unexpected_behind at refused = by_place (unexpected_later facts front token rest begun state walked rising at refused)
      where
        by_place : (token.at < at) ⊎ ((at ≡ token.at) × (BeginsFile (front ++ (token ∷ [])) → ⊥)) → token.at < at
        by_place (inl less) = less
        by_place (inr same) = absurd (same.1 token_begins)

    -- it opens one bracket too many
    deep_least : (token.kind ≡ Mark mark.CloseParen → ⊥) → (other : ParseErr) → IsRefusal (front ++ (token ∷ rest)) other → ComesFirst (TooDeep token.at) other
    deep_least bracket (Unexpected at) refused = inl (unexpected_behind at refused)
    deep_least bracket (TooDeep at) refused = by_place (deep_later facts front token rest begun state walked rising shallow at refused)
      where
        by_place : (token.at < at) ⊎ ((at ≡ token.at) × (open_brackets 0 front ≡ most_open) × (most_open < open_after most_open token.kind))
            → ComesFirst (TooDeep token.at) (TooDeep at)
        by_place (inl less) = inl less
        by_place (inr same) = inr (sym same.0, omega arith)
    deep_least bracket (TooMany kind at) refused =
        first_of_places (TooDeep token.at) (TooMany kind at)
        (many_later facts front token rest begun state walked fit token.at kind at rising (le_refl token.at) (λ begins closing. absurd (bracket closing)) refused) (omega arith)
    deep_least bracket NoMemory refused = absurd refused

    pub deep_first : open_brackets 0 front ≡ most_open → most_open < open_after most_open token.kind → (token.kind ≡ Mark mark.CloseParen → ⊥)
        → IsFirstRefusal (front ++ (token ∷ rest)) (TooDeep token.at)
    deep_first full opens bracket = record {
      is = record {
        before = front;
        token = token;
        stands = record { behind = rest; joined = refl };
        placed = refl;
        goes_on = token_begins;
        full = full;
        opens = opens;
      };
      least = deep_least bracket;
    }

    -- what it begins does not fit
    module _ (before after : List Begin) (begin : Begin) (joined : new ≡ before ++ (begin ∷ after)) (full : count begin.kind (count begin.kind 0 begun) before ≡ most begin.kind) where
      past_each : (more : List Token) (file : File) (is : IsFile ((front ++ (token ∷ [])) ++ more) file) → HasOnePast begin.kind begin.at (begun_in is)
      past_each more file is =
          let others = (walk next more).begun in
          let things : begun_in is ≡ (begun ++ (new ++ [])) ++ others = begun_behind facts (front ++ (token ∷ [])) more file is (begun ++ (new ++ [])) next token_walked in
          let regrouped : (begun ++ ((before ++ (begin ∷ after)) ++ [])) ++ others ≡ (begun ++ before) ++ (begin ∷ (after ++ others)) = simp (append_assoc, append-nil) in
          record {
            before = begun ++ before;
            after = after ++ others;
            joined = things ∙ (ap (λ n. (begun ++ (n ++ [])) ++ others) joined ∙ regrouped);
            full = count_both begun before begin.kind 0 ∙ full;
          }

      -- its place is that of the token, or of a `(` just before
      past_least : begin.at ≤ token.at → Closes (λ at. begin.at ≤ at) state (token ∷ []) → open_after (open_brackets 0 front) token.kind ≤ most_open
          → (other : ParseErr) → IsRefusal (front ++ (token ∷ rest)) other → ComesFirst (TooMany begin.kind begin.at) other
      past_least less closes kept (Unexpected at) refused = let later = unexpected_behind at refused in inl (omega arith)
      past_least less closes kept (TooDeep at) refused = by_place (deep_later facts front token rest begun state walked rising shallow at refused)
        where
          by_place : (token.at < at) ⊎ ((at ≡ token.at) × (open_brackets 0 front ≡ most_open) × (most_open < open_after most_open token.kind))
              → ComesFirst (TooMany begin.kind begin.at) (TooDeep at)
          by_place (inl later) = inl (omega arith)
          by_place (inr same) =
              let deep : open_after (open_brackets 0 front) token.kind ≡ open_after most_open token.kind = ap (λ depth. open_after depth token.kind) same.1 in
              let opens = same.2 in
              absurd (omega arith)
      past_least less closes kept (TooMany kind at) refused =
          first_of_places (TooMany begin.kind begin.at) (TooMany kind at)
          (many_later facts front token rest begun state walked fit begin.at kind at rising less (λ begins. closes) refused) (omega arith)
      past_least less closes kept NoMemory refused = absurd refused

      past_before : begin.at ≤ token.at
      past_before =
          let pends = pends_walked front (token ∷ rest) start state begun rising (starts_before (front ++ (token ∷ rest))) walked in
          let placed = stepped_placed (λ at. at ≤ token.at) token state next new (le_refl token.at) (λ closing. pends) stepped in
          at_middle (λ at. at ≤ token.at) before after begin (subst (AllAt (λ at. at ≤ token.at)) joined placed.0)

      pub past_first : open_after (open_brackets 0 front) token.kind ≤ most_open → IsFirstRefusal (front ++ (token ∷ rest)) (TooMany begin.kind begin.at)
      past_first kept = record {
        is = record {
          front = front ++ (token ∷ []);
          behind = rest;
          joined = token_joined front token rest;
          goes_on = token_begins;
          each = past_each;
        };
        least = past_least past_before (closes_by state next token new before after begin stepped joined (is_opened state)) kept;
      }
