-- What a limited reading does with one token. If it goes on, the token can stand there, the brackets stay within the limit, and the
-- things that begin fit. If it refuses the token, then the token cannot stand there, or opens a bracket while as many are open as may
-- be, or begins a thing that finds the most of its kind.
use Rattle.std.proofs.Common.{◌≡◌, ◌≤◌, ◌<◌, ◌&&◌, ℕ, Bool, true, false, List, ◌∷◌, ◌++◌, ◌∙◌, refl, sym, subst, ap, arith, leb-true, leb-false}
use Rattle.std.specs.Prelude.{nat_le, if◌then◌else◌}
use Rattle.anvil_lexer.specs.declared.token.Token.{Token}
use Rattle.anvil_lexer.specs.declared.token.TokenKind.{TokenKind}
use Rattle.anvil_lexer.specs.declared.token.TokenKind.TheVariants.{Mark}
use Rattle.anvil_lexer.specs.declared.token.Mark.TheVariants as mark
use Rattle.anvil_tree.specs.Tree.{File}
use Rattle.anvil_grammar.specs.declared.error.ParseErr.{ParseErr}
use Rattle.anvil_grammar.specs.declared.error.ParseErr.TheVariants.{Unexpected, TooDeep, TooMany}
use Rattle.anvil_grammar.specs.Begun.{Begin, most, count}
use Rattle.anvil_grammar.specs.Limits.{most_open, open_after}
use Rattle.anvil_grammar.specs.State.{State}
use Rattle.anvil_grammar.specs.Step.{Step, onward, step}
use Rattle.anvil_grammar.specs.Limited.{Tally, with_open, Admitted, within_limits, past_limit, admitted, is_opening, opened, admitted_with, goes_on, refused, verdict_at, verdict_of, take_token}
use Rattle.anvil_grammar.proofs.Limited.Counts.{Numbers, after_all, AllFit, Tells, opened_tells, admitted_fit, AllBounded, past_said}

-- the bracket of a token within the limit, and past it
abbrev pub too_deep : TokenKind → ℕ → Bool
too_deep kind depth = is_opening kind && nat_le most_open depth

kept_shallow : (kind : TokenKind) (depth : ℕ) → depth ≤ most_open → too_deep kind depth ≡ false → open_after depth kind ≤ most_open
kept_shallow (Mark mark.OpenBrace) depth less same = let one = leb-false most_open depth same in omega arith
kept_shallow (Mark mark.OpenParen) depth less same = let one = leb-false most_open depth same in omega arith
kept_shallow (Mark mark.OpenBracket) depth less same = let one = leb-false most_open depth same in omega arith
kept_shallow (Mark mark.CloseBrace) depth less same = omega arith
kept_shallow (Mark mark.CloseParen) depth less same = omega arith
kept_shallow (Mark mark.CloseBracket) depth less same = omega arith
kept_shallow kind depth less same = less

record Deep (kind : TokenKind) (depth : ℕ) : Type 0 where
  full : depth ≡ most_open
  opens : most_open < open_after most_open kind
  other : kind ≡ Mark mark.CloseParen → ⊥

deep_said : (kind : TokenKind) (depth : ℕ) → depth ≤ most_open → too_deep kind depth ≡ true → Deep kind depth
deep_said (Mark mark.OpenBrace) depth less same = let one = leb-true most_open depth same in record { full = omega arith; opens = omega arith; other = λ e. absurd cc }
deep_said (Mark mark.OpenParen) depth less same = let one = leb-true most_open depth same in record { full = omega arith; opens = omega arith; other = λ e. absurd cc }
deep_said (Mark mark.OpenBracket) depth less same = let one = leb-true most_open depth same in record { full = omega arith; opens = omega arith; other = λ e. absurd cc }
deep_said kind depth less same = absurd cc

-- a token is taken
pub record Takes (state : State) (tally : Tally) (many : Numbers) (token : Token) (next : State) (left : Tally) : Type 0 where
  pub begun : List Begin
  pub stepped : step state token ≡ onward begun next
  pub fit : AllFit many begun
  pub tells : Tells left (after_all many begun)
  pub depth : left.open_brackets ≡ open_after tally.open_brackets token.kind
  pub shallow : left.open_brackets ≤ most_open

-- a token is refused, after so many things and so many open brackets
pub data IsRefusedAt (state : State) (many : Numbers) (depth : ℕ) (token : Token) : ParseErr → Type 0 where
  cannot_stand : ((begun : List Begin) (next : State) → step state token ≡ onward begun next → ⊥) → IsRefusedAt state many depth token (Unexpected token.at)
  opens_deep : (begun : List Begin) (next : State) → step state token ≡ onward begun next → depth ≡ most_open → most_open < open_after most_open token.kind
      → (token.kind ≡ Mark mark.CloseParen → ⊥) → IsRefusedAt state many depth token (TooDeep token.at)
  begins_past : (begun : List Begin) (next : State) → step state token ≡ onward begun next → open_after depth token.kind ≤ most_open
      → (before after : List Begin) (begin : Begin) → begun ≡ before ++ (begin ∷ after) → count begin.kind (many begin.kind) before ≡ most begin.kind
      → IsRefusedAt state many depth token (TooMany begin.kind begin.at)

-- the two numbers of brackets and of things that a token leaves
record Went (token : Token) (tally : Tally) (begun : List Begin) (state next : State) (left : Tally) : Type 0 where
  middle : Tally
  opened_so : opened tally token ≡ within_limits middle
  counted_so : admitted middle begun ≡ within_limits left
  same : state ≡ next

went_by : (token : Token) (tally : Tally) (begun : List Begin) (state next : State) (left : Tally) (one two : Admitted) → opened tally token ≡ one
    → admitted_with one begun ≡ two → verdict_at state two ≡ goes_on next left → Went token tally begun state next left
went_by token tally begun state next left (within_limits middle) (within_limits other) first second same =
    let e : other ≡ left = cc in
    record { middle = middle; opened_so = first; counted_so = second ∙ ap within_limits e; same = cc }
went_by token tally begun state next left one two first second same = absurd cc

opened_by : (token : Token) (tally middle : Tally) (deep : Bool) → too_deep token.kind tally.open_brackets ≡ deep
    → (if deep then past_limit (TooDeep token.at) else within_limits (with_open (open_after tally.open_brackets token.kind) tally)) ≡ within_limits middle
    → (too_deep token.kind tally.open_brackets ≡ false) × (with_open (open_after tally.open_brackets token.kind) tally ≡ middle)
opened_by token tally middle true is same = absurd cc
opened_by token tally middle false is same = (is, cc)

taken_by : (token : Token) (tally left : Tally) (many : Numbers) (state next : State) (came : Step State File) → Tells tally many → tally.open_brackets ≤ most_open
    → step state token ≡ came → verdict_of tally token came ≡ goes_on next left → Takes state tally many token next left
taken_by token tally left many state next (onward begun middle) tells less is same =
    let went = went_by token tally begun middle next left (opened tally token) (admitted_with (opened tally token) begun) refl refl same in
    let open_so = opened_by token tally went.middle (too_deep token.kind tally.open_brackets) refl went.opened_so in
    let told : Tells went.middle many = subst (λ m. Tells m many) open_so.1 (opened_tells tally many (open_after tally.open_brackets token.kind) tells) in
    let fitting = admitted_fit begun went.middle left many told went.counted_so in
    let opens : open_after tally.open_brackets token.kind ≡ went.middle.open_brackets = ap (λ (m : Tally). m.open_brackets) open_so.1 in
    let kept = kept_shallow token.kind tally.open_brackets less open_so.0 in
    let deep = fitting.depth in
    record { begun = begun; stepped = is ∙ ap (onward begun) went.same; fit = fitting.fit; tells = fitting.tells; depth = omega arith; shallow = omega arith }
taken_by token tally left many state next came tells less is same = absurd cc

pub taken : (token : Token) (tally left : Tally) (many : Numbers) (state next : State) → Tells tally many → tally.open_brackets ≤ most_open
    → take_token state tally token ≡ goes_on next left → Takes state tally many token next left
taken token tally left many state next tells less same = taken_by token tally left many state next (step state token) tells less refl same

-- a refusal by the things, or by the bracket
refused_past : (token : Token) (tally : Tally) (many : Numbers) (state next : State) (begun : List Begin) (refusal : ParseErr) → Tells tally many → AllBounded many
    → step state token ≡ onward begun next → too_deep token.kind tally.open_brackets ≡ false → tally.open_brackets ≤ most_open
    → admitted (with_open (open_after tally.open_brackets token.kind) tally) begun ≡ past_limit refusal → IsRefusedAt state many tally.open_brackets token refusal
refused_past token tally many state next begun refusal tells bounded is shallow less same =
    let past = past_said begun (with_open (open_after tally.open_brackets token.kind) tally) many refusal (opened_tells tally many (open_after tally.open_brackets token.kind) tells) bounded same in
    subst (λ f. IsRefusedAt state many tally.open_brackets token f) (sym past.said)
    (begins_past begun next is (kept_shallow token.kind tally.open_brackets less shallow) past.before past.after past.begin past.joined past.full)

counted_out : (state : State) (counted : Admitted) (refusal : ParseErr) → verdict_at state counted ≡ refused refusal → counted ≡ past_limit refusal
counted_out state (past_limit other) refusal same = cc
counted_out state (within_limits tally) refusal same = absurd cc

refused_onward : (token : Token) (tally : Tally) (many : Numbers) (state next : State) (begun : List Begin) (refusal : ParseErr) → Tells tally many → AllBounded many
    → tally.open_brackets ≤ most_open → step state token ≡ onward begun next → (deep : Bool) → too_deep token.kind tally.open_brackets ≡ deep
    → verdict_at next (admitted_with (if deep then past_limit (TooDeep token.at) else within_limits (with_open (open_after tally.open_brackets token.kind) tally)) begun) ≡ refused refusal
    → IsRefusedAt state many tally.open_brackets token refusal
refused_onward token tally many state next begun refusal tells bounded less is true deep same =
    let said = deep_said token.kind tally.open_brackets less deep in
    let e : TooDeep token.at ≡ refusal = cc in
    subst (λ f. IsRefusedAt state many tally.open_brackets token f) e (opens_deep begun next is said.full said.opens said.other)
refused_onward token tally many state next begun refusal tells bounded less is false deep same =
    refused_past token tally many state next begun refusal tells bounded is deep less (counted_out next _ refusal same)

refused_by : (token : Token) (tally : Tally) (many : Numbers) (state : State) (refusal : ParseErr) (came : Step State File) → Tells tally many → AllBounded many
    → tally.open_brackets ≤ most_open → step state token ≡ came → verdict_of tally token came ≡ refused refusal → IsRefusedAt state many tally.open_brackets token refusal
refused_by token tally many state refusal (onward begun next) tells bounded less is same =
    refused_onward token tally many state next begun refusal tells bounded less is (too_deep token.kind tally.open_brackets) refl same
refused_by token tally many state refusal came tells bounded less is same =
    let e : Unexpected token.at ≡ refusal = cc in
    subst (λ f. IsRefusedAt state many tally.open_brackets token f) e (cannot_stand (λ begun next other. absurd cc))

pub not_taken : (token : Token) (tally : Tally) (many : Numbers) (state : State) (refusal : ParseErr) → Tells tally many → AllBounded many
    → tally.open_brackets ≤ most_open → take_token state tally token ≡ refused refusal → IsRefusedAt state many tally.open_brackets token refusal
not_taken token tally many state refusal tells bounded less same = refused_by token tally many state refusal (step state token) tells bounded less refl same
