-- The counting of a limited reading. A tally tells the number that each owner has of each kind; things that are admitted one after
-- the other leave a tally of the numbers after them, and each of them found fewer than the most of its kind, so none is one past.
-- A thing that is not admitted found the most of its kind, since no number passes the most.
use Rattle.std.proofs.Common.{◌≡◌, ◌≤◌, ◌<◌, ℕ, Bool, true, false, List, [], ◌∷◌, ◌++◌, ◌∙◌, refl, sym, subst, ap, arith, leb-true, leb-false}
use Rattle.std.specs.Prelude.{⊤, nat_le, if◌then◌else◌}
use Rattle.anvil_grammar.specs.declared.error.Counted.{Counted}
use Rattle.anvil_grammar.specs.declared.error.Counted.TheVariants as counted
use Rattle.anvil_grammar.specs.declared.error.ParseErr.{ParseErr}
use Rattle.anvil_grammar.specs.declared.error.ParseErr.TheVariants.{TooMany}
use Rattle.anvil_grammar.specs.Begun.{Begin, most, count_after, count}
use Rattle.anvil_grammar.specs.Limited.{Tally, count_of, with_one, with_open, within_limits, past_limit, admitted}

-- numbers of each kind, and those after more things
abbrev pub Numbers : Type 0
Numbers = Counted → ℕ

abbrev pub after_one : Numbers → Begin → Numbers
after_one many begin kind = count_after kind begin.kind (many kind)

abbrev pub after_all : Numbers → List Begin → Numbers
after_all many begun kind = count kind (many kind) begun

-- each of the things finds fewer than the most of its kind
abbrev pub AllFit : Numbers → List Begin → Type 0
AllFit many [] = ⊤
AllFit many (begin ∷ begun) = (many begin.kind < most begin.kind) × AllFit (after_one many begin) begun

pub fit_both : (begun others : List Begin) (many : Numbers) → AllFit many begun → AllFit (after_all many begun) others → AllFit many (begun ++ others)
fit_both [] others many first second = second
fit_both (begin ∷ begun) others many first second = (first.0, fit_both begun others (after_one many begin) first.1 second)

pub count_both : (begun others : List Begin) (kind : Counted) (many : ℕ) → count kind many (begun ++ others) ≡ count kind (count kind many begun) others
count_both [] others kind many = refl
count_both (begin ∷ begun) others kind many = count_both begun others kind (count_after kind begin.kind many)

-- so none of them is one past
pub fits_at : (before after : List Begin) (many : Numbers) (begin : Begin) → AllFit many (before ++ (begin ∷ after))
    → count begin.kind (many begin.kind) before ≡ most begin.kind → ⊥
fits_at [] after many begin fit full = let less = fit.0 in omega arith
fits_at (first ∷ before) after many begin fit full = fits_at before after (after_one many first) begin fit.1 full

-- a tally tells the numbers
abbrev pub Tells : Tally → Numbers → Type 0
Tells tally many = (kind : Counted) → count_of kind tally ≡ many kind

pub opened_tells : (tally : Tally) (many : Numbers) (depth : ℕ) → Tells tally many → Tells (with_open depth tally) many
opened_tells tally many depth tells counted.Class = tells counted.Class
opened_tells tally many depth tells counted.Message = tells counted.Message
opened_tells tally many depth tells counted.Process = tells counted.Process
opened_tells tally many depth tells counted.Endpoint = tells counted.Endpoint
opened_tells tally many depth tells counted.Register = tells counted.Register
opened_tells tally many depth tells counted.Thread = tells counted.Thread
opened_tells tally many depth tells counted.Act = tells counted.Act
opened_tells tally many depth tells counted.Expr = tells counted.Expr

-- after one more thing
one_counted : (kind : Counted) (begin : Counted) (tally : Tally) → count_of kind (with_one begin tally) ≡ count_after kind begin (count_of kind tally)
one_counted counted.Class counted.Class tally = refl
one_counted counted.Message counted.Class tally = refl
one_counted counted.Process counted.Class tally = refl
one_counted counted.Endpoint counted.Class tally = refl
one_counted counted.Register counted.Class tally = refl
one_counted counted.Thread counted.Class tally = refl
one_counted counted.Act counted.Class tally = refl
one_counted counted.Expr counted.Class tally = refl
one_counted kind begin tally = refl

one_tells : (tally : Tally) (many : Numbers) (begin : Begin) → Tells tally many → Tells (with_one begin.kind tally) (after_one many begin)
one_tells tally many begin tells kind = one_counted kind begin.kind tally ∙ ap (count_after kind begin.kind) (tells kind)

-- things that are admitted fit, and the tally after them tells their numbers; the brackets are left
pub record Admits (tally left : Tally) (many : Numbers) (begun : List Begin) : Type 0 where
  pub fit : AllFit many begun
  pub tells : Tells left (after_all many begun)
  pub depth : left.open_brackets ≡ tally.open_brackets

same_depth : (begin : Counted) (tally : Tally) → (with_one begin tally).open_brackets ≡ tally.open_brackets
same_depth counted.Class tally = refl
same_depth begin tally = refl

abbrev Fitting : List Begin → Type 0
Fitting begun = (tally left : Tally) (many : Numbers) → Tells tally many → admitted tally begun ≡ within_limits left → Admits tally left many begun

one_admitted : (begin : Begin) (begun : List Begin) (tally left : Tally) (many : Numbers) → Tells tally many → Fitting begun
    → (full : Bool) → nat_le (most begin.kind) (count_of begin.kind tally) ≡ full
    → (if full then past_limit (TooMany begin.kind begin.at) else admitted (with_one begin.kind tally) begun) ≡ within_limits left
    → Admits tally left many (begin ∷ begun)
one_admitted begin begun tally left many tells fitting true full same = absurd cc
one_admitted begin begun tally left many tells fitting false full same =
    let less = leb-false (most begin.kind) (count_of begin.kind tally) full in
    let told = tells begin.kind in
    let others = fitting (with_one begin.kind tally) left (after_one many begin) (one_tells tally many begin tells) same in
    record { fit = (omega arith, others.fit); tells = others.tells; depth = others.depth ∙ same_depth begin.kind tally }

pub admitted_fit : (begun : List Begin) → Fitting begun
admitted_fit [] tally left many tells same =
    let e : tally ≡ left = cc in
    subst (λ l. Admits tally l many []) e (record { fit = tt; tells = tells; depth = refl })
admitted_fit (begin ∷ begun) tally left many tells same =
    one_admitted begin begun tally left many tells (admitted_fit begun) (nat_le (most begin.kind) (count_of begin.kind tally)) refl same

-- no number is past the most
abbrev pub AllBounded : Numbers → Type 0
AllBounded many = (kind : Counted) → many kind ≤ most kind

bounded_after : (kind begin : Counted) (many : ℕ) → many ≤ most kind → (kind ≡ begin → many < most kind) → count_after kind begin many ≤ most kind
bounded_after counted.Class counted.Class many less fits = let one = fits refl in omega arith
bounded_after counted.Message counted.Class many less fits = omega arith
bounded_after counted.Message counted.Message many less fits = let one = fits refl in omega arith
bounded_after counted.Process counted.Process many less fits = let one = fits refl in omega arith
bounded_after counted.Endpoint counted.Process many less fits = omega arith
bounded_after counted.Endpoint counted.Endpoint many less fits = let one = fits refl in omega arith
bounded_after counted.Register counted.Process many less fits = omega arith
bounded_after counted.Register counted.Register many less fits = let one = fits refl in omega arith
bounded_after counted.Thread counted.Process many less fits = omega arith
bounded_after counted.Thread counted.Thread many less fits = let one = fits refl in omega arith
bounded_after counted.Act counted.Thread many less fits = omega arith
bounded_after counted.Act counted.Act many less fits = let one = fits refl in omega arith
bounded_after counted.Expr counted.Act many less fits = omega arith
bounded_after counted.Expr counted.Expr many less fits = let one = fits refl in omega arith
bounded_after kind begin many less fits = less

fits_same : (many : Numbers) (begin kind : Counted) → many begin < most begin → kind ≡ begin → many kind < most kind
fits_same many begin kind less same = subst (λ k. many k < most k) (sym same) less

pub bounded_one : (many : Numbers) (begin : Begin) → AllBounded many → many begin.kind < most begin.kind → AllBounded (after_one many begin)
bounded_one many begin bounded less kind = bounded_after kind begin.kind (many kind) (bounded kind) (fits_same many begin.kind kind less)

pub bounded_all : (begun : List Begin) (many : Numbers) → AllBounded many → AllFit many begun → AllBounded (after_all many begun)
bounded_all [] many bounded fit = bounded
bounded_all (begin ∷ begun) many bounded fit = bounded_all begun (after_one many begin) (bounded_one many begin bounded fit.0) fit.1

-- things that are not admitted have one past the most
pub record Past (many : Numbers) (begun : List Begin) (refusal : ParseErr) : Type 0 where
  pub before : List Begin
  pub begin : Begin
  pub after : List Begin
  pub joined : begun ≡ before ++ (begin ∷ after)
  pub full : count begin.kind (many begin.kind) before ≡ most begin.kind
  pub said : refusal ≡ TooMany begin.kind begin.at

abbrev Passing : List Begin → Type 0
Passing begun = (tally : Tally) (many : Numbers) (refusal : ParseErr) → Tells tally many → AllBounded many → admitted tally begun ≡ past_limit refusal
    → Past many begun refusal

one_past : (begin : Begin) (begun : List Begin) (tally : Tally) (many : Numbers) (refusal : ParseErr) → Tells tally many → AllBounded many → Passing begun
    → (full : Bool) → nat_le (most begin.kind) (count_of begin.kind tally) ≡ full
    → (if full then past_limit (TooMany begin.kind begin.at) else admitted (with_one begin.kind tally) begun) ≡ past_limit refusal
    → Past many (begin ∷ begun) refusal
one_past begin begun tally many refusal tells bounded passing true full same =
    let more = leb-true (most begin.kind) (count_of begin.kind tally) full in
    let told = tells begin.kind in
    let less = bounded begin.kind in
    record { before = []; begin = begin; after = begun; joined = refl; full = omega arith; said = cc }
one_past begin begun tally many refusal tells bounded passing false full same =
    let less = leb-false (most begin.kind) (count_of begin.kind tally) full in
    let told = tells begin.kind in
    let others = passing (with_one begin.kind tally) (after_one many begin) refusal (one_tells tally many begin tells) (bounded_one many begin bounded (omega arith)) same in
    record { before = begin ∷ others.before; begin = others.begin; after = others.after; joined = ap (λ b. begin ∷ b) others.joined; full = others.full; said = others.said }

pub past_said : (begun : List Begin) → Passing begun
past_said [] tally many refusal tells bounded same = absurd cc
past_said (begin ∷ begun) tally many refusal tells bounded same =
    one_past begin begun tally many refusal tells bounded (past_said begun) (nat_le (most begin.kind) (count_of begin.kind tally)) refl same
