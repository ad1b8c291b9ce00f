-- The innermost act is bound to the name, or what is found in the outer ones.
use Rattle.std.proofs.Common.{◌≡◌, ◌∙◌, true, false, refl, sym}
use Rattle.std.specs.Prelude.{bytes_eq}
use Rattle.expr_check.proofs.made.+find_site.Goals as goal

pub returns-in-Nothing : goal.returns-in-Nothing
returns-in-Nothing t c = rw c.in-Nothing.is refl

pub returns-in-None : goal.returns-in-None
returns-in-None t c = rw (c.in-Act.is, c.in-None.is) c.find_site.ensures

pub returns-then-eq : goal.returns-then-eq
returns-then-eq t c =
    let same : bytes_eq c.args.name.now c.in-Some.bound ≡ true = rw (c.bytes.ensures.bytes, c.bytes-in-Some.ensures.bytes) at (sym c.eq.ensures ∙ c.if-eq.true) in
    rw (c.in-Act.is, c.in-Some.is, same) (refl, refl)

pub returns-else-eq : goal.returns-else-eq
returns-else-eq t c =
    let other : bytes_eq c.args.name.now c.in-Some.bound ≡ false = rw (c.bytes.ensures.bytes, c.bytes-in-Some.ensures.bytes) at (sym c.eq.ensures ∙ c.if-eq.false) in
    rw (c.in-Act.is, c.in-Some.is, other) c.find_site-else-eq.ensures
