-- Parts of a text that are put one after another, each only where the one before it was put whole.
--
-- The claim: where a first part was put whole and then a second was put, or failed, so was their join; where a part failed,
-- a front part of every text that begins with it was put. The argument is that of pieces of one put; here the answer is the
-- one that `?` makes, of which only that it is a failure matters, since a fault carries nothing.
use Rattle.std.proofs.Common.{ℕ, List, [], ◌++◌, Option, Some, None, append-nil, sym, refl, arith}
use Rattle.std.specs.Prelude.{Result, Ok, Err, IsErr}
use Rattle.anvil_io.specs.declared.outside.SinkFault.{SinkFault}
use Rattle.anvil_io.specs.Causes.{Puts}
use Rattle.anvil_io.proofs.PieceLemmas.{puts_then, prefix_longer}

-- a part behind one that was put whole
pub then_put : {T U : Type 0} {old middle new : Option (List ℕ)} {before between now : ℕ} {first second : List ℕ} {done : T} {result : Result U SinkFault}
    → Puts old middle before between first (Ok done) → Puts middle new between now second result → Puts old new before now (first ++ second) result
then_put {old = old} {middle = middle} {new = new} {before = before} {between = between} {now = now} {first = first} {second = second} {done = done} {result = result} one two =
    puts_then old middle new before between now first second done result one two

-- a part that failed, before the rest of the text
pub failed_before : {T U : Type 0} {old new : Option (List ℕ)} {before now : ℕ} {text : List ℕ} {fault : SinkFault} (rest : List ℕ) (result : Result U SinkFault)
    → IsErr result → Puts {T = T} old new before now text (Err fault) → Puts old new before now (text ++ rest) result
failed_before rest (Ok value) is_failure failed = cc
failed_before {old = old} {new = new} {text = text} rest (Err fault) is_failure failed = record {
  whole = tt;
  part = prefix_longer old new text rest failed.part;
  cause = failed.cause;
  fine = tt;
  later = failed.later;
}

-- no part at all
pub nothing_put : {T : Type 0} (held : Option (List ℕ)) (faults : ℕ) (done : T) → Puts held held faults faults [] (Ok done)
nothing_put None faults done = record { whole = tt; part = tt; cause = tt; fine = refl; later = omega arith }
nothing_put (Some bytes) faults done = record { whole = sym (append-nil bytes); part = tt; cause = tt; fine = refl; later = omega arith }
