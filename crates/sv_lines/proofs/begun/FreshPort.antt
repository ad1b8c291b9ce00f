-- A port that may stand behind others: of the endpoint `p`, with a message that no port has.
use Rattle.std.proofs.Common.{◌≡◌, ℕ, ◌+◌, ◌^◌, ◌<◌, ◌≤◌, Bool, true, false, ◌&&◌, List, [], ◌∷◌, length, map, refl, ap, sym, ◌∙◌, arith}
use Rattle.std.proofs.lemmas.Bool.{le-leb, ne_eqb}
use Rattle.std.proofs.lemmas.Bool.Decides.{nat_tests}
use Rattle.std.proofs.lemmas.Fmt.{decimal_injective, length-decimal-le}
use Rattle.std.proofs.lemmas.List.{length-map}
use Rattle.std.specs.Prelude.{◌==◌, nat_lt, nat_le, bytes_eq, decimal, codes}
use Rattle.std.specs.List.{list_all, list_any}
use Rattle.std.specs.Char.{is_ascii_digit}
use Rattle.anvil_lexer.specs.GoodName.{is_name_byte, has_double_underscore, ends_with_underscore}
use Rattle.sv_tree.specs.declared.tree.SvPort.{SvPort}
use Rattle.sv_tree.specs.Limits.{longest_name, too_many}
use Rattle.sv_tree.specs.Module.{Module}
use Rattle.sv_tree.specs.WellFormed.{is_name, is_same_port}
use Rattle.sv_lines.proofs.read.PiecesRead.{AllPass, decimal_passes}
use Rattle.sv_lines.proofs.kept.Longer.{neither}
use Rattle.sv_lines.proofs.kept.KeptDrafts.{PortWanted, PortBegun}
use Rattle.sv_lines.proofs.begun.Fresh.{Different, free}

-- Names of a letter and digits.

name_digit : (byte : ℕ) → is_ascii_digit byte ≡ true → is_name_byte byte ≡ true
name_digit byte digit = rw digit refl

no_underscore : (byte : ℕ) → is_ascii_digit byte ≡ true → (byte == 95) ≡ false
no_underscore byte digit = ne_eqb byte 95 (λ is. let wrong : false ≡ true = sym (ap is_ascii_digit is) ∙ digit in absurd cc)

name_bytes : (digits : List ℕ) → AllPass is_ascii_digit digits → list_all is_name_byte digits ≡ true
name_bytes [] all = refl
name_bytes (byte ∷ digits) all = rw (name_digit byte all.0, name_bytes digits all.1) refl

no_double : (digits : List ℕ) → AllPass is_ascii_digit digits → has_double_underscore digits ≡ false
no_double [] all = refl
no_double (byte ∷ digits) all = rw (no_underscore byte all.0, no_double digits all.1) refl

no_end : (first : ℕ) (digits : List ℕ) → (first == 95) ≡ false → AllPass is_ascii_digit digits → ends_with_underscore (first ∷ digits) ≡ false
no_end first [] first_is_no all = first_is_no
no_end first (byte ∷ digits) first_is_no all = no_end byte digits (no_underscore byte all.0) all.1

digits_name : (digits : List ℕ) → AllPass is_ascii_digit digits → length digits ≤ 20 → is_name (109 ∷ digits) ≡ true
digits_name digits all few =
    let bytes : list_all is_name_byte digits ≡ true = name_bytes digits all in
    let single : has_double_underscore digits ≡ false = no_double digits all in
    let ends : ends_with_underscore (109 ∷ digits) ≡ false = no_end 109 digits refl all in
    let short : nat_le (length (109 ∷ digits)) longest_name ≡ true = le-leb (length (109 ∷ digits)) longest_name (omega arith) in
    rw (bytes, single, ends, short) refl

abbrev pub numbered_message : ℕ → List ℕ
numbered_message number = 109 ∷ decimal number

is_message : (number : ℕ) → number < 2 ^ 32 → is_name (numbered_message number) ≡ true
is_message number below = digits_name (decimal number) (decimal_passes number (omega arith)) (length-decimal-le 20 number (omega arith) (omega arith) (omega arith))

rest_same : (first : ℕ) (one other : List ℕ) → first ∷ one ≡ first ∷ other → one ≡ other
rest_same first one other e = cc

different_messages : Different numbered_message (2 ^ 32)
different_messages = record {
  differ = λ i j i_below j_below same. decimal_injective i j (omega arith) (omega arith) (rest_same 109 (decimal i) (decimal j) same);
}

-- A port of a message that no port has is new.

abbrev pub port_named : List ℕ → SvPort
port_named message = record { endpoint = codes "p"; message = message; received = true; width = 1 }

and_false : (test : Bool) → (test && false) ≡ false
and_false true = refl
and_false false = refl

new_port : (port : SvPort) (ports : List SvPort) → list_any (bytes_eq port.message) (map (λ (p : SvPort). p.message) ports) ≡ false → list_any (is_same_port port) ports ≡ false
new_port port [] new = refl
new_port port (first ∷ ports) new =
    let parts = neither (bytes_eq port.message first.message) (list_any (bytes_eq port.message) (map (λ (p : SvPort). p.message) ports)) new in
    rw (parts.one_fails, and_false (bytes_eq port.endpoint first.endpoint), new_port port ports parts.other_fails) refl

-- a port that may be read where one is wanted
pub record NextPort (tree : Module) : Type 0 where
  pub port : SvPort
  pub begun : PortBegun tree port

pub next_port : (tree : Module) → PortWanted tree → NextPort tree
next_port tree at =
    let found = free numbered_message (map (λ (p : SvPort). p.message) tree.ports) (2 ^ 32) different_messages few in
    let port : SvPort = port_named (numbered_message found.number) in
    record {
      port = port;
      begun = record {
        bare = at.bare;
        room = at.room;
        good = is_message found.number found.below;
        is_new = new_port port tree.ports found.is_free;
        within = refl;
      };
    }
  where
    few : length (map (λ (p : SvPort). p.message) tree.ports) < 2 ^ 32
    few = let below : nat_lt (length tree.ports + 1) too_many ≡ true = at.room in rw (length-map tree.ports (λ (p : SvPort). p.message)) (grind (arith, nat_tests))
