-- Good names, and the parts of a module that give operands their meaning: names of ports and of registers are good and none
-- stands twice, and numbers are small enough to be written and read.
use Rattle.std.proofs.Common.{◌≡◌, ℕ, zero, suc, ◌<◌, ◌≤◌, ◌^◌, Bool, true, false, not, ◌&&◌, List, [], ◌∷◌, length, map, Some, refl, sym}
use Rattle.std.proofs.lemmas.Bool.{and_parts, not-true}
use Rattle.std.specs.Prelude.{slice_get, slice_index, nat_lt, nat_le, bytes_eq, ◌==◌}
use Rattle.std.specs.List.{list_all}
use Rattle.anvil_lexer.specs.GoodName.{is_good_name, is_name_byte, begins_with_letter, has_double_underscore, ends_with_underscore}
use Rattle.sv_tree.specs.declared.tree.SvPort.{SvPort}
use Rattle.sv_tree.specs.declared.tree.SvRegName.{SvRegName}
use Rattle.sv_tree.specs.declared.tree.SvRegName.TheVariants.{Source, State}
use Rattle.sv_tree.specs.Limits.{longest_name}
use Rattle.sv_tree.specs.Module.{Module}
use Rattle.sv_tree.specs.WellFormed.{is_name, is_width, is_port_name, is_register_name, has_no_twice, is_same_port, is_same_register, register_names}
use Rattle.sv_lines.proofs.read.Decided.{bytes_same, same_bytes, number_same, same_number}
use Rattle.sv_lines.proofs.back.Once.{Turns}

-- a good name's parts
pub record IsGoodName (name : List ℕ) : Type 0 where
  pub bytes : list_all is_name_byte name ≡ true
  pub letter : begins_with_letter name ≡ true
  pub no_double : has_double_underscore name ≡ false
  pub no_end : ends_with_underscore name ≡ false

pub good_name : (name : List ℕ) → is_name name ≡ true → IsGoodName name
good_name name e =
    let good = and_parts (is_good_name name) (nat_le (length name) longest_name) e in
    let last = and_parts (list_all is_name_byte name && begins_with_letter name && not (has_double_underscore name)) (not (ends_with_underscore name)) good.0 in
    let double = and_parts (list_all is_name_byte name && begins_with_letter name) (not (has_double_underscore name)) last.0 in
    let first = and_parts (list_all is_name_byte name) (begins_with_letter name) double.0 in
    record {
      bytes = first.0;
      letter = first.1;
      no_double = not-true (has_double_underscore name) double.1;
      no_end = not-true (ends_with_underscore name) last.1;
    }

pub all_at : {X : Type 0} (test : X → Bool) (items : List X) (index : ℕ) (item : X) → list_all test items ≡ true → slice_get items index ≡ Some item → test item ≡ true
all_at test [] index item all e = absurd cc
all_at test (first ∷ items) zero item all e =
    let parts = and_parts (test first) (list_all test items) all in
    let same : first ≡ item = cc in
    rw (← same) parts.0
all_at test (first ∷ items) (suc index) item all e =
    let parts = and_parts (test first) (list_all test items) all in
    all_at test items index item parts.1 e

-- Sameness turns.

same_by : (one other : Bool) → (one ≡ true → other ≡ true) → (other ≡ true → one ≡ true) → one ≡ other
same_by true other there back = sym (there refl)
same_by false true there back = back refl
same_by false false there back = refl

pub bytes_turn : (one other : List ℕ) → bytes_eq one other ≡ bytes_eq other one
bytes_turn one other =
    same_by (bytes_eq one other) (bytes_eq other one)
    (λ e. let same = bytes_same one other e in rw same (same_bytes other))
    (λ e. let same = bytes_same other one e in rw same (same_bytes one))

pub number_turn : (one other : ℕ) → (one == other) ≡ (other == one)
number_turn one other =
    same_by (one == other) (other == one)
    (λ e. let same = number_same one other e in rw same (same_number other))
    (λ e. let same = number_same other one e in rw same (same_number one))

pub port_turns : Turns is_same_port
port_turns one other = rw (bytes_turn one.endpoint other.endpoint, bytes_turn one.message other.message) refl

pub register_turns : Turns is_same_register
register_turns (Source one) (Source other) = bytes_turn one other
register_turns (Source one) (State other) = refl
register_turns (State one) (Source other) = refl
register_turns (State one) (State other) = number_turn one other

pub port_itself : (port : SvPort) → is_same_port port port ≡ true
port_itself port = rw (same_bytes port.endpoint, same_bytes port.message) refl

pub register_itself : (name : SvRegName) → is_same_register name name ≡ true
register_itself (Source name) = same_bytes name
register_itself (State number) = same_number number

-- What is used of a module.

abbrev pub is_small_name : SvRegName → Bool
is_small_name (Source name) = true
is_small_name (State number) = nat_lt number (2 ^ 64)

pub record GoodParts (tree : Module) : Type 0 where
  pub ports_good : list_all is_port_name tree.ports ≡ true
  pub ports_differ : has_no_twice is_same_port tree.ports ≡ true
  pub names_good : list_all is_register_name (register_names tree) ≡ true
  pub names_differ : has_no_twice is_same_register (register_names tree) ≡ true
  pub names_small : list_all is_small_name (register_names tree) ≡ true
  pub nets_few : length tree.nets < 2 ^ 64
  pub ports_wide : list_all (λ p. is_width p.width) tree.ports ≡ true
  pub regs_wide : list_all (λ r. is_width r.width) tree.regs ≡ true
  pub nets_wide : list_all (λ n. is_width n.width) tree.nets ≡ true

-- a draft that has all ports and registers of the module, and the first `known` of its nets
pub record Known (draft tree : Module) (known : ℕ) : Type 0 where
  pub ports_same : draft.ports ≡ tree.ports
  pub names_same : register_names draft ≡ register_names tree
  pub nets_known : length draft.nets ≡ known
  pub nets_within : known ≤ length tree.nets
  pub regs_wide : map (λ r. r.width) draft.regs ≡ map (λ r. r.width) tree.regs
  pub nets_wide : (net : ℕ) → net < known → slice_index (map (λ n. n.width) draft.nets) net ≡ slice_index (map (λ n. n.width) tree.nets) net
