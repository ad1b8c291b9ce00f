-- Tables in which ports and registers are found by their names: a key's place is that of the port or the register.
use Rattle.std.proofs.Common.{Option, ◌≡◌, ℕ, ◌+◌, Bool, true, false, cond, not, ◌&&◌, ◌||◌, List, [], ◌∷◌, ◌++◌, length, map, Some, None, refl, ap, sym, ◌∙◌, suc, zero, set, get_or, ◌≤◌, ◌<◌, length-append, arith}
use Rattle.std.proofs.lemmas.Bool.{and_parts, not-true}
use Rattle.std.proofs.lemmas.List.{length-map, map_push}
use Rattle.sv_tree.specs.Limits.{too_many}
use Rattle.std.proofs.lemmas.Bool.Decides.{nat_tests}
use Rattle.std.specs.Prelude.{bytes_eq, position, nat_lt, slice_get}
use Rattle.std.specs.List.{list_all, list_any, position_or_len}
use Rattle.sv_tree.specs.declared.tree.SvPort.{SvPort}
use Rattle.sv_tree.specs.WellFormed.{is_name, is_port_name, is_same_port, is_same_register}
use Rattle.sv_tree.specs.declared.tree.SvRegName.{SvRegName}
use Rattle.sv_tree.specs.declared.tree.SvRegName.TheVariants as register
use Rattle.sv_tree.specs.declared.tree.SvReg.{SvReg}
use Rattle.sv_lines.specs.Step.{state_count}
use Rattle.sv_draft.specs.declared.key.RegisterKey.{RegisterKey}
use Rattle.sv_draft.specs.Keys.{register_key, is_same_key}
use Rattle.sv_tree.specs.declared.tree.SvRef.TheVariants.{Reg}
use Rattle.sv_tree.specs.Module.{Module}
use Rattle.sv_lines.specs.Pieces.{◌>>=◌}
use Rattle.sv_lines.specs.Operands.{is_named, register_index, register_ref}
use Rattle.sv_lines.proofs.read.Decided.{bytes_same, passes}

position_len_map : {X Y : Type 0} (test : Y → Bool) (change : X → Y) (items : List X) → position_or_len test (map change items) ≡ position_or_len (λ x. test (change x)) items
position_len_map test change [] = refl
position_len_map test change (item ∷ items) = rw (position_len_map test change items) refl

pub position_map : {X Y : Type 0} (test : Y → Bool) (change : X → Y) (items : List X) → position test (map change items) ≡ position (λ x. test (change x)) items
position_map test change items = rw (position_len_map test change items, length-map items change) refl

pub any_map : {X Y : Type 0} (test : Y → Bool) (change : X → Y) (items : List X) → list_any test (map change items) ≡ list_any (λ x. test (change x)) items
any_map test change [] = refl
any_map test change (item ∷ items) = rw (any_map test change items) refl

-- none is found where none passes
none_by : {X : Type 0} (test : X → Bool) (item : X) (items : List X) (here : Bool) → test item ≡ here → (here || list_any test items) ≡ false
    → (list_any test items ≡ false → position_or_len test items ≡ length items) → cond (not here) (1 + position_or_len test items) 0 ≡ length (item ∷ items)
none_by test item items true is e later = absurd cc
none_by test item items false is e later = let found = later e in omega arith

none_passes : {X : Type 0} (test : X → Bool) (items : List X) → list_any test items ≡ false → position_or_len test items ≡ length items
none_passes test [] e = refl
none_passes test (item ∷ items) e = none_by test item items (test item) refl e (none_passes test items)

pub none_found : {X : Type 0} (test : X → Bool) (items : List X) → list_any test items ≡ false → None ≡ position test items
none_found test items e =
    let all = none_passes test items e in
    let below : nat_lt (length items) (length items) ≡ false = grind (arith, nat_tests) in
    rw (all, below) refl

-- Ports.

abbrev pub port_key : SvPort → List ℕ × List ℕ
port_key port = (port.endpoint, port.message)

pub port_found : (ports : List SvPort) (keys : List (List ℕ × List ℕ)) (endpoint message : List ℕ) → keys ≡ map port_key ports
    → position (λ key. bytes_eq endpoint key.0 && bytes_eq message key.1) keys ≡ position (is_named endpoint message) ports
port_found ports keys endpoint message same = ap (position (λ key. bytes_eq endpoint key.0 && bytes_eq message key.1)) same ∙ position_map _ port_key ports

good_by : (endpoint message : List ℕ) (port : SvPort) (is : Bool) → (is_name endpoint && is_name message) ≡ false → is_port_name port ≡ true → is_named endpoint message port ≡ is → is ≡ false
good_by endpoint message port false bad good named = refl
good_by endpoint message port true bad good named =
    let parts = and_parts (bytes_eq endpoint port.endpoint) (bytes_eq message port.message) named in
    let first = bytes_same endpoint port.endpoint parts.0 in
    let second = bytes_same message port.message parts.1 in
    absurd cc

-- a name that is no good name is no port's
no_port : (endpoint message : List ℕ) (ports : List SvPort) → (is_name endpoint && is_name message) ≡ false → list_all is_port_name ports ≡ true
    → list_any (is_named endpoint message) ports ≡ false
no_port endpoint message [] bad good = refl
no_port endpoint message (port ∷ ports) bad good =
    let parts = and_parts (is_port_name port) (list_all is_port_name ports) good in
    rw (good_by endpoint message port (is_named endpoint message port) bad parts.0 refl) (no_port endpoint message ports bad parts.1)

pub no_port_found : (endpoint message : List ℕ) (ports : List SvPort) → (is_name endpoint && is_name message) ≡ false → list_all is_port_name ports ≡ true
    → None ≡ position (is_named endpoint message) ports
no_port_found endpoint message ports bad good = none_found (is_named endpoint message) ports (no_port endpoint message ports bad good)

pub ports_more : (ports : List SvPort) (keys : List (List ℕ × List ℕ)) (port : SvPort) → keys ≡ map port_key ports → list_any (is_same_port port) ports ≡ false
    → cond (list_any (λ key. bytes_eq port.endpoint key.0 && bytes_eq port.message key.1) keys) keys (keys ++ (port_key port ∷ [])) ≡ map port_key (ports ++ (port ∷ []))
ports_more ports keys port same fresh =
    let none : list_any (λ (key : List ℕ × List ℕ). bytes_eq port.endpoint key.0 && bytes_eq port.message key.1) keys ≡ false =
    ap (list_any (λ key. bytes_eq port.endpoint key.0 && bytes_eq port.message key.1)) same ∙ any_map _ port_key ports ∙ fresh in
    rw none (rw same (sym (map_push port_key ports port)))

pub all_more : {X : Type 0} (test : X → Bool) (items : List X) (item : X) → list_all test items ≡ true → test item ≡ true → list_all test (items ++ (item ∷ [])) ≡ true
all_more test [] item all passes = rw passes refl
all_more test (first ∷ items) item all passes =
    let parts = and_parts (test first) (list_all test items) all in
    rw (parts.0) (all_more test items item parts.1 passes)

-- Registers.

pub key_same : (one other : SvRegName) → is_same_key (register_key one) (register_key other) ≡ is_same_register one other
key_same (register.Source one) (register.Source other) = refl
key_same (register.Source one) (register.State other) = refl
key_same (register.State one) (register.Source other) = refl
key_same (register.State one) (register.State other) = refl

any_same : {X : Type 0} (one other : X → Bool) → ((x : X) → one x ≡ other x) → (items : List X) → list_any one items ≡ list_any other items
any_same one other same [] = refl
any_same one other same (item ∷ items) = rw (same item, any_same one other same items) refl

position_len_same : {X : Type 0} (one other : X → Bool) → ((x : X) → one x ≡ other x) → (items : List X) → position_or_len one items ≡ position_or_len other items
position_len_same one other same [] = refl
position_len_same one other same (item ∷ items) = rw (same item, position_len_same one other same items) refl

-- a key is among the keys where its name is among the names, and at its place
pub key_among : (name : SvRegName) (regs : List SvReg)
    → list_any (is_same_key (register_key name)) (map (λ (reg : SvReg). register_key reg.name) regs) ≡ list_any (is_same_register name) (map (λ (reg : SvReg). reg.name) regs)
key_among name regs =
    any_map (is_same_key (register_key name)) (λ (reg : SvReg). register_key reg.name) regs
    ∙ any_same _ _ (λ (reg : SvReg). key_same name reg.name) regs ∙ sym (any_map (is_same_register name) (λ (reg : SvReg). reg.name) regs)

index_same : (regs : List SvReg) (one other : SvReg → Bool) → position_or_len one regs ≡ position_or_len other regs → position one regs ≡ position other regs
index_same regs one other e = rw e refl

pub key_index : (name : SvRegName) (regs : List SvReg)
    → position (is_same_key (register_key name)) (map (λ (reg : SvReg). register_key reg.name) regs) ≡ position (is_same_register name) (map (λ (reg : SvReg). reg.name) regs)
key_index name regs =
    position_map (is_same_key (register_key name)) (λ (reg : SvReg). register_key reg.name) regs
    ∙ index_same regs _ _ (position_len_same _ _ (λ (reg : SvReg). key_same name reg.name) regs) ∙ sym (position_map (is_same_register name) (λ (reg : SvReg). reg.name) regs)

pub registers_more : (test : RegisterKey → RegisterKey → Bool) (regs : List SvReg) (keys : List RegisterKey) (reg : SvReg)
    → ((one other : SvRegName) → test (register_key one) (register_key other) ≡ is_same_register one other) → keys ≡ map (λ (reg : SvReg). register_key reg.name) regs
    → list_any (is_same_register reg.name) (map (λ (reg : SvReg). reg.name) regs) ≡ false
    → cond (list_any (test (register_key reg.name)) keys) keys (keys ++ (register_key reg.name ∷ [])) ≡ map (λ (reg : SvReg). register_key reg.name) (regs ++ (reg ∷ []))
registers_more test regs keys reg is same fresh =
    let none : list_any (test (register_key reg.name)) keys ≡ false =
    ap (list_any (test (register_key reg.name))) same ∙ any_map (test (register_key reg.name)) (λ (reg : SvReg). register_key reg.name) regs
    ∙ any_same _ _ (λ (other : SvReg). is reg.name other.name) regs ∙ sym (any_map (is_same_register reg.name) (λ (reg : SvReg). reg.name) regs) ∙ fresh in
    rw none (rw same (sym (map_push (λ (reg : SvReg). register_key reg.name) regs reg)))

states_more : (names : List SvRegName) (name : SvRegName) → state_count (names ++ (name ∷ [])) ≡ state_count names + state_count (name ∷ [])
states_more [] (register.Source name) = refl
states_more [] (register.State number) = refl
states_more (register.Source first ∷ names) name = states_more names name
states_more (register.State first ∷ names) name = let later = states_more names name in omega arith

pub states_with : (regs : List SvReg) (reg : SvReg) → state_count (map (λ (reg : SvReg). reg.name) regs) + state_count (reg.name ∷ []) ≡ state_count (map (λ (reg : SvReg). reg.name) (regs ++ (reg ∷ [])))
states_with regs reg = sym (states_more (map (λ (reg : SvReg). reg.name) regs) reg.name) ∙ ap state_count (sym (map_push (λ (reg : SvReg). reg.name) regs reg))

states_within : (names : List SvRegName) → state_count names ≤ length names
states_within [] = omega arith
states_within (register.Source name ∷ names) = let later = states_within names in omega arith
states_within (register.State number ∷ names) = let later = states_within names in omega arith

pub states_few : (regs : List SvReg) → state_count (map (λ (reg : SvReg). reg.name) regs) ≤ length regs
states_few regs = omega (arith, states_within (map (λ (reg : SvReg). reg.name) regs), length-map regs (λ (reg : SvReg). reg.name))

pub states_below : (regs : List SvReg) → length regs < too_many → state_count (map (λ (reg : SvReg). reg.name) regs) < too_many
states_below regs few = omega (arith, few, states_few regs)

pub one_state : (name : SvRegName) → state_count (name ∷ []) ≤ 1
one_state (register.Source name) = omega arith
one_state (register.State number) = omega arith

-- a register in the place of another of its name
pub map_set : {X Y : Type 0} (change : X → Y) (items : List X) (index : ℕ) (was now : X) → slice_get items index ≡ Some was → change was ≡ change now
    → map change (set items index now) ≡ map change items
map_set change [] index was now e same = refl
map_set change (item ∷ items) zero was now e same = let is : item ≡ was = cc in rw is (ap (λ y. y ∷ map change items) (sym same))
map_set change (item ∷ items) (suc index) was now e same = ap (λ l. change item ∷ l) (map_set change items index was now e same)

pub got : {X : Type 0} (items : List X) (index : ℕ) (default item : X) → slice_get items index ≡ Some item → get_or items index default ≡ item
got [] index default item e = absurd cc
got (first ∷ items) zero default item e = cc
got (first ∷ items) (suc index) default item e = got items index default item e

pub there : {X : Type 0} (items : List X) (index : ℕ) (default : X) → index < length items → slice_get items index ≡ Some (get_or items index default)
there [] index default within = absurd (omega arith)
there (first ∷ items) zero default within = refl
there (first ∷ items) (suc index) default within = there items index default (omega arith)

pub few_more : {X : Type 0} (items : List X) (item : X) → length items + 1 < too_many → length (items ++ (item ∷ [])) < too_many
few_more items item room = omega (arith, length-append items (item ∷ []))

pub position_within : {X : Type 0} (test : X → Bool) (items : List X) (index : ℕ) → position test items ≡ Some index → index < length items
position_within test items index e =
    let passed = passes (nat_lt (position_or_len test items) (length items)) (position_or_len test items) index e in
    let holds = passed.holds in
    rw (← passed.same) (grind (arith, nat_tests))

pub key_within : (key : RegisterKey) (regs : List SvReg) (index : ℕ) → position (is_same_key key) (map (λ (reg : SvReg). register_key reg.name) regs) ≡ Some index
    → index < length regs
key_within key regs index e =
    omega (arith, position_within (is_same_key key) (map (λ (reg : SvReg). register_key reg.name) regs) index e, length-map regs (λ (reg : SvReg). register_key reg.name))

-- the register that a key names
pub register_ref_found : (tree : Module) (key : RegisterKey) (name : SvRegName) (found : Option ℕ) → key ≡ register_key name
    → found ≡ position (is_same_key key) (map (λ (reg : SvReg). register_key reg.name) tree.regs) → found >>= (λ index. Some (Reg index)) ≡ register_ref tree name
register_ref_found tree key name found is_key is_found =
    let index : found ≡ register_index tree name =
    is_found ∙ ap (λ k. position (is_same_key k) (map (λ (reg : SvReg). register_key reg.name) tree.regs)) is_key ∙ key_index name tree.regs in
    rw index refl

-- what `may add` says of a port
pub record MayAdd (ports : List SvPort) (port : SvPort) : Type 0 where
  pub good : is_port_name port ≡ true
  pub fresh : list_any (is_same_port port) ports ≡ false
  pub room : length ports + 1 < too_many

pub may_add_says : (ports : List SvPort) (port : SvPort) → (is_port_name port && not (list_any (is_same_port port) ports) && nat_lt (length ports + 1) too_many) ≡ true → MayAdd ports port
may_add_says ports port e =
    let two = and_parts (is_port_name port && not (list_any (is_same_port port) ports)) (nat_lt (length ports + 1) too_many) e in
    let one = and_parts (is_port_name port) (not (list_any (is_same_port port) ports)) two.0 in
    let few = two.1 in
    record {
      good = one.0;
      fresh = not-true (list_any (is_same_port port) ports) one.1;
      room = grind (arith, nat_tests);
    }

pub ports_contain : (ports : List SvPort) (keys : List (List ℕ × List ℕ)) (endpoint message : List ℕ) → keys ≡ map port_key ports
    → list_any (λ key. bytes_eq endpoint key.0 && bytes_eq message key.1) keys ≡ list_any (is_named endpoint message) ports
ports_contain ports keys endpoint message same = ap (list_any (λ key. bytes_eq endpoint key.0 && bytes_eq message key.1)) same ∙ any_map _ port_key ports

pub room_says : {X : Type 0} (items : List X) → nat_lt (length items + 1) too_many ≡ true → length items + 1 < too_many
room_says items e = grind (arith, nat_tests)
