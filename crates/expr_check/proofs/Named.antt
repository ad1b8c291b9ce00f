-- The keys of a table are the names of its ports or registers, in order: so a key's place is that of the port or register, and a new
-- name makes a new key.
use Rattle.std.proofs.Common.{◌≡◌, ◌∙◌, ℕ, ◌<◌, ◌≤◌, Bool, false, List, [], ◌∷◌, ◌++◌, length, map, ap, sym, arith, length-append}
use Rattle.std.specs.Prelude.{bytes_eq, position, if◌then◌else◌}
use Rattle.std.specs.List.{list_any}
use Rattle.anvil_tree.specs.Tree.{Name}
use Rattle.core_term.specs.declared.process.CoreReg.{CoreReg}
use Rattle.channel_classes.proofs.Table.{position_map, any_map, map_more}
use Rattle.expr_check.specs.Tables.{is_register_named}

abbrev pub register_key : CoreReg → Name
register_key register = register.name

-- a new item makes a new key
more_keys : {X Y : Type 0} (test : Y → Bool) (key : X → Y) (items : List X) (keys : List Y) (item : X) → keys ≡ map key items
    → list_any (λ x. test (key x)) items ≡ false
    → if list_any test keys then keys else keys ++ (key item ∷ []) ≡ map key (items ++ (item ∷ []))
more_keys test key items keys item same fresh =
    let none : list_any test keys ≡ false = ap (list_any test) same ∙ any_map test key items ∙ fresh in
    rw none (rw same (sym (map_more key items item)))

pub register_found : (registers view : List CoreReg) (keys : List Name) (name : Name) → keys ≡ map register_key registers → registers ≡ view
    → position (bytes_eq name) keys ≡ position (is_register_named name) view
register_found registers view keys name same is =
    ap (position (bytes_eq name)) same ∙ position_map (bytes_eq name) register_key registers ∙ ap (position (is_register_named name)) is

pub register_among : (registers view : List CoreReg) (keys : List Name) (name : Name) → keys ≡ map register_key registers → registers ≡ view
    → list_any (bytes_eq name) keys ≡ list_any (is_register_named name) view
register_among registers view keys name same is =
    ap (list_any (bytes_eq name)) same ∙ any_map (bytes_eq name) register_key registers ∙ ap (list_any (is_register_named name)) is

pub more_registers : (registers : List CoreReg) (keys : List Name) (register : CoreReg) → keys ≡ map register_key registers
    → list_any (is_register_named register.name) registers ≡ false
    → if list_any (bytes_eq register.name) keys then keys else keys ++ (register_key register ∷ []) ≡ map register_key (registers ++ (register ∷ []))
more_registers registers keys register same fresh = more_keys (bytes_eq register.name) register_key registers keys register same fresh

pub one_more : {X : Type 0} (items : List X) (item : X) (most : ℕ) → length items < most → length (items ++ (item ∷ [])) ≤ most
one_more items item most room = omega (arith, length-append items (item ∷ []))

pub name_among : (registers view : List CoreReg) (keys : List Name) (name : Name) → keys ≡ map register_key registers → registers ≡ view
    → list_any (bytes_eq name) keys ≡ list_any (bytes_eq name) (map register_key view)
name_among registers view keys name same is = ap (list_any (bytes_eq name)) (same ∙ ap (map register_key) is)
