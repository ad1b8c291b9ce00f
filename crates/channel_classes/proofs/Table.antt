-- The entries of a table as the classes that they are: what is found by a name, what stands at a number, and one entry more.
use Rattle.std.proofs.Common.{◌≡◌, ◌∙◌, ℕ, Bool, false, List, [], ◌∷◌, ◌++◌, Option, None, Some, is_some, length, map, refl, ap, sym, suc}
use Rattle.std.specs.Prelude.{bytes_eq, position, slice_get}
use Rattle.std.specs.List.{list_any, position_or_len}
use Rattle.std.specs.Option.{option_map}
use Rattle.std.specs.Map.{keys_of, lookup}
use Rattle.std.proofs.lemmas.Option.{slice_get-map}
use Rattle.std.proofs.lemmas.Map.Made.{is_some-lookup}
use Rattle.anvil_tree.specs.Tree.{Name}
use Rattle.channel_classes.specs.declared.message.ClassMessage.{ClassMessage}
use Rattle.channel_classes.specs.Classes.{Class, has_name, names_of}

-- an entry as a class, by the messages that its value holds
abbrev pub entry_class : {X : Type 0} → (X → List ClassMessage) → Name × X → Class
entry_class content entry = record { name = entry.0; messages = content entry.1 }

-- Tests on what a list is mapped to.

pub position_len_map : {X Y : Type 0} (test : Y → Bool) (change : X → Y) (items : List X) → position_or_len test (map change items) ≡ position_or_len (λ x. test (change x)) items
position_len_map test change [] = refl
position_len_map test change (item ∷ items) = rw (position_len_map test change items) refl

length_map : {X Y : Type 0} (change : X → Y) (items : List X) → length (map change items) ≡ length items
length_map change [] = refl
length_map change (item ∷ items) = ap (λ n. suc n) (length_map change items)

pub position_map : {X Y : Type 0} (test : Y → Bool) (change : X → Y) (items : List X) → position test (map change items) ≡ position (λ x. test (change x)) items
position_map test change items = rw (position_len_map test change items, length_map change items) refl

pub any_map : {X Y : Type 0} (test : Y → Bool) (change : X → Y) (items : List X) → list_any test (map change items) ≡ list_any (λ x. test (change x)) items
any_map test change [] = refl
any_map test change (item ∷ items) = rw (any_map test change items) refl

pub map_more : {X Y : Type 0} (change : X → Y) (items : List X) (item : X) → map change (items ++ (item ∷ [])) ≡ map change items ++ (change item ∷ [])
map_more change [] item = refl
map_more change (first ∷ items) item = ap (λ l. change first ∷ l) (map_more change items item)

-- Look-ups.

pub found : {X : Type 0} (content : X → List ClassMessage) (name : Name) (entries : List (Name × X)) (classes : List Class)
    → map (entry_class content) entries ≡ classes → position (bytes_eq name) (keys_of entries) ≡ position (has_name name) classes
found content name entries classes same =
    position_map (bytes_eq name) (λ entry. entry.0) entries
    ∙ sym (position_map (has_name name) (entry_class content) entries)
    ∙ ap (position (has_name name)) same

names_same : {X : Type 0} (content : X → List ClassMessage) (entries : List (Name × X)) → keys_of entries ≡ names_of (map (entry_class content) entries)
names_same content [] = refl
names_same content (entry ∷ entries) = ap (λ l. entry.0 ∷ l) (names_same content entries)

pub taken : {X : Type 0} (content : X → List ClassMessage) (name : Name) (entries : List (Name × X)) (classes : List Class)
    → map (entry_class content) entries ≡ classes → list_any (bytes_eq name) (keys_of entries) ≡ list_any (bytes_eq name) (names_of classes)
taken content name entries classes same =
    ap (list_any (bytes_eq name)) (names_same content entries) ∙ ap (λ known. list_any (bytes_eq name) (names_of known)) same

none_by : {X : Type 0} (found : Option X) → is_some found ≡ false → found ≡ None
none_by None e = refl
none_by (Some x) e = absurd cc

pub absent : {X : Type 0} (content : X → List ClassMessage) (name : Name) (entries : List (Name × X)) (classes : List Class)
    → map (entry_class content) entries ≡ classes → list_any (bytes_eq name) (names_of classes) ≡ false → lookup (bytes_eq name) entries ≡ None
absent content name entries classes same fresh =
    none_by (lookup (bytes_eq name) entries) (is_some-lookup (bytes_eq name) entries ∙ taken content name entries classes same ∙ fresh)

pub messages_at : {X : Type 0} (content : X → List ClassMessage) (entries : List (Name × X)) (classes : List Class) (number : ℕ) (entry : Name × X)
    → map (entry_class content) entries ≡ classes → Some entry ≡ slice_get entries number
    → slice_get (map (λ (known : Class). known.messages) classes) number ≡ Some (content entry.1)
messages_at content entries classes number entry same at =
    slice_get-map (λ (known : Class). known.messages) classes number
    ∙ ap (λ known. option_map (λ (c : Class). c.messages) (slice_get known number)) (sym same)
    ∙ ap (option_map (λ (c : Class). c.messages)) (slice_get-map (entry_class content) entries number)
    ∙ ap (λ found. option_map (λ (c : Class). c.messages) (option_map (entry_class content) found)) (sym at)
