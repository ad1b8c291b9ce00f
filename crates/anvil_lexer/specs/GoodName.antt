-- A good name: the names of classes, messages, processes, endpoints and registers that can stand in an emitted module.
--
-- It has ASCII letters, digits and `_` alone, begins with a letter, has no `__`, and does not end with `_`. So the
-- names that are made of good ones by `__` can be taken apart again in one way. 95 is `_`.
use Rattle.std.specs.Prelude.{ℕ, ◌==◌, Bool, false, not, ◌&&◌, ◌||◌, List, [], ◌∷◌}
use Rattle.std.specs.List.{list_all}
use Rattle.std.specs.Char.{is_ascii_alphabetic, is_ascii_alphanumeric}

-- a letter, a digit or `_`
abbrev pub is_name_byte : ℕ → Bool
is_name_byte byte = is_ascii_alphanumeric byte || (byte == 95)

abbrev pub begins_with_letter : List ℕ → Bool
begins_with_letter [] = false
begins_with_letter (byte ∷ rest) = is_ascii_alphabetic byte

abbrev pub begins_with_underscore : List ℕ → Bool
begins_with_underscore [] = false
begins_with_underscore (byte ∷ rest) = byte == 95

abbrev pub has_double_underscore : List ℕ → Bool
has_double_underscore [] = false
has_double_underscore (byte ∷ rest) = ((byte == 95) && begins_with_underscore rest) || has_double_underscore rest

abbrev pub ends_with_underscore : List ℕ → Bool
ends_with_underscore [] = false
ends_with_underscore (byte ∷ []) = byte == 95
ends_with_underscore (byte ∷ next ∷ rest) = ends_with_underscore (next ∷ rest)

abbrev pub is_good_name : List ℕ → Bool
is_good_name name = list_all is_name_byte name && begins_with_letter name && not (has_double_underscore name) && not (ends_with_underscore name)
