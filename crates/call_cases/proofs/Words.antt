-- Words of the command line that the examples of `command_words` do not have: their forms, computed.
use Rattle.std.specs.Fmt.{digits}
use Rattle.std.proofs.Common.{◌≡◌, [], ◌∷◌, Some, None, codes, refl}
use Rattle.command_words.specs.Form.{check_form, form_of, gen_form, number_of}

of_number_as_file : form_of (codes "check" ∷ codes "64" ∷ []) ≡ Some (check_form (codes "64"))
of_number_as_file = refl

of_gen_ten : form_of (codes "gen" ∷ codes "10" ∷ []) ≡ Some (gen_form 10)
unfolding digits number_of
of_gen_ten = refl

of_long_flag : form_of (codes "--help" ∷ []) ≡ None
of_long_flag = refl

of_short_flag : form_of (codes "-h" ∷ []) ≡ None
of_short_flag = refl

of_empty_word_alone : form_of ([] ∷ []) ≡ None
of_empty_word_alone = refl

of_gen_alone : form_of (codes "gen" ∷ []) ≡ None
of_gen_alone = refl

of_gen_sign : form_of (codes "gen" ∷ codes "+1" ∷ []) ≡ None
unfolding digits number_of
of_gen_sign = refl

of_gen_letter : form_of (codes "gen" ∷ codes "1x" ∷ []) ≡ None
unfolding digits number_of
of_gen_letter = refl

of_gen_past_32_bits : form_of (codes "gen" ∷ codes "4294967297" ∷ []) ≡ None
unfolding digits number_of
of_gen_past_32_bits = refl

of_gen_twice : form_of (codes "gen" ∷ codes "1" ∷ codes "2" ∷ []) ≡ None
unfolding digits number_of
of_gen_twice = refl
